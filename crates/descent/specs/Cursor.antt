-- Exact descents: the leaf of a trie that the bytes of a block lead to, a step at a time.
use Rattle.std.specs.Prelude.{ℕ, zero, suc, ◌+◌, ◌-◌, ◌<◌, ◌≤◌, ◌≡◌, cond, List, [], ◌∷◌, ltb, eqb, length, get_or, take, Option, Some, None}
use Rattle.layout.specs.States.{kind_of}
use Rattle.layout.specs.Tables.{NodeTable}
use Rattle.layout.specs.declared.nodes.Kind.{Kind}
use Rattle.layout.specs.declared.nodes.Kind.TheVariants.{Free, Inner, Leaf}
use Rattle.children.specs.declared.cursor.Child.{Child}
use Rattle.children.specs.Cursors.{look_at, first_for}
use Rattle.descent.specs.declared.Cursor.{Cursor}
use Rattle.descent.specs.declared.Descents.{Descents}

-- the node table is long enough for its capacity, and the bytes are at most those of eight blocks
pub record Fits (nodes : List ℕ) (cap : ℕ) (bytes : List ℕ) : Type 0 where
  pub table : NodeTable cap nodes
  pub few : length bytes ≤ 512

-- the bytes that a descent is at lie in the table of bytes
pub record Inside (bytes : List ℕ) (c : Cursor) : Type 0 where
  pub at : c.at < length bytes
  pub last : c.last < length bytes

-- at a leaf, by the link of its first page
abbrev pub ended : ℕ → Cursor
ended first = record { link = 0; at = 0; last = 0; first = first }

-- the first n of 16 descents
pub record AllInside (bytes : List ℕ) (cs : List Cursor) (n : ℕ) : Type 0 where
  pub long : length cs ≡ 16
  pub few : n ≤ 16
  pub each : (j : ℕ) → j < n → Inside bytes (get_or cs j (ended 0))

-- how many of the first n have not ended
unfoldable pub going : List Cursor → ℕ → ℕ
going cs zero = 0
going cs (suc n) = going cs n + cond (eqb (get_or cs n (ended 0)).link 0) 0 1

-- a link past every page
abbrev pub outside : ℕ
outside = 65536

-- ahead of the child at a link
abbrev pub ahead : ℕ → ℕ → ℕ → Cursor
ahead link at last = record { link = link; at = at; last = last; first = 0 }

module _ (nodes : List ℕ) (cap : ℕ) (bytes : List ℕ) where
  -- at a node x of a kind, with the bytes from `at` to `last` to go: a leaf, or the chain that the next byte belongs to
  abbrev pub arrive_as : ℕ → ℕ → ℕ → Kind → Cursor
  arrive_as x at last Free = ended outside
  arrive_as x at last Inner = cond (ltb last at) (ended outside) (ahead (first_for nodes cap x (get_or bytes at 0)) at last)
  arrive_as x at last (Leaf first) = ended first

  unfoldable pub arrive : ℕ → ℕ → ℕ → Cursor
  arrive x at last = arrive_as x at last (kind_of nodes cap x)

  -- along a chain whose bytes rise, by what its link leads to
  abbrev pub pass : ℕ → ℕ → Option Child → Cursor
  pass at last (Some c) =
      cond (ltb c.byte (get_or bytes at 0)) (ahead c.link at last)
      (cond (ltb (get_or bytes at 0) c.byte) (ended 0) (arrive c.node (at + 1) last))
  pass at last None = ended outside

  -- one step; a descent that has ended stays
  unfoldable pub advance : Cursor → Cursor
  advance c = cond (eqb c.link 0) c (pass c.at c.last (look_at nodes cap c.link))

  -- f steps
  unfoldable pub descended : ℕ → Cursor → Cursor
  descended zero c = c
  descended (suc f) c = descended f (advance c)

  -- the nodes that f steps read: each step of a descent that has not ended reads one
  unfoldable pub drawn : ℕ → Cursor → ℕ
  drawn zero c = 0
  drawn (suc f) c = cond (eqb c.link 0) 0 (suc (drawn f (advance c)))

  -- those of several descents, each of as many steps as there are nodes
  unfoldable pub drawn_all : List Cursor → ℕ
  drawn_all [] = 0
  drawn_all (c ∷ cs) = drawn cap c + drawn_all cs

-- what is left of a budget
unfoldable pub left_of : ℕ → ℕ → Option ℕ
left_of budget spent = cond (ltb budget spent) None (Some (budget - spent))

-- the first n descents within a budget of nodes: where it lasts, each has made as many steps as there are nodes
pub record Descended (nodes : List ℕ) (cap : ℕ) (bytes : List ℕ) (before : List Cursor) (n budget : ℕ) (after : Descents) : Type 0 where
  pub left : after.left ≡ left_of budget (drawn_all nodes cap bytes (take n before))
  pub each : (k : ℕ) → after.left ≡ Some k → (j : ℕ) → j < n → get_or after.cursors j (ended 0) ≡ descended nodes cap bytes cap (get_or before j (ended 0))

-- the link of the leaf's first page, 0 for none; one past every page where the descent did not end
unfoldable pub leaf_of : Cursor → ℕ
leaf_of c = cond (eqb c.link 0) c.first outside

-- the leaves of the first n descents, in so many places
pub record AllLeaves (size : ℕ) (cs : List Cursor) (n : ℕ) (links : List ℕ) : Type 0 where
  pub long : length links ≡ size
  pub each : (j : ℕ) → j < n → get_or links j 0 ≡ leaf_of (get_or cs j (ended 0))
