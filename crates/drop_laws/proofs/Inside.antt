-- On any tables a removal writes words of the tries only: the tables keep their lengths, and the words outside stay.
use Rattle.std.specs.Prelude.{Some, None, Ok, Err, Option}
use Prim.Native.Nat.{ℕ, zero, suc, ◌+◌, ◌-◌, ◌≤◌, ◌<◌}
use native.Mathlib.Omega.{arith}
use mathlib.Core.Path.{◌≡◌, refl}
use mathlib.Core.Bool.{Bool, true, false, cond}
use mathlib.Core.List.{List}
use borrow.Author.Tests.{eqb-false, ltb-false}
use lib.Dec.{ltb, eqb}
use lib.ListN.{length, get_or, set}
use Rattle.meaning.specs.Ledger.{Settings}
use Rattle.layout.specs.Nodes.{state_at, with_link, free_state, empty_state, node_words}
use Rattle.layout.specs.States.{kind_of, first_of, shorter}
use Rattle.layout.specs.Pages.{next_at, links_at}
use Rattle.layout.specs.Lengths.{pages_length}
use Rattle.layout.proofs.Words.{link-behind}
use Rattle.children.specs.Order.{bare}
use Rattle.children.specs.Places.{link_at}
use Rattle.trie.specs.declared.path.Reach.{Reach}
use Rattle.trie.specs.declared.path.Reach.TheVariants.{Leaf, Gap}
use Rattle.trie.specs.declared.path.Passed.{Passed}
use Rattle.trie.specs.Descend.{descend_to, Inside as ReachInside, passed_at}
use Rattle.trie.proofs.Inside.{descend-inside}
use Rattle.trie.proofs.Notes.{passed-inside}
use Rattle.blocks.specs.RowBytes.{row_bytes}
use Rattle.blocks.proofs.BlockBytes.{row-octets}
use Rattle.blocks.proofs.Tables.{links-high}
use Rattle.trie_remove.specs.declared.Lost.TheVariants.{Missing, Broken}
use Rattle.trie_remove.specs.Take.{Took, took, take_from, take_page}
use Rattle.trie.specs.Model.{free_child}
use Rattle.trie_remove.specs.Prune.{Freed, freed, prune_up, InTable}
use Rattle.trie_remove.specs.Remove.{Gone, gone, gone_to, shorten_leaf, remove_taken, remove_at, remove_reached, remove_page}
use Rattle.store.specs.Within.{Within, Both}
use Rattle.store.proofs.Within.{within_none, within_both, within-set, node-set}
use Rattle.drop_laws.specs.Removal.{on_removed, remove_block, remove_from, remove_all}

-- ---- a page out of a chain whose links lie there
module _ (lo hi pcap base p : ℕ) (low : lo ≤ base) (high : base + pcap ≤ hi) where
  abbrev TookIn : List ℕ → Took → Type 0
  TookIn P (took P' r) = Within lo hi P P'

  behind-within : (f : ℕ) (P : List ℕ) (a l : ℕ) → TookIn P (take_from P pcap base p a l f)
  unfolding take_from
  behind-within zero P a l = within_none
  behind-within (suc f) P a l = go (eqb l 0) refl (ltb pcap l) refl (eqb (get_or P (base + (l - 1)) 0) (p + 1)) (behind-within f P a (get_or P (base + (l - 1)) 0))
    where
      go : (z : Bool) → eqb l 0 ≡ z → (w : Bool) → ltb pcap l ≡ w → (h : Bool) → TookIn P (take_from P pcap base p a (get_or P (base + (l - 1)) 0) f) →
          TookIn P (cond z (took P (Err Missing)) (cond w (took P (Err Broken)) (cond h (took (set P (base + (l - 1)) (get_or P (base + p) 0)) (Ok a))
          (take_from P pcap base p a (get_or P (base + (l - 1)) 0) f))))
      go true e w m h ih = within_none
      go false e true m h ih = within_none
      go false e false m true ih =
          let some : l ≡ 0 → ⊥ = eqb-false l 0 e in
          let few : l ≤ pcap = ltb-false pcap l m in
          within-set P (base + (l - 1)) (get_or P (base + p) 0) (omega arith) (omega arith)
      go false e false m false ih = ih

  take_within : (P : List ℕ) (l : ℕ) → TookIn P (take_page P pcap base l p)
  unfolding take_page
  take_within P l = go (eqb l (p + 1)) (ltb pcap (get_or P (base + p) 0))
    where
      go : (z w : Bool) → TookIn P (cond z (cond w (took P (Err Broken)) (took P (Ok (get_or P (base + p) 0)))) (take_from P pcap base p l l pcap))
      go true true = within_none
      go true false = within_none
      go false w = behind-within pcap P l l

-- ---- a leaf with one page less
module _ (cap : ℕ) where
  abbrev FreedIn : List ℕ → Freed → Type 0
  FreedIn N (freed N' free) = Within 0 (node_words cap) N N'

  free-within : (N : List ℕ) (s c free : ℕ) → s < node_words cap → c < cap → Within 0 (node_words cap) N (free_child N cap s c free)
  unfolding free_child
  free-within N s c free ls lc =
      let M : List ℕ = set N s (with_link (get_or N s 0) (link_at N c)) in
      within_both (node-set cap N s (with_link (get_or N s 0) (link_at N c)) ls)
      (within_both (node-set cap M (state_at cap c) free_state (omega arith))
      (node-set cap (set M (state_at cap c) free_state) c free (omega arith)))

  empty-within : (N : List ℕ) (n : ℕ) → n < cap → Within 0 (node_words cap) N (set N (state_at cap n) empty_state)
  empty-within N n ln = node-set cap N (state_at cap n) empty_state (omega arith)

  shorter-within : (N : List ℕ) (n l : ℕ) → n < cap → Within 0 (node_words cap) N (shorter N cap n l)
  unfolding shorter
  shorter-within N n l ln = node-set cap N (state_at cap n) _ (omega arith)

  -- nodes freed on the way up
  up-within : (way : ℕ → Passed) (k : ℕ) → InTable cap way k → (N : List ℕ) (n s free : ℕ) → n < cap → s < node_words cap → FreedIn N (prune_up N cap way k n s free)
  unfolding prune_up
  up-within way zero w N n s free ln ls = within_none
  up-within way (suc k) w N n s free ln ls =
      let x = w k (omega arith) in
      go (bare M cap (way k).node) (prune_up (set M (state_at cap (way k).node) empty_state) cap way k (way k).node (way k).slot (n + 1))
      (up-within way k (λ j l. w j (omega arith)) (set M (state_at cap (way k).node) empty_state) (way k).node (way k).slot (n + 1) x.0 x.1)
    where
      M : List ℕ
      M = free_child N cap s n free

      out : Within 0 (node_words cap) N M
      out = free-within N s n free ls ln

      on : (r : Freed) → FreedIn (set M (state_at cap (way k).node) empty_state) r → FreedIn N r
      on (freed N' free') h = within_both out (within_both (empty-within M (way k).node (w k (omega arith)).0) h)

      go : (t : Bool) (r : Freed) → FreedIn (set M (state_at cap (way k).node) empty_state) r → FreedIn N (cond t r (freed M (n + 1)))
      go true r h = on r h
      go false r h = out

  leaf-within : (way : ℕ → Passed) (N : List ℕ) (n s k l free : ℕ) → n < cap → s < node_words cap → InTable cap way k → FreedIn N (shorten_leaf N cap way n s k l free)
  unfolding shorten_leaf
  leaf-within way N n s k l free ln ls w = go (ltb 0 l) (prune_up M cap way k n s free) (up-within way k w M n s free ln ls)
    where
      M : List ℕ
      M = set N (state_at cap n) empty_state

      on : (r : Freed) → FreedIn M r → FreedIn N r
      on (freed N' free') h = within_both (empty-within N n ln) h

      go : (t : Bool) (r : Freed) → FreedIn M r → FreedIn N (cond t (freed (shorter N cap n l) free) r)
      go true r h = shorter-within N n l ln
      go false r h = on r h

-- ---- both tables
abbrev pub GoneIn : ℕ → ℕ → ℕ → List ℕ → List ℕ → Gone → Type 0
GoneIn cap lo hi N P (gone N' P' r) = Both cap lo hi N P N' P'

module _ (cap lo hi pcap base p : ℕ) (low : lo ≤ base) (high : base + pcap ≤ hi) where
  at-within : (N P : List ℕ) (way : ℕ → Passed) (n s k free : ℕ) → n < cap → s < node_words cap → InTable cap way k → GoneIn cap lo hi N P (remove_at N P cap pcap base way n s k p free)
  unfolding remove_at
  at-within N P way n s k free ln ls w =
      go (take_page P pcap base (first_of (kind_of N cap n)) p) (take_within lo hi pcap base p low high P (first_of (kind_of N cap n)))
    where
      left : (P' : List ℕ) (x : Freed) → FreedIn cap N x → Within lo hi P P' → GoneIn cap lo hi N P (gone_to P' x)
      left P' (freed N' free') h g = (h, g)

      go : (t : Took) → TookIn lo hi pcap base p low high P t → GoneIn cap lo hi N P (remove_taken N cap way n s k free t)
      go (took P' (Ok l)) h = left P' (shorten_leaf N cap way n s k l free) (leaf-within cap way N n s k l free ln ls w) h
      go (took P' (Err why)) h = (within_none, h)

  page-within : (N P Y : List ℕ) (root free : ℕ) → root < cap → ((k : ℕ) → get_or Y k 0 < 256) → GoneIn cap lo hi N P (remove_page N P cap pcap base root Y p free)
  unfolding remove_page
  page-within N P Y root free lr o = go (descend_to N cap root Y) (descend-inside N cap Y o root lr)
    where
      go : (r : Option Reach) → ReachInside cap (length Y) r → GoneIn cap lo hi N P (remove_reached N P cap pcap base (passed_at N cap root Y) p free r)
      go (Some (Leaf at)) h = at-within N P (passed_at N cap root Y) at.node at.slot at.level free h.0 h.1 (λ j l. passed-inside N cap root Y lr o j)
      go (Some (Gap at)) h = (within_none, within_none)
      go None h = (within_none, within_none)

-- ---- all blocks
module _ (s : Settings) (S : List ℕ) (p : ℕ) (enough : s.blocks ≤ s.nodes) where
  abbrev pub InTries : List ℕ → List ℕ → Gone → Type 0
  InTries = GoneIn s.nodes (links_at s.pages) (pages_length s)

  block_within : (j : ℕ) → j < s.blocks → (N P : List ℕ) (free : ℕ) → InTries N P (remove_block s S p j N P free)
  unfolding remove_block
  block_within j l N P free =
      page-within s.nodes (links_at s.pages) (pages_length s) s.pages (next_at s.pages j) p
      (omega (arith, link-behind s.pages j 0)) (links-high s j l) N P (row_bytes s j S p) j free (omega arith) (row-octets s S p j)

  from-within : (k j : ℕ) → j + k ≤ s.blocks → (N P : List ℕ) (free : ℕ) → InTries N P (remove_from s S p k j N P free)
  unfolding remove_from
  from-within zero j l N P free = (within_none, within_none)
  from-within (suc k) j l N P free =
      go (remove_block s S p j N P free) (block_within j (omega arith) N P free) (from-within k (suc j) (omega arith))
    where
      next : (N' P' : List ℕ) → Both s.nodes (links_at s.pages) (pages_length s) N P N' P' → (r : Gone) → InTries N' P' r → InTries N P r
      next N' P' e (gone N'' P'' r) h = (within_both e.0 h.0, within_both e.1 h.1)

      go : (r : Gone) → InTries N P r → ((N' P' : List ℕ) (free' : ℕ) → InTries N' P' (remove_from s S p k (suc j) N' P' free')) →
          InTries N P (on_removed (λ N' P' free'. remove_from s S p k (suc j) N' P' free') r)
      go (gone N' P' (Some free')) h ih = next N' P' h (remove_from s S p k (suc j) N' P' free') (ih N' P' free')
      go (gone N' P' None) h ih = h

  pub all-within : (N P : List ℕ) (free : ℕ) → InTries N P (remove_all s S p N P free)
  unfolding remove_all
  all-within = from-within s.blocks 0 (omega arith)
