-- Steps of a descent: they stay inside the bytes, and one that has ended stays. The nodes that they read.
use Prim.Native.Nat.{ℕ, zero, suc, ◌+◌, ◌-◌, ◌<◌, ◌≤◌}
use native.Mathlib.Nat.{zero-add, suc-add}
use native.Mathlib.Omega.{arith}
use mathlib.Core.Path.{◌≡◌, refl, sym, ap, ◌∙◌}
use mathlib.Core.Bool.{Bool, true, false, cond}
use mathlib.Core.List.{List, [], ◌∷◌, ◌++◌}
use lib.Dec.{ltb, eqb}
use lib.ListN.{length, get_or}
use borrow.Author.Tests.{eq-eqb, ne_eqb, lt-ltb, le-ltb, ltb-false, eqb-true}
use Rattle.layout.specs.States.{kind_of}
use Rattle.layout.specs.declared.nodes.Kind.{Kind}
use Rattle.layout.specs.declared.nodes.Kind.TheVariants.{Free, Inner, Leaf}
use Rattle.std.specs.Prelude.{Option, Some, None}
use Rattle.children.specs.declared.cursor.Child.{Child}
use Rattle.children.specs.Cursors.{seen, look_at, first_for}
use Rattle.descent.specs.declared.Cursor.{Cursor}
use Rattle.descent.specs.Cursor.{Inside, ended, outside, ahead, arrive_as, arrive, pass, advance, descended, drawn, drawn_all}

module _ (nodes : List ℕ) (cap : ℕ) (bytes : List ℕ) where
  -- ---- at a node, by what it is

  module _ (x at last : ℕ) where
    pub arrive-free : kind_of nodes cap x ≡ Free → arrive nodes cap bytes x at last ≡ ended outside
    unfolding arrive
    arrive-free e = rw e refl

    pub arrive-leaf : (first : ℕ) → kind_of nodes cap x ≡ Leaf first → arrive nodes cap bytes x at last ≡ ended first
    unfolding arrive
    arrive-leaf first e = rw e refl

    module _ (e : kind_of nodes cap x ≡ Inner) where
      pub arrive-short : last < at → arrive nodes cap bytes x at last ≡ ended outside
      unfolding arrive
      arrive-short l = rw (e, lt-ltb last at l) refl

      pub arrive-inner : at ≤ last → arrive nodes cap bytes x at last ≡ ahead (first_for nodes cap x (get_or bytes at 0)) at last
      unfolding arrive
      arrive-inner l = rw (e, le-ltb last at l) refl

  -- ---- inside the bytes

  pub inside-ended : (first : ℕ) → 0 < length bytes → Inside bytes (ended first)
  inside-ended first some = record { at = some; last = some }

  pub inside-arrive : (x at last : ℕ) → last < length bytes → Inside bytes (arrive nodes cap bytes x at last)
  unfolding arrive
  inside-arrive x at last h = go (kind_of nodes cap x) (ltb last at) refl
    where
      go : (k : Kind) (short : Bool) → ltb last at ≡ short → Inside bytes (arrive_as nodes cap bytes x at last k)
      go Free short e = inside-ended outside (omega arith)
      go Inner true e = rw e (inside-ended outside (omega arith))
      go Inner false e = rw e (record { at = omega (arith, ltb-false last at e); last = h })
      go (Leaf first) short e = inside-ended first (omega arith)

  inside-pass : (at last : ℕ) (a : Option Child) → at < length bytes → last < length bytes → Inside bytes (pass nodes cap bytes at last a)
  inside-pass at last (Some c) g h = go (ltb c.byte (get_or bytes at 0)) (ltb (get_or bytes at 0) c.byte)
    where
      go : (before behind : Bool)
          → Inside bytes (cond before (ahead c.link at last) (cond behind (ended 0) (arrive nodes cap bytes c.node (at + 1) last)))
      go true behind = record { at = g; last = h }
      go false true = inside-ended 0 (omega arith)
      go false false = inside-arrive c.node (at + 1) last h
  inside-pass at last None g h = inside-ended outside (omega arith)

  pub inside-advance : (c : Cursor) → Inside bytes c → Inside bytes (advance nodes cap bytes c)
  unfolding advance
  inside-advance c h = go (eqb c.link 0)
    where
      go : (still : Bool) → Inside bytes (cond still c (pass nodes cap bytes c.at c.last (look_at nodes cap c.link)))
      go true = h
      go false = inside-pass c.at c.last (look_at nodes cap c.link) h.at h.last

  -- ---- what has ended

  pub advance-ended : (c : Cursor) → c.link ≡ 0 → advance nodes cap bytes c ≡ c
  unfolding advance
  advance-ended c e = rw (eq-eqb c.link 0 e)

  pub descended-ended : (f : ℕ) (c : Cursor) → c.link ≡ 0 → descended nodes cap bytes f c ≡ c
  unfolding descended
  descended-ended zero c e = refl
  descended-ended (suc f) c e = rw (advance-ended c e) (descended-ended f c e)

  -- ---- what goes on

  module _ (c : Cursor) (going : c.link ≡ 0 → ⊥) (found : Option Child) (e : found ≡ look_at nodes cap c.link) where
    advance-by : (a : Option Child) → found ≡ a → pass nodes cap bytes c.at c.last a ≡ advance nodes cap bytes c
    unfolding advance
    advance-by a q = rw (ne_eqb c.link 0 going) (ap (pass nodes cap bytes c.at c.last) (sym q ∙ e))

    pub advance-outside : found ≡ None → ended outside ≡ advance nodes cap bytes c
    advance-outside q = advance-by None q

    -- past a child, or down to it
    module _ (x byte link : ℕ) (q : found ≡ seen x byte link) where
      pub advance-along : byte < get_or bytes c.at 0 → ahead link c.at c.last ≡ advance nodes cap bytes c
      advance-along h = rw (lt-ltb byte (get_or bytes c.at 0) h) at (advance-by (seen x byte link) q)

      pub advance-past : get_or bytes c.at 0 < byte → ended 0 ≡ advance nodes cap bytes c
      advance-past h =
          rw (le-ltb byte (get_or bytes c.at 0) (omega arith), lt-ltb (get_or bytes c.at 0) byte h) at (advance-by (seen x byte link) q)

      pub advance-down : get_or bytes c.at 0 ≤ byte → byte ≤ get_or bytes c.at 0
          → arrive nodes cap bytes x (c.at + 1) c.last ≡ advance nodes cap bytes c
      advance-down l h =
          rw (le-ltb byte (get_or bytes c.at 0) l, le-ltb (get_or bytes c.at 0) byte h) at (advance-by (seen x byte link) q)

  -- ---- more steps

  pub descended-more : (f g : ℕ) (c : Cursor) → descended nodes cap bytes (f + g) c ≡ descended nodes cap bytes g (descended nodes cap bytes f c)
  unfolding descended
  descended-more zero g c = rw (zero-add g)
  descended-more (suc f) g c = rw (suc-add f g) (descended-more f g (advance nodes cap bytes c))

  pub descended-next : (f : ℕ) (c : Cursor) → descended nodes cap bytes (f + 1) c ≡ advance nodes cap bytes (descended nodes cap bytes f c)
  unfolding descended
  descended-next f c = descended-more f 1 c

  -- where it has ended, no step changes it
  pub descended-done : (f g : ℕ) (c : Cursor) → f ≤ g → (descended nodes cap bytes f c).link ≡ 0
      → descended nodes cap bytes g c ≡ descended nodes cap bytes f c
  descended-done f g c h e =
      let s : g ≡ f + (g - f) = omega (arith, h) in
      ap (λ k. descended nodes cap bytes k c) s ∙ descended-more f (g - f) c ∙ descended-ended (g - f) (descended nodes cap bytes f c) e

  -- ---- the nodes that steps read

  pub drawn-ended : (f : ℕ) (c : Cursor) → c.link ≡ 0 → drawn nodes cap bytes f c ≡ 0
  unfolding drawn
  drawn-ended zero c e = refl
  drawn-ended (suc f) c e = rw (eq-eqb c.link 0 e)

  -- those of f steps, then of g
  pub drawn-more : (f g : ℕ) (c : Cursor)
      → drawn nodes cap bytes (f + g) c ≡ drawn nodes cap bytes f c + drawn nodes cap bytes g (descended nodes cap bytes f c)
  unfolding drawn descended
  drawn-more zero g c = rw (zero-add g, zero-add (drawn nodes cap bytes g c)) refl
  drawn-more (suc f) g c = rw (suc-add f g) (go (eqb c.link 0) refl (drawn-more f g next))
    where
      next : Cursor
      next = advance nodes cap bytes c

      go : (still : Bool) → eqb c.link 0 ≡ still
          → drawn nodes cap bytes (f + g) next ≡ drawn nodes cap bytes f next + drawn nodes cap bytes g (descended nodes cap bytes f next)
          → cond still 0 (suc (drawn nodes cap bytes (f + g) next))
          ≡ cond still 0 (suc (drawn nodes cap bytes f next)) + drawn nodes cap bytes g (descended nodes cap bytes f next)
      go true e h =
          let end : c.link ≡ 0 = eqb-true c.link 0 e in
          rw (advance-ended c end, descended-ended f c end, drawn-ended g c end) refl
      go false e h = omega arith

  -- one more descent
  pub drawn-one-more : (cs : List Cursor) (c : Cursor)
      → drawn_all nodes cap bytes (cs ++ (c ∷ [])) ≡ drawn_all nodes cap bytes cs + drawn nodes cap bytes cap c
  unfolding drawn_all
  drawn-one-more [] c = omega arith
  drawn-one-more (d ∷ cs) c = omega (arith, drawn-one-more cs c)
