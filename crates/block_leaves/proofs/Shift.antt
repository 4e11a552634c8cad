-- Descents over bytes that stand further on in a table go the same way.
use Prim.Native.Nat.{ℕ, zero, suc, ◌+◌, ◌<◌, ◌≤◌}
use native.Mathlib.Omega.{arith}
use native.Mathlib.Nat.{add_assoc}
use mathlib.Core.Path.{◌≡◌, refl, sym, ap, ap₂, subst}
use mathlib.Core.Bool.{Bool, true, false, cond}
use mathlib.Core.List.{List}
use lib.Dec.{ltb, eqb}
use lib.ListN.{get_or}
use borrow.Author.Tests.{eqb-false, lt-ltb, le-ltb, ltb-true, ltb-false}
use Rattle.layout.specs.States.{kind_of}
use Rattle.layout.specs.declared.nodes.Kind.{Kind}
use Rattle.layout.specs.declared.nodes.Kind.TheVariants.{Free, Inner, Leaf}
use Rattle.std.specs.Prelude.{Option, Some, None}
use Rattle.children.specs.declared.cursor.Child.{Child}
use Rattle.children.specs.Cursors.{look_at, first_for}
use Rattle.descent.specs.declared.Cursor.{Cursor}
use Rattle.descent.specs.Cursor.{outside, ended, ahead, arrive_as, arrive, pass, advance, descended, drawn, leaf_of}

-- `bytes` has from `base` on what `ys` has up to `last`
module _ (N : List ℕ) (cap : ℕ) (bytes ys : List ℕ) (base last : ℕ) (same : (k : ℕ) → k ≤ last → get_or bytes (base + k) 0 ≡ get_or ys k 0) where
  -- the same descent, further on
  pub record Alike (c d : Cursor) : Type 0 where
    pub link : d.link ≡ c.link
    pub first : d.first ≡ c.first
    pub going : 0 < c.link → (d.at ≡ base + c.at) × (c.at ≤ last) × (d.last ≡ base + last) × (c.last ≡ last)

  alike-ended : (first : ℕ) → Alike (ended first) (ended first)
  alike-ended first = record { link = refl; first = refl; going = λ h. absurd (omega arith) }

  alike-ahead : (link at : ℕ) → at ≤ last → Alike (ahead link at last) (ahead link (base + at) (base + last))
  alike-ahead link at h = record { link = refl; first = refl; going = λ g. (refl, h, refl, refl) }

  pub alike-arrive : (x at : ℕ) → Alike (arrive N cap ys x at last) (arrive N cap bytes x (base + at) (base + last))
  unfolding arrive
  alike-arrive x at = go (kind_of N cap x) (ltb last at) refl
    where
      go : (k : Kind) (short : Bool) → ltb last at ≡ short → Alike (arrive_as N cap ys x at last k) (arrive_as N cap bytes x (base + at) (base + last) k)
      go Free short e = alike-ended outside
      go (Leaf first) short e = alike-ended first
      go Inner true e = rw (e, lt-ltb (base + last) (base + at) (omega (arith, ltb-true last at e))) (alike-ended outside)
      go Inner false e =
          let inside : at ≤ last = omega (arith, ltb-false last at e) in
          rw (e, le-ltb (base + last) (base + at) (omega arith), same at inside) (alike-ahead (first_for N cap x (get_or ys at 0)) at inside)

  alike-pass : (at : ℕ) → at ≤ last → (a : Option Child) → Alike (pass N cap ys at last a) (pass N cap bytes (base + at) (base + last) a)
  alike-pass at h None = alike-ended outside
  alike-pass at h (Some c) = rw (same at h, add_assoc base at 1) (go (ltb c.byte (get_or ys at 0)) (ltb (get_or ys at 0) c.byte))
    where
      go : (before behind : Bool)
          → Alike (cond before (ahead c.link at last) (cond behind (ended 0) (arrive N cap ys c.node (at + 1) last)))
          (cond before (ahead c.link (base + at) (base + last)) (cond behind (ended 0) (arrive N cap bytes c.node (base + (at + 1)) (base + last))))
      go true behind = alike-ahead c.link at h
      go false true = alike-ended 0
      go false false = alike-arrive c.node (at + 1)

  alike-advance : (c d : Cursor) → Alike c d → Alike (advance N cap ys c) (advance N cap bytes d)
  unfolding advance
  alike-advance c d a = subst (Alike (advance N cap ys c)) (ap further (sym a.link)) (go (eqb c.link 0) refl)
    where
      further : ℕ → Cursor
      further n = cond (eqb n 0) d (pass N cap bytes d.at d.last (look_at N cap n))

      go : (still : Bool) → eqb c.link 0 ≡ still
          → Alike (cond still c (pass N cap ys c.at c.last (look_at N cap c.link)))
          (cond still d (pass N cap bytes d.at d.last (look_at N cap c.link)))
      go true e = a
      go false e =
          let g = a.going (omega (arith, eqb-false c.link 0 e)) in
          rw (g.0, g.2, g.3) (alike-pass c.at g.1 (look_at N cap c.link))

  pub alike-descended : (f : ℕ) (c d : Cursor) → Alike c d → Alike (descended N cap ys f c) (descended N cap bytes f d)
  unfolding descended
  alike-descended zero c d a = a
  alike-descended (suc f) c d a = alike-descended f (advance N cap ys c) (advance N cap bytes d) (alike-advance c d a)

  pub alike-leaf : (c d : Cursor) → Alike c d → leaf_of d ≡ leaf_of c
  unfolding leaf_of
  alike-leaf c d a = rw (a.link, a.first)

  pub alike-drawn : (f : ℕ) (c d : Cursor) → Alike c d → drawn N cap bytes f d ≡ drawn N cap ys f c
  unfolding drawn
  alike-drawn zero c d a = refl
  alike-drawn (suc f) c d a =
      ap₂ (λ link n. cond (eqb link 0) 0 (suc n)) a.link (alike-drawn f (advance N cap ys c) (advance N cap bytes d) (alike-advance c d a))
