-- A turn, by what the tests of the code say.
use Prim.Native.Nat.{ℕ, ◌+◌, ◌-◌, ◌<◌, ◌≤◌}
use native.Mathlib.Omega.{arith}
use mathlib.Core.Path.{◌≡◌, refl, sym, ap, subst, ◌∙◌}
use mathlib.Core.Bool.{Bool, true, false, cond}
use lib.Dec.{ltb, eqb}
use lib.ListN.{length}
use borrow.Author.Tests.{lt-ltb, le-ltb, ltb-true, ltb-false, eq-eqb, ne_eqb, eqb-false}
use Rattle.std.specs.Prelude.{Option, Some, None}
use Rattle.layout.specs.States.{kind_of}
use Rattle.layout.specs.declared.nodes.Kind.{Kind}
use Rattle.layout.specs.declared.nodes.Kind.TheVariants as kind
use Rattle.children.specs.Cursors.{next_of}
use Rattle.children.specs.declared.cursor.Next.{Next}
use Rattle.children.specs.declared.cursor.Next.TheVariants as next
use Rattle.children.proofs.Cursors.{next-below}
use Rattle.descent.specs.declared.Cursor.{Cursor}
use Rattle.descent.specs.Cursor.{Inside}
use Rattle.descent.proofs.Steps.{inside-ended, inside-arrive}
use Rattle.walk_steps.specs.declared.frame.Frame.{Frame}
use Rattle.walk_steps.specs.declared.place.Place.{Place}
use Rattle.walk_steps.specs.declared.turn.Move.{Move}
use Rattle.walk_steps.specs.declared.turn.Move.TheVariants.{Chain, Past, Leaf, Down, Up}
use Rattle.walk_steps.specs.Given.{Given, exact_from}
use Rattle.walk_steps.specs.Turn.{reached_as, reached, distance_at, found_by, found, reads}
use Rattle.walk_steps.specs.Place.{turned}

module _ (w : Given) where
  -- ---- to a child within the radius, by what it is
  module _ (x level radius link : ℕ) (is : Kind) (e : is ≡ kind_of w.nodes w.cap x) where
    pub reached-by : (k : Kind) → is ≡ k → reached_as w x level radius link k ≡ reached w x level radius link
    unfolding reached
    reached-by k q = ap (reached_as w x level radius link) (sym q ∙ e)

    module _ (q : is ≡ kind.Inner) where
      pub reached-exact : radius ≡ 0 → (c : Cursor) → c ≡ exact_from w x level → Some (Leaf c link) ≡ reached w x level radius link
      reached-exact z c f = ap (λ d. Some (Leaf d link)) f ∙ rw (eq-eqb radius 0 z) at (reached-by kind.Inner q)

      pub reached-short : (radius ≡ 0 → ⊥) → length w.bytes ≤ level → None ≡ reached w x level radius link
      reached-short z l = rw (ne_eqb radius 0 z, le-ltb level (length w.bytes) l) at (reached-by kind.Inner q)

      pub reached-down : (radius ≡ 0 → ⊥) → level < length w.bytes → Some (Down x radius link) ≡ reached w x level radius link
      reached-down z l = rw (ne_eqb radius 0 z, lt-ltb level (length w.bytes) l) at (reached-by kind.Inner q)

  pub reads-most : (m : Option Move) → reads m ≤ 1
  reads-most (Some (Chain at link)) = omega arith
  reads-most (Some (Past link)) = omega arith
  reads-most (Some (Leaf c link)) = omega arith
  reads-most (Some (Down x radius link)) = omega arith
  reads-most (Some Up) = omega arith
  reads-most None = omega arith

  -- ---- a turn
  -- with no node left, no child is gone to
  out-reached : (x level radius link : ℕ) (k : Kind)
      → cond (ltb 0 (reads (reached_as w x level radius link k))) None (reached_as w x level radius link k) ≡ None
  out-reached x level radius link kind.Free = refl
  out-reached x level radius link (kind.Leaf first) = refl
  out-reached x level radius link kind.Inner = go (eqb radius 0) (ltb level (length w.bytes))
    where
      by : Bool → Bool → Option Move
      by spent deep = cond spent (Some (Leaf (exact_from w x level) link)) (cond deep (Some (Down x radius link)) None)

      go : (spent deep : Bool) → cond (ltb 0 (reads (by spent deep))) None (by spent deep) ≡ None
      go true deep = refl
      go false true = refl
      go false false = refl

  out-found : (level radius x byte link : ℕ)
      → cond (ltb 0 (reads (found_by w level radius (Some (next.Child x byte link))))) None (found_by w level radius (Some (next.Child x byte link))) ≡ None
  unfolding reached
  out-found level radius x byte link = go (ltb radius (distance_at w level byte))
    where
      by : Bool → Option Move
      by far = cond far (Some (Past link)) (reached w x (level + 1) (radius - distance_at w level byte) link)

      go : (far : Bool) → cond (ltb 0 (reads (by far))) None (by far) ≡ None
      go true = refl
      go false = out-reached x (level + 1) (radius - distance_at w level byte) link (kind_of w.nodes w.cap x)

  module _ (p : Place) where
    pub turned-spent : p.steps ≡ 0 → None ≡ turned w p
    unfolding turned
    turned-spent z = rw (eq-eqb p.steps 0 z) refl

    module _ (some : p.steps ≡ 0 → ⊥) (answer : Option Next) (e : answer ≡ next_of w.nodes w.cap p.frame.cursor) where
      turned_as : (a : Option Next) → answer ≡ a
          → cond (ltb p.nodes (reads (found_by w p.depth p.frame.radius a))) None (found_by w p.depth p.frame.radius a) ≡ turned w p
      unfolding turned found
      turned_as a q =
          rw (ne_eqb p.steps 0 some)
          (ap (λ n. cond (ltb p.nodes (reads (found_by w p.depth p.frame.radius n))) None (found_by w p.depth p.frame.radius n)) (sym q ∙ e))

      -- no node is left for a child
      pub turned-out : (x byte link : ℕ) → answer ≡ Some (next.Child x byte link) → p.nodes ≡ 0 → None ≡ turned w p
      turned-out x byte link q z =
          sym (out-found p.depth p.frame.radius x byte link)
          ∙ ap
          (λ n. cond (ltb n (reads (found_by w p.depth p.frame.radius (Some (next.Child x byte link))))) None
          (found_by w p.depth p.frame.radius (Some (next.Child x byte link)))) (sym z)
          ∙ turned_as (Some (next.Child x byte link)) q

      -- no child is read
      pub turned-chain : (at link : ℕ) → answer ≡ Some (next.Chain at link) → Some (Chain at link) ≡ turned w p
      turned-chain at link q = rw (le-ltb p.nodes 0 (omega arith)) at (turned_as (Some (next.Chain at link)) q)

      pub turned_up : answer ≡ Some next.End → Some Up ≡ turned w p
      turned_up q = rw (le-ltb p.nodes 0 (omega arith)) at (turned_as (Some next.End) q)

      pub turned-broken : answer ≡ None → None ≡ turned w p
      turned-broken q = rw (le-ltb p.nodes 0 (omega arith)) at (turned_as None q)

      module _ (x byte link : ℕ) (q : answer ≡ Some (next.Child x byte link)) (left : p.nodes ≡ 0 → ⊥) (d : ℕ) (far : d ≡ distance_at w p.depth byte) where
        turned-paid : found_by w p.depth p.frame.radius (Some (next.Child x byte link)) ≡ turned w p
        turned-paid =
            let m : Option Move = found_by w p.depth p.frame.radius (Some (next.Child x byte link)) in
            sym (rw (le-ltb p.nodes (reads m) (omega (arith, reads-most m))) refl) ∙ turned_as (Some (next.Child x byte link)) q

        pub turned-past : p.frame.radius < d → Some (Past link) ≡ turned w p
        turned-past l = rw (← far, lt-ltb p.frame.radius d l) at turned-paid

        pub turned-reached : d ≤ p.frame.radius → (m : Option Move) → m ≡ reached w x (p.depth + 1) (p.frame.radius - d) link → m ≡ turned w p
        turned-reached l m f = f ∙ rw (← far, le-ltb p.frame.radius d l) at turned-paid

  -- ---- what holds of a move
  -- a leaf's descent stays in the bytes, and a step down in the table and the levels
  abbrev Sound : ℕ → Option Move → Type 0
  Sound level (Some (Chain at link)) = Unit {0}
  Sound level (Some (Past link)) = Unit {0}
  Sound level (Some (Leaf c link)) = Inside w.bytes c
  Sound level (Some (Down x radius link)) = (x < w.cap) × (level < length w.bytes)
  Sound level (Some Up) = Unit {0}
  Sound level None = Unit {0}

  module _ (some : 0 < length w.bytes) where
    reached-sound : (x level radius link : ℕ) → x < w.cap → (k : Kind) → Sound level (reached_as w x level radius link k)
    reached-sound x level radius link l kind.Free = tt
    reached-sound x level radius link l (kind.Leaf first) = inside-ended w.nodes w.cap w.bytes first some
    reached-sound x level radius link l kind.Inner = go (eqb radius 0) (ltb level (length w.bytes)) refl
      where
        go : (spent deep : Bool) → ltb level (length w.bytes) ≡ deep
            → Sound level (cond spent (Some (Leaf (exact_from w x level) link)) (cond deep (Some (Down x radius link)) None))
        go true deep e = inside-arrive w.nodes w.cap w.bytes x level (length w.bytes - 1) (omega arith)
        go false true e = (l, ltb-true level (length w.bytes) e)
        go false false e = tt

    found-sound : (level : ℕ) (f : Frame) → Sound (level + 1) (found w level f)
    unfolding found reached
    found-sound level f = go (next_of w.nodes w.cap f.cursor) refl
      where
        child : (x byte link : ℕ) → x < w.cap → (far : Bool)
            → Sound (level + 1) (cond far (Some (Past link)) (reached w x (level + 1) (f.radius - distance_at w level byte) link))
        child x byte link l true = tt
        child x byte link l false =
            reached-sound x (level + 1) (f.radius - distance_at w level byte) link l (kind_of w.nodes w.cap x)

        go : (a : Option Next) → next_of w.nodes w.cap f.cursor ≡ a → Sound (level + 1) (found_by w level f.radius a)
        go (Some (next.Child x byte link)) e =
            child x byte link (next-below w.nodes w.cap x byte link f.cursor (next_of w.nodes w.cap f.cursor) refl e)
            (ltb f.radius (distance_at w level byte))
        go (Some (next.Chain at link)) e = tt
        go (Some next.End) e = tt
        go None e = tt

    -- there are a step and the node that it reads
    abbrev pub Kept : Place → Option Move → Type 0
    Kept p (Some (Chain at link)) = 0 < p.steps
    Kept p (Some (Past link)) = (0 < p.nodes) × (0 < p.steps)
    Kept p (Some (Leaf c link)) = (0 < p.nodes) × (0 < p.steps) × Inside w.bytes c
    Kept p (Some (Down x radius link)) = (0 < p.nodes) × (0 < p.steps) × (x < w.cap) × (p.depth + 1 < length w.bytes)
    Kept p (Some Up) = 0 < p.steps
    Kept p None = Unit {0}

    kept-as : (p : Place) → 0 < p.steps → (m : Option Move) → reads m ≤ p.nodes → Sound (p.depth + 1) m → Kept p m
    kept-as p s (Some (Chain at link)) l h = s
    kept-as p s (Some (Past link)) l h = (l, s)
    kept-as p s (Some (Leaf c link)) l h = (l, s, h)
    kept-as p s (Some (Down x radius link)) l h = (l, s, h.0, h.1)
    kept-as p s (Some Up) l h = s
    kept-as p s None l h = tt

    turned-kept : (p : Place) → Kept p (turned w p)
    unfolding turned
    turned-kept p = go (eqb p.steps 0) refl (ltb p.nodes (reads m)) refl
      where
        m : Option Move
        m = found w p.depth p.frame

        go : (q : Bool) → eqb p.steps 0 ≡ q → (r : Bool) → ltb p.nodes (reads m) ≡ r → Kept p (cond q None (cond r None m))
        go true e r f = tt
        go false e true f = tt
        go false e false f =
            kept-as p (omega (arith, eqb-false p.steps 0 e)) m (ltb-false p.nodes (reads m) f) (found-sound p.depth p.frame)

    -- by the code's answer
    pub kept_by : (p : Place) (answer : Option Move) → answer ≡ turned w p → (m : Option Move) → answer ≡ m → Kept p m
    kept_by p answer e m q = subst (Kept p) (sym e ∙ q) (turned-kept p)
