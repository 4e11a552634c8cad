-- What the test of the free chain says: the nodes on it are free, and each stands in it once.
use Rattle.std.specs.Prelude.{Some, None}
use Prim.Native.Nat.{ℕ, zero, suc, ◌+◌, ◌-◌, ◌≤◌, ◌<◌}
use native.Mathlib.Omega.{arith}
use mathlib.Core.Path.{◌≡◌, refl, sym, ap, ap₂, ◌∙◌}
use mathlib.Core.Bool.{Bool, true, false, cond}
use mathlib.Core.List.{List, [], ◌∷◌}
use borrow.Author.Tests.{eq-eqb, ne_eqb, eqb-true, eqb-false, ltb-false, le-ltb}
use lib.Dec.{ltb, eqb}
use lib.ListN.{length, get_or}
use Rattle.meaning.specs.Lists.{count}
use Rattle.layout.specs.Nodes.{state_at, free_state}
use Rattle.children.specs.Heap.{Holds}
use Rattle.children.specs.Phys.{first, free_cells, Below}
use Rattle.meaning.proofs.Lists.{and_first, and_second}
use Rattle.children.specs.Order.{bare}
use Rattle.children.proofs.Tests.{refused, passed}
use Rattle.children.proofs.Bare.{bare-holds, held-bare}
use Rattle.check_tables.specs.Free.{is_free, free_from}

module _ (N P : List ℕ) (cap : ℕ) where
  -- the free nodes from a link on
  pub record Chain (link f g : ℕ) (fs : List ℕ) : Type 0 where
    pub start : link ≡ first fs
    pub below : Below cap fs
    pub holds : Holds (free_cells cap fs) N P
    pub count : g + length fs ≡ f

  -- ---- where it says yes
  failed : (g : ℕ) → None ≡ Some g → ⊥
  failed g z = let o : ◌≡◌ {A = ℕ} 0 1 = cc in omega arith

  none : (link n g : ℕ) → eqb link 0 ≡ true → Some n ≡ Some g → (fs : List ℕ) × Chain link n g fs
  none link n g z e =
      let same : n ≡ g = cc in
      ([], record { start = eqb-true link 0 z; below = tt; holds = tt; count = omega arith })

  chain : (f link g : ℕ) (q : Bool) → eqb link 0 ≡ q → free_from N cap link f ≡ Some g → (fs : List ℕ) × Chain link f g fs
  unfolding free_from is_free
  chain zero link g true z e = none link 0 g z (rw z at e)
  chain zero link g false z e = absurd (failed g (rw z at e))
  chain (suc n) link g true z e = none link (suc n) g z (rw z at e)
  chain (suc n) link g false z e =
      let t = refused None (Some g) (failed g) (ltb cap link) _ (rw z at e) in
      let u = passed None (Some g) (failed g) (is_free N cap (link - 1)) _ t.1 in
      let r = chain n (get_or N (link - 1) 0) g (eqb (get_or N (link - 1) 0) 0) refl u.1 in
      let some : link ≡ 0 → ⊥ = eqb-false link 0 z in
      let back : link ≡ link - 1 + 1 = omega arith in (
        (link - 1) ∷ r.0,
        record {
          start = back;
          below = (omega (arith, ltb-false cap link t.0), r.1.below);
          holds = (
            r.1.start,
            (
              eqb-true (get_or N (state_at cap (link - 1)) 0) free_state (and_first _ (bare N cap (link - 1)) u.0),
              (bare-holds N P cap (link - 1) (and_second (eqb (get_or N (state_at cap (link - 1)) 0) free_state) _ u.0), r.1.holds),
            ),
          );
          count = omega (arith, r.1.count);
        },
      )

  pub free-right : (f link g : ℕ) → free_from N cap link f ≡ Some g → (fs : List ℕ) × Chain link f g fs
  free-right f link g e = chain f link g (eqb link 0) refl e

  -- ---- where the chain lies in the tables
  pub free-whole : (fs : List ℕ) (f : ℕ) → Below cap fs → Holds (free_cells cap fs) N P → length fs ≤ f → free_from N cap (first fs) f ≡ Some (f - length fs)
  unfolding free_from is_free
  free-whole [] zero b h l = refl
  free-whole [] (suc f) b h l = ap Some (omega arith)
  free-whole (x ∷ fs) zero b h l = absurd (omega arith)
  free-whole (x ∷ fs) (suc f) b h l =
      let back : x + 1 - 1 ≡ x = omega arith in
      rw (
        ne_eqb (x + 1) 0 (omega arith),
        le-ltb cap (x + 1) (omega arith),
        back,
        eq-eqb (get_or N (state_at cap x) 0) free_state h.1.0,
        held-bare N P cap x h.1.1.0,
        h.0,
      )
      (free-whole fs f b.1 h.1.1.1 (omega arith) ∙ ap Some (omega arith))

  -- ---- the chain is determined by its first link
  free-same : (fs gs : List ℕ) → Holds (free_cells cap fs) N P → Holds (free_cells cap gs) N P → first fs ≡ first gs → fs ≡ gs
  free-same [] [] h g e = refl
  free-same [] (y ∷ gs) h g e = absurd (omega arith)
  free-same (x ∷ fs) [] h g e = absurd (omega arith)
  free-same (x ∷ fs) (y ∷ gs) h g e =
      let here : x ≡ y = omega arith in
      ap₂ (λ z zs. z ∷ zs) here (free-same fs gs h.1.1.1 g.1.1.1 (sym h.0 ∙ ap (λ z. get_or N z 0) here ∙ g.0))

  -- the rest of the chain behind a node that stands in it
  record Behind (x : ℕ) (fs : List ℕ) : Type 0 where
    pub rest : List ℕ
    pub held : Holds (free_cells cap (x ∷ rest)) N P
    pub short : length rest < length fs

  behind : (x : ℕ) (fs : List ℕ) → Holds (free_cells cap fs) N P → 0 < count (eqb x) fs → Behind x fs
  unfolding count
  behind x [] h c = absurd (omega arith)
  behind x (y ∷ fs) h c = go (eqb x y) refl (behind x fs h.1.1.1)
    where
      go : (q : Bool) → eqb x y ≡ q → (0 < count (eqb x) fs → Behind x fs) → Behind x (y ∷ fs)
      go true e later = record { rest = fs; held = rw (eqb-true x y e) h; short = omega arith }
      go false e later =
          let r = later (omega (arith, rw e at c)) in
          record { rest = r.rest; held = r.held; short = omega (arith, r.short) }

  pub free-once : (x : ℕ) (fs : List ℕ) → Holds (free_cells cap fs) N P → count (eqb x) fs ≤ 1
  unfolding count
  free-once x [] h = omega arith
  free-once x (y ∷ fs) h = go (eqb x y) refl (count (eqb x) fs) refl (free-once x fs h.1.1.1)
    where
      go : (q : Bool) → eqb x y ≡ q → (n : ℕ) → count (eqb x) fs ≡ n → n ≤ 1 → cond q 1 0 + n ≤ 1
      go false e n m l = omega arith
      go true e zero m l = omega arith
      go true e (suc n) m l =
          let r = behind x fs h.1.1.1 (omega arith) in
          let same : x ∷ r.rest ≡ y ∷ fs = free-same (x ∷ r.rest) (y ∷ fs) r.held h (omega (arith, eqb-true x y e)) in
          absurd (omega (arith, ap length same, r.short))
