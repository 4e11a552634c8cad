-- An array used as a stack: what it holds below a level, the nearest first, and a test that all of it passes.
use Prim.Native.Nat.{ℕ, zero, suc, ◌+◌, ◌-◌, ◌<◌, ◌≤◌}
use native.Mathlib.Omega.{arith}
use native.Mathlib.Numerals.{add-one}
use mathlib.Core.Path.{◌≡◌, refl, ap, ap₂}
use mathlib.Core.List.{List, [], ◌∷◌}
use lib.ListN.{length, get_or, set, length-set}
use lib.Seq.{get_or-set_same, get_or-set_other}

pub suc-pred : (f : ℕ) → 0 < f → f ≡ suc (f - 1)
suc-pred f h = omega arith

pub length_none : {A : Type 0} (xs : List A) → length xs ≡ 0 → xs ≡ []
length_none [] e = refl
length_none (x ∷ xs) e = absurd (omega arith)

-- `none` is what is read past the end
module _ {A : Type 0} (none : A) where
  -- the first n elements, the last of them first
  unfoldable pub above : List A → ℕ → List A
  above stack zero = []
  above stack (suc n) = get_or stack n none ∷ above stack n

  pub above-length : (stack : List A) (n : ℕ) → length (above stack n) ≡ n
  unfolding above
  above-length stack zero = refl
  above-length stack (suc n) = ap suc (above-length stack n)

  above-set : (stack : List A) (k n : ℕ) (x : A) → n ≤ k → above (set stack k x) n ≡ above stack n
  unfolding above
  above-set stack k zero x l = refl
  above-set stack k (suc n) x l = ap₂ ◌∷◌ (get_or-set_other stack k n x none (omega arith)) (above-set stack k n x (omega arith))

  -- an element put at level n
  pub above-put : (stack : List A) (n : ℕ) (x : A) → n < length stack → above (set stack n x) (n + 1) ≡ x ∷ above stack n
  unfolding above
  above-put stack n x l = rw add-one (ap₂ ◌∷◌ (get_or-set_same stack n x none l) (above-set stack n n x (omega arith)))

  -- the element below level n
  pub above-take : (stack : List A) (n : ℕ) → 0 < n → above stack n ≡ get_or stack (n - 1) none ∷ above stack (n - 1)
  unfolding above
  above-take stack n l = ap (above stack) (suc-pred n l)

abbrev pub Each : {A : Type 0} → (A → Type 0) → List A → Type 0
Each P [] = Unit {0}
Each P (x ∷ xs) = P x × Each P xs

-- an element in hand at level `depth` of `len`, above those of the stack: all pass
pub record Held {A : Type 0} (none : A) (P : A → Type 0) (len : ℕ) (x : A) (stack : List A) (depth : ℕ) : Type 0 where
  pub inside : P x
  pub within : Each P (above none stack depth)
  pub room : length stack ≡ 64
  pub level : depth < len
  pub levels : len ≤ 64

module _ {A : Type 0} (none : A) (P : A → Type 0) (len : ℕ) where
  pub held_start : (x : A) (stack : List A) → P x → length stack ≡ 64 → 0 < len → len ≤ 64 → Held none P len x stack 0
  unfolding above
  held_start x stack i e l m = record { inside = i; within = tt; room = e; level = l; levels = m }

  module _ (x : A) (stack : List A) (depth : ℕ) (h : Held none P len x stack depth) where
    pub held-stay : (y : A) → P y → Held none P len y stack depth
    held-stay y i = record { inside = i; within = h.within; room = h.room; level = h.level; levels = h.levels }

    pub held_down : (y below : A) → P y → P below → depth + 1 < len → Held none P len below (set stack depth y) (depth + 1)
    held_down y below i j l = record {
      inside = j;
      within = rw (above-put none stack depth y (omega (arith, h.room, h.level, h.levels))) (i, h.within);
      room = simp length-set h.room;
      level = l;
      levels = h.levels;
    }

    pub held_up : 0 < depth → Held none P len (get_or stack (depth - 1) none) stack (depth - 1)
    held_up l = record {
      inside = both.0;
      within = both.1;
      room = h.room;
      level = omega (arith, h.level);
      levels = h.levels;
    }
      where
        both : Each P (get_or stack (depth - 1) none ∷ above none stack (depth - 1))
        both = rw (above-take none stack depth l) at h.within
