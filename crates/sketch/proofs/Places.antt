-- Distance, range and blank sketches, place by place.
use mathlib.Core.Bool.{Bool, true, false, cond, not, ◌&&◌, and_assoc, and-true}
use mathlib.Core.Logic.{◌≢◌}
use mathlib.Core.List.{List, ◌++◌}
use mathlib.Core.Path.{◌≡◌, sym, ◌∙◌}
use Prim.Native.Nat.{ℕ, suc, ◌+◌, ◌^◌, ◌<◌, ◌≤◌}
use native.Mathlib.Nat.{add-zero, zero-add}
use native.Mathlib.Numerals.{add-one}
use native.Mathlib.Omega.{arith}
use borrow.Author.Tests.{eq-eqb, ne_eqb}
use lib.Bits.{bit_or}
use lib.Dec.{ltb, eqb}
use lib.ListN.{length, get_or, take, drop, drop_of_length-le}
use lib.Seq.{drop-cons}
use mir.Val.{bool_byte}
use Rattle.meaning.specs.Lists.{all}
use Rattle.meaning.specs.Sketch.{distance, in_range, blank}
use Rattle.meaning.proofs.Lists.{all_append}
use Rattle.words.proofs.Bits.{or-below}
use Rattle.sketch.proofs.Lists.{all_take, all_drop}

-- d of the places before i differ
abbrev pub Counted : List ℕ → List ℕ → ℕ → ℕ → Type 0
Counted xs ys d i = (d ≤ i) × (d + distance (drop i xs) (drop i ys) ≡ distance xs ys)

-- 1 where two symbols differ, as the code makes it
abbrev pub differ : ℕ → ℕ → ℕ
differ x y = bool_byte (not (eqb x y))

module _ (xs ys : List ℕ) where
  pub counted_none : Counted xs ys 0 0
  counted_none = (omega arith, zero-add (distance xs ys))

  -- one place more
  pub counted-more : (d i : ℕ) → i < length xs → i < length ys → Counted xs ys d i
      → Counted xs ys (d + differ (get_or xs i 0) (get_or ys i 0)) (i + 1)
  unfolding distance
  counted-more d i hx hy c = go (eqb x y) (rw (drop-cons xs i 0 hx, drop-cons ys i 0 hy) at c.1)
    where
      x : ℕ
      x = get_or xs i 0

      y : ℕ
      y = get_or ys i 0

      go : (t : Bool) → d + (cond t 0 1 + distance (drop (suc i) xs) (drop (suc i) ys)) ≡ distance xs ys
          → (d + bool_byte (not t) ≤ i + 1) × (d + bool_byte (not t) + distance (drop (i + 1) xs) (drop (i + 1) ys) ≡ distance xs ys)
      go true e = (omega (arith, c.0), rw (add-one i) (omega arith))
      go false e = (omega (arith, c.0), rw (add-one i) (omega arith))

  -- at the end all are counted
  pub counted-all : (d i : ℕ) → length xs ≤ i → Counted xs ys d i → d ≡ distance xs ys
  unfolding distance
  counted-all d i h c = sym (add-zero d) ∙ (rw (drop_of_length-le xs h) at c.1)

-- a test of all symbols from place i on: of that one, then of the others
all-step : (p : ℕ → Bool) (xs : List ℕ) (i : ℕ) → i < length xs → all p (drop i xs) ≡ p (get_or xs i 0) && all p (drop (i + 1) xs)
unfolding all
all-step p xs i h = rw (add-one, drop-cons xs i 0 h)

-- a symbol that is not 0, one that is, and none left
pub blank-stop : (xs : List ℕ) (i : ℕ) → i < length xs → get_or xs i 0 ≢ 0 → blank (drop i xs) ≡ false
unfolding blank
blank-stop xs i h d = all-step (λ x. eqb x 0) xs i h ∙ rw (ne_eqb (get_or xs i 0) 0 d)

pub blank-more : (xs : List ℕ) (i : ℕ) → i < length xs → get_or xs i 0 ≡ 0 → blank (drop i xs) ≡ blank (drop (i + 1) xs)
unfolding blank
blank-more xs i h e = all-step (λ x. eqb x 0) xs i h ∙ rw (eq-eqb (get_or xs i 0) 0 e)

pub blank-end : (xs : List ℕ) (i : ℕ) → length xs ≤ i → blank (drop i xs) ≡ true
unfolding blank all
blank-end xs i h = rw (drop_of_length-le xs h)

range-step : (b : ℕ) (xs : List ℕ) (i : ℕ) → i < length xs
    → in_range b (drop i xs) ≡ ltb (get_or xs i 0) (2 ^ b) && in_range b (drop (i + 1) xs)
unfolding in_range
range-step b = all-step (λ x. ltb x (2 ^ b))

pub range-end : (b : ℕ) (t : Bool) (xs : List ℕ) (i : ℕ) → length xs ≤ i → t && in_range b (drop i xs) ≡ t
unfolding in_range all
range-end b t xs i h = rw (drop_of_length-le xs h, and-true)

pub range-more : (b bits : ℕ) (xs : List ℕ) (i : ℕ) → i < length xs
    → ltb (bit_or bits (get_or xs i 0)) (2 ^ b) && in_range b (drop (i + 1) xs) ≡ ltb bits (2 ^ b) && in_range b (drop i xs)
range-more b bits xs i h = rw (or-below b bits (get_or xs i 0), range-step b xs i h, and_assoc)

pub range-append : (b : ℕ) (xs ys : List ℕ) → in_range b (xs ++ ys) ≡ in_range b xs && in_range b ys
unfolding in_range
range-append b = all_append (λ x. ltb x (2 ^ b))

-- a part of symbols in range is in range
pub part-range : (b a n : ℕ) (xs : List ℕ) → in_range b xs ≡ true → in_range b (take n (drop a xs)) ≡ true
unfolding in_range
part-range b a n xs h =
    let p : ℕ → Bool = λ (x : ℕ). ltb x (2 ^ b) in
    all_take p n (drop a xs) (all_drop p a xs h)
