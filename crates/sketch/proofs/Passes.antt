-- One pass over two sketches, place by place.
use mathlib.Core.Bool.{Bool, true, false, ◌&&◌, and-false, and-true}
use mathlib.Core.List.{List, [], ◌∷◌}
use mathlib.Core.Path.{◌≡◌, refl, sym, ap, ap₂, ◌∙◌}
use Prim.Native.Nat.{ℕ, suc, ◌+◌, ◌^◌, ◌<◌, ◌≤◌}
use native.Mathlib.Numerals.{add-one}
use native.Mathlib.Omega.{arith}
use lib.Bits.{bit_or}
use lib.Dec.{ltb, eqb}
use lib.ListN.{length, get_or, take}
use lib.Pow.{pow_pos}
use lib.Seq.{take-suc, take_all}
use borrow.Author.Tests.{lt-ltb}
use Rattle.meaning.specs.Lists.{all}
use Rattle.meaning.specs.Sketch.{distance, in_range}
use Rattle.words.proofs.Bits.{or-below}
use Rattle.words.proofs.Machine.{not_byte}
use Rattle.sketch_laws.proofs.Distance.{distance-first, distance-suc}
use Rattle.sketch.specs.Pass.{GoneOver}
use Rattle.sketch.proofs.Places.{differ, range-append}

-- the first i symbols and the next
range-suc : (b : ℕ) (xs : List ℕ) (i : ℕ) → i < length xs → in_range b (take (suc i) xs) ≡ in_range b (take i xs) && ltb (get_or xs i 0) (2 ^ b)
unfolding in_range all
range-suc b xs i h =
    let x = get_or xs i 0 in
    ap (in_range b) (take-suc xs i 0 h) ∙ range-append b (take i xs) (x ∷ []) ∙ ap (λ t. in_range b (take i xs) && t) (and-true (ltb x (2 ^ b)))

-- both sketches, then both symbols; or a sketch and its symbol, then the other and its own
by-sketches : (xs ys x y : Bool) → (xs && ys) && (x && y) ≡ (xs && x) && (ys && y)
by-sketches false ys x y = refl
by-sketches true true x y = refl
by-sketches true false x y = sym (and-false x)

module _ (xs ys : List ℕ) where
  pub over_none : GoneOver (take 0 xs) (take 0 ys) 0 0
  unfolding in_range all distance
  over_none = record { range = λ b. lt-ltb 0 (2 ^ b) (pow_pos b); number = refl }

  -- one place more
  pub over-more : (i bits d : ℕ) → i < length xs → i < length ys → GoneOver (take i xs) (take i ys) bits d
      → GoneOver (take (i + 1) xs) (take (i + 1) ys) (bit_or bits (bit_or (get_or xs i 0) (get_or ys i 0))) (d + differ (get_or xs i 0) (get_or ys i 0))
  over-more i bits d hx hy p = rw (add-one i) record { range = ranged; number = number }
    where
      x : ℕ
      x = get_or xs i 0

      y : ℕ
      y = get_or ys i 0

      ranged : (b : ℕ) → ltb (bit_or bits (bit_or x y)) (2 ^ b) ≡ in_range b (take (suc i) xs) && in_range b (take (suc i) ys)
      ranged b =
          or-below b bits (bit_or x y)
          ∙ ap₂ ◌&&◌ (p.range b) (or-below b x y)
          ∙ by-sketches (in_range b (take i xs)) (in_range b (take i ys)) (ltb x (2 ^ b)) (ltb y (2 ^ b))
          ∙ ap₂ ◌&&◌ (sym (range-suc b xs i hx)) (sym (range-suc b ys i hy))

      number : d + differ x y ≡ distance (take (suc i) xs) (take (suc i) ys)
      number = ap₂ ◌+◌ p.number (not_byte (eqb x y)) ∙ sym (distance-suc i xs ys hx hy)

  pub over-most : (i bits d : ℕ) → GoneOver (take i xs) (take i ys) bits d → d ≤ i
  over-most i bits d p = omega (arith, p.number, distance-first i xs ys)

  -- all places
  pub over-all : (i bits d : ℕ) → length xs ≤ i → length ys ≤ i → GoneOver (take i xs) (take i ys) bits d → GoneOver xs ys bits d
  over-all i bits d hx hy p = rw (take_all i xs hx, take_all i ys hy) at p
