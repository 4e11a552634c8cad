-- What follows for a call from the number it answers.
use mathlib.Core.Bool.{Bool, true, false, cond, ◌&&◌, and-eq-true_iff}
use mathlib.Core.List.{List}
use mathlib.Core.Path.{◌≡◌, refl, sym, ap, ◌∙◌}
use Prim.Native.Nat.{ℕ, ◌≤◌}
use lib.Dec.{ltb, leb, eqb}
use borrow.Author.Tests.{ltb-true, leb-true}
use Rattle.meaning.specs.Sketch.{distance, in_range, packed_length, pack, unpack}
use Rattle.meaning.specs.SketchCalls.{sketch_limits, measure_number, measure_value, pack_number, unpack_number, length_given, output_left}
use Rattle.std.specs.Prelude.{Ok, Err}
use Rattle.refusals.specs.Refusals.{answer_number, answer_value}
use Rattle.refusals.specs.declared.Refusal.TheVariants.{BadSymbol}
use Rattle.sketch_calls.specs.Calls.{Measured, Packed, Unpacked}
use Rattle.sketch_calls.specs.Measuring.{ending}
use Rattle.sketch.specs.Settings.{Bits}

pub within : (b m : ℕ) → sketch_limits b m ≡ true → Bits b × (m ≤ 64)
unfolding sketch_limits
within b m h =
    let both = (and-eq-true_iff (ltb 0 b && leb b 8) (ltb 0 m && leb m 64)).0 h in
    let bits = (and-eq-true_iff (ltb 0 b) (leb b 8)).0 both.0 in
    let symbols = (and-eq-true_iff (ltb 0 m) (leb m 64)).0 both.1 in
    ((ltb-true 0 b bits.0, leb-true b 8 bits.1), leb-true m 64 symbols.1)

pub measured : (b m : ℕ) (x y : List ℕ) {n : ℕ} (v : ℕ) → measure_number b m x y ≡ n → v ≡ cond (eqb n 0) (distance x y) 0 → Measured b m x y n v
unfolding measure_value
measured b m x y v e h = record { number = sym e; value = h ∙ ap (λ (k : ℕ). cond (eqb k 0) (distance x y) 0) (sym e) }

-- past 4 and 10 the loop's ending is the answer
pub loop-answers : (b m : ℕ) (x y : List ℕ) → measure_number b m x y ≡ cond (in_range b x && in_range b y) 0 11
    → Measured b m x y (answer_number (ending b x y)) (answer_value (ending b x y))
unfolding ending
loop-answers b m x y = go (in_range b x && in_range b y)
  where
    go : (t : Bool) → measure_number b m x y ≡ cond t 0 11
        → Measured b m x y (answer_number {A = ℕ} (cond t (Ok (distance x y)) (Err BadSymbol))) (answer_value (cond t (Ok (distance x y)) (Err BadSymbol)))
    go true e = measured b m x y (distance x y) e refl
    go false e = measured b m x y 0 e refl

module _ (b m : ℕ) (x out : List ℕ) {n : ℕ} (v : ℕ) (left : List ℕ) where
  pub packed : pack_number b m x out ≡ n → v ≡ length_given n (packed_length b m) → left ≡ output_left n (pack b x) out → Packed b m x out n v left
  packed e h l = record {
    number = sym e;
    value = h ∙ ap (λ (k : ℕ). length_given k (packed_length b m)) (sym e);
    output = l ∙ ap (λ (k : ℕ). output_left k (pack b x) out) (sym e);
  }

  pub unpacked : unpack_number b m x out ≡ n → v ≡ length_given n m → left ≡ output_left n (unpack b m x) out → Unpacked b m x out n v left
  unpacked e h l = record {
    number = sym e;
    value = h ∙ ap (λ (k : ℕ). length_given k m) (sym e);
    output = l ∙ ap (λ (k : ℕ). output_left k (unpack b m x) out) (sym e);
  }
