-- Measuring two sketches in one loop (document 02, F-4).
use Rattle.std.specs.Prelude.{true, cond, ◌&&◌, List, ◌≡◌, ℕ, take, Result, Ok, Err}
use Rattle.meaning.specs.Sketch.{distance, in_range}
use Rattle.refusals.specs.declared.Refusal.{Refusal}
use Rattle.refusals.specs.declared.Refusal.TheVariants.{BadSymbol}

-- after k places all symbols so far are in range, and d is the distance of the first k: so at each turn of the loop
pub record After (b : ℕ) (x y : List ℕ) (k d : ℕ) : Type 0 where
  pub first : in_range b (take k x) ≡ true
  pub second : in_range b (take k y) ≡ true
  pub number : d ≡ distance (take k x) (take k y)

-- how the loop ends: after all places with their distance, or by a symbol out of range with 11
unfoldable pub ending : ℕ → List ℕ → List ℕ → Result ℕ Refusal
ending b x y = cond (in_range b x && in_range b y) (Ok (distance x y)) (Err BadSymbol)
