-- The calls on sketches alone: measuring two, packing and unpacking one. What each asks, gives and leaves in its output.
use Rattle.std.specs.Prelude.{ℕ, Bool, cond, ◌&&◌, ◌||◌, List, [], ◌∷◌, ltb, leb, eqb, length}
use Rattle.meaning.specs.Lists.{onto}
use Rattle.meaning.specs.Refusal.{ask, first_no}
use Rattle.meaning.specs.Sketch.{distance, in_range, packed_length, pack, all_packable, unpack}

-- 4, of b and m alone
unfoldable pub sketch_limits : ℕ → ℕ → Bool
sketch_limits b m = ltb 0 b && leb b 8 && (ltb 0 m && leb m 64)

-- measuring: 4, then 10 of both, then 11 of both
unfoldable pub measure_number : ℕ → ℕ → List ℕ → List ℕ → ℕ
measure_number b m x y =
    first_no (
    ask 4 (sketch_limits b m)
    ∷ ask 10 (eqb (length x) m && eqb (length y) m)
    ∷ ask 11 (in_range b x && in_range b y)
    ∷ [])

-- the distance; 0 with a refusal
unfoldable pub measure_value : ℕ → ℕ → List ℕ → List ℕ → ℕ
measure_value b m x y = cond (eqb (measure_number b m x y) 0) (distance x y) 0

-- packing m symbols into an output
unfoldable pub pack_number : ℕ → ℕ → List ℕ → List ℕ → ℕ
pack_number b m x out =
    first_no (
    ask 4 (sketch_limits b m)
    ∷ ask 10 (eqb (length x) m)
    ∷ ask 11 (in_range b x)
    ∷ ask 13 (leb (packed_length b m) (length out))
    ∷ [])

-- unpacking m symbols into an output
unfoldable pub unpack_number : ℕ → ℕ → List ℕ → List ℕ → ℕ
unpack_number b m bs out =
    first_no (
    ask 4 (sketch_limits b m)
    ∷ ask 10 (eqb (length bs) (packed_length b m))
    ∷ ask 11 (all_packable b m bs)
    ∷ ask 13 (leb m (length out))
    ∷ [])

-- the length given: with 0 what was written, with 13 what is needed, with any other refusal 0
unfoldable pub length_given : ℕ → ℕ → ℕ
length_given number n = cond (eqb number 0 || eqb number 13) n 0

-- the output afterwards: its beginning written where the call is carried out, else as it was
unfoldable pub output_left : ℕ → List ℕ → List ℕ → List ℕ
output_left number xs out = cond (eqb number 0) (onto xs out) out

abbrev pub pack_length : ℕ → ℕ → List ℕ → List ℕ → ℕ
pack_length b m x out = length_given (pack_number b m x out) (packed_length b m)

abbrev pub pack_left : ℕ → ℕ → List ℕ → List ℕ → List ℕ
pack_left b m x out = output_left (pack_number b m x out) (pack b x) out

abbrev pub unpack_length : ℕ → ℕ → List ℕ → List ℕ → ℕ
unpack_length b m bs out = length_given (unpack_number b m bs out) m

abbrev pub unpack_left : ℕ → ℕ → List ℕ → List ℕ → List ℕ
unpack_left b m bs out = output_left (unpack_number b m bs out) (unpack b m bs) out
