-- Signatures that compute.
use Prim.Native.Nat.{◌+◌, ◌*◌}
use mathlib.Core.Path.{◌≡◌, refl}
use mathlib.Core.List.{[], ◌∷◌, ◌++◌}
use lib.ListN.{replicate}
use Rattle.meaning.specs.Lists.{count, from, upto, sum}
use Rattle.meaning.specs.Sketch.{distance, per_byte, packed_length, pack_byte, pack_bytes, pack, group, byte_distance}
use Rattle.layout.specs.Signature.{folded_byte, folded, signature}
use Rattle.signature.specs.Distance.{signature_distance}

pub record Examples : Type 0 where
  -- b 2: 0 1 2 3 packs to 228; at most four packed bytes stay as they are
  pub one_byte : signature 2 (0 ∷ 1 ∷ 2 ∷ 3 ∷ []) ≡ 228
  -- b 3: 5 6 7 packs to 53, 7
  pub two_bytes : signature 3 (5 ∷ 6 ∷ 7 ∷ []) ≡ 53 + 256 * 7
  -- b 8: the fifth byte goes into the first, the sixth into the second
  pub six-bytes : signature 8 (1 ∷ 2 ∷ 3 ∷ 4 ∷ 5 ∷ 7 ∷ []) ≡ 4 + 256 * 5 + 65536 * 3 + 16777216 * 4
  -- b 2: three symbols differ, and three groups of the signatures
  pub apart : signature_distance 2 (signature 2 (0 ∷ 1 ∷ 2 ∷ 3 ∷ 0 ∷ [])) (signature 2 (0 ∷ 1 ∷ 3 ∷ 2 ∷ 1 ∷ [])) ≡ 3
  -- b 8: two symbols differ, and the signatures are equal
  pub hidden : signature 8 (9 ∷ 0 ∷ 0 ∷ 0 ∷ 9 ∷ []) ≡ signature 8 (7 ∷ 0 ∷ 0 ∷ 0 ∷ 7 ∷ [])
  pub hidden-distance : distance (9 ∷ 0 ∷ 0 ∷ 0 ∷ 9 ∷ []) (7 ∷ 0 ∷ 0 ∷ 0 ∷ 7 ∷ []) ≡ 2
  -- b 1, m 64: 32 ones give all bits, which are 32 from none; 64 ones give none
  pub half-ones : signature 1 (replicate 32 1 ++ replicate 32 0) ≡ 4294967295
  pub all-bits : signature_distance 1 4294967295 0 ≡ 32
  pub all_ones : signature 1 (replicate 64 1) ≡ 0

pub examples : Examples
unfolding
    folded_byte folded signature signature_distance count from upto sum distance per_byte packed_length pack_byte pack_bytes pack group byte_distance
examples = record {
  one_byte = refl;
  two_bytes = refl;
  six-bytes = refl;
  apart = refl;
  hidden = refl;
  hidden-distance = refl;
  half-ones = refl;
  all-bits = refl;
  all_ones = refl;
}
