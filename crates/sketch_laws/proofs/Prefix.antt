-- The distance of two packings along a prefix: it grows byte by byte, and is at most the whole.
use Prim.Native.Nat.{ℕ, suc, ◌+◌, ◌*◌, ◌≤◌, ◌<◌}
use native.Mathlib.Omega.{arith}
use mathlib.Core.Path.{◌≡◌, ap, ◌∙◌}
use mathlib.Core.List.{List}
use lib.Bits.{bit_xor, xor_self, xor_comm}
use lib.ListN.{length, get_or, take, drop}
use Rattle.meaning.specs.Sketch.{per_byte, byte_distance}
use Rattle.sketch_laws.specs.Packed.{group_distance, packed_distance}
use Rattle.sketch_laws.proofs.Pairs.{pairs-split, pairs-take, pairs-suc, pairs-drop, pairs-comm, pairs-self, pairs-le}
use Rattle.sketch_laws.proofs.ByteDistance.{group-distance-le, byte-distance-le, byte-distance-zero}

module _ (b : ℕ) where
  -- the distance of two bytes
  abbrev bytes : ℕ → ℕ → ℕ
  bytes v w = byte_distance b (bit_xor v w)

  pub packed-self : (vs : List ℕ) → packed_distance b vs vs ≡ 0
  unfolding packed_distance
  packed-self vs = pairs-self bytes (λ v. ap (byte_distance b) (xor_self v) ∙ byte-distance-zero b) vs

  pub packed-comm : (vs ws : List ℕ) → packed_distance b vs ws ≡ packed_distance b ws vs
  unfolding packed_distance
  packed-comm vs ws = pairs-comm bytes (λ v w. ap (byte_distance b) (xor_comm v w)) vs ws

  pub packed-le : (vs ws : List ℕ) → packed_distance b vs ws ≤ length vs * per_byte b
  unfolding packed_distance
  packed-le vs ws = pairs-le bytes (per_byte b) (λ v w. byte-distance-le b (bit_xor v w)) vs ws

  pub packed-split : (n : ℕ) (vs ws : List ℕ) → packed_distance b vs ws ≡ packed_distance b (take n vs) (take n ws) + packed_distance b (drop n vs) (drop n ws)
  unfolding packed_distance
  packed-split n vs ws = pairs-split bytes n vs ws

  pub packed-take : (n : ℕ) (vs ws : List ℕ) → packed_distance b (take n vs) (take n ws) ≤ packed_distance b vs ws
  unfolding packed_distance
  packed-take n vs ws = pairs-take bytes n vs ws

  -- one byte more
  pub packed-suc : (n : ℕ) (vs ws : List ℕ) → n < length vs → n < length ws
      → packed_distance b (take (suc n) vs) (take (suc n) ws) ≡ packed_distance b (take n vs) (take n ws) + byte_distance b (bit_xor (get_or vs n 0) (get_or ws n 0))
  unfolding packed_distance
  packed-suc n vs ws h k = pairs-suc bytes n vs ws h k

  -- from byte n on
  pub packed-drop : (n : ℕ) (vs ws : List ℕ) → n < length vs → n < length ws
      → packed_distance b (drop n vs) (drop n ws) ≡ byte_distance b (bit_xor (get_or vs n 0) (get_or ws n 0)) + packed_distance b (drop (suc n) vs) (drop (suc n) ws)
  unfolding packed_distance
  packed-drop n vs ws h k = pairs-drop bytes n vs ws h k

  -- n bytes and i groups of the next one
  pub packed-part : (n i : ℕ) (vs ws : List ℕ) → n < length vs → n < length ws → i ≤ per_byte b
      → packed_distance b (take n vs) (take n ws) + group_distance b (bit_xor (get_or vs n 0) (get_or ws n 0)) i ≤ packed_distance b vs ws
  packed-part n i vs ws h k l =
      omega (arith, packed-suc n vs ws h k, packed-take (suc n) vs ws, group-distance-le b (bit_xor (get_or vs n 0) (get_or ws n 0)) i l)
