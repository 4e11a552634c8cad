-- The bytes of a packing in turn: where each begins, and how many symbols it has.
use mathlib.Core.Path.{◌≡◌, sym, ap, ◌∙◌}
use mathlib.Core.Logic.{◌≢◌, ◌⊎◌, ⊎_elim}
use Prim.Native.Nat.{ℕ, ◌+◌, ◌-◌, ◌*◌, ◌<◌, ◌≤◌, min}
use native.Mathlib.Nat.{zero-mul}
use native.Mathlib.Omega.{arith}
use Rattle.meaning.specs.Sketch.{per_byte, packed_length, symbols_at}
use Rattle.sketch.proofs.Width.{byte-begins, byte_of, bytes-cover}
use Rattle.comparison.specs.declared.Shape.{Shape}
use Rattle.comparison.specs.Shapes.{Shaped}

-- the bytes before byte k hold the symbols before place `at`
pub record Placed (s : Shape) (n k at : ℕ) : Type 0 where
  pub most : k ≤ s.bytes
  pub begins : k < s.bytes → at ≡ k * s.z
  pub ends : k ≡ s.bytes → at ≡ n

-- the symbols of byte k, by whether it is the last
abbrev pub Groups : Shape → ℕ → ℕ → Type 0
Groups s k groups = ((k + 1 ≡ s.bytes) × (groups ≡ s.last)) ⊎ ((k + 1 ≢ s.bytes) × (groups ≡ s.z))

-- there is a byte
pub bytes-some : (b n : ℕ) → (0 < b) × (b ≤ 8) → 0 < n → 0 < packed_length b n
bytes-some b n bits some = byte_of b n 0 bits (rw (zero-mul (per_byte b)) some)

module _ (s : Shape) (n : ℕ) (h : Shaped s n) where
  z-same : s.z ≡ per_byte h.b
  z-same = ap (λ t. t.z) h.same

  bytes_same : s.bytes ≡ packed_length h.b n
  bytes_same = ap (λ t. t.bytes) h.same

  byte_inside : (k : ℕ) → k < s.bytes → k * s.z < n
  byte_inside k l = rw z-same (byte-begins h.b n k h.bits (omega (arith, bytes_same)))

  all-inside : n ≤ s.bytes * s.z
  all-inside = rw (bytes_same, z-same) (bytes-cover h.b n h.bits)

  last-ends : (k : ℕ) → k + 1 ≡ s.bytes → k * s.z + s.last ≡ n
  unfolding symbols_at
  last-ends k e =
      let before : s.bytes - 1 ≡ k = omega arith in
      let last : s.last ≡ min s.z (n - k * s.z) =
      ap (λ t. t.last) h.same ∙ rw (← bytes_same, before, ← z-same) in
      let cover : n ≤ k * s.z + s.z = omega (arith, all-inside, ap (λ i. i * s.z) e) in
      omega (arith, byte_inside k (omega arith))

  pub placed-start : Placed s n 0 0
  placed-start = record {
    most = omega arith;
    begins = λ l. sym (zero-mul s.z);
    ends = λ e. absurd (omega (arith, e, bytes_same, bytes-some h.b n h.bits h.some));
  }

  module _ {k at groups : ℕ} (p : Placed s n k at) (more : k ≢ s.bytes) (g : Groups s k groups) where
    -- byte k ends inside the row
    pub groups-inside : at + groups ≤ n
    groups-inside =
        ⊎_elim
        (λ (e, f). omega (arith, e, f, p.begins (omega (arith, p.most)), last-ends k e))
        (λ (e, f). omega (arith, e, f, p.begins (omega (arith, p.most)), byte_inside (k + 1) (omega (arith, e, p.most))))
        g

    pub placed-next : Placed s n (k + 1) (at + groups)
    placed-next = record {
      most = omega (arith, p.most);
      begins = λ l. ⊎_elim (λ (e, f). absurd (omega (arith, e))) (λ (e, f). omega (arith, f, p.begins (omega arith))) g;
      ends = λ e. ⊎_elim (λ (d, f). omega (arith, f, p.begins (omega arith), last-ends k e)) (λ (d, f). absurd (d e)) g;
    }
