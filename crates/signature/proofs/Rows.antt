-- The packed bytes of a whole row of the sketch table, folded.
use Prim.Native.Nat.{ℕ, suc, ◌+◌, ◌-◌, ◌*◌, ◌/◌, ◌%◌, ◌^◌, ◌<◌, ◌≤◌, min}
use native.Mathlib.Nat.{zero-mul, le_of_eq}
use native.Mathlib.Omega.{arith}
use mathlib.Core.Path.{◌≡◌, sym, ap, ◌∙◌}
use mathlib.Core.Bool.{true}
use mathlib.Core.List.{List, []}
use lib.Bits.{bit_xor, bit_or}
use lib.ListN.{length, get_or, take, drop, length-map}
use lib.Seq.{take_all, take-length, drop-length, drop-cons}
use borrow.Author.Tests.{le-ltb}
use Rattle.meaning.specs.Sketch.{in_range, per_byte, packed_length, pack, symbols_at, block, block_start, block_length}
use Rattle.meaning.specs.Ledger.{Settings}
use Rattle.meaning.specs.Trie.{byte_at}
use Rattle.meaning.specs.Forest.{bytes_of_sketch}
use Rattle.layout.specs.Pages.{row_of}
use Rattle.sketch.specs.Settings.{Bits}
use Rattle.sketch.proofs.Packed.{part-ends}
use Rattle.sketch.proofs.Width.{byte-begins, bits-within}
use Rattle.sketch_laws.proofs.Packing.{range_at, range-drop, pack-length}
use Rattle.blocks.specs.Packed.{row_byte, page_byte, level_at}
use Rattle.blocks.specs.RowBytes.{reduced, row_bytes, rows_of}
use Rattle.blocks.proofs.RowBytes.{reduced-same, reduced-range, level-byte}
use Rattle.layout.specs.Signature.{folded, signature}
use Rattle.signature.proofs.Folded.{packed-range, folded-none, folded_more}

-- the whole row is block 0 of one block
abbrev whole : ℕ → ℕ → Settings
whole b n = record { bits = b; symbols = n; blocks = 1; pages = 1; nodes = 0; thresholds = [] }

starts : (n : ℕ) → block_start n 1 0 ≡ 0
unfolding block_start
starts n = omega arith

ends : (n : ℕ) → block_length n 1 0 ≡ n
unfolding block_length
ends n = rw (le-ltb 0 (n % 1) (omega arith)) (omega arith)

module _ (b : ℕ) (S : List ℕ) where
  -- the packed bytes of the row, each symbol taken modulo 2^b
  abbrev bytes : List ℕ
  bytes = pack b (reduced b S)

  reduced-length : length (reduced b S) ≡ length S
  unfolding reduced
  reduced-length = length-map S (λ x. x % 2 ^ b)

  bytes-length : length bytes ≡ packed_length b (length S)
  bytes-length = pack-length b (length S) (reduced b S) reduced-length

  row-byte-packed : (k : ℕ) → k * per_byte b < length S → row_byte b S (k * per_byte b) (symbols_at b (length S) k) ≡ get_or bytes k 0
  unfolding row_bytes bytes_of_sketch rows_of level_at page_byte byte_at row_of block symbols_at
  row-byte-packed k h =
      let n : ℕ = length S in
      let at : 0 * n + (0 + min (k * per_byte b) n) ≡ k * per_byte b = omega arith in
      let all : take n (drop (0 * n) S) ≡ S = rw (zero-mul n) (take-length S) in
      let byte = level-byte (whole b n) 0 (omega arith) S k 0 in
      sym (rw (starts n, ends n, all, take_all n (reduced b S) (le_of_eq reduced-length), at) at byte)

  -- ---- the loop, from the last byte to the first
  pub row-none : (k : ℕ) → k ≡ packed_length b (length S) → 0 ≡ folded (drop k bytes)
  row-none k e = rw (e, ← bytes-length, drop-length bytes) (sym folded-none)

  -- the byte before place k
  module _ (z k count : ℕ) (hb : Bits b) (ez : z ≡ per_byte b) (ec : count ≡ symbols_at b (length S) (k - 1))
      (some : 0 < k) (most : k ≤ packed_length b (length S)) where
    begins : (k - 1) * per_byte b < length S
    begins = byte-begins b (length S) (k - 1) hb (omega arith)

    pub row_ends : (k - 1) * z + count ≤ length S
    row_ends = part-ends b (length S) (k - 1) z count ez ec (rw ez begins)

    pub row_fits : b * count ≤ 8
    unfolding symbols_at
    row_fits = bits-within b count (omega arith)

    pub row-turn : (s v : ℕ) → v ≡ row_byte b S ((k - 1) * z) count → s ≡ folded (drop k bytes) →
        bit_xor v (bit_or (s * 2 ^ 8 % 2 ^ 32) (s / 2 ^ 24)) ≡ folded (drop (k - 1) bytes)
    row-turn s v ev e =
        let range : in_range 8 bytes ≡ true = packed-range b (reduced b S) (reduced-range b S) in
        let next : k ≡ suc (k - 1) = omega arith in
        let rest : s ≡ folded (drop (suc (k - 1)) bytes) = e ∙ ap (λ (i : ℕ). folded (drop i bytes)) next in
        rw (ev, ez, ec, row-byte-packed (k - 1) begins, rest)
        (folded_more (get_or bytes (k - 1) 0) (drop (suc (k - 1)) bytes) (range_at 8 (k - 1) bytes range) (range-drop 8 (suc (k - 1)) bytes range)
        ∙ ap folded (sym (drop-cons bytes (k - 1) 0 (omega (arith, bytes-length)))))

  pub row_done : (s k : ℕ) → k ≤ 0 → s ≡ folded (drop k bytes) → s ≡ signature b (reduced b S)
  unfolding signature
  row_done s k l e = let none : k ≡ 0 = omega arith in rw none at e

-- the signature of the row itself, where its symbols are in range
pub signature-same : (b : ℕ) (S : List ℕ) → in_range b S ≡ true → signature b (reduced b S) ≡ signature b S
signature-same b S r = rw (reduced-same b S r)
