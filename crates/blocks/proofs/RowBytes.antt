-- Laws of the packed bytes of a row.
use mathlib.Core.Path.{◌≡◌, refl, sym, ap, ◌∙◌}
use mathlib.Core.Logic.{by_cases}
use mathlib.Core.Bool.{true}
use mathlib.Core.List.{List, [], ◌∷◌}
use Prim.Native.Nat.{ℕ, zero, suc, ◌+◌, ◌-◌, ◌*◌, ◌%◌, ◌^◌, ◌<◌, ◌≤◌, min}
use native.Mathlib.Nat.{mod-lt, mod-eq_of_lt, zero-mod}
use native.Mathlib.Decide.{dec_lt, dec_le}
use native.Mathlib.Omega.{arith}
use lib.Dec.{ltb}
use lib.Pow.{pow_pos}
use lib.ListN.{length, get_or, take, drop, drop_of_length-le, get_or-eq_default}
use lib.Seq.{drop-drop, drop-cons, take-nil}
use borrow.Author.Tests.{ltb-true}
use Rattle.meaning.specs.Lists.{all}
use Rattle.meaning.specs.Sketch.{in_range, per_byte, pack_byte, block, block_start, block_length}
use Rattle.meaning.specs.Trie.{byte_at}
use Rattle.meaning.specs.Ledger.{Settings}
use Rattle.meaning.specs.Forest.{block_bytes, bytes_of_sketch}
use Rattle.layout.specs.Pages.{row_of}
use Rattle.sketch.specs.Settings.{Bits}
use Rattle.sketch.proofs.Lists.{window}
use Rattle.sketch.proofs.BlockEnds.{block-ends}
use Rattle.sketch.proofs.Width.{z-most, z-fits}
use Rattle.sketch_laws.proofs.Packing.{pack-at, packed-most, range-of}
use Rattle.meaning.proofs.Lists.{and_first, and_second}
use Rattle.blocks.specs.Tables.{RowTable}
use Rattle.blocks.specs.Packed.{row_byte, page_byte, level_at}
use Rattle.blocks.specs.RowBytes.{reduced, row_bytes, rows_of}

module _ (b : ℕ) where
  -- symbols in range stay as they are
  pub reduced-same : (xs : List ℕ) → in_range b xs ≡ true → reduced b xs ≡ xs
  unfolding reduced in_range all
  reduced-same [] r = refl
  reduced-same (x ∷ xs) r =
      rw (mod-eq_of_lt (ltb-true x (2 ^ b) (and_first (ltb x (2 ^ b)) (in_range b xs) r)), reduced-same xs (and_second (ltb x (2 ^ b)) (in_range b xs) r))

  reduced-at : (xs : List ℕ) (i : ℕ) → get_or (reduced b xs) i 0 ≡ get_or xs i 0 % 2 ^ b
  unfolding reduced
  reduced-at [] i = sym (zero-mod (2 ^ b))
  reduced-at (x ∷ xs) zero = refl
  reduced-at (x ∷ xs) (suc i) = reduced-at xs i

  pub reduced-range : (xs : List ℕ) → in_range b (reduced b xs) ≡ true
  reduced-range xs = range-of b (reduced b xs) (λ i l. rw (reduced-at xs i) (mod-lt (get_or xs i 0) (pow_pos b)))

  reduced-take : (n : ℕ) (xs : List ℕ) → take n (reduced b xs) ≡ reduced b (take n xs)
  unfolding reduced
  reduced-take zero xs = refl
  reduced-take (suc n) [] = refl
  reduced-take (suc n) (x ∷ xs) = rw (reduced-take n xs)

  reduced-drop : (n : ℕ) (xs : List ℕ) → drop n (reduced b xs) ≡ reduced b (drop n xs)
  unfolding reduced
  reduced-drop zero xs = refl
  reduced-drop (suc n) [] = refl
  reduced-drop (suc n) (x ∷ xs) = reduced-drop n xs

  -- a byte of the table packs its symbols
  row-packs : (S : List ℕ) (i n : ℕ) → row_byte b S i n ≡ pack_byte b (reduced b (take n (drop i S)))
  unfolding row_byte pack_byte reduced
  row-packs S i zero = refl
  row-packs S i (suc n) =
      by_cases (dec_lt i (length S))
      (λ l. rw (drop-cons S i 0 l, row-packs S (suc i) n))
      (λ l.
      let past : length S ≤ i = omega arith in
      let next : length S ≤ suc i = omega arith in
      rw (get_or-eq_default S 0 past, row-packs S (suc i) n, drop_of_length-le S past, drop_of_length-le S next, take-nil {A = ℕ} n, zero-mod (2 ^ b)) (omega arith))

-- the bytes of the sketch itself, where its symbols are in range
pub row_same : (s : Settings) (j : ℕ) (S : List ℕ) (p : ℕ) → in_range s.bits (row_of s.symbols S p) ≡ true →
    row_bytes s j S p ≡ bytes_of_sketch s j (row_of s.symbols S p)
unfolding row_bytes
row_same s j S p r = rw (reduced-same s.bits (row_of s.symbols S p) r)

-- ---- block j
-- the symbols of byte k of a block of len symbols, as far as it has them
part : (z len k : ℕ) (xs : List ℕ) → take (min z (len - k * z)) (drop (k * z) xs) ≡ take (min z (len - k * z)) (drop (min (k * z) len) xs)
part z len k xs =
    by_cases (dec_le (k * z) len)
    (λ l. let e : min (k * z) len ≡ k * z = omega arith in rw e)
    (λ l. let e : min z (len - k * z) ≡ 0 = omega arith in rw e)

module _ (s : Settings) (j : ℕ) (h : j < s.blocks) where
  abbrev start : ℕ
  start = block_start s.symbols s.blocks j

  abbrev len : ℕ
  len = block_length s.symbols s.blocks j

  ends : start + len ≤ s.symbols
  ends = block-ends s.symbols s.blocks j h

  -- the byte of a page at level k
  pub level-byte : (S : List ℕ) (k p : ℕ) → byte_at (row_bytes s j S) k p ≡ page_byte S (level_at (rows_of s j) k) p
  unfolding row_bytes bytes_of_sketch rows_of level_at page_byte byte_at row_of block
  level-byte S k p =
      let b : ℕ = s.bits in
      let m : ℕ = s.symbols in
      let z : ℕ = per_byte b in
      let n : ℕ = min z (len - k * z) in
      let from : ℕ = start + min (k * z) len in
      let row : List ℕ = take m (drop (p * m) S) in
      let inside : min n (m - from) ≡ n = omega (arith, ends) in
      pack-at b k (take len (drop start (reduced b row)))
      ∙ ap (pack_byte b)
      (window z (k * z) len (drop start (reduced b row))
      ∙ part z len k (drop start (reduced b row))
      ∙ rw (drop-drop (min (k * z) len) start (reduced b row), reduced-drop b from row, reduced-take b n (drop from row))
      (ap (reduced b) (window n from m (drop (p * m) S) ∙ rw (inside, drop-drop from (p * m) S))))
      ∙ sym (row-packs b S (p * m + from) n)

  pub rows-table : (pcap : ℕ) (S : List ℕ) → Bits s.bits → s.symbols ≤ 64 → pcap * s.symbols ≤ length S → RowTable pcap (rows_of s j) S
  unfolding rows_of block_bytes
  rows-table pcap S b m long =
      record {
        long = long;
        inside = ends;
        narrow = b.1;
        few = z-most s.bits;
        short = omega (arith, ends, packed-most s.bits len);
        fits = z-fits s.bits;
      }
