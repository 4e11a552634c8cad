-- An array of bytes written from its beginning, one place at a time.
use Prim.Native.Nat.{ℕ, ◌+◌, ◌≤◌, ◌<◌}
use native.Mathlib.Omega.{arith}
use native.Mathlib.Decide.{ℕ_discrete}
use mathlib.Core.Path.{◌≡◌, sym, ap, ◌∙◌}
use mathlib.Core.Logic.{by_cases}
use mathlib.Core.List.{List}
use lib.ListN.{length, get_or, set, take}
use lib.Seq.{get_or-set_same, get_or-set_other, get_or-take, length-take-le, ext_get_or}
use Rattle.meaning.specs.Trie.{byte_at}
use Rattle.meaning.specs.Forest.{block_bytes}
use Rattle.layout.specs.declared.Numbers.{Numbers}
use Rattle.layout.specs.Header.{bare}
use Rattle.layout.specs.Limits.{HeaderLimits}
use Rattle.layout.specs.Lengths.{sketches_length}
use Rattle.layout.proofs.Rows.{row_inside}
use Rattle.blocks.specs.declared.Rows.{Rows}
use Rattle.blocks.specs.Packed.{page_byte, level_at}
use Rattle.blocks.specs.RowBytes.{row_bytes, rows_of}
use Rattle.blocks.proofs.RowBytes.{level-byte}
use Rattle.blocks.proofs.BlockBytes.{bytes_most, row-length}

pub written-more : (f : ℕ → ℕ) (bs : List ℕ) (k v : ℕ) → k < length bs → v ≡ f k → ((i : ℕ) → i < k → get_or bs i 0 ≡ f i) →
    (i : ℕ) → i < k + 1 → get_or (set bs k v) i 0 ≡ f i
written-more f bs k v l e h i m =
    by_cases (ℕ_discrete i k)
    (λ q. ap (λ (x : ℕ). get_or (set bs k v) x 0) q ∙ get_or-set_same bs k v 0 l ∙ e ∙ ap f (sym q))
    (λ d. get_or-set_other bs k i v 0 d ∙ h i (omega arith))

written_all : (Y bs : List ℕ) (n : ℕ) → length Y ≡ n → n ≤ length bs → ((i : ℕ) → i < n → get_or bs i 0 ≡ get_or Y i 0) → take n bs ≡ Y
written_all Y bs n e l h =
    ext_get_or 0 (take n bs) Y (length-take-le n bs l ∙ sym e)
    (λ i m.
    let j : i < n = omega (arith, length-take-le n bs l) in
    get_or-take n bs i 0 j ∙ h i j)

-- the bytes of a page's row, a level at a time
pub row_written : (h : Numbers) → HeaderLimits h → (S : List ℕ) → sketches_length (bare h) ≤ length S → (j : ℕ) → j < h.q → (r : Rows) → r ≡ rows_of (bare h) j →
    (p : ℕ) → p < h.pages → (bs : List ℕ) → length bs ≡ 64 → (k : ℕ) → r.bytes ≤ k → ((i : ℕ) → i < k → get_or bs i 0 ≡ page_byte S (level_at r i) p) →
    take (block_bytes (bare h) j) bs ≡ row_bytes (bare h) j S p
unfolding rows_of sketches_length byte_at
row_written h limits S long j l r e p lp bs full k done w =
    let most : block_bytes (bare h) j ≤ k = rw e at done in
    written_all (row_bytes (bare h) j S p) bs (block_bytes (bare h) j)
    (row-length (bare h) S p (row_inside h.m h.pages (length S) lp long) j l)
    (omega (arith, bytes_most (bare h) j l, limits))
    (λ i m. w i (omega arith) ∙ rw e (sym (level-byte (bare h) j l S i p)))
