-- The test of the pages, step by step.
use Rattle.std.specs.Prelude.{Option, Some, None}
use Prim.Native.Nat.{ℕ, suc, ◌+◌, ◌-◌, ◌≤◌, ◌<◌}
use native.Mathlib.Omega.{arith}
use native.Mathlib.Numerals.{add-one}
use mathlib.Core.Path.{◌≡◌, refl, sym, ap, ◌∙◌}
use mathlib.Core.Bool.{Bool, true, false, cond, not}
use mathlib.Core.List.{List}
use lib.Dec.{eqb}
use borrow.Author.Tests.{lt-ltb, le-ltb, not-true, not-false}
use mir.Val.{bool_byte}
use Rattle.meaning.specs.Sketch.{in_range}
use Rattle.meaning.specs.Ledger.{Settings}
use Rattle.layout.specs.Pages.{is_live, class_of, signature_at, row_of}
use Rattle.layout.specs.Signature.{signature}
use Rattle.blocks.specs.RowBytes.{reduced}
use Rattle.signature.proofs.Rows.{signature-same}
use Rattle.check_tables.specs.Pages.{row_fits, page_fits, count_from, test_pages}

-- ---- a page
module _ (s : Settings) (P S : List ℕ) (p : ℕ) (l : Bool) (live : l ≡ is_live P p) where
  pub fits-dead : not l ≡ true → true ≡ page_fits s P S p
  unfolding page_fits
  fits-dead e = rw (← live, not-true l e)

  module _ (e : not l ≡ false) (c : ℕ) (class : c ≡ class_of P p) where
    pub fits-high : 64 ≤ c → false ≡ page_fits s P S p
    unfolding page_fits
    fits-high h = rw (← live, not-false l e, ← class, le-ltb c 64 h)

    module _ (h : c < 64) (x : List ℕ) (row : x ≡ row_of s.symbols S p) (r : Bool) (range : r ≡ in_range s.bits x) where
      fits-row : row_fits s P p x ≡ page_fits s P S p
      unfolding page_fits
      fits-row = rw (← live, not-false l e, ← class, lt-ltb c 64 h, ← row) refl

      pub fits-wide : not r ≡ true → false ≡ page_fits s P S p
      fits-wide n = rw (← fits-row, ← range, not-true r n) refl

      pub fits-signature : not r ≡ false → (g : ℕ) → g ≡ signature_at P s.pages p → (k : ℕ) → k ≡ signature s.bits (reduced s.bits x)
          → eqb g k ≡ page_fits s P S p
      fits-signature n g word k own =
          let in-range : in_range s.bits x ≡ true = sym range ∙ not-false r n in
          rw (← fits-row, in-range, word, own, signature-same s.bits x in-range) refl

-- ---- the loop
module _ (s : Settings) (P S : List ℕ) (a p : ℕ) (R : Option ℕ) (inv : count_from (page_fits s P S) (is_live P) (s.pages - p) p a ≡ R) where
  pub count-done : s.pages ≤ p → Some a ≡ R
  unfolding count_from
  count-done h = let e : s.pages - p ≡ 0 = omega arith in rw (← inv, e) refl

  module _ (h : p < s.pages) (r : Bool) (fits : r ≡ page_fits s P S p) where
    step : cond r (count_from (page_fits s P S) (is_live P) (s.pages - (p + 1)) (p + 1) (a + cond (is_live P p) 1 0)) None ≡ R
    unfolding count_from
    step = let q : s.pages - p ≡ suc (s.pages - (p + 1)) = omega arith in rw (← inv, fits, q, add-one p) refl

    pub count-fails : not r ≡ true → None ≡ R
    count-fails e = rw (not-true r e) at step

    pub count-more : not r ≡ false → (l : Bool) → l ≡ is_live P p →
        count_from (page_fits s P S) (is_live P) (s.pages - (p + 1)) (p + 1) (a + bool_byte l) ≡ R
    count-more e l live = rw (number l, live) (rw (not-false r e) at step)
      where
        number : (t : Bool) → bool_byte t ≡ cond t 1 0
        number true = refl
        number false = refl

pub count-start : (s : Settings) (P S : List ℕ) → count_from (page_fits s P S) (is_live P) (s.pages - 0) 0 0 ≡ test_pages s P S
unfolding test_pages
count-start s P S = ap (λ (n : ℕ). count_from (page_fits s P S) (is_live P) n 0 0) (omega arith)
