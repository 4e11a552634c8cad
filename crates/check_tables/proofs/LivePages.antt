-- What the test of the pages says.
use Rattle.std.specs.Prelude.{Some, None}
use Prim.Native.Nat.{ℕ, zero, suc, ◌+◌, ◌≤◌, ◌<◌}
use native.Mathlib.Omega.{arith}
use native.Mathlib.Decide.{dec_lt}
use mathlib.Core.Path.{◌≡◌, refl, ap, ◌∙◌}
use mathlib.Core.Logic.{by_cases}
use mathlib.Core.Bool.{Bool, true, false, cond}
use mathlib.Core.List.{List}
use borrow.Author.Tests.{lt-ltb, ltb-true, eq-eqb, eqb-true}
use lib.Dec.{ltb}
use Rattle.meaning.specs.Lists.{count, from, upto}
use Rattle.meaning.specs.Sketch.{in_range}
use Rattle.meaning.specs.Ledger.{Settings}
use Rattle.layout.specs.Pages.{is_live, class_of, signature_at, row_of}
use Rattle.layout.specs.Signature.{signature}
use Rattle.meaning.proofs.Lists.{and_first, and_second}
use Rattle.children.proofs.Tests.{passed}
use Rattle.check_tables.specs.Pages.{row_fits, page_fits, count_from, test_pages}

module _ (fits live : ℕ → Bool) where
  pub record Counted (n k a b : ℕ) : Type 0 where
    pub fit : (p : ℕ) → k ≤ p → p < k + n → fits p ≡ true
    pub total : b ≡ a + count live (from k n)

  pub count-right : (n k a b : ℕ) → count_from fits live n k a ≡ Some b → Counted n k a b
  unfolding count_from count from
  count-right zero k a b e = record { fit = λ p l m. absurd (omega arith); total = let z : a ≡ b = cc in omega arith }
  count-right (suc n) k a b e =
      let t = passed None (Some b) (λ z. let o : ◌≡◌ {A = ℕ} 0 1 = cc in omega arith) (fits k) _ e in
      let r = count-right n (suc k) (a + cond (live k) 1 0) b t.1 in record {
        fit = λ p l m. by_cases (dec_lt k p) (λ d. r.fit p (omega arith) (omega arith)) (λ d. let same : p ≡ k = omega arith in rw same t.0);
        total = omega (arith, r.total);
      }

  pub count-whole : (n k a : ℕ) → ((p : ℕ) → k ≤ p → p < k + n → fits p ≡ true) → count_from fits live n k a ≡ Some (a + count live (from k n))
  unfolding count_from count from
  count-whole zero k a h = ap Some (omega arith)
  count-whole (suc n) k a h =
      rw (h k (omega arith) (omega arith))
      (count-whole n (suc k) (a + cond (live k) 1 0) (λ p l m. h p (omega arith) (omega arith)) ∙ ap Some (omega arith))

-- a live page that fits
module _ (s : Settings) (P S : List ℕ) (p : ℕ) where
  abbrev x : List ℕ
  x = row_of s.symbols S p

  pub record Fits : Type 0 where
    pub class : class_of P p < 64
    pub symbols : in_range s.bits x ≡ true
    pub signature : signature_at P s.pages p ≡ signature s.bits x

  pub fits-live : page_fits s P S p ≡ true → is_live P p ≡ true → Fits
  unfolding page_fits
  fits-live h live =
      let t = rw live at h in
      let r = and_second (ltb (class_of P p) 64) (row_fits s P p x) t in
      record {
        class = ltb-true (class_of P p) 64 (and_first (ltb (class_of P p) 64) (row_fits s P p x) t);
        symbols = and_first (in_range s.bits x) _ r;
        signature = eqb-true (signature_at P s.pages p) (signature s.bits x) (and_second (in_range s.bits x) _ r);
      }

  pub live-fits : (is_live P p ≡ true → Fits) → page_fits s P S p ≡ true
  unfolding page_fits
  live-fits h = go (is_live P p) refl
    where
      go : (t : Bool) → is_live P p ≡ t → page_fits s P S p ≡ true
      go false e = rw e refl
      go true e = let f = h e in rw (e, lt-ltb (class_of P p) 64 f.class, f.symbols, eq-eqb (signature_at P s.pages p) (signature s.bits x) f.signature) refl

module _ (s : Settings) (P S : List ℕ) where
  pub pages-right : (live : ℕ) → test_pages s P S ≡ Some live → Counted (page_fits s P S) (is_live P) s.pages 0 0 live
  unfolding test_pages
  pages-right live e = count-right (page_fits s P S) (is_live P) s.pages 0 0 live e

  pub pages-whole : ((p : ℕ) → p < s.pages → is_live P p ≡ true → Fits s P S p) → test_pages s P S ≡ Some (count (is_live P) (upto s.pages))
  unfolding test_pages upto
  pages-whole h =
      count-whole (page_fits s P S) (is_live P) s.pages 0 0 (λ p l m. live-fits s P S p (h p (omega arith))) ∙ ap Some (omega arith)
