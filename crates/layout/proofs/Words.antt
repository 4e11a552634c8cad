-- The words of the page table: page words, signatures and links, and what a store to one leaves of the others.
use Prim.Native.Nat.{ℕ, ◌+◌, ◌-◌, ◌*◌, ◌≤◌, ◌<◌}
use native.Mathlib.Omega.{arith}
use native.Mathlib.Nat.{zero-mul, one-mul, zero-add, mul-le-mul_right, le-add_right}
use mathlib.Core.Path.{◌≡◌, sym, ap, ◌∙◌}
use mathlib.Core.Bool.{true, false}
use mathlib.Core.Logic.{◌≢◌}
use mathlib.Core.List.{List}
use borrow.Author.Tests.{lt-ltb}
use lib.Arith.{digits_lt}
use lib.Dec.{ltb}
use lib.ListN.{length, get_or, set, take, length-set}
use lib.Seq.{get_or-set_same, get_or-set_other, get_or-take}
use Rattle.meaning.specs.Ledger.{Settings}
use Rattle.layout.specs.Pages.{word_at, next_at, is_live, class_of, signature_at, with_page, without_page}
use Rattle.layout.specs.Lengths.{pages_length}

-- ---- where the words stand
pub word-inside : (s : Settings) {k p : ℕ} → k < 2 + s.blocks → p < s.pages → word_at s.pages k p < pages_length s
unfolding pages_length
word-inside s hk hp = digits_lt hk hp

pub page-inside : (s : Settings) {p : ℕ} → p < s.pages → p < pages_length s
page-inside s {p} h = rw (zero-mul, zero-add) at (word-inside s {k = 0} {p = p} (omega arith) h)

pub signature-inside : (s : Settings) {p : ℕ} → p < s.pages → s.pages + p < pages_length s
signature-inside s {p} h = rw one-mul at (word-inside s {k = 1} {p = p} (omega arith) h)

-- ---- a page is live, and has its class, by its page word
module _ (pages others : List ℕ) (p r : ℕ) (same : get_or pages p 0 ≡ get_or others r 0) where
  live_same : is_live pages p ≡ is_live others r
  unfolding is_live
  live_same = ap (λ w. ltb 0 w) same

  class_same : class_of pages p ≡ class_of others r
  unfolding class_of
  class_same = ap (λ (w : ℕ). w - 1) same

-- ---- page p written, or struck out
module _ (P : ℕ) (pages : List ℕ) (p : ℕ) (page : p < P) (long : P + p < length pages) where
  module _ (c s : ℕ) where
    word-written : get_or (with_page P pages p c s) p 0 ≡ 1 + c
    unfolding with_page
    word-written =
        get_or-set_other (set pages p (1 + c)) (P + p) p s 0 (omega arith) ∙ get_or-set_same pages p (1 + c) 0 (omega arith)

    pub live_written : is_live (with_page P pages p c s) p ≡ true
    unfolding is_live
    live_written = rw word-written (lt-ltb 0 (1 + c) (omega arith))

    pub class-written : class_of (with_page P pages p c s) p ≡ c
    unfolding class_of
    class-written = rw word-written (omega arith)

    pub signature-written : signature_at (with_page P pages p c s) P p ≡ s
    unfolding with_page signature_at
    signature-written = get_or-set_same (set pages p (1 + c)) (P + p) s 0 (simp length-set long)

    -- every other page
    module _ (r : ℕ) (h : r < P) (apart : r ≢ p) where
      word-written-other : get_or (with_page P pages p c s) r 0 ≡ get_or pages r 0
      unfolding with_page
      word-written-other =
          get_or-set_other (set pages p (1 + c)) (P + p) r s 0 (omega arith) ∙ get_or-set_other pages p r (1 + c) 0 apart

      pub live-written-other : is_live (with_page P pages p c s) r ≡ is_live pages r
      live-written-other = live_same (with_page P pages p c s) pages r r word-written-other

      pub class-written-other : class_of (with_page P pages p c s) r ≡ class_of pages r
      class-written-other = class_same (with_page P pages p c s) pages r r word-written-other

      pub signature-written-other : signature_at (with_page P pages p c s) P r ≡ signature_at pages P r
      unfolding with_page signature_at
      signature-written-other =
          get_or-set_other (set pages p (1 + c)) (P + p) (P + r) s 0 (omega arith)
          ∙ get_or-set_other pages p (P + r) (1 + c) 0 (omega arith)

    -- the links stand behind
    pub behind-written : (i : ℕ) → 2 * P ≤ i → get_or (with_page P pages p c s) i 0 ≡ get_or pages i 0
    unfolding with_page
    behind-written i h =
        get_or-set_other (set pages p (1 + c)) (P + p) i s 0 (omega arith) ∙ get_or-set_other pages p i (1 + c) 0 (omega arith)

  pub live-struck : is_live (without_page pages p) p ≡ false
  unfolding without_page is_live
  live-struck = rw (get_or-set_same pages p 0 0 (omega arith))

  module _ (r : ℕ) (h : r < P) where
    module _ (apart : r ≢ p) where
      word-struck-other : get_or (without_page pages p) r 0 ≡ get_or pages r 0
      unfolding without_page
      word-struck-other = get_or-set_other pages p r 0 0 apart

      pub live-struck-other : is_live (without_page pages p) r ≡ is_live pages r
      live-struck-other = live_same (without_page pages p) pages r r word-struck-other

      pub class-struck-other : class_of (without_page pages p) r ≡ class_of pages r
      class-struck-other = class_same (without_page pages p) pages r r word-struck-other

    pub signature-struck : signature_at (without_page pages p) P r ≡ signature_at pages P r
    unfolding without_page signature_at
    signature-struck = get_or-set_other pages p (P + r) 0 0 (omega arith)

-- ---- page words and signatures are the first 2 × P words; the links stand behind them
module _ (P : ℕ) (pages others : List ℕ) (same : take (2 * P) pages ≡ take (2 * P) others) where
  kept : (i : ℕ) → i < 2 * P → get_or pages i 0 ≡ get_or others i 0
  kept i h = sym (get_or-take (2 * P) pages i 0 h) ∙ ap (λ l. get_or l i 0) same ∙ get_or-take (2 * P) others i 0 h

  module _ (p : ℕ) (h : p < P) where
    pub live-kept : is_live pages p ≡ is_live others p
    live-kept = live_same pages others p p (kept p (omega arith))

    pub class-kept : class_of pages p ≡ class_of others p
    class-kept = class_same pages others p p (kept p (omega arith))

    pub signature-kept : signature_at pages P p ≡ signature_at others P p
    unfolding signature_at
    signature-kept = kept (P + p) (omega arith)

pub link-behind : (P j p : ℕ) → 2 * P ≤ next_at P j + p
link-behind P j p = omega (arith, mul-le-mul_right P (le-add_right 2 j))
