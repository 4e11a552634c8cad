-- An entry is current exactly where its two words are those of the set from the records.
use Prim.Native.Nat.{ℕ, ◌+◌, ◌%◌, ◌^◌, ◌<◌}
use native.Mathlib.Omega.{arith}
use mathlib.Core.Path.{◌≡◌, refl, sym, ap, ◌∙◌}
use mathlib.Core.Bool.{Bool, true, false, ◌&&◌}
use mathlib.Core.List.{List}
use lib.Dec.{eqb}
use borrow.Author.Tests.{lt-ltb, le-ltb, eqb-true, eqb-false}
use Rattle.meaning.proofs.Lists.{not_so}
use Rattle.words.specs.Bits.{bit}
use Rattle.words.proofs.Bits.{same_word}
use Rattle.rights.specs.declared.Classes.{Classes}
use Rattle.rights.specs.Open.{is_open, open_classes, entry_of}
use Rattle.rights.specs.Entries.{is_current}
use Rattle.rights.proofs.Open.{open-recorded, is-open-opens}
use Rattle.rights.proofs.Kept.{current-class, entry-current}

-- ---- a set of classes is its two words

open-low : (k : Classes) (i : ℕ) → i < 32 → is_open k i ≡ bit k.low i
unfolding is_open
open-low k i h =
    let m : i % 32 ≡ i = omega arith in
    rw (lt-ltb i 64 (omega arith), lt-ltb i 32 h, m)

open-high : (k : Classes) (i : ℕ) → i < 32 → is_open k (32 + i) ≡ bit k.high i
unfolding is_open
open-high k i h =
    let m : (32 + i) % 32 ≡ i = omega arith in
    rw (lt-ltb (32 + i) 64 (omega arith), le-ltb (32 + i) 32 (omega arith), m)

abbrev Words : Classes → Type 0
Words k = (k.low < 2 ^ 32) × (k.high < 2 ^ 32)

same-classes : (j k : Classes) → Words j → Words k → ((c : ℕ) → c < 64 → is_open j c ≡ is_open k c) → (j.low ≡ k.low) × (j.high ≡ k.high)
same-classes j k a b same = (
  same_word 32 j.low k.low a.0 b.0 (λ i h. sym (open-low j i h) ∙ same i (omega arith) ∙ open-low k i h),
  same_word 32 j.high k.high a.1 b.1 (λ i h. sym (open-high j i h) ∙ same (32 + i) (omega arith) ∙ open-high k i h),
)

-- ---- the test of an entry

module _ (ws : List ℕ) (r : ℕ) (a : Words (entry_of ws r)) (b : Words (open_classes ws r)) where
  abbrev j : Classes
  j = entry_of ws r

  abbrev k : Classes
  k = open_classes ws r

  equal-current : j.low ≡ k.low → j.high ≡ k.high → is_current ws r ≡ true
  equal-current e f = entry-current ws r (λ c hc. sym (is-open-opens ws r c) ∙ ap (λ (s : Classes). is_open s c) (λ i. record { low = e i; high = f i }) ∙ open-recorded ws r c hc)

  current-equal : is_current ws r ≡ true → (j.low ≡ k.low) × (j.high ≡ k.high)
  current-equal e = same-classes j k a b (λ c hc. is-open-opens ws r c ∙ current-class ws r e c hc ∙ sym (open-recorded ws r c hc))

  pub words-current : eqb j.low k.low && eqb j.high k.high ≡ is_current ws r
  words-current = go (eqb j.low k.low) refl (eqb j.high k.high) refl
    where
      go : (s : Bool) → eqb j.low k.low ≡ s → (t : Bool) → eqb j.high k.high ≡ t → s && t ≡ is_current ws r
      go true e true f = sym (equal-current (eqb-true j.low k.low e) (eqb-true j.high k.high f))
      go true e false f = sym (not_so (is_current ws r) (λ c. eqb-false j.high k.high f (current-equal c).1))
      go false e t f = sym (not_so (is_current ws r) (λ c. eqb-false j.low k.low e (current-equal c).0))
