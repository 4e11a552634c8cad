-- The word of the groups that are granted a class: its bits, and what a member's groups have in common with it.
use Prim.Native.Nat.{ℕ, zero, suc, ◌+◌, ◌*◌, ◌%◌, ◌^◌, ◌≤◌, ◌<◌}
use native.Mathlib.Omega.{arith}
use native.Mathlib.Numerals.{add-one}
use native.Mathlib.Decide.{ℕ_discrete}
use mathlib.Core.Path.{◌≡◌, refl, sym, ap, ◌∙◌}
use mathlib.Core.Bool.{Bool, true, false, cond, ◌&&◌, not}
use mathlib.Core.List.{List}
use lib.Dec.{eqb}
use lib.Bits.{bit_and, bit_or, and_le_l}
use lib.ListN.{get_or, take}
use borrow.Author.Tests.{eqb-true, eqb-false}
use Rattle.meaning.specs.Lists.{any, from, upto}
use Rattle.meaning.proofs.Lists.{any-upto, upto-none}
use Rattle.words.specs.Bits.{bit, with_bit}
use Rattle.words.proofs.Bits.{bit-zero, bit-and, bit-with-same, bit-with-other, zero_word, with-or}
use Rattle.words.proofs.Flags.{flag-bit}
use Rattle.words.proofs.Machine.{one_bit}
use Rattle.layout.specs.Settings.{members_at, entries_at}
use Rattle.rights.specs.Register.{is_member, is_granted, recorded}
use Rattle.rights.specs.Entries.{class_renewed}
use Rattle.rights.specs.Holders.{holders, member_renewed}
use Rattle.rights.proofs.Register.{word_same, flag_same}
use Rattle.rights.proofs.Renewed.{class-renewed}

-- ---- its bits

holder-above : (ws : List ℕ) (c n k : ℕ) → n ≤ k → bit (holders ws c n) k ≡ false
unfolding holders
holder-above ws c zero k l = bit-zero k
holder-above ws c (suc n) k l = go (holder-above ws c n k (omega arith)) (is_granted ws n c)
  where
    go : bit (holders ws c n) k ≡ false → (t : Bool) → bit (cond t (with_bit (holders ws c n) n true) (holders ws c n)) k ≡ false
    go e true = bit-with-other (holders ws c n) n true k (λ q. omega arith) ∙ e
    go e false = e

pub holder-bit : (ws : List ℕ) (c n g : ℕ) → g < n → bit (holders ws c n) g ≡ is_granted ws g c
unfolding holders
holder-bit ws c zero g h = absurd (omega arith)
holder-bit ws c (suc n) g h = go (λ l. holder-bit ws c n g l) (ℕ_discrete g n) (is_granted ws n c) refl
  where
    go : (g < n → bit (holders ws c n) g ≡ is_granted ws g c) → Dec (g ≡ n) → (t : Bool) → is_granted ws n c ≡ t
        → bit (cond t (with_bit (holders ws c n) n true) (holders ws c n)) g ≡ is_granted ws g c
    go before (yes e) true m = rw (e, m) (bit-with-same (holders ws c n) n true)
    go before (yes e) false m = rw (e, m) (holder-above ws c n n (omega arith))
    go before (no d) true m = bit-with-other (holders ws c n) n true g d ∙ before (omega arith)
    go before (no d) false m = before (omega arith)

-- one group more
module _ (ws : List ℕ) (c n : ℕ) where
  pub holder-more : n < 32 → is_granted ws n c ≡ true → bit_or (holders ws c n) (1 * 2 ^ n % 2 ^ 32) ≡ holders ws c (n + 1)
  unfolding holders
  holder-more h e = rw (add-one n, e, one_bit n h) (with-or (holders ws c n) n)

  pub holder-none : is_granted ws n c ≡ false → holders ws c n ≡ holders ws c (n + 1)
  unfolding holders
  holder-none e = rw (add-one n, e)

-- ---- what two words have in common

no-group : any (λ g. false) (upto 32) ≡ false
unfolding any upto from
no-group = refl

common-any : (w h : ℕ) → w < 2 ^ 32 → not (eqb (bit_and w h) 0) ≡ any (λ g. bit w g && bit h g) (upto 32)
common-any w h l = go (eqb (bit_and w h) 0) refl (any (λ g. bit w g && bit h g) (upto 32)) refl
  where
    go : (s : Bool) → eqb (bit_and w h) 0 ≡ s → (t : Bool) → any (λ g. bit w g && bit h g) (upto 32) ≡ t → not s ≡ t
    go true e t some =
        sym no-group
        ∙ sym (any-upto (λ g. bit w g && bit h g) (λ g. false) 32 (λ g k. sym (bit-and w h g) ∙ ap (λ (n : ℕ). bit n g) (eqb-true (bit_and w h) 0 e) ∙ bit-zero g))
        ∙ some
    go false e true some = refl
    go false e false none =
        absurd (eqb-false (bit_and w h) 0 e
        (zero_word 32 (bit_and w h) (omega (arith, and_le_l w h)) (λ k lk. bit-and w h k ∙ upto-none (λ g. bit w g && bit h g) 32 none k lk)))

-- a reader's groups have a holder of the class among them exactly where the records open it to him
pub held : (ws : List ℕ) (r c : ℕ) → get_or ws (members_at + r) 0 < 2 ^ 32
    → not (eqb (bit_and (get_or ws (members_at + r) 0) (holders ws c 32)) 0) ≡ recorded ws r c
unfolding recorded is_member
held ws r c l =
    common-any (get_or ws (members_at + r) 0) (holders ws c 32) l
    ∙ any-upto (λ g. bit (get_or ws (members_at + r) 0) g && bit (holders ws c 32) g) (λ g. is_member ws r g && is_granted ws g c) 32
    (λ g k. rw (flag-bit ws members_at r g k, holder-bit ws c 32 g k))

-- ---- one reader more

module _ (ws : List ℕ) (g c n : ℕ) (hg : g < 32) (hc : c < 64) (hn : n < 256) where
  abbrev X : List ℕ
  X = class_renewed ws g c n

  front : take entries_at X ≡ take entries_at ws
  front = (class-renewed ws g c hc n (omega arith)).front

  same_word : get_or X (members_at + n) 0 ≡ get_or ws (members_at + n) 0
  same_word = word_same entries_at ws X front (members_at + n) (omega arith)

  same-member : is_member X n g ≡ is_member ws n g
  unfolding is_member
  same-member = flag_same entries_at ws X front members_at (n * 32 + g) (omega arith)

  pub renewed-more : get_or ws (members_at + n) 0 < 2 ^ 32 → member_renewed X n g c (holders ws c 32) ≡ class_renewed ws g c (n + 1)
  unfolding member_renewed class_renewed
  renewed-more l = rw (add-one n, same-member, same_word, held ws n c l)
