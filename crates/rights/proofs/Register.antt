-- Laws of the register: what a written or struck flag changes, and what it leaves.
use mathlib.Core.Path.{◌≡◌, refl, sym, ap, ◌∙◌}
use mathlib.Core.Bool.{Bool, true, false, cond, ◌&&◌}
use mathlib.Core.List.{List}
use Prim.Native.Nat.{ℕ, ◌+◌, ◌*◌, ◌/◌, ◌%◌, ◌≤◌, ◌<◌}
use lib.Dec.{eqb}
use lib.Arith.{digits_div, digits_mod}
use lib.ListN.{length, get_or, take}
use lib.Seq.{get_or-take}
use borrow.Author.Tests.{le-ltb, eqb-true, eqb-false, eq-eqb, ne_eqb}
use Rattle.meaning.specs.Rights.{pair, same_pair}
use Rattle.words.specs.Bits.{flag, with_flag}
use Rattle.words.proofs.Flags.{flag-take, length-with, flag-with}
use Rattle.layout.specs.Settings.{members_at, grants_at}
use Rattle.rights.specs.Register.{with_member, with_grant, opens}

-- ---- a word, and a flag, in another table with the same beginning

pub word_same : (m : ℕ) (ws ws' : List ℕ) → take m ws' ≡ take m ws → (i : ℕ) → i < m → get_or ws' i 0 ≡ get_or ws i 0
word_same m ws ws' e i h = sym (get_or-take m ws' i 0 h) ∙ ap (λ (l : List ℕ). get_or l i 0) e ∙ get_or-take m ws i 0 h

pub flag_same : (m : ℕ) (ws ws' : List ℕ) → take m ws' ≡ take m ws → (base n : ℕ) → base + n / 32 < m → flag ws' base n ≡ flag ws base n
flag_same m ws ws' e base n h = sym (flag-take m ws' base n h) ∙ ap (λ (l : List ℕ). flag l base n) e ∙ flag-take m ws base n h

-- ---- a flag by its row and its place in the row, w places a row

-- two flags are the same where their pairs are
number-pair : (w a b a' b' : ℕ) → b < w → b' < w → eqb (a * w + b) (a' * w + b') ≡ same_pair (pair a b) (pair a' b')
unfolding same_pair
number-pair w a b a' b' h h' = go (eqb a a') refl (eqb b b') refl
  where
    go : (s : Bool) → eqb a a' ≡ s → (t : Bool) → eqb b b' ≡ t → eqb (a * w + b) (a' * w + b') ≡ s && t
    go true e true d = eq-eqb (a * w + b) (a' * w + b') (rw (eqb-true a a' e, eqb-true b b' d))
    go true e false d = ne_eqb (a * w + b) (a' * w + b') (λ q. eqb-false b b' d (sym (digits_mod a h) ∙ ap (λ (n : ℕ). n % w) q ∙ digits_mod a' h'))
    go false e t d = ne_eqb (a * w + b) (a' * w + b') (λ q. eqb-false a a' e (sym (digits_div a h) ∙ ap (λ (n : ℕ). n / w) q ∙ digits_div a' h'))

-- after a write
pub flag-put : (ws : List ℕ) (base w a b : ℕ) (v : Bool) (c d : ℕ) → b < w → d < w → base + (a * w + b) / 32 < length ws
    → flag (with_flag ws base (a * w + b) v) base (c * w + d) ≡ cond (same_pair (pair c d) (pair a b)) v (flag ws base (c * w + d))
flag-put ws base w a b v c d h h' l = flag-with ws base (a * w + b) v l (c * w + d) ∙ rw (number-pair w c d a b h' h)

-- ---- a record written or struck

pub member-length : (ws : List ℕ) (r g : ℕ) (v : Bool) → length (with_member ws r g v) ≡ length ws
member-length ws r g v = length-with ws members_at (r * 32 + g) v

pub grant-length : (ws : List ℕ) (g c : ℕ) (v : Bool) → length (with_grant ws g c v) ≡ length ws
grant-length ws g c v = length-with ws grants_at (g * 64 + c) v

-- ---- the classes that are open

-- a class above 63 is open to no one
pub opens-above : (ws : List ℕ) (r c : ℕ) → 64 ≤ c → opens ws r c ≡ false
unfolding opens
opens-above ws r c h = rw (le-ltb c 64 h)
