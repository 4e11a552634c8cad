-- Decimal digits; and a run of stores that is made of two.
use Prim.Native.Nat.{ℕ, zero, suc, ◌+◌, ◌/◌, ◌%◌, ◌^◌, ◌<◌, ◌≤◌}
use mathlib.Core.Path.{◌≡◌, refl, sym, ap, ap₂, ◌∙◌}
use mathlib.Core.Bool.{Bool, true, false, cond}
use mathlib.Core.List.{List, [], ◌∷◌, ◌++◌, append_assoc}
use native.Mathlib.Omega.{arith}
use lib.Dec.{ltb}
use lib.ListN.{length, set, take, drop, length-append, take-append-drop}
use lib.Seq.{sets, sets-eq}
use borrow.Author.Tests.{lt-ltb, le-ltb, ltb-true, ltb-false}
use Rattle.std.specs.Fmt.{decimal as text}
use Rattle.std.proofs.lemmas.Fmt.{AppendsLastDigit, decimal_from_appends, length-decimal-le, length-decimal-le_succ}
use Rattle.meaning.specs.Journal.{digits, decimal, field, fields}

-- the paper's digits are the library's
digits-append : AppendsLastDigit digits
unfolding digits
digits-append = record { one = λ k n h. rw (lt-ltb n 10 h) refl; more = λ k n h. rw (le-ltb n 10 h) refl }

pub same-decimal : (n : ℕ) → n < 2 ^ 32 → text n ≡ decimal n
unfolding decimal
same-decimal n h = sym (decimal_from_appends digits digits-append (suc n) n (omega arith) (omega (arith, length-decimal-le_succ n (omega arith))))

pub ten-digits : (n : ℕ) → n < 2 ^ 32 → length (decimal n) ≤ 10
ten-digits n h = omega (arith, ap length (same-decimal n h), length-decimal-le 10 n (omega arith) (omega arith) (omega arith))

-- ---- how many digits

-- any count of digits above the number gives the same
digits-enough : (f g n : ℕ) → n < f → n < g → digits f n ≡ digits g n
unfolding digits
digits-enough zero g n h k = absurd (omega arith)
digits-enough (suc f) zero n h k = absurd (omega arith)
digits-enough (suc f) (suc g) n h k = go (ltb n 10) refl (λ e. digits-enough f g (n / 10) (omega (arith, ltb-false n 10 e)) (omega (arith, ltb-false n 10 e)))
  where
    go : (t : Bool) → ltb n 10 ≡ t → (ltb n 10 ≡ false → digits f (n / 10) ≡ digits g (n / 10))
        → cond t ((48 + n) ∷ []) (digits f (n / 10) ++ ((48 + n % 10) ∷ [])) ≡ cond t ((48 + n) ∷ []) (digits g (n / 10) ++ ((48 + n % 10) ∷ []))
    go true e ih = refl
    go false e ih = ap (λ (ds : List ℕ). ds ++ ((48 + n % 10) ∷ [])) (ih e)

pub one-digit : (n : ℕ) → n < 10 → decimal n ≡ (48 + n) ∷ []
unfolding decimal digits
one-digit n h = rw (lt-ltb n 10 h)

pub more-digits : (n : ℕ) → 10 ≤ n → decimal n ≡ decimal (n / 10) ++ ((48 + n % 10) ∷ [])
unfolding decimal digits
more-digits n h = rw (le-ltb n 10 h) (ap (λ (ds : List ℕ). ds ++ ((48 + n % 10) ∷ [])) (digits-enough n (suc (n / 10)) (n / 10) (omega arith) (omega arith)))

pub one-long : (n : ℕ) → n < 10 → length (decimal n) ≡ 1
one-long n h = ap length (one-digit n h)

pub more-long : (n : ℕ) → 10 ≤ n → length (decimal n) ≡ length (decimal (n / 10)) + 1
more-long n h = ap length (more-digits n h) ∙ length-append (decimal (n / 10)) ((48 + n % 10) ∷ [])

pub some_digit : (n : ℕ) → 1 ≤ length (decimal n)
some_digit n = go (ltb n 10) refl
  where
    go : (t : Bool) → ltb n 10 ≡ t → 1 ≤ length (decimal n)
    go true e = omega (arith, one-long n (ltb-true n 10 e))
    go false e = omega (arith, more-long n (ltb-false n 10 e))

-- ---- stores

pub sets-append : (l : List ℕ) (at : ℕ) (xs ys : List ℕ) → sets l at (xs ++ ys) ≡ sets (sets l at xs) (at + length xs) ys
sets-append l at [] ys = ap (λ (k : ℕ). sets l k ys) (omega arith)
sets-append l at (x ∷ xs) ys = sets-append (set l at x) (suc at) xs ys ∙ ap (λ (k : ℕ). sets (sets (set l at x) (suc at) xs) k ys) (omega arith)

-- a number's text, written at an offset
pub number-stored : (l new : List ℕ) (at n r m k : ℕ) → n < 2 ^ 32 → at + length (decimal n) ≤ length l → r ≡ at → m ≡ n → k ≡ at + length (decimal n)
    → take r new ≡ take r l → drop r new ≡ text m ++ drop k l → new ≡ sets l at (decimal n)
number-stored l new at n r m k h fits here same long before behind =
    sym (take-append-drop r new)
    ∙ (ap₂ (λ (a b : List ℕ). a ++ b) before behind
    ∙ (ap (λ (i : ℕ). take i l ++ (text m ++ drop k l)) here
    ∙ (ap (λ (i : ℕ). take at l ++ (text i ++ drop k l)) same
    ∙ (ap (λ (i : ℕ). take at l ++ (text n ++ drop i l)) long
    ∙ (ap (λ (ds : List ℕ). take at l ++ (ds ++ drop (at + length (decimal n)) l)) (same-decimal n h)
    ∙ (sym (append_assoc (take at l) (decimal n) (drop (at + length (decimal n)) l)) ∙ sym (sets-eq (decimal n) l at fits)))))))

-- ---- fields

-- a field stored, the rest of the line still to come
pub field_first : (l : List ℕ) (at n : ℕ) (rest : List ℕ) {last : List ℕ} {to : ℕ} → last ≡ sets l at (field n) → to ≡ at + length (field n)
    → sets last to rest ≡ sets l at (field n ++ rest)
field_first l at n rest e f = ap₂ (λ (a : List ℕ) (b : ℕ). sets a b rest) e f ∙ sym (sets-append l at (field n) rest)

-- a field, and a number behind it
pub hit_first : (l : List ℕ) (at n : ℕ) (rest : List ℕ) {first last : List ℕ} {to : ℕ} → first ≡ sets l at (field n) → to ≡ at + length (field n)
    → last ≡ sets first to rest → last ≡ sets l at (field n ++ rest)
hit_first l at n rest e f g = g ∙ field_first l at n rest e f

-- two fields, and the rest of the line behind them
pub two_first : (l : List ℕ) (at m n : ℕ) (rest : List ℕ) {first second last : List ℕ} {to end : ℕ} → first ≡ sets l at (field m) → to ≡ at + length (field m)
    → second ≡ sets first to (field n) → end ≡ to + length (field n) → last ≡ sets second end rest → last ≡ sets l at (field m ++ (field n ++ rest))
two_first l at m n rest {first} {to = to} e f g h k = k ∙ (field_first first to n rest g h ∙ field_first l at m (field n ++ rest) e f)

pub field_stored : (l : List ℕ) (at n : ℕ) (ns : List ℕ) {last : List ℕ} {to : ℕ} → last ≡ sets l at (field n) → to ≡ at + length (field n)
    → sets last to (fields ns) ≡ sets l at (fields (n ∷ ns))
unfolding fields
field_stored l at n ns e f = field_first l at n (fields ns) e f

-- the last field and the end of the line
pub line_stored : (l : List ℕ) (at n : ℕ) {last : List ℕ} {to : ℕ} → last ≡ sets l at (field n) → to ≡ at + length (field n) → set last to 10 ≡ sets l at (fields (n ∷ []))
unfolding fields
line_stored l at n e f = field_stored l at n [] e f

-- two fields and the end of the line
pub two_stored : (l : List ℕ) (at m n : ℕ) {first second : List ℕ} {to end : ℕ} → first ≡ sets l at (field m) → to ≡ at + length (field m)
    → second ≡ sets first to (field n) → end ≡ to + length (field n) → set second end 10 ≡ sets l at (fields (m ∷ (n ∷ [])))
two_stored l at m n {first} {to = to} e f g h = line_stored first to n g h ∙ field_stored l at m (n ∷ []) e f

pub field_long : (n : ℕ) (rest : List ℕ) → length (field n ++ rest) ≡ length (field n) + length rest
field_long n rest = length-append (field n) rest

pub fields_long : (n : ℕ) (ns : List ℕ) → length (fields (n ∷ ns)) ≡ length (field n) + length (fields ns)
unfolding fields
fields_long n ns = field_long n (fields ns)

pub end_long : length (fields []) ≡ 1
unfolding fields
end_long = refl
