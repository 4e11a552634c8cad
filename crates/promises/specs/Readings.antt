-- What search, show and check promise: readings, which change no table but the working table.
use Rattle.std.specs.Prelude.{ℕ, ◌*◌, ◌≡◌, Bool, true, false, cond, ◌&&◌, ◌≢◌, ◌⊎◌, List, [], leb, eqb, length, replicate}
use Rattle.meaning.specs.Lists.{keep, onto, upto}
use Rattle.meaning.specs.Output.{Output, output, has_room, listing, both_left}
use Rattle.meaning.specs.Refusal.{first_no}
use Rattle.meaning.specs.Trie.{Tree}
use Rattle.meaning.specs.Ledger.{Reading, search, show, check, reading}
use Rattle.layout.specs.Lengths.{working_length}
use Rattle.promises.specs.Tables.{Tables, given, page_row, page_distance, is_shown, scan}
use Rattle.promises.specs.Answers.{entered, number}
use Rattle.promises.specs.Sound.{Sound}

-- the working table afterwards: past 6 its needed part holds zeros only
unfoldable pub working_left : Tables → Reading → List ℕ
working_left T q = cond (eqb (first_no (entered T (reading q))) 0) (onto (replicate (working_length (given T)) 0) T.working) T.working

-- the pages that a search may list on any tables: marked live, open to the reader and within the radius of their rows, here rising;
-- `met` says which of them it met and measured
unfoldable pub listed_of : (ℕ → Bool) → Tables → ℕ → ℕ → List ℕ → List ℕ
listed_of met T reader radius x =
    keep (λ p. met p && (is_shown T reader p && leb (page_distance T x p) radius)) (upto (given T).pages)

-- the number, the count given and the two lists, by the pages found, here rising, and how far each is: the nearest page on top
pub record Lists (far : ℕ → ℕ) (radius : ℕ) (found : List ℕ) (before : Output) (n count : ℕ) (after : Output) : Type 0 where
  pub refusal : n ≡ cond (has_room (length found) before) 0 13
  pub counted : count ≡ length found
  pub output : after ≡ both_left n (listing (λ p. p) far radius found) before

-- 5, 6, 7, 10 and 11 are asked of any tables: 13 is left out by lists that are long enough
abbrev pub roomy : Tables → ℕ → ℕ → List ℕ → Output
roomy T reader radius x = output (scan T reader radius x) (scan T reader radius x)

abbrev pub early_number : Tables → ℕ → ℕ → List ℕ → ℕ
early_number T reader radius x = number T [] (reading (search reader radius x (roomy T reader radius x)))

pub record SearchPromise (T : Tables) (reader radius : ℕ) (x : List ℕ) (before : Output) (n count : ℕ) (after : Output) (working : List ℕ) : Type 0 where
  pub early : early_number T reader radius x ≢ 0 → n ≡ early_number T reader radius x
  pub sound : (F : List Tree) → Sound T F → early_number T reader radius x ≡ 0
      → Lists (page_distance T x) radius (scan T reader radius x) before n count after
  -- on unsound tables which pages it meets and measures is left open, and it may be refused by 14
  pub open-list : early_number T reader radius x ≡ 0
      → (n ≡ 14) ⊎ ((met : ℕ → Bool) × Lists (page_distance T x) radius (listed_of met T reader radius x) before n count after)
  pub refused : n ≢ 0 → n ≢ 13 → (count ≡ 0) × (after ≡ before)
  pub working-left : working ≡ working_left T (search reader radius x before)

-- ---- check

pub record CheckPromise (T : Tables) (n : ℕ) (yes : Bool) (working : List ℕ) : Type 0 where
  pub answers : n ≡ number T [] (reading check)
  -- refused, it says no
  pub refused : n ≢ 0 → yes ≡ false
  pub right : n ≡ 0 → yes ≡ true → (F : List Tree) × Sound T F
  pub whole : n ≡ 0 → (F : List Tree) → Sound T F → yes ≡ true
  pub working-left : working ≡ working_left T check

-- ---- show

-- a show, by where in the sketch table the part that it gives begins, and how long it is: the page's row, or no bytes at the table's start
unfoldable pub start_shown : Tables → ℕ → ℕ → ℕ
start_shown T reader p = cond (eqb (number T [] (reading (show reader p))) 0) (p * (given T).symbols) 0

unfoldable pub length_shown : Tables → ℕ → ℕ → ℕ
length_shown T reader p = cond (eqb (number T [] (reading (show reader p))) 0) (given T).symbols 0

-- and by what the part holds
unfoldable pub row_shown : Tables → ℕ → ℕ → List ℕ
row_shown T reader p = cond (eqb (number T [] (reading (show reader p))) 0) (page_row T p) []
