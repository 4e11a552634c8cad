-- What meeting pages leaves in the maps, whatever the order in which they are met; and what it asks of the tables.
use Rattle.std.specs.Prelude.{ℕ, ◌+◌, ◌*◌, ◌<◌, ◌≤◌, ◌≡◌, Bool, ◌&&◌, ◌||◌, List, eqb, length, get_or, drop, Option, Some, None}
use Rattle.meaning.specs.Lists.{any}
use Rattle.words.specs.Bits.{flag}
use Rattle.marks.specs.Marks.{summary_of, Summarised, list_of, Counts}
use Rattle.hits.specs.Hit.{Test, far, passes}
use Rattle.meeting.specs.declared.Chain.{Chain}
use Rattle.meeting.specs.declared.Tally.{Tally}
use Rattle.meeting.specs.Meets.{Meets, met, broken, chain}

-- what lies behind both maps stays
pub record Kept (words : ℕ) (before after : List ℕ) : Type 0 where
  pub long : length after ≡ length before
  pub behind : drop (words + summary_of words) after ≡ drop (words + summary_of words) before

-- of the pages ps those that are hits are marked, beside those marked before
pub record Met (hit : ℕ → Bool) (words : ℕ) (before ps after : List ℕ) : Type 0 where
  pub kept : Kept words before after
  pub flags : (k : ℕ) → k < words * 32 → flag after 0 k ≡ flag before 0 k || (any (eqb k) ps && hit k)
  pub summarised : Summarised before words → Summarised after words

-- the marked pages counted, all together and by distance
pub record Tallied (t : Test) (words : ℕ) (map counts : List ℕ) (n : ℕ) : Type 0 where
  pub all : n ≡ length (list_of map words)
  pub each : Counts (far t) map words counts

-- the answer to chains whose pages are m, the maps before and after, and the counts then
pub record Meeting (t : Test) (words : ℕ) (m : Meets) (before after counts : List ℕ) (r : Option Tally) : Type 0 where
  pub kept : Kept words before after
  pub some : (n : Tally) → r ≡ Some n → (ps : List ℕ) × (m ≡ met ps n.left) × Met (passes t) words before ps after × Tallied t words after counts n.count
  pub none : r ≡ None → m ≡ broken

-- the first n of 16 chains: their links lie in a table of so many words
pub record Inside (cap long : ℕ) (cs : List Chain) (n : ℕ) : Type 0 where
  pub all : length cs ≡ 16
  pub few : n ≤ 16
  pub each : (j : ℕ) → j < n → (get_or cs j (chain 0 0)).base + cap ≤ long
