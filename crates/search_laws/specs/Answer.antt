-- What a search answers once the blocks are walked, by the pages that it met.
use Rattle.std.specs.Prelude.{ℕ, ◌≡◌, Bool, ◌&&◌, List, eqb}
use Rattle.meaning.specs.Lists.{any, keep, upto}
use Rattle.meaning.specs.Output.{Output}
use Rattle.layout.specs.Header.{header_of}
use Rattle.promises.specs.Tables.{Tables, given}
use Rattle.promises.specs.Readings.{Lists, early_number}
use Rattle.hits.specs.Hit.{Test, test_of, far, passes}
use Rattle.meeting.specs.Meets.{Meets, met, broken}
use Rattle.traversal.specs.Meets.{meet_blocks}

-- the pages met that pass a test, of cap pages, rising
unfoldable pub passing : (ℕ → Bool) → ℕ → List ℕ → List ℕ
passing hit cap ps = keep (λ p. any (eqb p) ps && hit p) (upto cap)

-- by the test of a page: `before` and `after` are the two lists
pub record Answered (m : Meets) (t : Test) (before : Output) (n count : ℕ) (after : Output) : Type 0 where
  -- a walk stopped
  pub stopped : m ≡ broken → (n ≡ 14) × (count ≡ 0) × (after ≡ before)
  pub listed : (ps : List ℕ) (k : ℕ) → m ≡ met ps k → Lists (far t) t.radius (passing (passes t) t.header.pages ps) before n count after

-- ---- by the tables
module _ (T : Tables) (reader radius : ℕ) (x : List ℕ) where
  -- what the walks of the blocks lead to
  abbrev pub meets : Meets
  meets = meet_blocks (header_of (given T)) T.nodes T.pages x radius

  -- past 11, on any tables: 14 where a walk stopped, else the pages met that pass
  abbrev pub AnsweredBy : Output → ℕ → ℕ → Output → Type 0
  AnsweredBy before n count after = early_number T reader radius x ≡ 0 → Answered meets (test_of T reader radius x) before n count after
