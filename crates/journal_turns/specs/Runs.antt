-- A run of the program over a journal: turns, as long as it goes on.
use Rattle.std.specs.Prelude.{ℕ, ◌+◌, ◌*◌, ◌≤◌, ◌≡◌, Bool, true, false, not, List, [], ◌∷◌, ◌++◌, length}
use Rattle.meaning.specs.Output.{Output}
use Rattle.meaning.specs.Ledger.{Event, ledger}
use Rattle.meaning.specs.Forest.{forest}
use Rattle.layout.specs.Nodes.{node_words}
use Rattle.layout.specs.Settings.{settings_length}
use Rattle.promises.specs.Tables.{Tables}
use Rattle.history.specs.History.{event, History, Claim}
use Rattle.journal_answers.specs.Answers.{page_capacity, node_capacity, made}
use Rattle.journal_turns.specs.Turns.{State, state, Turned, ends, refuses, carries}

-- the call that a turn made, for the ledger: none at the end, and none where 1 to 3 refuse
abbrev pub events : {bytes : List ℕ} {s : State} {line : List ℕ} {going : Bool} {s' : State} → Turned bytes s line going s' → List Event
events (ends e h) = []
events (refuses n e h) = []
events {s = s} (carries c to a e h) = event (made s.found c) a.number ∷ []

-- from tables and two lists of searches, whatever they hold: the calls made, the last one first, all that was written, whether it goes
-- on, and where it stands
pub data Run (bytes : List ℕ) (T : Tables) (found : Output) : List Event → List ℕ → Bool → State → Type 0 where
  begins : Run bytes T found [] [] true (state T found 0 0)
  turns : {es : List Event} {written : List ℕ} {s : State} → Run bytes T found es written true s
      → (line : List ℕ) (going : Bool) (s' : State) (t : Turned bytes s line going s') → Run bytes T found (events t ++ es) (written ++ line) going s'

-- the first call was accepted
unfoldable pub opened : List Event → Bool
opened [] = false
opened (e ∷ []) = not e.refused
opened (e ∷ (e' ∷ es)) = opened (e' ∷ es)

-- the lengths of the program's tables, which suffice for its capacities and any settings: at most 8 blocks, at most 64 symbols
abbrev pub nodes_lent : ℕ
nodes_lent = node_words node_capacity

abbrev pub pages_lent : ℕ
pages_lent = (2 + 8) * page_capacity

abbrev pub sketches_lent : ℕ
sketches_lent = 64 * page_capacity

abbrev pub working_lent : ℕ
working_lent = 17

-- tables as long as the program's
pub record Roomy (T : Tables) : Type 0 where
  pub settings : settings_length ≤ length T.settings
  pub nodes : nodes_lent ≤ length T.nodes
  pub pages : pages_lent ≤ length T.pages
  pub sketches : sketches_lent ≤ length T.sketches
  pub working : working_lent ≤ length T.working

-- some run has come to stand there
pub record Ran (bytes : List ℕ) (T : Tables) (found : Output) (going : Bool) (s : State) : Type 0 where
  pub calls : List Event
  pub written : List ℕ
  pub run : Run bytes T found calls written going s

-- some run has ended at this offset
pub record Ended (bytes : List ℕ) (T : Tables) (found : Output) (T' : Tables) (found' : Output) (at : ℕ) : Type 0 where
  pub symbols : ℕ
  pub ran : Ran bytes T found false (state T' found' at symbols)

-- some run of the program has ended at this offset: from tables as long as the program's, whatever they hold
pub record Completed (bytes : List ℕ) (at : ℕ) : Type 0 where
  pub before : Tables
  pub after : Tables
  pub found : Output
  pub found' : Output
  pub roomy : Roomy before
  -- each list has a place for every page, so that no search of it gives 13
  pub places : (page_capacity ≤ length found.pages) × (page_capacity ≤ length found.distances)
  pub ended : Ended bytes before found after found' at
  -- where its I was accepted it is a history of these calls, and the claim about histories holds of the tables that it leaves
  pub history : opened ended.ran.calls ≡ true → History ended.ran.calls after
  pub claim : opened ended.ran.calls ≡ true → Claim after (ledger ended.ran.calls) (forest ended.ran.calls)
  -- and with two calls or more it was
  pub further : 2 ≤ length ended.ran.calls → opened ended.ran.calls ≡ true
