-- A turn is a step of a history, or none.
use Prim.Native.Nat.{ℕ, ◌<◌, ◌≤◌}
use mathlib.Core.Path.{◌≡◌, sym, ap, ◌∙◌}
use mathlib.Core.Bool.{Bool, true, false, cond, false≢true}
use mathlib.Core.List.{List, [], ◌∷◌}
use lib.ListN.{length}
use Rattle.meaning.specs.Output.{Output}
use Rattle.meaning.specs.Ledger.{Event}
use Rattle.meaning.specs.Journal.{Command, opens, call_of}
use Rattle.promises.specs.Tables.{Tables}
use Rattle.promises.specs.Relation.{Answer, Promised}
use Rattle.history.specs.History.{History, begun, called, event}
use Rattle.journal_answers.specs.Answers.{made}
use Rattle.journal_turns.specs.Turns.{State, goes_on, Stopped, Carried, Turned, ends, refuses, carries}
use Rattle.journal_turns.proofs.Reading.{moves-on}

-- at the end, and where 1 to 3 refuse, there is no call
pub turn-none : {s : State} {written line : List ℕ} {going : Bool} {s' : State} → Stopped s written line going s' → s'.tables ≡ s.tables
turn-none h = ap (λ (x : State). x.tables) h.stays

-- a command is the call that it makes
pub turn-called : {es : List Event} {s : State} (c : Command) (to : ℕ) (a : Answer) {line : List ℕ} {going : Bool} {s' : State}
    → History es s.tables → Carried s c to a line going s' → History (event (made s.found c) a.number ∷ es) s'.tables
turn-called {s = s} c to a {s' = s'} h k = called h (made s.found c) a s'.tables k.promised

-- an accepted I begins a history, whatever the tables held
pub turn-begun : (found : Output) (b m q t : ℕ) (T : Tables) (a : Answer) (T' : Tables) → Promised (made found (opens b m q t)) T a T' → a.number ≡ 0
    → History (event (made found (opens b m q t)) a.number ∷ []) T'
unfolding call_of
turn-begun found b m q t T a T' p e = rw e (begun _ T a T' p e)

-- ---- where it leaves the offset

inside_of : (g : Bool) (at to n : ℕ) → at ≤ n → to ≤ n → cond g to at ≤ n
inside_of true at to n h k = k
inside_of false at to n h k = h

pub turn_inside : {bytes : List ℕ} {s : State} {line : List ℕ} {going : Bool} {s' : State} → Turned bytes s line going s' → s.at ≤ length bytes → s'.at ≤ length bytes
turn_inside (ends e h) l = rw h.stays l
turn_inside (refuses n e h) l = rw h.stays l
turn_inside {bytes} {s} (carries c to a e h) l =
    rw h.reached (inside_of (goes_on a.number) s.at to (length bytes) l (moves-on s.symbols bytes s.at c to e).1)

-- where it goes on, it has moved on
pub turn_on : {bytes : List ℕ} {s : State} {line : List ℕ} {going : Bool} {s' : State} → Turned bytes s line going s' → going ≡ true → s.at < s'.at
turn_on (ends e h) g = absurd (false≢true (sym h.stops ∙ g))
turn_on (refuses n e h) g = absurd (false≢true (sym h.stops ∙ g))
turn_on {bytes} {s} (carries c to a e h) g =
    rw (h.reached, sym h.goes ∙ g) (moves-on s.symbols bytes s.at c to e).0
