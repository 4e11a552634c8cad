-- The run of a journal whose I is accepted is a history of the calls that its commands make, and the theorem about histories holds of it.
use Prim.Native.Nat.{ℕ, ◌≤◌}
use mathlib.Core.Path.{◌≡◌, refl, sym, ap, subst, ◌∙◌}
use mathlib.Core.Bool.{Bool, true, false, not, false≢true}
use mathlib.Core.List.{List, [], ◌∷◌}
use mathlib.Core.Logic.{◌⊎◌, inl, inr}
use native.Mathlib.Omega.{arith}
use lib.Dec.{eqb}
use lib.ListN.{length}
use borrow.Author.Tests.{eqb-true}
use Rattle.meaning.specs.Output.{Output}
use Rattle.meaning.specs.Ledger.{Event, ledger}
use Rattle.meaning.specs.Forest.{forest}
use Rattle.meaning.specs.Journal.{Command, opens, byte_at, word_at, next, command-to}
use Rattle.promises.specs.Tables.{Tables}
use Rattle.promises.specs.Relation.{Answer, Promised}
use Rattle.history.specs.History.{History, event, Claim}
use Rattle.history.proofs.Main.{theorem}
use Rattle.journal_answers.specs.Answers.{page_capacity, made}
use Rattle.journal_turns.specs.Turns.{State, state, goes_on, Carried, ends, refuses, carries}
use Rattle.journal_turns.specs.Runs.{Run, begins, turns, opened, Roomy, Ended, Completed}
use Rattle.journal_turns.proofs.Reading.{first-opens}
use Rattle.journal_turns.proofs.Fits.{opens-or-4}
use Rattle.journal_turns.proofs.Turns.{turn-none, turn-called, turn-begun}

none : List Event → Bool
none [] = true
none (e ∷ es) = false

not-not : (q : Bool) → not (not q) ≡ true → q ≡ true
not-not true h = refl
not-not false h = absurd (false≢true h)

-- the command at the beginning, from tables of any contents
at-start : (bytes : List ℕ) (s : State) (c : Command) (to : ℕ) → next s.symbols bytes s.at ≡ command-to c to → s.at ≡ 0
    → c ≡ opens (byte_at bytes 1) (byte_at bytes 2) (byte_at bytes 3) (word_at bytes 4)
at-start bytes s c to e z = first-opens s.symbols bytes c to (subst (λ (k : ℕ). next s.symbols bytes k ≡ command-to c to) z e)

-- it is an accepted I
began : (bytes : List ℕ) (found : Output) (T T' : Tables) (c : Command) (a : Answer) → c ≡ opens (byte_at bytes 1) (byte_at bytes 2) (byte_at bytes 3) (word_at bytes 4)
    → Promised (made found c) T a T' → a.number ≡ 0 → History (event (made found c) a.number ∷ []) T'
began bytes found T T' c a i p z =
    rw i (turn-begun found (byte_at bytes 1) (byte_at bytes 2) (byte_at bytes 3) (word_at bytes 4) T a T' (rw (← i) p) z)

module _ (bytes : List ℕ) where
  -- a further call
  goes_on_lem : (es : List Event) (s : State) (c : Command) (to : ℕ) (a : Answer) {line : List ℕ} {going : Bool} {s' : State}
      → next s.symbols bytes s.at ≡ command-to c to → Carried s c to a line going s'
      → (none es ≡ true → s.at ≡ 0) → (opened es ≡ true → History es s.tables)
      → opened (event (made s.found c) a.number ∷ es) ≡ true → History (event (made s.found c) a.number ∷ es) s'.tables
  unfolding opened none
  goes_on_lem [] s c to a {s' = s'} e h start before o =
      began bytes s.found s.tables s'.tables c a (at-start bytes s c to e (start refl)) h.promised
      (eqb-true a.number 0 (not-not (eqb a.number 0) o))
  goes_on_lem (x ∷ es) s c to a e h start before o = turn-called c to a (before o) h

module _ {bytes : List ℕ} {T : Tables} {found : Output} where
  -- while no call was made, it stands where it began
  not-begun : {es : List Event} {written : List ℕ} {going : Bool} {s : State} → Run bytes T found es written going s → going ≡ true → none es ≡ true
      → s ≡ state T found 0 0
  unfolding none
  not-begun begins g n = refl
  not-begun (turns r line going s' (ends e h)) g n = absurd (false≢true (sym h.stops ∙ g))
  not-begun (turns r line going s' (refuses k e h)) g n = absurd (false≢true (sym h.stops ∙ g))
  not-begun (turns r line going s' (carries c to a e h)) g n = absurd (false≢true n)

  pub is-history : {es : List Event} {written : List ℕ} {going : Bool} {s : State} → Run bytes T found es written going s → opened es ≡ true → History es s.tables
  unfolding opened
  is-history begins o = absurd (false≢true o)
  is-history (turns r line going s' (ends e h)) o = rw (turn-none h) (is-history r o)
  is-history (turns r line going s' (refuses n e h)) o = rw (turn-none h) (is-history r o)
  is-history (turns {es} {written} {s} r line going s' (carries c to a e h)) o = goes_on_lem bytes es s c to a e h (λ n. ap (λ (x : State). x.at) (not-begun r refl n)) (λ b. is-history r b) o

  -- every further call, and every search put to the tables that the run has left, answers by the ledger of its commands
  pub run-claim : {es : List Event} {written : List ℕ} {going : Bool} {s : State} → Run bytes T found es written going s → opened es ≡ true
      → Claim s.tables (ledger es) (forest es)
  run-claim r o = theorem (is-history r o)

-- ---- with tables as long as the program's

-- an I that does not stop the run was accepted
went_on : (found : Output) (c : Command) (n : ℕ) → (n ≡ 0) ⊎ (n ≡ 4) → goes_on n ≡ true → opened (event (made found c) n ∷ []) ≡ true
unfolding opened goes_on
went_on found c n (inl e) g = rw e refl
went_on found c n (inr e) g = absurd (false≢true (rw e at g))

first-number : (bytes : List ℕ) (found : Output) (T T' : Tables) → Roomy T → (c : Command) (a : Answer)
    → c ≡ opens (byte_at bytes 1) (byte_at bytes 2) (byte_at bytes 3) (word_at bytes 4) → Promised (made found c) T a T' → (a.number ≡ 0) ⊎ (a.number ≡ 4)
first-number bytes found T T' long c a i p =
    opens-or-4 T long (byte_at bytes 1) (byte_at bytes 2) (byte_at bytes 3) (word_at bytes 4) found a T' (rw (← i) p)

module _ (bytes : List ℕ) where
  further : (es : List Event) (s : State) (c : Command) (to : ℕ) (a : Answer) {line : List ℕ} {going : Bool} {s' : State}
      → next s.symbols bytes s.at ≡ command-to c to → Carried s c to a line going s' → going ≡ true
      → (none es ≡ true → (s.at ≡ 0) × Roomy s.tables) → (none es ≡ false → opened es ≡ true)
      → opened (event (made s.found c) a.number ∷ es) ≡ true
  unfolding opened none
  further [] s c to a {s' = s'} e h g start before =
      went_on s.found c a.number
      (first-number bytes s.found s.tables s'.tables (start refl).1 c a (at-start bytes s c to e (start refl).0) h.promised)
      (sym h.goes ∙ g)
  further (x ∷ es) s c to a e h g start before = before refl

standing : {s : State} (T : Tables) (found : Output) → Roomy T → s ≡ state T found 0 0 → (s.at ≡ 0) × Roomy s.tables
standing T found long i = (ap (λ (x : State). x.at) i, subst (λ (x : State). Roomy x.tables) (sym i) long)

module _ {bytes : List ℕ} {T : Tables} {found : Output} (long : Roomy T) where
  -- while it goes on, its first call was accepted
  going-opened : {es : List Event} {written : List ℕ} {going : Bool} {s : State} → Run bytes T found es written going s → going ≡ true → none es ≡ false
      → opened es ≡ true
  unfolding none
  going-opened begins g n = absurd (false≢true (sym n))
  going-opened (turns r line going s' (ends e h)) g n = absurd (false≢true (sym h.stops ∙ g))
  going-opened (turns r line going s' (refuses k e h)) g n = absurd (false≢true (sym h.stops ∙ g))
  going-opened (turns {es} {written} {s} r line going s' (carries c to a e h)) g n = further bytes es s c to a e h g (λ n. standing T found long (not-begun r refl n)) (λ n. going-opened r refl n)

  -- a run that has made two calls: its I was accepted
  pub two-opened : {es : List Event} {written : List ℕ} {going : Bool} {s : State} → Run bytes T found es written going s → 2 ≤ length es → opened es ≡ true
  unfolding opened none
  two-opened begins l = absurd (omega arith)
  two-opened (turns r line going s' (ends e h)) l = two-opened r l
  two-opened (turns r line going s' (refuses n e h)) l = two-opened r l
  two-opened (turns {es = []} r line going s' (carries c to a e h)) l = absurd (omega arith)
  two-opened (turns {es = x ∷ es} r line going s' (carries c to a e h)) l = going-opened r refl refl

  pub completes : {T' : Tables} {found' : Output} {at : ℕ} → (page_capacity ≤ length found.pages) × (page_capacity ≤ length found.distances)
      → Ended bytes T found T' found' at → Completed bytes at
  completes {T'} {found'} l e = record {
    before = T;
    after = T';
    found = found;
    found' = found';
    roomy = long;
    places = l;
    ended = e;
    history = is-history e.ran.run;
    claim = run-claim e.ran.run;
    further = two-opened e.ran.run;
  }
