-- Histories exist: for every list of calls behind an accepted opening there is one with just these calls.
use Prim.Native.Nat.{ℕ}
use mathlib.Core.Path.{◌≡◌, refl, sym, ap, subst, ◌∙◌}
use mathlib.Core.Bool.{Bool, cond}
use mathlib.Core.List.{List, [], ◌∷◌, ◌++◌, map}
use lib.Dec.{eqb}
use Rattle.meaning.specs.Trie.{Tree}
use Rattle.meaning.specs.Rights.{Change}
use Rattle.meaning.specs.Ledger.{Settings, Event, Reading, Call, opening, add, drop, change, reading, ledger}
use Rattle.meaning.specs.Forest.{forest}
use Rattle.promises.specs.Tables.{Tables, settings_alone, with_settings}
use Rattle.rights.specs.Entries.{registered}
use Rattle.promises.specs.Answers.{number, opened}
use Rattle.promises.specs.Sound.{Sound}
use Rattle.promises.specs.Store.{Outcome, outcome, AddPromise, DropPromise}
use Rattle.promises.specs.Relation.{Answer, number_alone, to_store, with_opening, with_working, Promised}
use Rattle.promises.proofs.Readings.{law}
use Rattle.add_laws.specs.Add.{add_page}
use Rattle.add_laws.proofs.Adds.{add-promise}
use Rattle.drop_laws.specs.After.{drop_page}
use Rattle.drop_laws.proofs.Promise.{drop-promise}
use Rattle.history.specs.History.{event, History, begun, called, judged}
use Rattle.history.proofs.Main.{represents, theorem}

-- a call carried out
record Carried (c : Call) (T : Tables) : Type 0 where
  pub answer : Answer
  pub tables : Tables
  pub promised : Promised c T answer tables

-- ---- each call, as its promise has it
module _ (T : Tables) where
  opens : (s : Settings) → Carried (opening s) T
  opens s = record {
    answer = number_alone (number T [] (opening s));
    tables = with_opening T (cond t (opened s T).settings T.settings) (cond t (opened s T).nodes T.nodes) (cond t (opened s T).pages T.pages);
    promised = (record { answers = refl; settings-left = refl; nodes-left = refl; pages-left = refl }, refl);
  }
    where
      t : Bool
      t = eqb (number T [] (opening s)) 0

  changes : (c : Change) → Carried (change c) T
  changes c =
      let n : ℕ = number (settings_alone T.settings) [] (change c) in
      let ws : List ℕ = cond (eqb n 0) (registered c T.settings) T.settings in
      record { answer = number_alone n; tables = with_settings T ws; promised = (record { answers = refl; settings-left = refl }, refl) }

  -- an add by the model of its code
  adds : (p c : ℕ) (x : List ℕ) → Carried (add p c x) T
  adds p c x = go (add_page (to_store T) p c x) refl
    where
      go : (r : Outcome) → add_page (to_store T) p c x ≡ r → Carried (add p c x) T
      go (outcome n U) e =
          let h = (add-promise (to_store T) p c x n U (sym e)).0 in
          let same : U ≡ with_working U [] = λ i. with_working U (h.rest.working i) in
          record {
            answer = number_alone n;
            tables = with_working U T.working;
            promised = (subst (AddPromise (to_store T) p c x n) same h, refl);
          }

  -- a drop likewise
  drops : (p : ℕ) → Carried (drop p) T
  drops p = go (drop_page (to_store T) p) refl
    where
      go : (r : Outcome) → drop_page (to_store T) p ≡ r → Carried (drop p) T
      go (outcome n U) e =
          let h = (drop-promise (to_store T) p n U (sym e)).0 in
          let same : U ≡ with_working U [] = λ i. with_working U (h.rest.working i) in
          record {
            answer = number_alone n;
            tables = with_working U T.working;
            promised = (subst (DropPromise (to_store T) p n) same h, refl);
          }

  module _ (F : List Tree) (sound : Sound T F) where
    reads : (q : Reading) → Carried (reading q) T
    reads q =
        let k = (law q T).possible F sound in
        record { answer = k.answer; tables = with_working T k.working; promised = (k.reads, refl) }

    carried : (c : Call) → Carried c T
    carried (opening s) = opens s
    carried (add p c x) = adds p c x
    carried (drop p) = drops p
    carried (change c) = changes c
    carried (reading q) = reads q

module _ {es : List Event} {T : Tables} (h : History es T) (c : Call) where
  -- a history goes on with every call
  further : Carried c T
  further = carried T (forest es) (represents h).store c

  -- and that call is accepted where no question says no
  pub accepted : judged T (ledger es) (forest es) c ≡ 0 → (T' : Tables) × History (event c 0 ∷ es) T'
  accepted z =
      let k = further in
      let n : k.answer.number ≡ 0 = (theorem h).refusals c k.answer k.tables k.promised ∙ z in
      (k.tables, subst (λ (m : ℕ). History (event c m ∷ es) k.tables) n (called h c k.answer k.tables k.promised))

-- ---- a history of some calls, the last one first
pub record Of (cs : List Call) : Type 0 where
  pub events : List Event
  pub tables : Tables
  pub history : History events tables
  pub calls : map (λ e. e.call) events ≡ cs

module _ (s : Settings) (T₀ : Tables) (passes : number T₀ [] (opening s) ≡ 0) where
  -- an accepted opening
  pub begins : (T : Tables) × History (event (opening s) 0 ∷ []) T
  unfolding opens
  begins = let k = opens T₀ s in (k.tables, begun s T₀ k.answer k.tables k.promised passes)

  pub history-of : (cs : List Call) → Of (cs ++ opening s ∷ [])
  history-of [] = record { events = event (opening s) 0 ∷ []; tables = begins.0; history = begins.1; calls = refl }
  history-of (c ∷ cs) =
      let h = history-of cs in
      let k = further h.history c in
      record {
        events = event c k.answer.number ∷ h.events;
        tables = k.tables;
        history = called h.history c k.answer k.tables k.promised;
        calls = ap {B = List Call} (λ ds. c ∷ ds) h.calls;
      }
