-- Each call keeps the invariant: afterwards the tables show the ledger after its step, and the store is sound with the tries after it.
use Prim.Native.Nat.{ℕ}
use native.Mathlib.Omega.{arith}
use mathlib.Core.Path.{◌≡◌, refl, sym, ap, ◌∙◌}
use mathlib.Core.Bool.{Bool, true, false, cond, not}
use mathlib.Core.Logic.{◌≢◌}
use mathlib.Core.List.{List, []}
use lib.Dec.{eqb}
use lib.ListN.{length, replicate, length-replicate}
use borrow.Author.Tests.{eqb-true, eqb-false, eq-eqb, ne_eqb, not-true}
use Rattle.meaning.specs.Lists.{all}
use Rattle.meaning.specs.Refusal.{Question, first_no}
use Rattle.meaning.specs.Trie.{Tree, fresh}
use Rattle.meaning.specs.Rights.{Change, change_in_range}
use Rattle.meaning.specs.Ledger.{Settings, Ledger, Reading, Call, opening, add, drop, change, reading, accept, step}
use Rattle.meaning.specs.Forest.{forest_after}
use Rattle.meaning.specs.Questions.{asked, by_ledger}
use Rattle.meaning.proofs.Lists.{length-onto}
use Rattle.layout.specs.Lengths.{working_length}
use Rattle.promises.specs.Tables.{Tables, takes_of, with_settings, page_class, page_row, rows_of}
use Rattle.rights.specs.Entries.{registered}
use Rattle.rights.proofs.Rest.{beside-free}
use Rattle.promises.specs.Answers.{entered}
use Rattle.promises.specs.Sound.{Sound}
use Rattle.promises.specs.Readings.{working_left}
use Rattle.promises.specs.Relation.{Answer, to_store, with_working, Promised}
use Rattle.promises.proofs.Numbers.{number_in}
use Rattle.promises.proofs.Readings.{working_after, law}
use Rattle.history.specs.History.{event, admitted, judged, zeroed}
use Rattle.history.proofs.Lists.{passed}
use Rattle.history.proofs.Represents.{Represents, given_eq, long-working, past-6}
use Rattle.history.proofs.Opening.{started, entered-4-5, left_by}
use Rattle.history.proofs.Steps.{registered-as, changes, works, drops, adds}
use Rattle.history.proofs.FreshStore.{fresh-store}
use Rattle.history.proofs.Store.{sound-others, sound-working, sound_back}
use Rattle.history.proofs.Numbers.{Shows, numbers}

-- the tries after a call that gave this number
abbrev pub tries_after : Ledger → Call → ℕ → List Tree → List Tree
tries_after L c n F = cond (not (eqb n 0)) F (forest_after L.settings L.rows c F)

-- accepted or refused
stepped : (T' : Tables) (L : Ledger) (F : List Tree) (c : Call) (n : ℕ) → (n ≡ 0 → Shows T' (accept c L) (forest_after L.settings L.rows c F))
    → (n ≢ 0 → Shows T' L F) → Shows T' (step (event c n) L) (tries_after L c n F)
unfolding step
stepped T' L F c n done still = go (eqb n 0) refl
  where
    go : (t : Bool) → eqb n 0 ≡ t → Shows T' (cond (not t) L (accept c L)) (cond (not t) F (forest_after L.settings L.rows c F))
    go true e = done (eqb-true n 0 e)
    go false e = still (eqb-false n 0 e)

-- ---- an opening, whatever the tables held
module _ (s : Settings) (T : Tables) (a : Answer) (T' : Tables) (p : Promised (opening s) T a T') where
  pub begins : (L : Ledger) → a.number ≡ 0 → Shows T' (accept (opening s) L) (replicate s.blocks fresh)
  begins L e =
      let h = entered-4-5 s T (sym p.0.answers ∙ e) in
      rw (left_by s T a T' p, eq-eqb a.number 0 e) (record { tables = started s h.0 T h.1 L; store = fresh-store s h.0 T h.1 })

not-14 : (qs : List Question) → all (λ q. not (eqb q.number 14)) qs ≡ true → first_no qs ≢ 14
not-14 qs h = eqb-false (first_no qs) 14 (not-true (eqb (first_no qs) 14) (number_in (λ n. not (eqb n 14)) qs refl h))

-- the tables that an add or a drop does not take, and those that it takes
pub rejoin : (T T' : Tables) → to_store T' ≡ to_store T → T'.working ≡ T.working → T' ≡ T
rejoin T T' e w = λ i. with_working (e i) (w i)

module _ (T : Tables) (L : Ledger) (F : List Tree) (W : Shows T L F) where
  abbrev R : Represents T L
  R = W.tables

  -- ---- add and drop
  rows_taken : rows_of (to_store T) ≡ L.rows
  unfolding rows_of page_class page_row
  rows_taken = sym R.rows

  abbrev S : Sound (to_store T) F
  S = sound-working T F [] W.store

  module _ (a : Answer) (T' : Tables) where
    adding : (p c : ℕ) (x : List ℕ) → Promised (add p c x) T a T' → Shows T' (step (event (add p c x) a.number) L) (tries_after L (add p c x) a.number F)
    unfolding judged admitted asked all
    adding p c x h =
        let n = numbers T L F W (add p c x) a T' h in
        let k = h.0.sound F S in
        stepped T' L F (add p c x) a.number
        (λ e. record {
          tables = adds T L R T' h.0.rest h.1 F p c x (h.0.page e) (sym n ∙ e);
          store = sound_back T' _ (rw (rows_taken, given_eq T L R) at (k.tries e));
        })
        (λ e. rw (rejoin T T' (h.0.refused e (λ z. not-14 (asked (by_ledger L F) (add p c x)) refl (sym n ∙ z))) h.1) W)

    dropping : (p : ℕ) → Promised (drop p) T a T' → Shows T' (step (event (drop p) a.number) L) (tries_after L (drop p) a.number F)
    unfolding judged admitted asked all
    dropping p h =
        let n = numbers T L F W (drop p) a T' h in
        let k = h.0.sound F S in
        stepped T' L F (drop p) a.number
        (λ e. record {
          tables = drops T L R T' h.0.rest h.1 F p (h.0.page e) h.0.sketches (sym n ∙ e);
          store = sound_back T' _ (rw (rows_taken, given_eq T L R) at (k.tries e));
        })
        (λ e. rw (rejoin T T' (h.0.refused e (λ z. not-14 (asked (by_ledger L F) (drop p)) refl (sym n ∙ z))) h.1) W)

    -- ---- a change of the register
    changing : (c : Change) → Promised (change c) T a T' → Shows T' (step (event (change c) a.number) L) (tries_after L (change c) a.number F)
    unfolding judged admitted asked first_no forest_after
    changing c h =
        stepped T' L F (change c) a.number
        (λ e.
        let fits = (passed 7 (change_in_range c) 0 (omega arith) (sym (numbers T L F W (change c) a T' h) ∙ e)).0 in
        let k = registered-as T L R c fits in
        rw (left, eq-eqb a.number 0 e) (record {
          tables = changes T L R c fits;
          store = sound-others T (registered c T.settings) T.working k.beside.header (beside-free _ _ k.beside) k.holds.entries F W.store;
        }))
        (λ e. rw (left, ne_eqb a.number 0 e) W)
      where
        go : (t : Bool) → with_settings T (cond t (registered c T.settings) T.settings) ≡ cond t (with_settings T (registered c T.settings)) T
        go true = refl
        go false = refl

        left : T' ≡ cond (eqb a.number 0) (with_settings T (registered c T.settings)) T
        left = h.1 ∙ rw (h.0.settings-left, ← h.0.answers) (go (eqb a.number 0))

  -- ---- a reading
  pub zeros-left : (q : Reading) → working_left T q ≡ zeroed L T.working
  unfolding working_left zeroed entered
  zeros-left q = rw (past-6 T L R (reading q), given_eq T L R)

  as_long : (q : Reading) → length (working_after T q) ≡ length T.working
  unfolding working_after zeroed
  as_long q = go (takes_of q).working
    where
      go : (t : Bool) → length (cond t (working_left T q) T.working) ≡ length T.working
      go true = rw (zeros-left q) (length-onto (replicate (working_length L.settings) 0) T.working (simp length-replicate (long-working T L R)))
      go false = refl

  reads : (q : Reading) (a : Answer) (T' : Tables) → Promised (reading q) T a T' → Shows T' L F
  reads q a T' p =
      rw p.1 (record {
        tables = works T L R T'.working (ap length ((law q T).read a T'.working p.0).left ∙ as_long q);
        store = sound-working T F T'.working W.store;
      })

  -- ---- every call
  pub goes_on : (c : Call) (a : Answer) (T' : Tables) → Promised c T a T' → Shows T' (step (event c a.number) L) (tries_after L c a.number F)
  unfolding forest_after accept
  goes_on (opening s) a T' p = stepped T' L F (opening s) a.number (begins s T a T' p L) (λ e. rw (left_by s T a T' p, ne_eqb a.number 0 e) W)
  goes_on (add q c x) a T' p = adding a T' q c x p
  goes_on (drop q) a T' p = dropping a T' q p
  goes_on (change c) a T' p = changing a T' c p
  goes_on (reading q) a T' p = stepped T' L F (reading q) a.number (λ e. reads q a T' p) (λ e. reads q a T' p)
