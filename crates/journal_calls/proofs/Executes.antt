-- What the calls promise is what a command that is carried out promises.
use Prim.Native.Nat.{ℕ, ◌≤◌}
use mathlib.Core.Path.{◌≡◌, refl, sym, ◌∙◌}
use mathlib.Core.Bool.{Bool, true, false}
use mathlib.Core.Logic.{◌⊎◌, inl, inr}
use mathlib.Core.List.{List, []}
use native.Mathlib.Omega.{arith}
use lib.Dec.{leb, eqb}
use lib.ListN.{length, replicate}
use borrow.Author.Tests.{leb-true, eqb-true, eqb-false}
use Rattle.meaning.specs.Output.{Output, has_room}
use Rattle.meaning.proofs.Lists.{and_first, and_second}
use Rattle.meaning.specs.Rights.{Change}
use Rattle.meaning.specs.Journal.{opens, adds, drops, changes, searches, call_of}
use Rattle.meaning.specs.Ledger.{settings_given}
use Rattle.promises.specs.Tables.{Tables, tables, with_settings, page_distance}
use Rattle.promises.specs.Calls.{OpenPromise, RightsPromise}
use Rattle.promises.specs.Store.{AddPromise, DropPromise}
use Rattle.promises.specs.Readings.{SearchPromise, Lists, early_number, listed_of}
use Rattle.promises.specs.Relation.{to_store, with_opening, with_working}
use Rattle.history.proofs.Lists.{passed}
use Rattle.journal_answers.specs.Answers.{page_capacity, node_capacity}
use Rattle.journal_calls.specs.Commands.{found_after, Executed}

-- a call that gives a number alone
module _ (T : Tables) (found : Output) (r : ℕ) {n k : ℕ} (e : n ≡ r) (z : n ≡ 0 → k ≡ 0) where
  pub open-executed : (b m q t : ℕ) (settings nodes pages : List ℕ) → OpenPromise (settings_given b m q page_capacity node_capacity (replicate 64 t)) T r settings nodes pages
      → Executed (opens b m q t) T found n k (with_opening T settings nodes pages) found
  unfolding call_of found_after
  open-executed b m q t settings nodes pages p = record { promised = (rw e p, refl); output = refl; inside = λ a. (omega (arith, z a), omega (arith, z a)) }

  module _ (settings nodes pages : List ℕ) where
    pub add-executed : (sketches : List ℕ) (p c : ℕ) (x : List ℕ) → AddPromise (to_store T) p c x r (tables settings nodes pages sketches [])
        → Executed (adds p c x) T found n k (tables settings nodes pages sketches T.working) found
    unfolding call_of found_after
    add-executed sketches p c x h = record { promised = (rw e h, refl); output = refl; inside = λ a. (omega (arith, z a), omega (arith, z a)) }

    pub drop-executed : (p : ℕ) → DropPromise (to_store T) p r (tables settings nodes pages T.sketches [])
        → Executed (drops p) T found n k (tables settings nodes pages T.sketches T.working) found
    unfolding call_of found_after
    drop-executed p h = record { promised = (rw e h, refl); output = refl; inside = λ a. (omega (arith, z a), omega (arith, z a)) }

  pub change-executed : (c : Change) (settings : List ℕ) → RightsPromise c T.settings r settings → Executed (changes c) T found n k (with_settings T settings) found
  unfolding call_of found_after
  change-executed c settings h = record { promised = (rw e h, refl); output = refl; inside = λ a. (omega (arith, z a), omega (arith, z a)) }

-- room in both lists
room-inside : (k : ℕ) (o : Output) → has_room k o ≡ true → (k ≤ length o.pages) × (k ≤ length o.distances)
unfolding has_room
room-inside k o e =
    let ps = leb k (length o.pages) in
    let ds = leb k (length o.distances) in
    (leb-true k (length o.pages) (and_first ps ds e), leb-true k (length o.distances) (and_second ps ds e))

-- what an accepted search lists lies inside both lists
module _ (T : Tables) (reader radius : ℕ) (x : List ℕ) (before : Output) (n count : ℕ) (after : Output) (working : List ℕ)
    (h : SearchPromise T reader radius x before n count after working) where
  abbrev Inside : Type 0
  Inside = (count ≤ length before.pages) × (count ≤ length before.distances)

  count-inside : (list : List ℕ) → n ≡ 0 → Lists (page_distance T x) radius list before n count after → Inside
  count-inside list z l = rw l.counted (room-inside (length list) before (passed 13 (has_room (length list) before) 0 (omega arith) (sym l.refusal ∙ z)).0)

  searched-inside : n ≡ 0 → Inside
  searched-inside z = go (eqb (early_number T reader radius x) 0) refl
    where
      by-list : (n ≡ 14) ⊎ ((met : ℕ → Bool) × Lists (page_distance T x) radius (listed_of met T reader radius x) before n count after) → Inside
      by-list (inl e) = absurd (omega (arith, e, z))
      by-list (inr l) = count-inside (listed_of l.0 T reader radius x) z l.1

      go : (q : Bool) → eqb (early_number T reader radius x) 0 ≡ q → Inside
      go true e = by-list (h.open-list (eqb-true (early_number T reader radius x) 0 e))
      go false e =
          let early = eqb-false (early_number T reader radius x) 0 e in
          absurd (early (sym (h.early early) ∙ z))

  pub search-executed : length after.pages ≡ length before.pages → length after.distances ≡ length before.distances
      → Executed (searches reader radius x) T before n count (with_working T working) after
  unfolding call_of found_after
  search-executed same far = record {
    promised = (h, refl);
    output = refl;
    inside = λ z. (omega (arith, same, (searched-inside z).0), omega (arith, far, (searched-inside z).1));
  }
