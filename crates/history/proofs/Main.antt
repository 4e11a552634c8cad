-- The claim about whole histories (demand 3).
use Prim.Native.Nat.{ℕ, ◌≤◌}
use native.Mathlib.Omega.{arith}
use mathlib.Core.Path.{◌≡◌, refl, sym, ap, ◌∙◌}
use mathlib.Core.Bool.{cond}
use mathlib.Core.List.{List, []}
use lib.Dec.{eqb}
use lib.ListN.{length, take, length-map}
use lib.Seq.{take_at}
use borrow.Author.Tests.{ne_eqb, le-leb}
use Rattle.meaning.specs.Lists.{all, onto}
use Rattle.meaning.specs.Refusal.{first_no}
use Rattle.meaning.specs.SketchCalls.{output_left}
use Rattle.meaning.specs.Output.{Output, has_room, nearest, listing, both_left}
use Rattle.meaning.specs.Questions.{asked}
use Rattle.meaning.specs.Trie.{Tree}
use Rattle.meaning.specs.Ledger.{Ledger, Event, search, show, check, reading, accept, step, unopened, ledger, far, called_for, listed}
use Rattle.meaning.proofs.Nearest.{count-nearest, length-nearest}
use Rattle.meaning.specs.Forest.{forest, forest_after, total_nodes}
use Rattle.trie_laws.proofs.Forest.{total-fresh}
use Rattle.trie_laws.proofs.Pruned.{forest-pruned}
use Rattle.promises.specs.Tables.{Tables, page_row, scan}
use Rattle.promises.specs.Answers.{entered}
use Rattle.promises.specs.Readings.{row_shown, roomy, early_number}
use Rattle.promises.specs.Relation.{Answer, to_show, Promised}
use Rattle.promises.proofs.Readings.{number-show}
use Rattle.history.specs.History.{History, begun, called, foreign, admitted, judged, RightlyPut, Found, sketch_in, Claim, Agree}
use Rattle.history.proofs.Represents.{found-eq, number-eq}
use Rattle.history.proofs.Searches.{all_near, nearest-above, listed-once, refuses, finds, shows-row}
use Rattle.history.proofs.Searches.{agreed as agreed-in}
use Rattle.history.proofs.Numbers.{Shows, numbers}
use Rattle.history.proofs.Keeps.{begins, zeros-left, goes_on}
use Rattle.history.proofs.Blank.{NoneBlank, still-none}
use Rattle.history.proofs.Pruned.{few, without-pages}

-- after every history the tables show the ledger, and the store is sound with the tries of demand 2
pub represents : {es : List Event} {T : Tables} → History es T → Shows T (ledger es) (forest es)
unfolding ledger step forest forest_after
represents (begun s T₀ a T p e) = begins s T₀ a T p unopened e
represents (called {es} {T} h c a T' p) = goes_on T (ledger es) (forest es) (represents h) c a T' p
represents (foreign h c T₀ a T₁ p l m) = rw (ne_eqb a.number 0 (omega arith)) (represents h)

-- and no row is blank
unblank : {es : List Event} {T : Tables} → History es T → NoneBlank (ledger es)
unfolding ledger step accept all
unblank (begun s T₀ a T p e) = refl
unblank (called {es} {T} h c a T' p) =
    still-none T (ledger es) (forest es) (unblank h) c a.number (numbers T (ledger es) (forest es) (represents h) c a T' p)
unblank (foreign h c T₀ a T₁ p l m) = rw (ne_eqb a.number 0 (omega arith)) (unblank h)

-- a search rightly put gives what the ledger calls for
module _ (T : Tables) (L : Ledger) (F : List Tree) (W : Shows T L F) where
  put-early : (reader radius : ℕ) (x : List ℕ) → RightlyPut L reader radius x → early_number T reader radius x ≡ 0
  unfolding has_room
  put-early reader radius x r =
      let l : length (called_for L reader radius x) ≤ length (scan T reader radius x) = omega (arith, found-eq T L W.tables reader radius x r.reads) in
      refuses T L W.tables [] reader radius x (roomy T reader radius x) r
      ∙ rw (le-leb (length (called_for L reader radius x)) (length (scan T reader radius x)) l)

  found : (reader radius : ℕ) (x : List ℕ) (o : Output) (a : Answer) (T' : Tables) → Promised (reading (search reader radius x o)) T a T'
      → RightlyPut L reader radius x → Found L reader radius x o a.number a.count a.output
  found reader radius x o a T' p r =
      finds T L W.tables [] reader radius x o r a.number a.count a.output (p.0.sound F W.store (put-early reader radius x r))

  row-shown : (reader p : ℕ) → row_shown (to_show T) reader p ≡ cond (eqb (judged T L F (reading (show reader p))) 0) (sketch_in L.rows p) []
  unfolding row_shown page_row
  row-shown reader p = rw (number-show T reader p F, number-eq T L W.tables F (reading (show reader p))) (shows-row T L W.tables F reader p)

-- the theorem
pub theorem : {es : List Event} {T : Tables} → History es T → Claim T (ledger es) (forest es)
unfolding entered judged admitted asked first_no
theorem {es} {T} h = record {
  refusals = numbers T L F W;
  searches = found T L F W;
  once = listed-once T L W.tables;
  in_order = nearest-above T L W.tables;
  all_listed = λ reader radius x q. count-nearest q (far x) radius (called_for L reader radius x) (all_near L reader radius x);
  shows = λ reader q a T' p. p.0.1 ∙ row-shown T L F W reader q;
  checks = λ a T' p. p.0.whole (numbers T L F W (reading check) a T' p) F W.store;
  searched = λ reader radius x o a T' p. p.0.working-left ∙ zeros-left T L F W (search reader radius x o);
  checked = λ a T' p. p.0.working-left ∙ zeros-left T L F W check;
  none-blank = unblank h;
  all-pruned = forest-pruned es;
  few-nodes = λ j l. omega (arith, few T L F W (forest-pruned es) j l);
  emptied = without-pages T L F W (forest-pruned es);
  sound = W.store;
}
  where
    L : Ledger
    L = ledger es

    F : List Tree
    F = forest es

    W : Shows T L F
    W = represents h

-- ---- without pages
-- a store from which every page was dropped has as many nodes as blocks
pub nodes-without-pages : {es : List Event} {T : Tables} → History es T → (ledger es).rows ≡ [] → total_nodes (forest es) ≡ (ledger es).settings.blocks
nodes-without-pages {es} h e = ap total_nodes ((theorem h).emptied e) ∙ total-fresh (ledger es).settings.blocks

-- ---- two histories that agree

pub agreed : {es fs : List Event} {T U : Tables} → History es T → History fs U → (reader radius : ℕ) (x : List ℕ)
    → Agree (ledger es) (ledger fs) reader radius x → listed (ledger es) reader radius x ≡ listed (ledger fs) reader radius x
agreed {es} {fs} {T} {U} h k = agreed-in T U (ledger es) (ledger fs) (represents h).tables (represents k).tables

-- both lists are as long as there are rows called for
counted : (L : Ledger) (reader radius : ℕ) (x : List ℕ) → let k = length (called_for L reader radius x) in
    (length (listed L reader radius x).pages ≡ k) × (length (listed L reader radius x).distances ≡ k)
unfolding listed listing
counted L reader radius x =
    let l = length-nearest (far x) radius (called_for L reader radius x) (all_near L reader radius x) in (
      length-map (nearest (far x) radius (called_for L reader radius x)) (λ r. r.page) ∙ l,
      length-map (nearest (far x) radius (called_for L reader radius x)) (far x) ∙ l,
    )

-- the two lists that an accepted search gave
gave : (L : Ledger) (reader radius : ℕ) (x : List ℕ) (o : Output) (n count : ℕ) (after : Output) → Found L reader radius x o n count after → n ≡ 0
    → (take count after.pages ≡ (listed L reader radius x).pages) × (take count after.distances ≡ (listed L reader radius x).distances)
unfolding both_left output_left onto
gave L reader radius x o n count after f e =
    let l = counted L reader radius x in
    let found = listed L reader radius x in (
      rw (f.output, e, f.rows) (take_at found.pages _ (length (called_for L reader radius x)) l.0),
      rw (f.output, e, f.rows) (take_at found.distances _ (length (called_for L reader radius x)) l.1),
    )

-- a search rightly put after each
module _ {es fs : List Event} {T U : Tables} (h : History es T) (k : History fs U) (reader radius : ℕ) (x : List ℕ)
    (agree : Agree (ledger es) (ledger fs) reader radius x) (put : RightlyPut (ledger es) reader radius x) (put' : RightlyPut (ledger fs) reader radius x)
    (o o' : Output) (a a' : Answer) (T' U' : Tables)
    (p : Promised (reading (search reader radius x o)) T a T') (p' : Promised (reading (search reader radius x o')) U a' U') where
  abbrev f : Found (ledger es) reader radius x o a.number a.count a.output
  f = (theorem h).searches reader radius x o a T' p put

  abbrev f' : Found (ledger fs) reader radius x o' a'.number a'.count a'.output
  f' = (theorem k).searches reader radius x o' a' U' p' put'

  q : listed (ledger es) reader radius x ≡ listed (ledger fs) reader radius x
  q = agreed h k reader radius x agree

  c : length (called_for (ledger es) reader radius x) ≡ length (called_for (ledger fs) reader radius x)
  c = sym (counted (ledger es) reader radius x).0 ∙ ap (λ l. length l.pages) q ∙ (counted (ledger fs) reader radius x).0

  -- they give equal counts, and with lists long enough equal pages and distances
  pub equal-counts : a.count ≡ a'.count
  equal-counts = f.rows ∙ c ∙ sym f'.rows

  pub equal-lists : a.number ≡ 0 → a'.number ≡ 0
      → (take a.count a.output.pages ≡ take a'.count a'.output.pages)
      × (take a.count a.output.distances ≡ take a'.count a'.output.distances)
  equal-lists n n' =
      let g = gave (ledger es) reader radius x o a.number a.count a.output f n in
      let g' = gave (ledger fs) reader radius x o' a'.number a'.count a'.output f' n' in
      (g.0 ∙ ap (λ l. l.pages) q ∙ sym g'.0, g.1 ∙ ap (λ l. l.distances) q ∙ sym g'.1)

  -- lent the same lists they are refused alike, and leave them alike
  pub equal-answers : o ≡ o' → (a.number ≡ a'.number) × (a.output ≡ a'.output)
  equal-answers e =
      let n : a.number ≡ a'.number = f.refusal ∙ rw (c, e) (sym f'.refusal) in
      (n, f.output ∙ rw (n, q, e) (sym f'.output))
