-- What a search lists under the invariant: the rows called for, each once, the nearest on top; and what a show gives. Two ledgers that
-- agree list the same.
use mathlib.Core.Path.{◌≡◌, refl, sym, ap, ◌∙◌, fun_ext}
use mathlib.Core.Bool.{Bool, true, false, cond, ◌&&◌}
use mathlib.Core.Logic.{◌≢◌}
use mathlib.Core.List.{List, [], map}
use Prim.Native.Nat.{ℕ, ◌<◌}
use native.Mathlib.Omega.{arith}
use lib.Dec.{ltb, leb, eqb}
use lib.ListN.{length}
use borrow.Author.Tests.{eqb-true, ltb-true, leb-true, eq-eqb, lt-ltb, le-leb}
use Rattle.meaning.specs.Lists.{all, any, count, ordered}
use Rattle.meaning.specs.Refusal.{first_no}
use Rattle.meaning.specs.Sketch.{distance, in_range}
use Rattle.meaning.specs.Output.{Output, has_room, nearest, listing, both_left}
use Rattle.meaning.specs.Rights.{open_to}
use Rattle.meaning.specs.Trie.{Tree}
use Rattle.meaning.specs.Ledger.{Row, Ledger, search, show, reading, far, above, called_for, listed}
use Rattle.meaning.specs.Questions.{asked, by_ledger}
use Rattle.meaning.proofs.Lists.{and_first, and_second}
use Rattle.layout.specs.Pages.{is_live}
use Rattle.promises.specs.Tables.{Tables, page_row, page_distance, is_shown, scan}
use Rattle.promises.specs.Answers.{number}
use Rattle.promises.specs.Readings.{Lists}
use Rattle.history.specs.History.{admitted, judged, RightlyPut, Found, sketch_in, Agree}
use Rattle.meaning.proofs.Nearest.{keep_all, count-nearest, ordered-nearest, ordered-map, listing-pages}
use Rattle.history.proofs.Lists.{passed, not-by, rows-sketch, rows-keep, rising-keep, rising-ext, any-map, rising-once, count_map, own-sketch}
use Rattle.history.proofs.Pages.{row_at}
use Rattle.history.proofs.Represents.{Represents, given_eq, rows_eq, shown-eq, found-eq, listed-eq, number-eq}

-- a search that 7, 10 and 11 do not refuse is rightly put
pub put-rightly : (T : Tables) (L : Ledger) (F : List Tree) (reader radius : ℕ) (x : List ℕ) (o : Output) (n : ℕ)
    → judged T L F (reading (search reader radius x o)) ≡ n → n ≢ 7 → n ≢ 10 → n ≢ 11 → RightlyPut L reader radius x
unfolding judged admitted asked by_ledger first_no
put-rightly T L F reader radius x o n e not7 not10 not11 =
    let h7 = not-by 7 (ltb reader 256 && leb radius 64) _ n not7 e in
    let h10 = not-by 10 (eqb (length x) L.settings.symbols) _ n not10 h7.1 in
    let h11 = not-by 11 (in_range L.settings.bits x) _ n not11 h10.1 in
    record {
      reads = ltb-true reader 256 (and_first (ltb reader 256) (leb radius 64) h7.0);
      near = leb-true radius 64 (and_second (ltb reader 256) (leb radius 64) h7.0);
      whole = eqb-true (length x) L.settings.symbols h10.0;
      symbols = h11.0;
    }

-- all rows called for are within the radius
pub all_near : (L : Ledger) (reader radius : ℕ) (x : List ℕ) → all (λ r. leb (far x r) radius) (called_for L reader radius x) ≡ true
unfolding called_for
all_near L reader radius x =
    keep_all (λ r. leb (far x r) radius) _ (λ r. and_second (open_to L.register reader r.class) (leb (far x r) radius)) L.rows

module _ (T : Tables) (L : Ledger) (R : Represents T L) where
  -- the rows called for, by their pages
  pub rising-pages : (reader radius : ℕ) (x : List ℕ) → ordered ltb (map (λ r. r.page) (called_for L reader radius x)) ≡ true
  unfolding called_for
  rising-pages reader radius x =
      rw (
        rows_eq T L R,
        rows-keep (is_live T.pages) (row_at L.settings.symbols T.pages T.sketches) (λ i. refl)
            (λ r. open_to L.register reader r.class && leb (distance r.sketch x) radius) 0 L.settings.pages,
      )
      (rising-keep _ 0 L.settings.pages)

  -- and as they are listed
  pub nearest-above : (reader radius : ℕ) (x : List ℕ) → ordered (above x) (nearest (far x) radius (called_for L reader radius x)) ≡ true
  unfolding above
  nearest-above reader radius x =
      ordered-nearest (far x) (λ r s. ltb r.page s.page) radius (called_for L reader radius x)
      (sym (ordered-map (λ r. r.page) ltb (called_for L reader radius x)) ∙ rising-pages reader radius x)

  -- each page once
  pub listed-once : (reader radius : ℕ) (x : List ℕ) (p : ℕ)
      → count (λ n. eqb n p) (listed L reader radius x).pages ≡ cond (any (λ r. eqb r.page p) (called_for L reader radius x)) 1 0
  unfolding listed listing
  listed-once reader radius x p =
      let rows = called_for L reader radius x in
      count_map (λ r. r.page) (λ n. eqb n p) (nearest (far x) radius rows)
      ∙ count-nearest (λ r. eqb r.page p) (far x) radius rows (all_near L reader radius x)
      ∙ sym (count_map (λ r. r.page) (λ n. eqb n p) rows)
      ∙ rising-once p (map (λ r. r.page) rows) (rising-pages reader radius x)
      ∙ ap (λ t. cond t 1 0) (sym (any-map rows p))

  module _ (F : List Tree) (reader radius : ℕ) (x : List ℕ) (o : Output) (put : RightlyPut L reader radius x) where
    pub refuses : number T F (reading (search reader radius x o)) ≡ cond (has_room (length (called_for L reader radius x)) o) 0 13
    unfolding judged admitted asked by_ledger first_no
    refuses =
        number-eq T L R F (reading (search reader radius x o))
        ∙ rw (lt-ltb reader 256 put.reads, le-leb radius 64 put.near, eq-eqb (length x) L.settings.symbols put.whole, put.symbols)

    -- a search that gives what the scan lists
    pub finds : (n count : ℕ) (after : Output) → Lists (page_distance T x) radius (scan T reader radius x) o n count after
        → Found L reader radius x o n count after
    finds n count after l =
        let c : length (scan T reader radius x) ≡ length (called_for L reader radius x) = found-eq T L R reader radius x put.reads in
        record {
          refusal = l.refusal ∙ ap (λ k. cond (has_room k o) 0 13) c;
          rows = l.counted ∙ c;
          output = l.output ∙ ap (λ found. both_left n found o) (listed-eq T L R reader radius x put.reads);
        }

-- a show gives the sketch in the page's row
module _ (T : Tables) (L : Ledger) (R : Represents T L) (F : List Tree) (reader p : ℕ) where
  live-shown : judged T L F (reading (show reader p)) ≡ 0 → (p < L.settings.pages) × (is_live T.pages p ≡ true)
  unfolding judged admitted asked by_ledger first_no is_shown
  live-shown e =
      let h7 = passed 7 (ltb reader 256) _ (omega arith) e in
      let h8 = passed 8 (ltb p L.settings.pages) _ (omega arith) h7.1 in
      let h9 = passed 9 _ 0 (omega arith) h8.1 in
      let hp = ltb-true p L.settings.pages h8.0 in
      (hp, and_first (is_live T.pages p) _ (shown-eq T L R reader p (ltb-true reader 256 h7.0) hp ∙ h9.0))

  pub shows-row : cond (eqb (judged T L F (reading (show reader p))) 0) (page_row T p) [] ≡ cond (eqb (judged T L F (reading (show reader p))) 0) (sketch_in L.rows p) []
  shows-row = go (eqb (judged T L F (reading (show reader p))) 0) refl
    where
      row : (p < L.settings.pages) × (is_live T.pages p ≡ true) → page_row T p ≡ sketch_in L.rows p
      row h =
          unfold page_row in
          rw (given_eq T L R, rows_eq T L R)
          (sym (rows-sketch (is_live T.pages) (row_at L.settings.symbols T.pages T.sketches) (λ i. refl) p 0 L.settings.pages h.1
          (omega arith) (omega arith)))

      go : (t : Bool) → eqb (judged T L F (reading (show reader p))) 0 ≡ t → cond t (page_row T p) [] ≡ cond t (sketch_in L.rows p) []
      go true e = row (live-shown (eqb-true (judged T L F (reading (show reader p))) 0 e))
      go false e = refl

-- ---- two ledgers

-- how far the sketch is that is found by a page
abbrev far_in : List ℕ → List Row → ℕ → ℕ
far_in x rows p = distance (sketch_in rows p) x

-- the rows called for are listed by their pages and the sketches found by these
by_pages : (T : Tables) (L : Ledger) → Represents T L → (reader radius : ℕ) (x : List ℕ) → let rows = called_for L reader radius x in
    listed L reader radius x ≡ listing (λ p. p) (far_in x rows) radius (map (λ r. r.page) rows)
unfolding listed
by_pages T L R reader radius x =
    let rows = called_for L reader radius x in
    listing-pages (λ r. r.page) (far x) (far_in x rows) radius rows (own-sketch (λ s. distance s x) rows (rising-pages T L R reader radius x))

pub agreed : (T U : Tables) (L M : Ledger) → Represents T L → Represents U M → (reader radius : ℕ) (x : List ℕ)
    → Agree L M reader radius x → listed L reader radius x ≡ listed M reader radius x
agreed T U L M R S reader radius x e =
    by_pages T L R reader radius x ∙ (λ i. listing (λ p. p) (same-far i) radius (same-pages i)) ∙ sym (by_pages U M S reader radius x)
  where
    same-far : far_in x (called_for L reader radius x) ≡ far_in x (called_for M reader radius x)
    same-far = fun_ext (λ p. ap (λ s. distance s x) (e p).1)

    same-pages : map (λ r. r.page) (called_for L reader radius x) ≡ map (λ r. r.page) (called_for M reader radius x)
    same-pages =
        rising-ext _ _ (rising-pages T L R reader radius x) (rising-pages U M S reader radius x)
        (λ p. sym (any-map (called_for L reader radius x) p) ∙ (e p).0 ∙ any-map (called_for M reader radius x) p)
