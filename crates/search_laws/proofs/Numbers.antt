-- A search does not see the number of pages in a leaf's state: on any tables, sound or not, a wrong number hides no page and adds none.
use Prim.Native.Nat.{ℕ, zero, suc, ◌-◌, ◌/◌, ◌<◌}
use native.Mathlib.Omega.{arith}
use native.Mathlib.Decide.{ℕ_discrete}
use mathlib.Core.Path.{◌≡◌, refl, sym, ap, ◌∙◌, subst}
use mathlib.Core.Bool.{Bool, true, false, cond, ◌&&◌}
use mathlib.Core.Logic.{◌≢◌}
use mathlib.Core.List.{List, [], ◌∷◌, ◌++◌}
use borrow.Author.Tests.{le-leb}
use lib.Dec.{ltb, leb, eqb}
use lib.ListN.{length, replicate, set}
use Rattle.meaning.specs.Lists.{onto}
use Rattle.meaning.specs.Output.{Output, output, has_room, listing, both_left}
use Rattle.meaning.specs.Sketch.{in_range}
use Rattle.meaning.specs.Refusal.{ask, first_no}
use Rattle.meaning.specs.Ledger.{search, reading}
use Rattle.meaning.specs.Questions.{asked}
use Rattle.meaning.specs.Forest.{bytes_of_sketch}
use Rattle.layout.specs.declared.Numbers.{Numbers}
use Rattle.layout.specs.declared.nodes.Kind.TheVariants.{Leaf}
use Rattle.layout.specs.Header.{header_of, bare}
use Rattle.layout.specs.Lengths.{nodes_length, working_length}
use Rattle.layout.specs.Nodes.{state_at, state_with}
use Rattle.layout.specs.Settings.{shows_opening}
use Rattle.layout.specs.States.{kind_by, kind_of}
use Rattle.promises.specs.Tables.{Tables, given, page_class, page_row, is_shown, scan, by_tables}
use Rattle.promises.specs.Answers.{long_nodes, long_pages, long_working, long_for, long_settings, shown56, entered, number}
use Rattle.promises.specs.Readings.{working_left, Lists, roomy, early_number}
use Rattle.hits.specs.Hit.{Test, test_of, far, passes}
use Rattle.meeting.specs.Meets.{Meets, met, broken, after, and_then}
use Rattle.traversal.specs.Meets.{pages_of, meet_block, meet_from, meet_blocks}
use Rattle.walk_laws.specs.Numbers.{Renumbered}
use Rattle.walk_laws.proofs.Numbers.{state-rewritten, leaf-renumbered, walk_same}
use Rattle.search_laws.specs.Answer.{passing, Answered, meets}
use Rattle.search_laws.specs.Numbers.{with_nodes, SearchLeft, Searched}

-- ---- the pages met
module _ (h : Numbers) (P x : List ℕ) {N M : List ℕ} (a : Renumbered h.nodes N M) where
  module _ (block_radius : ℕ) where
    block_same : (j nodes : ℕ) → meet_block h M P x block_radius j nodes ≡ meet_block h N P x block_radius j nodes
    unfolding meet_block
    block_same j nodes = ap (pages_of h N P x j) (walk_same a h.b (bytes_of_sketch (bare h) j x) j block_radius nodes)

    from-same : (k j nodes : ℕ) → meet_from h M P x block_radius k j nodes ≡ meet_from h N P x block_radius k j nodes
    unfolding meet_from
    from-same zero j nodes = refl
    from-same (suc k) j nodes =
        ap (λ m. and_then m (λ n. meet_from h M P x block_radius k (suc j) n)) (block_same j nodes)
        ∙ on (meet_block h N P x block_radius j nodes) (λ n. meet_from h M P x block_radius k (suc j) n) (λ n. meet_from h N P x block_radius k (suc j) n) (from-same k (suc j))
      where
        on : (m : Meets) (f g : ℕ → Meets) → ((n : ℕ) → f n ≡ g n) → and_then m f ≡ and_then m g
        on (met ps n) f g e = ap (after ps) (e n)
        on broken f g e = refl

  pub blocks-same : (radius : ℕ) → meet_blocks h M P x radius ≡ meet_blocks h N P x radius
  unfolding meet_blocks
  blocks-same radius = from-same (radius / h.q) h.q 0 (h.nodes - h.q)

-- ---- the answer follows from the pages met
answered-once : (m : Meets) (t : Test) (before : Output) (n count : ℕ) (left : Output) (n' count' : ℕ) (left' : Output)
    → Answered m t before n count left → Answered m t before n' count' left' → (n' ≡ n) × (count' ≡ count) × (left' ≡ left)
answered-once m t before n count left n' count' left' a b = go m refl
  where
    lists : (found : List ℕ) → Lists (far t) t.radius found before n count left → Lists (far t) t.radius found before n' count' left'
        → (n' ≡ n) × (count' ≡ count) × (left' ≡ left)
    lists found l r =
        let same : n' ≡ n = r.refusal ∙ sym l.refusal in (
          same,
          r.counted ∙ sym l.counted,
          r.output ∙ ap (λ k. both_left k (listing (λ p. p) (far t) t.radius found) before) same ∙ sym l.output,
        )

    go : (q : Meets) → m ≡ q → (n' ≡ n) × (count' ≡ count) × (left' ≡ left)
    go (met ps k) e = lists (passing (passes t) t.header.pages ps) (a.listed ps k e) (b.listed ps k e)
    go broken e =
        let l = a.stopped e in
        let r = b.stopped e in
        (r.0 ∙ sym l.0, r.1 ∙ sym l.1, r.2 ∙ sym l.2)

-- lists that are long enough are not refused by 13
never-full : (r s t u v : Bool) → first_no (ask 5 r ∷ ask 6 s ∷ ask 7 t ∷ ask 10 u ∷ ask 11 v ∷ ask 13 true ∷ []) ≢ 13
unfolding first_no
never-full false s t u v e = omega arith
never-full true false t u v e = omega arith
never-full true true false u v e = omega arith
never-full true true true false v e = omega arith
never-full true true true true false e = omega arith
never-full true true true true true e = omega arith

early-room : (T : Tables) (reader radius : ℕ) (x : List ℕ) → early_number T reader radius x ≢ 13
unfolding number entered shown56 asked by_tables has_room
early-room T reader radius x =
    rw (le-leb (length (scan T reader radius x)) (length (scan T reader radius x)) (omega arith)) (never-full _ _ _ _ _)

-- ---- two searches, alike but for the numbers
module _ (T : Tables) (M : List ℕ) (a : Renumbered (given T).nodes T.nodes M) (reader radius : ℕ) (x : List ℕ) where
  long_same : long_nodes (given T) (with_nodes T M) ≡ long_nodes (given T) T
  unfolding long_nodes
  long_same = ap (leb (nodes_length (given T))) a.long

  -- the questions on the tables
  tables-same : (before : Output) → entered (with_nodes T M) (reading (search reader radius x before)) ≡ entered T (reading (search reader radius x before))
  unfolding entered shown56 long_for long_settings long_pages long_working
  tables-same before =
      ap (λ t. ask 5 (long_settings T) ∷ ask 6 (shows_opening T.settings && (t && long_pages (given T) T && long_working (given T) T)) ∷ []) long_same

  scan-same : scan (with_nodes T M) reader radius x ≡ scan T reader radius x
  unfolding scan is_shown page_class page_row
  scan-same = refl

  early-same : early_number (with_nodes T M) reader radius x ≡ early_number T reader radius x
  unfolding number asked by_tables
  early-same =
      ap (λ ps. number (with_nodes T M) [] (reading (search reader radius x (output ps ps)))) scan-same
      ∙ ap (λ ps. first_no (entered (with_nodes T M) (reading (search reader radius x (roomy T reader radius x)))
      ++ (ask 7 (ltb reader 256 && leb radius 64)
      ∷ ask 10 (eqb (length x) (given T).symbols)
      ∷ ask 11 (in_range (given T).bits x)
      ∷ ask 13 (has_room (length ps) (roomy T reader radius x)) ∷ []))) scan-same
      ∙ ap (λ qs. first_no (qs ++ asked (by_tables T []) (reading (search reader radius x (roomy T reader radius x))))) (tables-same (roomy T reader radius x))

  working-same : (before : Output) → working_left (with_nodes T M) (search reader radius x before) ≡ working_left T (search reader radius x before)
  unfolding working_left
  working-same before = ap (λ qs. cond (eqb (first_no qs) 0) (onto (replicate (working_length (given T)) 0) T.working) T.working) (tables-same before)

  meets-same : meets (with_nodes T M) reader radius x ≡ meets T reader radius x
  meets-same = blocks-same (header_of (given T)) T.pages x a radius

  -- they leave the same
  pub outcome-same : (before : Output) (r s : SearchLeft) → Searched T reader radius x before r → Searched (with_nodes T M) reader radius x before s → s ≡ r
  outcome-same before r s p q = go (ℕ_discrete (early_number T reader radius x) 0)
    where
      joined : (s.number ≡ r.number) × (s.count ≡ r.count) × (s.output ≡ r.output) → s ≡ r
      joined e =
          let w : s.working ≡ r.working = q.promise.working-left ∙ working-same before ∙ sym p.promise.working-left in
          λ i. record { number = e.0 i; count = e.1 i; output = e.2 i; working = w i }

      go : Dec (early_number T reader radius x ≡ 0) → s ≡ r
      go (yes z) =
          joined (answered-once (meets T reader radius x) (test_of T reader radius x) before r.number r.count r.output s.number s.count s.output
          (p.model z) (subst (λ m. Answered m (test_of T reader radius x) before s.number s.count s.output) meets-same (q.model (early-same ∙ z))))
      go (no z) =
          let n : r.number ≡ early_number T reader radius x = p.promise.early z in
          let k : s.number ≡ early_number T reader radius x = q.promise.early (λ y. z (sym early-same ∙ y)) ∙ early-same in
          let e = p.promise.refused (λ y. z (sym n ∙ y)) (λ y. early-room T reader radius x (sym n ∙ y)) in
          let f = q.promise.refused (λ y. z (sym k ∙ y)) (λ y. early-room T reader radius x (sym k ∙ y)) in
          joined (k ∙ sym n, f.0 ∙ sym e.0, f.1 ∙ sym e.1)

-- ---- for a reader: node y of any tables has another word in its state
module _ (T : Tables) (y : ℕ) (inside : y < (given T).nodes) (reader radius : ℕ) (x : List ℕ) (before : Output) (r s : SearchLeft) (p : Searched T reader radius x before r) where
  abbrev rewritten : ℕ → Tables
  rewritten word = with_nodes T (set T.nodes (state_at (given T).nodes y) word)

  -- for the same kind and first page: a search leaves the same
  pub number-unseen : (word : ℕ) → kind_by word ≡ kind_of T.nodes (given T).nodes y → Searched (rewritten word) reader radius x before s → s ≡ r
  number-unseen word e q =
      outcome-same T (set T.nodes (state_at (given T).nodes y) word) (state-rewritten T.nodes (given T).nodes y word inside e) reader radius x before r s p q

  -- so with any number n in a leaf with pages
  pub leaf-unseen : (n link : ℕ) → kind_of T.nodes (given T).nodes y ≡ Leaf link → link ≢ 0 → Searched (rewritten (state_with n link)) reader radius x before s → s ≡ r
  leaf-unseen n link e some q =
      outcome-same T (set T.nodes (state_at (given T).nodes y) (state_with n link)) (leaf-renumbered T.nodes (given T).nodes y n link inside e some)
      reader radius x before r s p q
