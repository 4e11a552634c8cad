-- Where the test of a trie says yes, the tables hold a sound trie at that root, with the pages and the nodes that were counted and marked.
use Rattle.std.specs.Prelude.{Option, Some, None}
use Prim.Native.Nat.{ℕ, zero, suc, ◌+◌, ◌*◌, ◌-◌, ◌<◌, ◌≤◌}
use native.Mathlib.Omega.{arith}
use native.Mathlib.Numerals.{add-one}
use mathlib.Core.Path.{◌≡◌, refl, sym, ap, ◌∙◌, subst}
use mathlib.Core.Bool.{Bool, true, false, cond}
use mathlib.Core.List.{List, [], ◌∷◌, ◌++◌}
use lib.Dec.{ltb, eqb}
use lib.ListN.{length, get_or, set, take, replicate, length-set, length-replicate}
use lib.Seq.{take-suc-set}
use borrow.Author.Tests.{eqb-true, eqb-false, ltb-true}
use Rattle.meaning.specs.Lists.{all}
use Rattle.meaning.specs.Trie.{leaf, inner, nodes, nodes_in, pages_in, pages_among}
use Rattle.words.specs.Bits.{flag}
use Rattle.layout.specs.Nodes.{inner_state, state_at, steps_for}
use Rattle.children.specs.Phys.{Phys, Kids, leaf_p, inner_p, tree, children_of, first}
use Rattle.trie_laws.specs.Sound.{filled}
use Rattle.trie_laws.specs.Path.{follows}
use Rattle.trie_laws.specs.Walk.{sound_walk}
use Rattle.children.specs.declared.order.Frame.{Frame}
use Rattle.children.specs.declared.order.Step.{Step}
use Rattle.children.specs.declared.order.Step.TheVariants as step
use Rattle.node_check.specs.declared.leaf.Kind.{Kind}
use Rattle.node_check.specs.declared.leaf.Kind.TheVariants as kind
use Rattle.trie_visit.specs.declared.Move.{Move}
use Rattle.trie_visit.specs.declared.Move.TheVariants as move
use Rattle.node_check.specs.Mark.{mark_once}
use Rattle.node_check.specs.Leaf.{kind_of}
use Rattle.children.specs.Order.{entered, past_child, next_chain}
use Rattle.node_check.specs.Frame.{step_in}
use Rattle.node_check.specs.Given.{Given, Fitting}
use Rattle.trie_visit.specs.Visit.{Visited, visited, child_move, leaf_left, past_leaf, visit_child, visit_step, visit}
use Rattle.trie_check.specs.Trie.{state, Tested, tested, follow, run, left_if, left_leaf, test_below, test_kind, test_trie}
use Rattle.trie_check_laws.specs.Uses.{uses_among}
use Rattle.trie_check_laws.specs.Found.{Reads, Found, Marked, one}
use Rattle.children.proofs.Tests.{passed}
use Rattle.children.proofs.AheadOrder.{placed-enter}
use Rattle.trie_check_laws.proofs.RightStep.{AtChild, step-child, step-chain, step-up}
use Rattle.trie_check_laws.proofs.RightMark.{Once, mark-fresh}
use Rattle.trie_check_laws.proofs.RightLeaf.{kind-inner, LeafPages, LeafHeld, leaf-right}
use Rattle.trie_check_laws.proofs.RightRest.{nodes_all, pages_all, uses_all, Hangs, inner-held, inner-sound, inner-walked}
use Rattle.trie_check_laws.proofs.RightRun.{Above, Covered, Completes, complete-done, complete-up, complete-chain, complete-child, Returned, return}

-- a leaf with a first page is not empty
pages-filled : (ps : List ℕ) → (first ps ≡ 0 → ⊥) → filled (leaf ps) ≡ true
unfolding filled
pages-filled [] h = absurd (h refl)
pages-filled (p ∷ ps) h = refl

module _ (w : Given) (bytes_of : ℕ → List ℕ) (reads : Reads w bytes_of) (map' : List ℕ) (left' : ℕ) where
  abbrev good : Tested
  good = tested map' (Some left')

  failed-left : None ≡ Some left' → ⊥
  failed-left e = let z : ◌≡◌ {A = ℕ} 0 1 = cc in omega arith

  failed : (map : List ℕ) → tested map None ≡ good → ⊥
  failed map h = failed-left (ap (λ t. t.answer) h)

  abbrev marks_in : List ℕ → ℕ → ℕ
  marks_in map n = one (flag map 0 n)

  abbrev Ends : List ℕ → List ℕ → ℕ → ℕ → Frame → List Frame → Type 0
  Ends map path left pages f fs = Completes w bytes_of (marks_in map) (length map) path left pages f fs map' left'

  -- a run from a state that ends well
  abbrev Right : ℕ → Type 0
  Right fuel =
      (map path : List ℕ) (left pages : ℕ) (f : Frame) (fs : List Frame) → w.window.size ≤ 32 * length map → length fs < w.rows.bytes
      → w.rows.bytes ≤ length path → run w fuel (state map path left pages f fs) ≡ good → Ends map path left pages f fs

  -- ---- a visit to a child
  module _ (fuel : ℕ) (ih : Right fuel) (map path : List ℕ) (left pages : ℕ) (f : Frame) (fs : List Frame)
      (room : w.window.size ≤ 32 * length map) (deep : length fs < w.rows.bytes) (long : w.rows.bytes ≤ length path)
      (x byte next : ℕ) (at : AtChild w.nodes w.block.nodes w.rows.bits w.rows.length (length fs) f x byte next) (some : left ≡ 0 → ⊥)
      (map₁ : List ℕ) (mark : Once w.window map map₁ x) where
    abbrev k : ℕ
    k = length fs

    abbrev path₁ : List ℕ
    path₁ = set path k byte

    same-path : take (suc k) path₁ ≡ take k path ++ byte ∷ []
    same-path = take-suc-set path k byte (omega arith)

    leaf-hangs : (link n : ℕ) → (link ≡ 0 → ⊥) → (a : LeafHeld w bytes_of reads (take (k + 1) path₁) x link pages n)
        → Hangs w bytes_of k (take k path) f x byte (leaf_p x a.pages.list)
    unfolding sound_walk pages_in
    leaf-hangs link n more a =
        let ps : LeafPages w bytes_of reads (take (k + 1) path₁) link pages n = a.pages in
        record {
          place = refl;
          held = a.held;
          sound = (at.here.inside, ps.below);
          full = pages-filled ps.list (λ e. more (sym ps.start ∙ e));
          walked = subst (λ ys. all (follows bytes_of 0 ys) ps.list ≡ true) (ap (λ d. take d path₁) (add-one k) ∙ same-path) ps.path;
          live = ps.live;
        }

    leaf-turn : (link n : ℕ) → kind_of w.nodes w.block.nodes x ≡ Some (kind.Leaf link) → (link ≡ 0 → ⊥) → leaf_left w path₁ (k + 1) x link pages ≡ Some n
        → run w fuel (state map₁ path₁ (left - 1) n (past_child f byte next) fs) ≡ good → Ends map path left pages f fs
    unfolding nodes pages_in
    leaf-turn link n e more t h =
        let l : length path₁ ≡ length path = length-set path k byte in
        let a : LeafHeld w bytes_of reads (take (k + 1) path₁) x link pages n =
        leaf-right w bytes_of reads path₁ (k + 1) (omega arith) (omega arith) x link pages n e t in
        let c = ih map₁ path₁ (left - 1) n (past_child f byte next) fs (omega (arith, mark.long)) deep (omega arith) h in
        complete-child w bytes_of (marks_in map) (length map) path left pages f x byte next (leaf_p x a.pages.list) (marks_in map₁) (left - 1) n fs map' left'
        at (leaf-hangs link n more a) (omega arith) a.pages.many mark.marks
        (subst (λ s. Completes w bytes_of (marks_in map₁) s path₁ (left - 1) n (past_child f byte next) fs map' left') mark.long c)

    inner-hangs : (r : Returned w bytes_of (marks_in map₁) (length map) path₁ (left - 1) pages (entered w.nodes w.block.nodes x) (past_child f byte next) fs map' left')
        → get_or w.nodes (state_at w.block.nodes x) 0 ≡ inner_state → suc k < w.rows.bytes
        → Hangs w bytes_of k (take k path) f x byte (inner_p x r.below)
    unfolding filled pages_in
    inner-hangs r e l =
        let c = r.covers (placed-enter w.block.nodes w.block.pages w.block.base w.nodes w.pages x) in
        record {
          place = refl;
          held = inner-held w bytes_of (suc k) (take (suc k) path₁) x r.below c e;
          sound = inner-sound w bytes_of (suc k) (take (suc k) path₁) x r.below c at.here.inside;
          full = refl;
          walked = subst (λ ys. sound_walk bytes_of w.rows.bits w.rows.length w.rows.bytes (suc k) ys (inner (children_of r.below)) ≡ true) same-path
              (inner-walked w bytes_of (suc k) (take (suc k) path₁) x r.below c l);
          live = c.live;
        }

    inner-turn : kind_of w.nodes w.block.nodes x ≡ Some kind.Inner → k + 1 < w.rows.bytes
        → run w fuel (state map₁ path₁ (left - 1) pages (entered w.nodes w.block.nodes x) (past_child f byte next ∷ fs)) ≡ good
        → Ends map path left pages f fs
    unfolding nodes pages_in
    inner-turn e l h =
        let wide : length path₁ ≡ length path = length-set path k byte in
        let f₁ : Frame = entered w.nodes w.block.nodes x in
        let c = ih map₁ path₁ (left - 1) pages f₁ (past_child f byte next ∷ fs) (omega (arith, mark.long)) (omega arith) (omega arith) h in
        let r = return w bytes_of (marks_in map₁) (length map) path₁ (left - 1) pages f₁ (past_child f byte next) fs map' left'
        (subst (λ s. Completes w bytes_of (marks_in map₁) s path₁ (left - 1) pages f₁ (past_child f byte next ∷ fs) map' left') mark.long c) in
        complete-child w bytes_of (marks_in map) (length map) path left pages f x byte next (inner_p x r.below)
        (λ n. marks_in map₁ n + uses_among r.below (w.window.from + n)) r.left_after r.pages_after fs map' left'
        at (inner-hangs r (kind-inner w.nodes w.pages w.block.nodes x e) (omega arith))
        (omega (arith, r.nodes_below)) r.pages_below (λ n b. omega (arith, mark.marks n b)) r.onward

    -- where the child's kind leads
    abbrev follows-move : Option Move → Tested
    follows-move m = follow w (run w fuel) (state map path left pages f fs) (visited map₁ path₁ m) m

    past-turn : (link : ℕ) → kind_of w.nodes w.block.nodes x ≡ Some (kind.Leaf link) → (link ≡ 0 → ⊥) → (n : Option ℕ) → leaf_left w path₁ (k + 1) x link pages ≡ n
        → follows-move (past_leaf byte next n) ≡ good → Ends map path left pages f fs
    past-turn link e more (Some n) t h = leaf-turn link n e more t h
    past-turn link e more None t h = absurd (failed map₁ h)

    kind-turn : (c : Option Kind) → kind_of w.nodes w.block.nodes x ≡ c → follows-move (child_move w path₁ k x byte next pages c) ≡ good → Ends map path left pages f fs
    kind-turn None e h = absurd (failed map₁ h)
    kind-turn (Some kind.Inner) e h = go (ltb (k + 1) w.rows.bytes) refl h
      where
        go : (q : Bool) → ltb (k + 1) w.rows.bytes ≡ q → follows-move (cond q (Some (move.Down x byte next)) None) ≡ good → Ends map path left pages f fs
        go true l h = inner-turn e (ltb-true (k + 1) w.rows.bytes l) h
        go false l h = absurd (failed map₁ h)
    kind-turn (Some (kind.Leaf link)) e h = go (eqb link 0) refl h
      where
        go : (q : Bool) → eqb link 0 ≡ q → follows-move (cond q None (past_leaf byte next (leaf_left w path₁ (k + 1) x link pages))) ≡ good
            → Ends map path left pages f fs
        go true z h = absurd (failed map₁ h)
        go false z h = past-turn link e (eqb-false link 0 z) (leaf_left w path₁ (k + 1) x link pages) refl h

  -- ---- a step
  module _ (fuel : ℕ) (ih : Right fuel) (map path : List ℕ) (left pages : ℕ) where
    abbrev follows-step : Frame → List Frame → Option Step → Tested
    follows-step f fs s =
        let v : Visited = visit_step w map path (length fs) left pages s in
        follow w (run w fuel) (state map path left pages f fs) v v.move

    abbrev step_of : Frame → List Frame → Option Step
    step_of f fs = step_in w.nodes w.block.nodes w.rows.bits w.rows.length (length fs) f

    child-turn : (f : Frame) (fs : List Frame) → w.window.size ≤ 32 * length map → length fs < w.rows.bytes → w.rows.bytes ≤ length path
        → (x byte next : ℕ) → step_of f fs ≡ Some (step.Child x byte next) → follows-step f fs (Some (step.Child x byte next)) ≡ good → Ends map path left pages f fs
    unfolding visit_child
    child-turn f fs room deep long x byte next e h = go (eqb left 0) refl (mark_once w.window map x).fresh refl h
      where
        path₁ : List ℕ
        path₁ = set path (length fs) byte

        map₁ : List ℕ
        map₁ = (mark_once w.window map x).map

        m : Option Move
        m = child_move w path₁ (length fs) x byte next pages (kind_of w.nodes w.block.nodes x)

        seen_at : Bool → Bool → Visited
        seen_at q r = cond q (visited map path None) (visited map₁ path₁ (cond r m None))

        go : (q : Bool) → eqb left 0 ≡ q → (r : Bool) → (mark_once w.window map x).fresh ≡ r
            → follow w (run w fuel) (state map path left pages f fs) (seen_at q r) (seen_at q r).move ≡ good → Ends map path left pages f fs
        go true z r u h = absurd (failed map h)
        go false z false u h = absurd (failed map₁ h)
        go false z true u h =
            kind-turn fuel ih map path left pages f fs room deep long x byte next
            (step-child w.nodes w.block.nodes w.rows.bits w.rows.length (length fs) f x byte next e)
            (eqb-false left 0 z) map₁ (mark-fresh w.window map x room u) (kind_of w.nodes w.block.nodes x) refl h

    up_turn : (f : Frame) (fs : List Frame) → w.window.size ≤ 32 * length map → length fs < w.rows.bytes → w.rows.bytes ≤ length path
        → step_of f fs ≡ Some step.Up → follows-step f fs (Some step.Up) ≡ good → Ends map path left pages f fs
    unfolding left_if
    up_turn f [] room deep long e h =
        let t = passed None (Some left') failed-left (eqb pages 0) (Some left) (ap (λ t. t.answer) h) in
        let same : map ≡ map' = ap (λ t. t.map) h in
        complete-done w bytes_of (marks_in map) (length map) path left pages f map' left'
        (step-up w.nodes w.block.nodes w.rows.bits w.rows.length 0 f e)
        (left-same t.1) (eqb-true pages 0 t.0) (ap length (sym same)) (λ n. ap (λ m. one (flag m 0 n)) (sym same))
      where
        left-same : Some left ≡ Some left' → left' ≡ left
        left-same e = cc
    up_turn f (f' ∷ fs) room deep long e h =
        complete-up w bytes_of (marks_in map) (length map) path left pages f f' fs map' left'
        (step-up w.nodes w.block.nodes w.rows.bits w.rows.length (suc (length fs)) f e)
        (ih map path left pages f' fs room (omega arith) long h)

    turn : (f : Frame) (fs : List Frame) → w.window.size ≤ 32 * length map → length fs < w.rows.bytes → w.rows.bytes ≤ length path
        → (s : Option Step) → step_of f fs ≡ s → follows-step f fs s ≡ good → Ends map path left pages f fs
    turn f fs room deep long (Some (step.Chain next)) e h =
        complete-chain w bytes_of (marks_in map) (length map) path left pages f next fs map' left'
        (step-chain w.nodes w.block.nodes w.rows.bits w.rows.length (length fs) f next e)
        (ih map path left pages (next_chain f next) fs room deep long h)
    turn f fs room deep long (Some (step.Child x byte next)) e h = child-turn f fs room deep long x byte next e h
    turn f fs room deep long (Some step.Up) e h = up_turn f fs room deep long e h
    turn f fs room deep long None e h = absurd (failed map h)

  -- ---- a run
  run-right : (fuel : ℕ) → Right fuel
  unfolding run visit
  run-right zero map path left pages f fs room deep long h = absurd (failed map h)
  run-right (suc fuel) map path left pages f fs room deep long h =
      turn fuel (run-right fuel) map path left pages f fs room deep long
      (step_in w.nodes w.block.nodes w.rows.bits w.rows.length (length fs) f) refl h

  -- ---- the root
  module _ (at left total : ℕ) (map : List ℕ) (inside : at < w.block.nodes) (some : left ≡ 0 → ⊥)
      (room : w.window.size ≤ 32 * length map) (map₁ : List ℕ) (mark : Once w.window map map₁ at) where
    abbrev Answer : Type 0
    Answer = (t : Phys) × Found w bytes_of at total t × Marked w t map map' × (left' + nodes (tree t) ≡ left)

    root-leaf : (link : ℕ) → kind_of w.nodes w.block.nodes at ≡ Some (kind.Leaf link) → (path : List ℕ) → (n : Option ℕ) → leaf_left w path 0 at link total ≡ n
        → tested map₁ (left_leaf (left - 1) n) ≡ good → Answer
    unfolding left_if sound_walk pages_in nodes
    root-leaf link e path None t h = absurd (failed map₁ h)
    root-leaf link e path (Some n) t h =
        let u = passed None (Some left') failed-left (eqb n 0) (Some (left - 1)) (ap (λ t. t.answer) h) in
        let same : map₁ ≡ map' = ap (λ t. t.map) h in
        let left-same : left - 1 ≡ left' = some_same u.1 in
        let a : LeafHeld w bytes_of reads (take 0 path) at link total n =
        leaf-right w bytes_of reads path 0 (omega arith) (omega arith) at link total n e t in
        let ps : LeafPages w bytes_of reads (take 0 path) link total n = a.pages in (
          leaf_p at ps.list,
          record {
            place = refl;
            sound = (inside, ps.below);
            holds = a.held;
            walked = ps.path;
            live = ps.live;
            pages = omega (arith, ps.many, eqb-true n 0 u.0);
          },
          record {
            long = ap length (sym same) ∙ mark.long;
            marks = λ n l. ap (λ m. one (flag m 0 n)) (sym same) ∙ mark.marks n l;
          },
          omega arith,
        )
      where
        some_same : {a : ℕ} → Some a ≡ Some left' → a ≡ left'
        some_same e = cc

    root-inner : (fuel : ℕ) (path : List ℕ) → w.rows.bytes ≤ length path → 0 < w.rows.bytes → kind_of w.nodes w.block.nodes at ≡ Some kind.Inner
        → run w fuel (state map₁ path (left - 1) total (entered w.nodes w.block.nodes at) []) ≡ good → Answer
    unfolding pages_in nodes
    root-inner fuel path long deep e h =
        let c = run-right fuel map₁ path (left - 1) total (entered w.nodes w.block.nodes at) [] (omega (arith, mark.long)) deep long h in
        go c.above c.covered c.here c.covers c.nodes_left c.pages_left c.long c.marks
      where
        go : (rs : List Kids) → Above w bytes_of [] path rs → (r : Kids) → Covered w bytes_of 0 (take 0 path) (entered w.nodes w.block.nodes at) r
            → left' + (nodes_in (children_of r) + nodes_all rs) ≡ left - 1 → length (pages_among (children_of r)) + pages_all rs ≡ total → length map' ≡ length map₁
            → ((n : ℕ) → n < w.window.size → one (flag map' 0 n) ≡ marks_in map₁ n + (uses_among r (w.window.from + n) + uses_all rs (w.window.from + n)))
            → Answer
        go (r' ∷ rs) a r c u v l m = absurd a
        go [] a r c' u v l m =
            let c = c' (placed-enter w.block.nodes w.block.pages w.block.base w.nodes w.pages at) in (
              inner_p at r,
              record {
                place = refl;
                sound = inner-sound w bytes_of 0 [] at r c inside;
                holds = inner-held w bytes_of 0 [] at r c (kind-inner w.nodes w.pages w.block.nodes at e);
                walked = inner-walked w bytes_of 0 [] at r c deep;
                live = c.live;
                pages = omega arith;
              },
              record { long = l ∙ mark.long; marks = λ n b. omega (arith, m n b, mark.marks n b) },
              omega arith,
            )

    kind-root : (c : Option Kind) → kind_of w.nodes w.block.nodes at ≡ c → w.rows.bytes ≤ 64 → 0 < w.rows.bytes
        → test_kind w at map₁ (left - 1) total c ≡ good → Answer
    unfolding test_below
    kind-root None e short deep h = absurd (failed map₁ h)
    kind-root (Some kind.Inner) e short deep h =
        root-inner (steps_for w.block.nodes) (replicate 64 0) (omega (arith, length-replicate {A = ℕ} 64 0)) deep e h
    kind-root (Some (kind.Leaf link)) e short deep h = root-leaf link e (replicate 64 0) (leaf_left w (replicate 64 0) 0 at link total) refl h

pub test-right : (w : Given) (bytes_of : ℕ → List ℕ) (at left total : ℕ) (map map' : List ℕ) (left' : ℕ) → Fitting w map → Reads w bytes_of
    → at < w.block.nodes → test_trie w at map left total ≡ tested map' (Some left')
    → (t : Phys) × Found w bytes_of at total t × Marked w t map map' × (left' + nodes (tree t) ≡ left)
unfolding test_trie
test-right w bytes_of at left total map map' left' fit reads inside h =
    go (eqb left 0) refl (mark_once w.window map at).fresh refl h
  where
    map₁ : List ℕ
    map₁ = (mark_once w.window map at).map

    go : (q : Bool) → eqb left 0 ≡ q → (r : Bool) → (mark_once w.window map at).fresh ≡ r
        → cond q (tested map None) (cond r (test_kind w at map₁ (left - 1) total (kind_of w.nodes w.block.nodes at)) (tested map₁ None))
        ≡ tested map' (Some left')
        → (t : Phys) × Found w bytes_of at total t × Marked w t map map' × (left' + nodes (tree t) ≡ left)
    go true z r u h = absurd (failed w bytes_of reads map' left' map h)
    go false z false u h = absurd (failed w bytes_of reads map' left' map₁ h)
    go false z true u h =
        kind-root w bytes_of reads map' left' at left total map inside (eqb-false left 0 z) fit.bitmap map₁
        (mark-fresh w.window map at fit.bitmap u) (kind_of w.nodes w.block.nodes at) refl fit.readable.rows.short fit.readable.some h
