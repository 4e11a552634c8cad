-- What the kind of a node says of its words, and what the test of a leaf says of its pages and their number.
use Rattle.std.specs.Prelude.{Option, Some, None}
use Prim.Native.Nat.{ℕ, zero, suc, ◌+◌, ◌-◌, ◌<◌, ◌≤◌}
use native.Mathlib.Omega.{arith}
use native.Mathlib.Nat.{zero-add}
use mathlib.Core.Path.{◌≡◌, refl, sym, ap, ◌∙◌}
use mathlib.Core.Bool.{Bool, true, false, cond}
use mathlib.Core.List.{List, [], ◌∷◌}
use lib.Dec.{ltb, eqb}
use lib.ListN.{length, get_or, take}
use lib.Seq.{get_or-take, length-take-le}
use borrow.Author.Tests.{eqb-true, eqb-false, eq-eqb, ltb-false}
use Rattle.meaning.specs.Lists.{all}
use Rattle.meaning.specs.Trie.{byte_at}
use Rattle.layout.specs.Nodes.{state_at, inner_state}
use Rattle.layout.specs.States.{kind_of as stated, count_of}
use Rattle.layout.specs.declared.nodes.Kind.{Kind as Stated}
use Rattle.layout.specs.declared.nodes.Kind.TheVariants as kind
use Rattle.layout.proofs.States.{inner-state}
use Rattle.layout.specs.Pages.{is_live}
use Rattle.children.specs.Heap.{Holds}
use Rattle.children.specs.Phys.{leaf_p, first, page_cells, no_kids, cells, Below}
use Rattle.blocks.specs.Packed.{page_byte, level_at}
use Rattle.trie_laws.specs.Path.{follows}
use Rattle.meaning.proofs.Lists.{and_intro, upto_all}
use Rattle.children.specs.Order.{bare}
use Rattle.children.proofs.Bare.{bare-holds}
use Rattle.children.proofs.Leaves.{held-state}
use Rattle.trie_laws.proofs.Path.{shift}
use Rattle.node_check.specs.declared.leaf.Kind.TheVariants.{Inner, Leaf}
use Rattle.node_check.specs.Leaf.{childless, kind_of, on_path, counted, test_pages, test_leaf}
use Rattle.node_check.specs.Given.{Given}
use Rattle.trie_visit.specs.Visit.{leaf_left}
use Rattle.trie_check_laws.specs.Found.{Reads}
use Rattle.children.proofs.Tests.{refused, passed}

-- ---- the kind of a node
module _ (N P : List ℕ) (cap x : ℕ) where
  abbrev word : ℕ
  word = get_or N (state_at cap x) 0

  -- back from the test of a leaf
  inner-stated : (q : Bool) (s : Stated) → childless q s ≡ Some Inner → s ≡ kind.Inner
  inner-stated q kind.Inner h = refl
  inner-stated q kind.Free h = let z : ◌≡◌ {A = ℕ} 0 1 = cc in absurd (omega arith)
  inner-stated true (kind.Leaf l) h = let z : ◌≡◌ {A = ℕ} 0 1 = cc in absurd (omega arith)
  inner-stated false (kind.Leaf l) h = let z : ◌≡◌ {A = ℕ} 0 1 = cc in absurd (omega arith)

  leaf-stated : (link : ℕ) (q : Bool) (s : Stated) → childless q s ≡ Some (Leaf link) → (s ≡ kind.Leaf link) × (q ≡ true)
  leaf-stated link q kind.Inner h = let z : ◌≡◌ {A = ℕ} 0 1 = cc in absurd (omega arith)
  leaf-stated link q kind.Free h = let z : ◌≡◌ {A = ℕ} 0 1 = cc in absurd (omega arith)
  leaf-stated link true (kind.Leaf l) h = let e : l ≡ link = cc in (ap kind.Leaf e, refl)
  leaf-stated link false (kind.Leaf l) h = let z : ◌≡◌ {A = ℕ} 0 1 = cc in absurd (omega arith)

  pub kind-inner : kind_of N cap x ≡ Some Inner → word ≡ inner_state
  unfolding kind_of
  kind-inner h = inner-state N cap x (inner-stated (bare N cap x) (stated N cap x) h)

  record AtLeaf (link : ℕ) : Type 0 where
    stands : stated N cap x ≡ kind.Leaf link
    heads : Holds (no_kids cap x) N P

  kind-leaf : (link : ℕ) → kind_of N cap x ≡ Some (Leaf link) → AtLeaf link
  unfolding kind_of
  kind-leaf link h =
      let e = leaf-stated link (bare N cap x) (stated N cap x) h in
      record { stands = e.0; heads = bare-holds N P cap x e.1 }

-- ---- the path
pub follows-each : (bytes_of : ℕ → List ℕ) (k : ℕ) (ys : List ℕ) (p : ℕ) → ((i : ℕ) → i < length ys → byte_at bytes_of (k + i) p ≡ get_or ys i 0) →
    follows bytes_of k ys p ≡ true
unfolding follows
follows-each bytes_of k [] p h = refl
follows-each bytes_of k (y ∷ ys) p h =
    and_intro (eqb (byte_at bytes_of k p) y) (follows bytes_of (suc k) ys p)
    (eq-eqb (byte_at bytes_of k p) y (ap (λ i. byte_at bytes_of i p) (omega arith) ∙ h 0 (omega arith)))
    (follows-each bytes_of (suc k) ys p (λ i l. ap (λ j. byte_at bytes_of j p) (sym (shift k i)) ∙ h (suc i) (omega arith)))

-- ---- the pages of a leaf
module _ (w : Given) (bytes_of : ℕ → List ℕ) (reads : Reads w bytes_of) where
  -- the pages below the bytes ys, from a link on; n is what they leave of a budget f
  pub record LeafPages (ys : List ℕ) (link f n : ℕ) : Type 0 where
    pub list : List ℕ
    pub start : first list ≡ link
    pub held : Holds (page_cells w.block.base list) w.nodes w.pages
    pub below : Below w.block.pages list
    pub live : all (is_live w.pages) list ≡ true
    pub path : all (follows bytes_of 0 ys) list ≡ true
    pub many : n + length list ≡ f

  -- leaf x with them
  pub record LeafHeld (ys : List ℕ) (x link f n : ℕ) : Type 0 where
    pub pages : LeafPages ys link f n
    pub held : Holds (cells w.block.nodes w.block.base (leaf_p x pages.list)) w.nodes w.pages

  module _ (path : List ℕ) (d : ℕ) (long : d ≤ length path) (deep : d ≤ w.rows.bytes) where
    abbrev ys : List ℕ
    ys = take d path

    abbrev test : ℕ → ℕ → Option ℕ
    test link f = test_pages w.pages w.sketches w.block.pages w.block.base w.rows path d link f

    on-path : (p : ℕ) → p < w.block.pages → on_path w.sketches w.rows path d p ≡ true → follows bytes_of 0 ys p ≡ true
    unfolding on_path
    on-path p l h =
        follows-each bytes_of 0 ys p
        (λ i m.
        let i-below : i < d = omega (arith, length-take-le d path long) in
        let byte : ℕ = page_byte w.sketches (level_at w.rows i) p in
        ap (λ j. byte_at bytes_of j p) (zero-add i)
        ∙ reads p i l (omega arith)
        ∙ eqb-true byte (get_or path i 0) (upto_all (λ k. eqb (page_byte w.sketches (level_at w.rows k) p) (get_or path k 0)) d h i i-below)
        ∙ sym (get_or-take d path i 0 i-below))

    -- no page
    none : (link f n : ℕ) → link ≡ 0 → Some f ≡ Some n → LeafPages ys link f n
    unfolding all
    none link f n e h =
        let same : f ≡ n = some_same h in
        record {
          list = [];
          start = sym e;
          held = tt;
          below = tt;
          live = refl;
          path = refl;
          many = omega arith;
        }
      where
        some_same : Some f ≡ Some n → f ≡ n
        some_same h = cc

    -- one page more
    more : (link f n : ℕ) → (link ≡ 0 → ⊥) → link ≤ w.block.pages → is_live w.pages (link - 1) ≡ true
        → on_path w.sketches w.rows path d (link - 1) ≡ true
        → LeafPages ys (get_or w.pages (w.block.base + (link - 1)) 0) f n → LeafPages ys link (suc f) n
    unfolding all
    more link f n some inside live on r =
        let p : ℕ = link - 1 in
        record {
          list = p ∷ r.list;
          start = omega arith;
          held = (sym r.start, r.held);
          below = (omega arith, r.below);
          live = and_intro (is_live w.pages p) (all (is_live w.pages) r.list) live r.live;
          path = and_intro (follows bytes_of 0 ys p) (all (follows bytes_of 0 ys) r.list) (on-path p (omega arith) on) r.path;
          many = omega (arith, r.many);
        }

    pages-right : (f link n : ℕ) → test link f ≡ Some n → LeafPages ys link f n
    unfolding test_pages
    pages-right zero link n h =
        let t = passed None (Some n) failed (eqb link 0) _ h in
        none link 0 n (eqb-true link 0 t.0) t.1
      where
        failed : None ≡ Some n → ⊥
        failed e = let z : ◌≡◌ {A = ℕ} 0 1 = cc in omega arith
    pages-right (suc f) link n h =
        go (eqb link 0) refl h (pages-right f (get_or w.pages (w.block.base + (link - 1)) 0) n)
      where
        failed : None ≡ Some n → ⊥
        failed e = let z : ◌≡◌ {A = ℕ} 0 1 = cc in omega arith

        next : ℕ
        next = get_or w.pages (w.block.base + (link - 1)) 0

        on : Bool
        on = on_path w.sketches w.rows path d (link - 1)

        go : (q : Bool) → eqb link 0 ≡ q
            → cond q (Some (suc f)) (cond (ltb w.block.pages link) None (cond (is_live w.pages (link - 1)) (cond on (test next f) None) None)) ≡ Some n
            → (test next f ≡ Some n → LeafPages ys next f n) → LeafPages ys link (suc f) n
        go true e h ih = none link (suc f) n (eqb-true link 0 e) h
        go false e h ih =
            let t1 = refused None (Some n) failed (ltb w.block.pages link) _ h in
            let t2 = passed None (Some n) failed (is_live w.pages (link - 1)) _ t1.1 in
            let t3 = passed None (Some n) failed on _ t2.1 in
            more link f n (eqb-false link 0 e) (ltb-false w.block.pages link t1.0) t2.0 t3.0 (ih t3.1)

    -- ---- their number
    counted-right : (count f n : ℕ) (q : Option ℕ) → counted count f q ≡ Some n → (q ≡ Some n) × (n + count ≡ f)
    counted-right count f n (Some m) h = go (eqb (m + count) f) refl h
      where
        go : (q : Bool) → eqb (m + count) f ≡ q → cond q (Some m) None ≡ Some n → (Some m ≡ Some n) × (n + count ≡ f)
        go true e h = let same : m ≡ n = cc in (h, omega (arith, eqb-true (m + count) f e))
        go false e h = let z : ◌≡◌ {A = ℕ} 0 1 = cc in absurd (omega arith)
    counted-right count f n None h = let z : ◌≡◌ {A = ℕ} 0 1 = cc in absurd (omega arith)

    pub leaf-right : (x link f n : ℕ) → kind_of w.nodes w.block.nodes x ≡ Some (Leaf link) → leaf_left w path d x link f ≡ Some n → LeafHeld ys x link f n
    unfolding test_leaf
    leaf-right x link f n e h =
        let a : AtLeaf w.nodes w.pages w.block.nodes x link = kind-leaf w.nodes w.pages w.block.nodes x link e in
        let c = counted-right (count_of w.nodes w.block.nodes x) f n (test link f) h in
        let ps : LeafPages ys link f n = pages-right f link n c.0 in
        let many : count_of w.nodes w.block.nodes x ≡ length ps.list = omega (arith, ps.many, c.1) in
        let first-link : stated w.nodes w.block.nodes x ≡ kind.Leaf (first ps.list) = a.stands ∙ ap kind.Leaf (sym ps.start) in
        record { pages = ps; held = (held-state w.nodes w.block.nodes x ps.list first-link many, (a.heads, ps.held)) }
