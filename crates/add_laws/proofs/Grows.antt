-- On tables that hold a trie for each block, `insert_from` inserts the page into each, if there are free nodes enough.
use Rattle.std.specs.Prelude.{Some}
use Prim.Native.Nat.{ℕ, suc, ◌+◌, ◌≤◌, ◌<◌}
use native.Mathlib.Omega.{arith}
use mathlib.Core.Path.{◌≡◌, refl, ap, ◌∙◌, subst}
use mathlib.Core.Bool.{Bool, true}
use mathlib.Core.List.{List, [], ◌∷◌, map}
use lib.ListN.{length}
use Rattle.meaning.specs.Lists.{sum}
use Rattle.meaning.specs.Sketch.{in_range}
use Rattle.meaning.specs.Trie.{Tree, insert, nodes}
use Rattle.meaning.specs.Ledger.{Settings}
use Rattle.meaning.specs.Forest.{block_bytes, bytes_of_sketch, each_from, total_nodes}
use Rattle.layout.specs.Nodes.{most_nodes}
use Rattle.layout.specs.Lengths.{pages_length}
use Rattle.layout.specs.Pages.{next_at, links_at}
use Rattle.children.specs.Heap.{Cells, Heap, nil, page, ◌⊕◌}
use Rattle.blocks.specs.Tables.{RowTable, Roomy}
use Rattle.children.specs.Phys.{Phys, root, tree, first, cells, free_cells, Below, State}
use Rattle.children.proofs.Frame.{Less, less, nodes-kept, pages-kept}
use Rattle.children.proofs.Kids.{root_below}
use Rattle.trie_laws.specs.Block.{SoundBlock, EachFrom}
use Rattle.trie_laws.specs.Needed.{sum_from}
use Rattle.trie_laws.proofs.Nodes.{insert-nodes}
use Rattle.trie_insert.proofs.Grow.{Grown}
use Rattle.trie_insert.proofs.Inserts.{insert-right}
use Rattle.blocks.specs.RowBytes.{row_bytes, rows_of}
use Rattle.blocks.proofs.RowBytes.{level-byte}
use Rattle.blocks.proofs.BlockBytes.{octets}
use Rattle.store.proofs.Cells.{one-back}
use Rattle.promises.specs.Sound.{tries_cells, Rooted}
use Rattle.add_laws.specs.Insert.{Filled, on_insert, insert_block, insert_from}
use Rattle.add_laws.specs.Insert.{filled as done}
use Rattle.add_laws.proofs.Enough.{needs, leads}
use Rattle.add_laws.proofs.Kept.{Kept, block-kept}

-- the page's own links, with what they hold
abbrev pub spare_cells : ℕ → ℕ → (ℕ → ℕ) → ℕ → List Phys → Cells
spare_cells P p held j [] = nil
spare_cells P p held j (t ∷ ts) = page (next_at P j + p) (held j) ⊕ spare_cells P p held (suc j) ts

out : (x y z v w g : Cells) → Less ((x ⊕ y) ⊕ z ⊕ (v ⊕ w) ⊕ g) (x ⊕ z ⊕ v ⊕ y ⊕ w ⊕ g)
out x y z v w g = record { holds = λ N P h. search; nodes = λ a. omega arith; pages = λ a. omega arith }

past : (x y z w g : Cells) → Less (x ⊕ z ⊕ y ⊕ w ⊕ g) (y ⊕ z ⊕ w ⊕ x ⊕ g)
past x y z w g = record { holds = λ N P h. search; nodes = λ a. omega arith; pages = λ a. omega arith }

-- page p put into the trie of block j
abbrev pub inserts : Settings → (ℕ → ℕ → List ℕ) → ℕ → ℕ → Tree → Tree
inserts s bytes p j = insert (bytes j) (block_bytes s j) s.thresholds 0 p

-- the tables afterwards, from block j on, beside other cells
pub record GrownFrom (s : Settings) (j total : ℕ) (want : List Tree) (G : Cells) (R : Filled) : Type 0 where
  pub nodes_to : List ℕ
  pub pages_to : List ℕ
  pub free_to : ℕ
  pub to : List Phys
  pub frees_to : List ℕ
  pub is : R ≡ done nodes_to pages_to (Some free_to)
  pub heap : Heap nodes_to pages_to (tries_cells s.nodes s.pages j to ⊕ free_cells s.nodes frees_to ⊕ G)
  pub roots : Rooted s.nodes s.pages j to
  pub chain : free_to ≡ first frees_to
  pub below : Below s.nodes frees_to
  pub grown : map tree to ≡ want
  pub count : total_nodes (map tree to) + length frees_to ≡ total
  pub tables : Roomy s nodes_to pages_to

module _ (s : Settings) (S x : List ℕ) (count : length x ≡ s.symbols) (range : in_range s.bits x ≡ true) (p : ℕ) (lp : p < s.pages) (live : ℕ → Bool)
    (mine : (j : ℕ) → j < s.blocks → row_bytes s j S p ≡ bytes_of_sketch s j x)
    (rows : (j : ℕ) → j < s.blocks → RowTable s.pages (rows_of s j) S)
    (held : ℕ → ℕ) where
  abbrev bytes : ℕ → ℕ → List ℕ
  bytes j = row_bytes s j S

  inserted-nodes : (j : ℕ) (t : Tree) → nodes (inserts s bytes p j t) ≡ nodes t + needs s bytes p j t
  inserted-nodes j t = insert-nodes (bytes j) (block_bytes s j) s.thresholds 0 p t

  one : (j : ℕ) (t : Phys) {N P : List ℕ} {free : ℕ} {fs : List ℕ} (G : Cells) → j < s.blocks → s.nodes ≤ most_nodes →
      State s.nodes s.pages (next_at s.pages j) N P free t fs (page (next_at s.pages j + p) (held j) ⊕ G) → root t ≡ j →
      SoundBlock s bytes live j (tree t) → needs s bytes p j (tree t) ≤ length fs →
      Grown s.nodes s.pages (next_at s.pages j) j (nodes (tree t) + length fs) (inserts s bytes p j (tree t)) G (insert_block s S x p j N P free)
  unfolding insert_block rows_of
  one j t {fs = fs} G l small st r b m =
      rw r at
      (insert-right (bytes j) S s.thresholds (bytes_of_sketch s j x) (rows_of s j) s.nodes s.pages (next_at s.pages j) p (rows j l) small lp
      (λ k lk q lq. level-byte s j l S k q) t st (leads s x count range bytes live p mine j (tree t) l b)
      (omega (arith, insert-nodes (bytes j) (block_bytes s j) s.thresholds 0 p (tree t))))

  -- the tries of the blocks from j on
  pub insert-from : (ts : List Phys) (j : ℕ) {N P : List ℕ} (roomy : Roomy s N P) {free : ℕ} (fs : List ℕ) → free ≡ first fs → Below s.nodes fs → (G : Cells) →
      j + length ts ≤ s.blocks →
      Heap N P (tries_cells s.nodes s.pages j ts ⊕ free_cells s.nodes fs ⊕ spare_cells s.pages p held j ts ⊕ G) →
      Rooted s.nodes s.pages j ts → EachFrom (SoundBlock s bytes live) j (map tree ts) → sum_from (needs s bytes p) j (map tree ts) ≤ length fs →
      GrownFrom s j (total_nodes (map tree ts) + length fs) (each_from (inserts s bytes p) j (map tree ts)) G (insert_from s S x p (length ts) j N P free)
  unfolding insert_from each_from total_nodes sum sum_from
  insert-from [] j {N} {P} roomy {free} fs e b G l h r k m =
      record {
        nodes_to = N;
        pages_to = P;
        free_to = free;
        to = [];
        frees_to = fs;
        is = refl;
        heap = less (record { holds = λ N P h. search; nodes = λ a. omega arith; pages = λ a. omega arith }) h;
        roots = tt;
        chain = e;
        below = b;
        grown = refl;
        count = refl;
        tables = roomy;
      }
  insert-from (t ∷ ts) j {N} {P} roomy {free} fs e b G l h r k m =
      let T : Cells = tries_cells s.nodes s.pages (suc j) ts in
      let W : Cells = spare_cells s.pages p held (suc j) ts in
      let st : State s.nodes s.pages (next_at s.pages j) N P free t fs (page (next_at s.pages j + p) (held j) ⊕ T ⊕ W ⊕ G) = record {
        node_table = roomy.nodes;
        page_table = roomy.pages j (omega arith);
        heap = less (out (cells s.nodes (next_at s.pages j) t) T (free_cells s.nodes fs) (page (next_at s.pages j + p) (held j)) W G) h;
        sound = r.1;
        chain = e;
        below = b;
      } in
      let A = one j t (T ⊕ W ⊕ G) (omega arith) roomy.nodes.small st r.0 k.0 (omega arith) in
      let X : Cells = cells s.nodes (next_at s.pages j) A.to in
      let root = root_below s.nodes s.pages t r.1 in
      let same = subst (Kept s.nodes (links_at s.pages) (pages_length s) N P) A.is
      (block-kept s S x p lp (octets s x range) rows j (omega arith) (omega (arith, r.0)) N P free) in
      let E = insert-from ts (suc j) (record { nodes = nodes-kept same.0.same roomy.nodes; pages = λ i li. pages-kept same.1.same (roomy.pages i li) })
      A.frees_to A.state.chain A.state.below (X ⊕ G) (omega arith) (less (past X T (free_cells s.nodes A.frees_to) W G) A.state.heap) r.2 k.1
      (omega (arith, A.count, ap nodes A.grown, inserted-nodes j (tree t))) in
      record {
        nodes_to = E.nodes_to;
        pages_to = E.pages_to;
        free_to = E.free_to;
        to = A.to ∷ E.to;
        frees_to = E.frees_to;
        is = ap (on_insert (λ N' P' free'. insert_from s S x p (length ts) (suc j) N' P' free')) A.is ∙ E.is;
        heap = less (one-back X (tries_cells s.nodes s.pages (suc j) E.to) (free_cells s.nodes E.frees_to) G) E.heap;
        roots = (A.roots, A.state.sound, E.roots);
        chain = E.chain;
        below = E.below;
        grown = λ i. A.grown i ∷ E.grown i;
        count = omega (arith, A.count, E.count);
        tables = E.tables;
      }
