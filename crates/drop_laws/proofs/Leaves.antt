-- On tables that hold a trie for each block, in which the page stands, `remove_from` takes the page out of each.
use Rattle.std.specs.Prelude.{Some}
use Prim.Native.Nat.{ℕ, suc, ◌+◌, ◌*◌, ◌≤◌, ◌<◌}
use native.Mathlib.Omega.{arith}
use mathlib.Core.Path.{◌≡◌, refl, ap, ◌∙◌}
use mathlib.Core.Bool.{Bool, true}
use mathlib.Core.List.{List, [], ◌∷◌, map}
use lib.ListN.{length, get_or}
use Rattle.meaning.specs.Lists.{sum}
use Rattle.meaning.specs.Sketch.{block_length}
use Rattle.meaning.specs.Trie.{Tree, byte_at, remove}
use Rattle.meaning.specs.Ledger.{Settings}
use Rattle.meaning.specs.Forest.{block_bytes, each_from, total_nodes}
use Rattle.layout.specs.Pages.{next_at}
use Rattle.children.specs.Heap.{Cells, Heap, page, ◌⊕◌}
use Rattle.children.specs.Phys.{Phys, root, tree, first, cells, free_cells, Below, State}
use Rattle.children.proofs.Frame.{Less, less, nodes-kept, pages-kept}
use Rattle.trie_laws.specs.Block.{SoundBlock, EachFrom}
use Rattle.trie_laws.proofs.Pages.{stands-any}
use Rattle.trie.proofs.Arrival.{Leads, sound-leads}
use Rattle.blocks.specs.Tables.{Roomy}
use Rattle.blocks.specs.RowBytes.{row_bytes}
use Rattle.blocks.proofs.BlockBytes.{row-length, row-octets}
use Rattle.trie_remove.specs.Remove.{Gone, gone}
use Rattle.trie_remove.proofs.Removal.{RemoveDone, remove-right}
use Rattle.promises.specs.Sound.{tries_cells, Rooted}
use Rattle.store.proofs.Cells.{one_out, one-back}
use Rattle.drop_laws.specs.Removal.{on_removed, remove_block, remove_from}

-- a trie put beside, and the page's link given up
past : (x y z v g : Cells) → Less (x ⊕ z ⊕ v ⊕ y ⊕ g) (y ⊕ z ⊕ x ⊕ g)
past x y z v g = record { holds = λ N P h. search; nodes = λ a. omega arith; pages = λ a. omega arith }

-- page p taken out of the trie of block j
abbrev pub removes : (ℕ → ℕ → List ℕ) → ℕ → ℕ → Tree → Tree
removes bytes p j = remove (bytes j) 0 p

-- the tables afterwards, from block j on, beside other cells
pub record LeftFrom (s : Settings) (j total : ℕ) (want : List Tree) (G : Cells) (R : Gone) : Type 0 where
  pub nodes_to : List ℕ
  pub pages_to : List ℕ
  pub free_to : ℕ
  pub to : List Phys
  pub frees_to : List ℕ
  pub is : R ≡ gone nodes_to pages_to (Some free_to)
  pub heap : Heap nodes_to pages_to (tries_cells s.nodes s.pages j to ⊕ free_cells s.nodes frees_to ⊕ G)
  pub roots : Rooted s.nodes s.pages j to
  pub chain : free_to ≡ first frees_to
  pub below : Below s.nodes frees_to
  pub left : map tree to ≡ want
  pub count : total_nodes (map tree to) + length frees_to ≡ total

-- `bytes j q` are the packed bytes of page q in block j: those of its row for page p, which stands in the tries
module _ (s : Settings) (S : List ℕ) (p : ℕ) (inside : p * s.symbols + s.symbols ≤ length S) (live : ℕ → Bool) (here : live p ≡ true)
    (bytes : ℕ → ℕ → List ℕ) (mine : (j : ℕ) → j < s.blocks → bytes j p ≡ row_bytes s j S p) where
  leads : (j : ℕ) (t : Tree) → j < s.blocks → SoundBlock s bytes live j t → Leads (bytes j) p t (row_bytes s j S p)
  unfolding byte_at
  leads j t l b =
      sound-leads (bytes j) s.bits (block_length s.symbols s.blocks j) p t (row_bytes s j S p)
      (rw (row-length s S p inside j l) b.sound)
      (λ k m. ap (λ (ys : List ℕ). get_or ys k 0) (mine j l))
      (row-octets s S p j)

  one : (j : ℕ) (t : Phys) {N P : List ℕ} {free : ℕ} {fs : List ℕ} (G : Cells) → j < s.blocks →
      State s.nodes s.pages (next_at s.pages j) N P free t fs G → root t ≡ j → SoundBlock s bytes live j (tree t) →
      RemoveDone s.nodes s.pages (next_at s.pages j) (bytes j) p N P t fs G (remove_block s S p j N P free)
  unfolding remove_block
  one j t G l st r b =
      rw r at
      (remove-right (bytes j) p st (leads j (tree t) l b) s.bits (block_length s.symbols s.blocks j) (block_bytes s j) b.sound
      (stands-any live (tree t) b.stands p ∙ here))

  -- the tries of the blocks from j on
  pub remove-from : (ts : List Phys) (j : ℕ) {N P : List ℕ} (roomy : Roomy s N P) {free : ℕ} (fs : List ℕ) → free ≡ first fs → Below s.nodes fs → (G : Cells) →
      j + length ts ≤ s.blocks →
      Heap N P (tries_cells s.nodes s.pages j ts ⊕ free_cells s.nodes fs ⊕ G) →
      Rooted s.nodes s.pages j ts → EachFrom (SoundBlock s bytes live) j (map tree ts) →
      LeftFrom s j (total_nodes (map tree ts) + length fs) (each_from (removes bytes p) j (map tree ts)) G (remove_from s S p (length ts) j N P free)
  unfolding remove_from each_from total_nodes sum
  remove-from [] j {N} {P} roomy {free} fs e b G l h r k =
      record {
        nodes_to = N;
        pages_to = P;
        free_to = free;
        to = [];
        frees_to = fs;
        is = refl;
        heap = h;
        roots = tt;
        chain = e;
        below = b;
        left = refl;
        count = refl;
      }
  remove-from (t ∷ ts) j {N} {P} roomy {free} fs e b G l h r k =
      let T : Cells = tries_cells s.nodes s.pages (suc j) ts in
      let st : State s.nodes s.pages (next_at s.pages j) N P free t fs (T ⊕ G) = record {
        node_table = roomy.nodes;
        page_table = roomy.pages j (omega arith);
        heap = less (one_out (cells s.nodes (next_at s.pages j) t) T (free_cells s.nodes fs) G) h;
        sound = r.1;
        chain = e;
        below = b;
      } in
      let A = one j t (T ⊕ G) (omega arith) st r.0 k.0 in
      let X : Cells = cells s.nodes (next_at s.pages j) A.trie_to in
      let E = remove-from ts (suc j)
      (record { nodes = nodes-kept A.nodes_length roomy.nodes; pages = λ i li. pages-kept A.pages_length (roomy.pages i li) })
      A.frees_to A.state.chain A.state.below (X ⊕ G) (omega arith)
      (less (past X T (free_cells s.nodes A.frees_to) (page (next_at s.pages j + p) A.link_to) G) A.state.heap) r.2 k.1 in
      record {
        nodes_to = E.nodes_to;
        pages_to = E.pages_to;
        free_to = E.free_to;
        to = A.trie_to ∷ E.to;
        frees_to = E.frees_to;
        is = ap (on_removed (λ N' P' free'. remove_from s S p (length ts) (suc j) N' P' free')) A.is ∙ E.is;
        heap = less (one-back X (tries_cells s.nodes s.pages (suc j) E.to) (free_cells s.nodes E.frees_to) G) E.heap;
        roots = (A.root ∙ r.0, A.state.sound, E.roots);
        chain = E.chain;
        below = E.below;
        left = λ i. A.removed i ∷ E.left i;
        count = omega (arith, A.count, E.count);
      }
