-- On tables that hold a trie for each block, the nodes that an add needs are those of the insertions.
use Rattle.std.specs.Prelude.{Some}
use Prim.Native.Nat.{ℕ, suc, ◌+◌, ◌≤◌, ◌<◌}
use native.Mathlib.Omega.{arith}
use mathlib.Core.Path.{◌≡◌, sym, ap, ◌∙◌}
use mathlib.Core.Bool.{Bool, true}
use mathlib.Core.List.{List, [], ◌∷◌, map}
use lib.ListN.{length, get_or}
use Rattle.meaning.specs.Sketch.{in_range, block_length}
use Rattle.meaning.specs.Trie.{Tree, byte_at}
use Rattle.meaning.specs.Ledger.{Settings}
use Rattle.meaning.specs.Forest.{block_bytes, bytes_of_sketch}
use Rattle.layout.specs.Pages.{next_at}
use Rattle.children.specs.Heap.{Cells, Heap, ◌⊕◌}
use Rattle.children.specs.Phys.{Phys, root, tree, first, cells, free_cells, Below, State}
use Rattle.children.specs.Phys.{Sound as SoundNodes}
use Rattle.children.proofs.Frame.{less}
use Rattle.trie_laws.specs.Block.{SoundBlock, EachFrom}
use Rattle.trie_laws.specs.Needed.{needed, sum_from}
use Rattle.trie_laws.proofs.Pages.{stands-any}
use Rattle.trie.proofs.Arrival.{Leads, sound-leads}
use Rattle.blocks.specs.Tables.{Roomy}
use Rattle.blocks.specs.RowBytes.{row_bytes}
use Rattle.trie_room.proofs.Block.{needed-block}
use Rattle.promises.specs.Sound.{tries_cells, Rooted}
use Rattle.add_laws.specs.Room.{needed_from, block_needs}
use Rattle.blocks.proofs.BlockBytes.{bytes-length, octets}
use Rattle.store.proofs.Cells.{one_out, one-past}

-- what an insertion of page p needs in block j
abbrev pub needs : Settings → (ℕ → ℕ → List ℕ) → ℕ → ℕ → Tree → ℕ
needs s bytes p j = needed (bytes j) (block_bytes s j) s.thresholds 0 p

-- a sketch in the blocks of its opening
module _ (s : Settings) (x : List ℕ) (count : length x ≡ s.symbols) (range : in_range s.bits x ≡ true) where
  -- `bytes j q` are the packed bytes of page q in block j: the sketch's for the new page p, those of their rows for live pages
  module _ (bytes : ℕ → ℕ → List ℕ) (live : ℕ → Bool) (p : ℕ) (mine : (j : ℕ) → j < s.blocks → bytes j p ≡ bytes_of_sketch s j x) where
    pub leads : (j : ℕ) (t : Tree) → j < s.blocks → SoundBlock s bytes live j t → Leads (bytes j) p t (bytes_of_sketch s j x)
    unfolding byte_at
    leads j t l b =
        sound-leads (bytes j) s.bits (block_length s.symbols s.blocks j) p t (bytes_of_sketch s j x)
        (rw (bytes-length s j l x count) b.sound)
        (λ k m. ap (λ (ys : List ℕ). get_or ys k 0) (mine j l))
        (octets s x range j)

    module _ (S : List ℕ) (rows : (j q : ℕ) → j < s.blocks → live q ≡ true → bytes j q ≡ row_bytes s j S q)
        {N P : List ℕ} (roomy : Roomy s N P) {free : ℕ} (fs : List ℕ) (chain : free ≡ first fs) (below : Below s.nodes fs) where
      pub trie-state : (j : ℕ) (t : Phys) (ts : List Phys) (G : Cells) → j < s.blocks →
          Heap N P (tries_cells s.nodes s.pages j (t ∷ ts) ⊕ free_cells s.nodes fs ⊕ G) → SoundNodes s.nodes s.pages t →
          State s.nodes s.pages (next_at s.pages j) N P free t fs (tries_cells s.nodes s.pages (suc j) ts ⊕ G)
      trie-state j t ts G l h g = record {
        node_table = roomy.nodes;
        page_table = roomy.pages j l;
        heap = less (one_out (cells s.nodes (next_at s.pages j) t) (tries_cells s.nodes s.pages (suc j) ts) (free_cells s.nodes fs) G) h;
        sound = g;
        chain = chain;
        below = below;
      }

      block-right : (j : ℕ) (t : Phys) (G : Cells) → j < s.blocks →
          State s.nodes s.pages (next_at s.pages j) N P free t fs G → root t ≡ j → SoundBlock s bytes live j (tree t) →
          block_needs s N P S x j ≡ Some (needs s bytes p j (tree t))
      unfolding block_needs
      block-right j t G l st r b =
          rw (r, bytes-length s j l x count) at
          (needed-block st (bytes j) p (leads j (tree t) l b) S s.thresholds s j l
          (λ q m. rows j q l (sym (stands-any live (tree t) b.stands q) ∙ m)))

      pub needed-from : (ts : List Phys) (a j : ℕ) (G : Cells) → j + length ts ≤ s.blocks →
          Heap N P (tries_cells s.nodes s.pages j ts ⊕ free_cells s.nodes fs ⊕ G) → Rooted s.nodes s.pages j ts →
          EachFrom (SoundBlock s bytes live) j (map tree ts) →
          needed_from (block_needs s N P S x) a j (length ts) ≡ Some (a + sum_from (needs s bytes p) j (map tree ts))
      unfolding needed_from sum_from
      needed-from [] a j G l h r b = ap Some (omega arith)
      needed-from (t ∷ ts) a j G l h r b =
          rw (block-right j t (tries_cells s.nodes s.pages (suc j) ts ⊕ G) (omega arith) (trie-state j t ts G (omega arith) h r.1) r.0 b.0)
          (needed-from ts (a + needs s bytes p j (tree t)) (suc j) (cells s.nodes (next_at s.pages j) t ⊕ G) (omega arith)
          (less (one-past (cells s.nodes (next_at s.pages j) t) (tries_cells s.nodes s.pages (suc j) ts) (free_cells s.nodes fs) G) h)
          r.2 b.1
          ∙ ap Some (omega arith))
