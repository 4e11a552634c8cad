-- A store is sound (document 01): the tables hold a trie for each block, in which the live pages stand and no others, and every
-- other node is free to use. It need not be one that calls can reach. This layout adds that the signature stored for a live page is
-- that of its row, and document 02 that each reader's entry is what the records of memberships and grants say (F-5), and that the number
-- in a leaf is that of its pages (F-6), which `cells` says.
use Rattle.std.specs.Prelude.{ℕ, suc, ◌+◌, ◌<◌, ◌≡◌, Bool, true, ◌&&◌, List, [], ◌∷◌, map, ltb, length, get_or}
use Rattle.meaning.specs.Sketch.{in_range}
use Rattle.meaning.specs.Trie.{Tree}
use Rattle.meaning.specs.Forest.{bytes_of_sketch, total_nodes}
use Rattle.layout.specs.Settings.{free_at}
use Rattle.layout.specs.Pages.{next_at, is_live, signature_at}
use Rattle.layout.specs.Signature.{signature}
use Rattle.rights.specs.Entries.{all_current}
use Rattle.children.specs.Heap.{Cells, nil, ◌⊕◌, Heap}
use Rattle.children.specs.Phys.{Phys, root, tree, first, cells, free_cells, Below}
use Rattle.children.specs.Phys.{Sound as SoundNodes}
use Rattle.trie_laws.specs.Block.{SoundBlock, EachFrom}
use Rattle.promises.specs.Tables.{Tables, given, page_class, page_row}

-- what the tries of blocks j, j + 1, .. claim of the tables, of N nodes and P pages
abbrev pub tries_cells : ℕ → ℕ → ℕ → List Phys → Cells
tries_cells N P j [] = nil
tries_cells N P j (t ∷ ts) = cells N (next_at P j) t ⊕ tries_cells N P (suc j) ts

-- node j is the root of block j; numbers are below the capacities, and siblings rise
abbrev pub Rooted : ℕ → ℕ → ℕ → List Phys → Type 0
Rooted N P j [] = Unit {0}
Rooted N P j (t ∷ ts) = (root t ≡ j) × SoundNodes N P t × Rooted N P (suc j) ts

-- the tables hold these tries, and these nodes are free
pub record Holding (T : Tables) (tries : List Phys) (free : List ℕ) : Type 0 where
  -- each word that a trie or the free chain claims is there, and none is claimed twice
  pub words : Heap T.nodes T.pages (tries_cells (given T).nodes (given T).pages 0 tries ⊕ free_cells (given T).nodes free)
  pub blocks : length tries ≡ (given T).blocks
  pub roots : Rooted (given T).nodes (given T).pages 0 tries
  -- the free chain begins at the free link
  pub chain : get_or T.settings free_at 0 ≡ first free
  pub below : Below (given T).nodes free
  -- every node stands in a trie or is free
  pub all : total_nodes (map tree tries) + length free ≡ (given T).nodes

-- the live pages, and their bytes in a block
unfoldable pub live_page : Tables → ℕ → Bool
live_page T p = ltb p (given T).pages && is_live T.pages p

unfoldable pub page_bytes : Tables → ℕ → ℕ → List ℕ
page_bytes T j p = bytes_of_sketch (given T) j (page_row T p)

-- a live page has a class below 64 and symbols below 2^b, and the signature stored for it is that of its row
pub record SoundPage (T : Tables) (p : ℕ) : Type 0 where
  pub class : page_class T p < 64
  pub symbols : in_range (given T).bits (page_row T p) ≡ true
  pub signature : signature_at T.pages (given T).pages p ≡ signature (given T).bits (page_row T p)

-- the store is sound, and its tries are these
pub record Sound (T : Tables) (F : List Tree) : Type 0 where
  pub tries : List Phys
  pub free : List ℕ
  pub holding : Holding T tries free
  pub forest : map tree tries ≡ F
  -- in each trie each live page stands once, in the leaf on its bytes' path, and no other page; siblings have different bytes, such
  -- as packing can give; no leaf but the root is empty; inner nodes are above the packed length
  pub blocks : EachFrom (SoundBlock (given T) (page_bytes T) (live_page T)) 0 F
  pub pages : (p : ℕ) → live_page T p ≡ true → SoundPage T p
  pub entries : all_current T.settings ≡ true
