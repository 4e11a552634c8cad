-- The trie as it lies in the tables: each node with its number, and the children of an inner node in rising byte.
use Rattle.std.specs.Prelude.{ℕ, zero, suc, ◌+◌, ◌/◌, ◌<◌, ◌≤◌, ◌≡◌, cond, List, [], ◌∷◌, eqb, length}
use Rattle.meaning.specs.Trie.{Tree, leaf, inner, Children, none, child}
use Rattle.layout.specs.Nodes.{chain_word, chain_at, state_at, head_at, free_state, inner_state, leaf_state}
use Rattle.children.specs.Heap.{Cells, Heap, nil, node, page, ◌⊕◌}
use Rattle.layout.specs.Tables.{NodeTable, PageTable}

mutual
  pub data Phys : Type 0 where
    leaf_p : ℕ → List ℕ → Phys
    inner_p : ℕ → Kids → Phys

  -- the children of a node, each with its byte
  pub data Kids : Type 0 where
    no_kid : Kids
    kid : ℕ → Phys → Kids → Kids

abbrev pub root : Phys → ℕ
root (leaf_p n ps) = n
root (inner_p n ks) = n

-- the abstract trie
abbrev mutual
  pub tree : Phys → Tree
  tree (leaf_p n ps) = leaf ps
  tree (inner_p n ks) = inner (children_of ks)

  pub children_of : Kids → Children
  children_of no_kid = none
  children_of (kid b t ks) = child b (tree t) (children_of ks)

-- the link to the first number of a list
abbrev pub first : List ℕ → ℕ
first [] = 0
first (p ∷ ps) = p + 1

-- the pages of a leaf: page p's link to the next one stands at base + p
abbrev pub page_cells : ℕ → List ℕ → Cells
page_cells base [] = nil
page_cells base (p ∷ ps) = page (base + p) (first ps) ⊕ page_cells base ps

-- The children of a node stand in eight chains, each of 32 bytes. The link to the first child in chain g, that of the bytes from 32g on:
abbrev pub first_in : Kids → ℕ → ℕ
first_in no_kid g = 0
first_in (kid b t ks) g = cond (eqb (b / 32) g) (root t + 1) (first_in ks g)

-- k heads of node n from head g on, each with a link
unfoldable pub heads_from : ℕ → ℕ → ℕ → ℕ → (ℕ → ℕ) → Cells
heads_from cap n g zero link = nil
heads_from cap n g (suc k) link = node (head_at cap n g) (link g) ⊕ heads_from cap n (suc g) k link

-- all heads of node n
abbrev pub heads : ℕ → ℕ → (ℕ → ℕ) → Cells
heads cap n link = heads_from cap n 0 8 link

-- those of a node without children
abbrev pub no_kids : ℕ → ℕ → Cells
no_kids cap n = heads cap n (λ g. 0)

-- the free nodes, each linked to the next; their heads are 0
abbrev pub free_cells : ℕ → List ℕ → Cells
free_cells cap [] = nil
free_cells cap (f ∷ fs) = node (chain_at f) (first fs) ⊕ node (state_at cap f) free_state ⊕ no_kids cap f ⊕ free_cells cap fs

-- A tree owns its root's state and heads, the pages of its leaves, and the trees of the children with their chain words. A leaf's state
-- has the number of its pages, and the link to the first. A child's chain word has its byte, and the link to the first child after it in
-- its chain.
module _ (cap base : ℕ) where
  abbrev mutual
    pub cells : Phys → Cells
    cells (leaf_p n ps) = node (state_at cap n) (leaf_state (length ps) (first ps)) ⊕ no_kids cap n ⊕ page_cells base ps
    cells (inner_p n ks) = node (state_at cap n) inner_state ⊕ heads cap n (first_in ks) ⊕ linked_cells ks

    pub linked_cells : Kids → Cells
    linked_cells no_kid = nil
    linked_cells (kid b t ks) = node (chain_at (root t)) (chain_word b (first_in ks (b / 32))) ⊕ cells t ⊕ linked_cells ks

  -- the children of node n
  abbrev pub kid_cells : Kids → ℕ → Cells
  kid_cells ks n = heads cap n (first_in ks) ⊕ linked_cells ks

abbrev pub Below : ℕ → List ℕ → Type 0
Below cap [] = Unit {0}
Below cap (f ∷ fs) = (f < cap) × Below cap fs

-- numbers below the capacities, and rising bytes
module _ (cap pcap : ℕ) where
  abbrev mutual
    pub Sound : Phys → Type 0
    Sound (leaf_p n ps) = (n < cap) × Below pcap ps
    Sound (inner_p n ks) = (n < cap) × SoundK ks 0

    pub SoundK : Kids → ℕ → Type 0
    SoundK no_kid lo = Unit {0}
    SoundK (kid b t ks) lo = (lo ≤ b) × (b < 256) × Sound t × SoundK ks (suc b)

-- a trie and the free nodes lie in the tables, beside other cells
pub record State (cap pcap base : ℕ) (N P : List ℕ) (free : ℕ) (t : Phys) (fs : List ℕ) (G : Cells) : Type 0 where
  pub node_table : NodeTable cap N
  pub page_table : PageTable pcap base P
  pub heap : Heap N P (cells cap base t ⊕ free_cells cap fs ⊕ G)
  pub sound : Sound cap pcap t
  pub chain : free ≡ first fs
  pub below : Below cap fs
