-- What the cells of a trie claim: the links of the pages in a chain, once for each time that a page stands there, the heads of a node, and
-- the words of its children; and what its pages are below.
use Prim.Native.Nat.{ℕ, zero, suc, ◌+◌, ◌≤◌}
use native.Mathlib.Omega.{arith}
use mathlib.Core.Path.{◌≡◌, refl}
use mathlib.Core.Bool.{Bool, true, false, cond}
use mathlib.Core.List.{List, [], ◌∷◌}
use lib.Dec.{ltb, eqb}
use borrow.Author.Tests.{eqb-true, eqb-false, lt-ltb}
use Rattle.meaning.specs.Lists.{all, count}
use Rattle.meaning.proofs.Lists.{and_intro}
use Rattle.layout.specs.Nodes.{chain_at, head_at}
use Rattle.children.specs.Heap.{hit, node_claims, page_claims, Holds}
use Rattle.children.specs.Phys.{Phys, Kids, no_kid, kid, root, page_cells, first_in, heads_from, heads, no_kids, cells, linked_cells, kid_cells, Below}
use Rattle.children.proofs.Frame.{hit_same, hit_other}

-- ---- the links of pages

-- the same page, or the same link
hit-page : (base p x : ℕ) → hit (base + p) (base + x) ≡ cond (eqb x p) 1 0
hit-page base p x = go (eqb x p) refl
  where
    go : (t : Bool) → eqb x p ≡ t → hit (base + p) (base + x) ≡ cond t 1 0
    go true e = hit_same {a = base + x} {b = base + p} (omega (arith, eqb-true x p e))
    go false e = hit_other {a = base + x} {b = base + p} (λ q. eqb-false x p e (omega arith))

pub page-claims : (base x : ℕ) (ps : List ℕ) → page_claims (page_cells base ps) (base + x) ≡ count (eqb x) ps
unfolding count
page-claims base x [] = refl
page-claims base x (p ∷ ps) = omega (arith, hit-page base p x, page-claims base x ps)

-- ---- the heads of a node

-- how often a word is among n from k on
unfoldable pub among : ℕ → ℕ → ℕ → ℕ
among k zero a = 0
among k (suc n) a = hit k a + among (suc k) n a

pub among-out : (k n a : ℕ) → (k ≤ a → k + n ≤ a) → among k n a ≡ 0
unfolding among
among-out k zero a h = refl
among-out k (suc n) a h =
    omega (arith, hit_other {a = a} {b = k} (λ e. omega (arith, h (omega arith))), among-out (suc k) n a (λ l. omega (arith, h (omega arith))))

heads-from : (cap n : ℕ) (L : ℕ → ℕ) (k g a : ℕ) → node_claims (heads_from cap n g k L) a ≡ among (head_at cap n g) k a
unfolding heads_from among
heads-from cap n L zero g a = refl
heads-from cap n L (suc k) g a =
    let next : head_at cap n (suc g) ≡ suc (head_at cap n g) = omega arith in
    omega (arith, rw next at (heads-from cap n L k (suc g) a))

-- whatever they hold
pub heads-claim : (cap n : ℕ) (L : ℕ → ℕ) (a : ℕ) → node_claims (heads cap n L) a ≡ among (head_at cap n 0) 8 a
heads-claim cap n L a = heads-from cap n L 8 0 a

heads-pages : (cap n : ℕ) (L : ℕ → ℕ) (a : ℕ) → page_claims (heads cap n L) a ≡ 0
unfolding heads_from
heads-pages cap n L a = refl

pub none-pages : (cap n a : ℕ) → page_claims (no_kids cap n) a ≡ 0
none-pages cap n a = heads-pages cap n (λ g. 0) a

-- ---- the children of a node
module _ (cap base n a : ℕ) where
  pub end-pages : page_claims (kid_cells cap base no_kid n) a ≡ 0
  end-pages = omega (arith, heads-pages cap n (first_in no_kid) a)

  pub kid-pages : (b : ℕ) (t : Phys) (ks : Kids) → page_claims (kid_cells cap base (kid b t ks) n) a ≡ page_claims (cells cap base t) a + page_claims (kid_cells cap base ks n) a
  kid-pages b t ks = omega (arith, heads-pages cap n (first_in (kid b t ks)) a, heads-pages cap n (first_in ks) a)

  pub end-nodes : node_claims (kid_cells cap base no_kid n) a ≡ node_claims (no_kids cap n) a
  end-nodes = omega (arith, heads-claim cap n (first_in no_kid) a, heads-claim cap n (λ g. 0) a)

  pub kid-nodes : (b : ℕ) (t : Phys) (ks : Kids) →
      node_claims (kid_cells cap base (kid b t ks) n) a ≡ hit (chain_at (root t)) a + node_claims (cells cap base t) a + node_claims (kid_cells cap base ks n) a
  kid-nodes b t ks = omega (arith, heads-claim cap n (first_in (kid b t ks)) a, heads-claim cap n (first_in ks) a)

-- the trees of the children lie in the tables
module _ (cap base : ℕ) (N P : List ℕ) where
  abbrev pub Trees : Kids → Type 0
  Trees no_kid = Unit {0}
  Trees (kid b t ks) = Holds (cells cap base t) N P × Trees ks

  linked-trees : (ks : Kids) → Holds (linked_cells cap base ks) N P → Trees ks
  linked-trees no_kid h = tt
  linked-trees (kid b t ks) h = (h.1.0, linked-trees ks h.1.1)

  pub kid-trees : (ks : Kids) (n : ℕ) → Holds (kid_cells cap base ks n) N P → Trees ks
  kid-trees ks n h = linked-trees ks h.1

-- ---- the pages of a sound trie
pub below_all : (pcap : ℕ) (ps : List ℕ) → Below pcap ps → all (λ p. ltb p pcap) ps ≡ true
unfolding all
below_all pcap [] h = refl
below_all pcap (p ∷ ps) h = and_intro (ltb p pcap) (all (λ q. ltb q pcap) ps) (lt-ltb p pcap h.0) (below_all pcap ps h.1)
