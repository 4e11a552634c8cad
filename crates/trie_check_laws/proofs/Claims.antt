-- How often a trie and the free nodes claim a word of the node table: as often as the node stands there that the word belongs to.
use Prim.Native.Nat.{ℕ, zero, suc, ◌+◌, ◌≤◌, ◌<◌}
use native.Mathlib.Decide.{dec_lt, ℕ_discrete}
use native.Mathlib.Omega.{arith}
use mathlib.Core.Path.{◌≡◌, refl, sym, ap}
use mathlib.Core.Bool.{Bool, true, false, cond}
use mathlib.Core.Logic.{by_cases}
use mathlib.Core.List.{List, [], ◌∷◌}
use lib.Dec.{eqb}
use lib.ListN.{length, get_or}
use borrow.Author.Tests.{eqb-true}
use Rattle.meaning.specs.Lists.{count}
use Rattle.meaning.proofs.Lists.{eqb_comm}
use Rattle.layout.specs.Nodes.{chain_at, state_at, free_state, leaf_state}
use Rattle.children.specs.Heap.{hit, node_claims, Holds}
use Rattle.children.specs.Phys.{Phys, Kids, leaf_p, inner_p, no_kid, kid, root, first, no_kids, page_cells, free_cells, cells, kid_cells, Below, Sound, SoundK}
use Rattle.children.proofs.Frame.{hit_other}
use Rattle.children.proofs.Claims.{end-nodes, kid-nodes, Trees, kid-trees}
use Rattle.children.proofs.Owner.{owner, owned, owner-state}
use Rattle.children.proofs.Kids.{root_below}
use Rattle.trie_check_laws.specs.Uses.{uses, uses_among}

-- ---- claims by uses
hit-count : (f x : ℕ) → hit f x ≡ cond (eqb x f) 1 0
unfolding hit
hit-count f x = ap (λ q. cond q 1 0) (eqb_comm f x)

module _ (cap pcap base a : ℕ) where
  no-nodes : (ps : List ℕ) → node_claims (page_cells base ps) a ≡ 0
  no-nodes [] = refl
  no-nodes (p ∷ ps) = omega (arith, no-nodes ps)

  mutual
    -- the root's chain word is not the trie's
    pub trie-words : (t : Phys) → Sound cap pcap t → node_claims (cells cap base t) a + hit (chain_at (root t)) a ≡ uses t (owner cap a)
    trie-words (leaf_p n ps) s = omega (arith, owned cap a n s.0, no-nodes ps)
    trie-words (inner_p n ks) s = omega (arith, owned cap a n s.0, kid-words ks n 0 s.1)

    kid-words : (ks : Kids) (n lo : ℕ) → SoundK cap pcap ks lo → node_claims (kid_cells cap base ks n) a ≡ node_claims (no_kids cap n) a + uses_among ks (owner cap a)
    kid-words no_kid n lo s = omega (arith, end-nodes cap base n a)
    kid-words (kid b t ks) n lo s = omega (arith, kid-nodes cap base n a b t ks, trie-words t s.2, kid-words ks n (suc b) s.3)

pub free-words : (cap a : ℕ) (fs : List ℕ) → Below cap fs → node_claims (free_cells cap fs) a ≡ count (eqb (owner cap a)) fs
unfolding count
free-words cap a [] b = refl
free-words cap a (f ∷ fs) b = omega (arith, owned cap a f b.0, hit-count f (owner cap a), free-words cap a fs b.1)

-- ---- a node that is not in the table stands nowhere
module _ (cap pcap x : ℕ) (outside : cap ≤ x) where
  mutual
    pub uses-beyond : (t : Phys) → Sound cap pcap t → uses t x ≡ 0
    uses-beyond (leaf_p n ps) s = hit_other {a = x} {b = n} (λ e. omega (arith, s.0))
    uses-beyond (inner_p n ks) s = omega (arith, hit_other {a = x} {b = n} (λ e. omega (arith, s.0)), uses-beyond-children ks 0 s.1)

    uses-beyond-children : (ks : Kids) (lo : ℕ) → SoundK cap pcap ks lo → uses_among ks x ≡ 0
    uses-beyond-children no_kid lo s = refl
    uses-beyond-children (kid b t ks) lo s = omega (arith, uses-beyond t s.2, uses-beyond-children ks (suc b) s.3)

-- ---- the state of a node
module _ (cap pcap base : ℕ) (t : Phys) (s : Sound cap pcap t) where
  -- a word that is no chain word of the table is not the root's
  apart : (a : ℕ) → cap ≤ a → hit (chain_at (root t)) a ≡ 0
  apart a l = hit_other {a = a} {b = root t} (λ e. omega (arith, root_below cap pcap t s))

  pub state-claims : (x : ℕ) → x < cap → node_claims (cells cap base t) (state_at cap x) ≡ uses t x
  state-claims x l =
      omega (arith, trie-words cap pcap base (state_at cap x) t s, apart (state_at cap x) (omega arith), ap (λ n. uses t n) (owner-state cap x l))

-- ---- a node that stands in a trie is not free
hit-is : (n x : ℕ) → 0 < hit n x → n ≡ x
hit-is n x h = go (ℕ_discrete n x)
  where
    go : Dec (n ≡ x) → n ≡ x
    go (yes e) = e
    go (no e) = absurd (omega (arith, hit_other {a = x} {b = n} (λ q. e (sym q))))

leaf-not-free : (n link : ℕ) → free_state < leaf_state n link
leaf-not-free zero link = omega arith
leaf-not-free (suc n) link = omega arith

module _ (cap base : ℕ) (N P : List ℕ) (x : ℕ) where
  abbrev Used : Type 0
  Used = 0 < get_or N (state_at cap x) 0

  -- in one part or the other
  either : (m n : ℕ) → (0 < m → Used) → (0 < n → Used) → 0 < m + n → Used
  either m n f g l = by_cases (dec_lt 0 m) f (λ z. g (omega arith))

  mutual
    pub used-state : (t : Phys) → Holds (cells cap base t) N P → 0 < uses t x → Used
    used-state (leaf_p n ps) h l = let e : n ≡ x = hit-is n x l in rw (← e) (omega (arith, h.0, leaf-not-free (length ps) (first ps)))
    used-state (inner_p n ks) h l =
        either (hit n x) (uses_among ks x) (λ k. let e : n ≡ x = hit-is n x k in rw (← e) (omega (arith, h.0))) (λ k. used-children ks (kid-trees cap base N P ks n h.1) k) l

    used-children : (ks : Kids) → Trees cap base N P ks → 0 < uses_among ks x → Used
    used-children no_kid h l = absurd (omega arith)
    used-children (kid b t ks) h l = either (uses t x) (uses_among ks x) (λ k. used-state t h.0 k) (λ k. used-children ks h.1 k) l

  pub free-zero : (fs : List ℕ) → Holds (free_cells cap fs) N P → 0 < count (eqb x) fs → get_or N (state_at cap x) 0 ≡ free_state
  unfolding count
  free-zero [] h l = absurd (omega arith)
  free-zero (f ∷ fs) h l = go (λ k. free-zero fs h.1.1.1 k) (eqb x f) refl l
    where
      go : (0 < count (eqb x) fs → get_or N (state_at cap x) 0 ≡ free_state) → (q : Bool) → eqb x f ≡ q → 0 < cond q 1 0 + count (eqb x) fs
          → get_or N (state_at cap x) 0 ≡ free_state
      go more true e k = rw (eqb-true x f e) h.1.0
      go more false e k = more (omega arith)
