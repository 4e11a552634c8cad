-- Which links a trie claims of the page table: those of its pages, once for each time that a page stands in it. Free nodes claim none.
use Prim.Native.Nat.{ℕ, suc, ◌+◌, ◌<◌}
use native.Mathlib.Decide.{dec_lt, ℕ_discrete}
use native.Mathlib.Nat.{suc-mul}
use native.Mathlib.Omega.{arith}
use mathlib.Core.Path.{◌≡◌, refl, sym}
use mathlib.Core.Bool.{Bool, false}
use mathlib.Core.Logic.{◌≢◌, by_cases}
use mathlib.Core.List.{List, [], ◌∷◌, map}
use lib.Dec.{eqb}
use Rattle.meaning.specs.Lists.{count}
use Rattle.meaning.specs.Trie.{pages_in, pages_among}
use Rattle.layout.specs.Pages.{next_at}
use Rattle.layout.proofs.Rows.{rows_apart}
use Rattle.children.specs.Heap.{page_claims}
use Rattle.children.specs.Phys.{Phys, Kids, no_kid, kid, leaf_p, inner_p, tree, children_of, page_cells, cells, kid_cells, free_cells, Below, Sound, SoundK}
use Rattle.children.proofs.Frame.{hit_other}
use Rattle.children.proofs.Claims.{page-claims, none-pages, end-pages, kid-pages}
use Rattle.trie_laws.specs.Sound.{Stands}
use Rattle.trie_laws.specs.Block.{EachFrom}
use Rattle.meaning.proofs.Lists.{count-append}
use Rattle.promises.specs.Sound.{tries_cells, Rooted}

pub free-none : (cap a : ℕ) (fs : List ℕ) → page_claims (free_cells cap fs) a ≡ 0
free-none cap a [] = refl
free-none cap a (f ∷ fs) = omega (arith, none-pages cap f a, free-none cap a fs)

module _ (cap base x : ℕ) where
  mutual
    unfolding pages_in count

    pub trie-claims : (t : Phys) → page_claims (cells cap base t) (base + x) ≡ count (eqb x) (pages_in (tree t))
    trie-claims (leaf_p n ps) = omega (arith, none-pages cap n (base + x), page-claims base x ps)
    trie-claims (inner_p n ks) = omega (arith, kids-claims ks n)

    kids-claims : (ks : Kids) (n : ℕ) → page_claims (kid_cells cap base ks n) (base + x) ≡ count (eqb x) (pages_among (children_of ks))
    kids-claims no_kid n = end-pages cap base n (base + x)
    kids-claims (kid b t ks) n = omega (arith, kid-pages cap base n (base + x) b t ks, trie-claims t, kids-claims ks n, count-append (eqb x) (pages_in (tree t)) (pages_among (children_of ks)))

-- and no word outside its block's links
module _ (cap pcap base a : ℕ) (outside : (x : ℕ) → x < pcap → base + x ≢ a) where
  leaf-none : (ps : List ℕ) → Below pcap ps → page_claims (page_cells base ps) a ≡ 0
  leaf-none [] b = refl
  leaf-none (p ∷ ps) b = omega (arith, hit_other {a = a} {b = base + p} (λ e. outside p b.0 (sym e)), leaf-none ps b.1)

  mutual
    pub trie-none : (t : Phys) → Sound cap pcap t → page_claims (cells cap base t) a ≡ 0
    trie-none (leaf_p n ps) h = omega (arith, none-pages cap n a, leaf-none ps h.1)
    trie-none (inner_p n ks) h = omega (arith, kids-none ks n 0 h.1)

    kids-none : (ks : Kids) (n lo : ℕ) → SoundK cap pcap ks lo → page_claims (kid_cells cap base ks n) a ≡ 0
    kids-none no_kid n lo h = end-pages cap base n a
    kids-none (kid b t ks) n lo h = omega (arith, kid-pages cap base n a b t ks, trie-none t h.2, kids-none ks n (suc b) h.3)

-- the tries from block j on claim nothing ahead of that block's links
pub tries-behind : (cap pcap a : ℕ) (ts : List Phys) (j : ℕ) → Rooted cap pcap j ts → a < next_at pcap j → page_claims (tries_cells cap pcap j ts) a ≡ 0
tries-behind cap pcap a [] j r l = refl
tries-behind cap pcap a (t ∷ ts) j r l =
    omega (
      arith,
      trie-none cap pcap (next_at pcap j) a (λ x k e. omega arith) t r.1,
      tries-behind cap pcap a ts (suc j) r.2 (omega (arith, suc-mul (2 + j) pcap)),
    )

-- the links of two blocks are apart
pub blocks-apart : (P i j x p : ℕ) → x < P → p < P → i ≢ j → next_at P i + x ≢ next_at P j + p
blocks-apart P i j x p lx lp d e =
    by_cases (dec_lt i j)
    (λ l. let q : 2 + i < 2 + j = omega arith in omega (arith, rows_apart P q))
    (λ l. let q : 2 + j < 2 + i = omega arith in omega (arith, rows_apart P q))

-- the links of a page that stands in no trie
pub tries-none : (N P p : ℕ) (live : ℕ → Bool) → p < P → live p ≡ false → (i : ℕ) (ts : List Phys) (j : ℕ) → Rooted N P j ts → EachFrom (λ k. Stands live) j (map tree ts) →
    page_claims (tries_cells N P j ts) (next_at P i + p) ≡ 0
unfolding Stands
tries-none N P p live lp dead i [] j r k = refl
tries-none N P p live lp dead i (t ∷ ts) j r k =
    omega (arith, by_cases (ℕ_discrete j i) here apart, tries-none N P p live lp dead i ts (suc j) r.2 k.1)
  where
    here : j ≡ i → page_claims (cells N (next_at P j) t) (next_at P i + p) ≡ 0
    here e = rw (← e, trie-claims N (next_at P j) p t, k.0 p, dead) refl

    apart : (j ≡ i → ⊥) → page_claims (cells N (next_at P j) t) (next_at P i + p) ≡ 0
    apart d = trie-none N P (next_at P j) (next_at P i + p) (λ x lx. blocks-apart P j i x p lx lp d) t r.1
