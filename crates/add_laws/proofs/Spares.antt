-- The links of a page that stands in no trie, one in each block, beside what the tries and the free nodes claim.
use Prim.Native.Nat.{ℕ, suc, ◌+◌, ◌≤◌, ◌<◌}
use native.Mathlib.Decide.{ℕ_discrete}
use native.Mathlib.Omega.{arith}
use mathlib.Core.Path.{◌≡◌, refl, sym, ◌∙◌}
use mathlib.Core.Bool.{Bool, false}
use mathlib.Core.Logic.{by_cases, ◌⊎◌, inl, inr, ⊎_elim}
use mathlib.Core.List.{List, [], ◌∷◌, map}
use lib.ListN.{get_or}
use Rattle.layout.specs.Pages.{next_at}
use Rattle.children.specs.Heap.{Heap, Holds, node_claims, page_claims, nil, ◌⊕◌}
use Rattle.children.specs.Phys.{Phys, tree, free_cells}
use Rattle.children.proofs.Frame.{hit_other, hit_same}
use Rattle.trie_laws.specs.Sound.{Stands}
use Rattle.trie_laws.specs.Block.{EachFrom}
use Rattle.promises.specs.Sound.{tries_cells, Rooted}
use Rattle.store.proofs.Claims.{free-none, blocks-apart, tries-none}
use Rattle.add_laws.proofs.Grows.{spare_cells}

-- what the page's links hold
abbrev pub held_by : ℕ → List ℕ → ℕ → ℕ → ℕ
held_by cap P p i = get_or P (next_at cap i + p) 0

module _ (cap p : ℕ) (lp : p < cap) (held : ℕ → ℕ) where
  spare-nodes : (a j : ℕ) (ts : List Phys) → node_claims (spare_cells cap p held j ts) a ≡ 0
  spare-nodes a j [] = refl
  spare-nodes a j (t ∷ ts) = omega (arith, spare-nodes a (suc j) ts)

  abbrev Once : ℕ → ℕ → List Phys → Type 0
  Once a j ts =
      (page_claims (spare_cells cap p held j ts) a ≡ 0)
      ⊎ ((i : ℕ) × (j ≤ i) × (a ≡ next_at cap i + p) × (page_claims (spare_cells cap p held j ts) a ≡ 1))

  spare-once : (a j : ℕ) (ts : List Phys) → Once a j ts
  spare-once a j [] = inl refl
  spare-once a j (t ∷ ts) = by_cases (ℕ_discrete a (next_at cap j + p)) (here (spare-once a (suc j) ts)) (there (spare-once a (suc j) ts))
    where
      here : Once a (suc j) ts → a ≡ next_at cap j + p → Once a j (t ∷ ts)
      here later e =
          ⊎_elim
          (λ z. inr (j, omega arith, e, omega (arith, hit_same {a = a} {b = next_at cap j + p} e)))
          (λ w. absurd (blocks-apart cap j w.0 p p lp lp (omega (arith, w.1)) (sym e ∙ w.2)))
          later

      there : Once a (suc j) ts → (a ≡ next_at cap j + p → ⊥) → Once a j (t ∷ ts)
      there later d =
          ⊎_elim
          (λ z. inl (omega (arith, hit_other {a = a} {b = next_at cap j + p} d)))
          (λ w. inr (w.0, omega (arith, w.1), w.2, omega (arith, w.3, hit_other {a = a} {b = next_at cap j + p} d)))
          later

spare-holds : (cap p : ℕ) (N P : List ℕ) (j : ℕ) (ts : List Phys) → Holds (spare_cells cap p (held_by cap P p) j ts) N P
spare-holds cap p N P j [] = tt
spare-holds cap p N P j (t ∷ ts) = (refl, spare-holds cap p N P (suc j) ts)

module _ (cap pcap p : ℕ) (live : ℕ → Bool) (lp : p < pcap) (dead : live p ≡ false) (ts : List Phys) (fs : List ℕ)
    (roots : Rooted cap pcap 0 ts) (stands : EachFrom (λ k. Stands live) 0 (map tree ts)) {N P : List ℕ} where
  pub spare-heap : Heap N P (tries_cells cap pcap 0 ts ⊕ free_cells cap fs)
      → Heap N P (tries_cells cap pcap 0 ts ⊕ free_cells cap fs ⊕ spare_cells pcap p (held_by pcap P p) 0 ts ⊕ nil)
  spare-heap h = record {
    holds = (h.holds.0, (h.holds.1, (spare-holds pcap p N P 0 ts, tt)));
    nodes = λ a. omega (arith, h.nodes a, spare-nodes pcap p lp (held_by pcap P p) a 0 ts);
    pages = λ a.
        ⊎_elim
        (λ z. omega (arith, h.pages a))
        (λ w. omega (arith, w.3, free-none cap a fs, claimed a w.0 w.2))
        (spare-once pcap p lp (held_by pcap P p) a 0 ts);
  }
    where
      claimed : (a i : ℕ) → a ≡ next_at pcap i + p → page_claims (tries_cells cap pcap 0 ts) a ≡ 0
      claimed a i e = rw e (tries-none cap pcap p live lp dead i ts 0 roots stands)
