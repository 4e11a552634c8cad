-- The page words and signatures beside the tries: no trie claims one of them, and an insertion keeps them all.
use Prim.Native.Nat.{ℕ, zero, suc, ◌+◌, ◌*◌, ◌≤◌, ◌<◌}
use native.Mathlib.Decide.{dec_lt, ℕ_discrete}
use native.Mathlib.Omega.{arith}
use mathlib.Core.Path.{◌≡◌, refl, sym, ap, ◌∙◌}
use mathlib.Core.Logic.{by_cases}
use mathlib.Core.List.{List, [], ◌∷◌}
use lib.ListN.{length, get_or}
use Rattle.layout.specs.Pages.{next_at, with_page}
use Rattle.layout.proofs.Words.{behind-written, link-behind}
use Rattle.children.specs.Heap.{Cells, Heap, Holds, node_claims, page_claims, nil, node, page, ◌⊕◌}
use Rattle.children.specs.Phys.{Phys, free_cells}
use Rattle.children.proofs.Frame.{hit_other, hit_same}
use Rattle.promises.specs.Sound.{tries_cells, Rooted}
use Rattle.store.proofs.Claims.{free-none, tries-behind}
use Rattle.add_laws.proofs.Grows.{spare_cells}

-- the first n words of a page table
abbrev pub word_cells : List ℕ → ℕ → Cells
word_cells P zero = nil
word_cells P (suc n) = page n (get_or P n 0) ⊕ word_cells P n

module _ (P : List ℕ) where
  words-nodes : (n a : ℕ) → node_claims (word_cells P n) a ≡ 0
  words-nodes zero a = refl
  words-nodes (suc n) a = omega (arith, words-nodes n a)

  words-none : (n a : ℕ) → n ≤ a → page_claims (word_cells P n) a ≡ 0
  words-none zero a l = refl
  words-none (suc n) a l = omega (arith, hit_other {a = a} {b = n} (omega arith), words-none n a (omega arith))

  words-once : (n a : ℕ) → a < n → page_claims (word_cells P n) a ≡ 1
  words-once zero a l = absurd (omega arith)
  words-once (suc n) a l =
      by_cases (ℕ_discrete a n)
      (λ e. omega (arith, hit_same {a = a} {b = n} e, words-none n a (omega arith)))
      (λ d. omega (arith, hit_other {a = a} {b = n} d, words-once n a (omega arith)))

  words-hold : (N : List ℕ) (n : ℕ) → Holds (word_cells P n) N P
  words-hold N zero = tt
  words-hold N (suc n) = (refl, words-hold N n)

  -- another table that holds them has the same words
  pub words-kept : (N P' : List ℕ) (n a : ℕ) → a < n → Holds (word_cells P n) N P' → get_or P' a 0 ≡ get_or P a 0
  words-kept N P' zero a l h = absurd (omega arith)
  words-kept N P' (suc n) a l h =
      by_cases (ℕ_discrete a n)
      (λ e. ap (λ (i : ℕ). get_or P' i 0) e ∙ h.0 ∙ ap (λ (i : ℕ). get_or P i 0) (sym e))
      (λ d. words-kept N P' n a (omega arith) h.1)

-- the links stand behind them
spare-behind : (pcap a : ℕ) → a < 2 * pcap → (p : ℕ) (held : ℕ → ℕ) (ts : List Phys) (j : ℕ) → page_claims (spare_cells pcap p held j ts) a ≡ 0
spare-behind pcap a before p held [] j = refl
spare-behind pcap a before p held (t ∷ ts) j =
    omega (arith, hit_other {a = a} {b = next_at pcap j + p} (omega (arith, link-behind pcap j p)), spare-behind pcap a before p held ts (suc j))

module _ (cap pcap p : ℕ) (held : ℕ → ℕ) (ts : List Phys) (fs : List ℕ) (roots : Rooted cap pcap 0 ts) {N P : List ℕ} where
  pub words-heap : Heap N P (tries_cells cap pcap 0 ts ⊕ free_cells cap fs ⊕ spare_cells pcap p held 0 ts ⊕ nil)
      → Heap N P (tries_cells cap pcap 0 ts ⊕ free_cells cap fs ⊕ spare_cells pcap p held 0 ts ⊕ word_cells P (2 * pcap))
  words-heap h = record {
    holds = (h.holds.0, (h.holds.1.0, (h.holds.1.1.0, words-hold P N (2 * pcap))));
    nodes = λ a. omega (arith, h.nodes a, words-nodes P (2 * pcap) a);
    pages = λ a. by_cases (dec_lt a (2 * pcap)) (front a) (λ l. omega (arith, h.pages a, words-none P (2 * pcap) a (omega arith)));
  }
    where
      front : (a : ℕ) → a < 2 * pcap → page_claims (tries_cells cap pcap 0 ts ⊕ free_cells cap fs ⊕ spare_cells pcap p held 0 ts ⊕ word_cells P (2 * pcap)) a ≤ 1
      front a l =
          omega (arith, tries-behind cap pcap a ts 0 roots l, free-none cap a fs, spare-behind pcap a l p held ts 0, words-once P (2 * pcap) a l)

-- cells that claim none of them stay where a page is written
module _ (pcap p c g : ℕ) (lp : p < pcap) (N P : List ℕ) (long : pcap + p < length P) where
  behind-holds : (r : Cells) → ((a : ℕ) → a < 2 * pcap → page_claims r a ≡ 0) → Holds r N P → Holds r N (with_page pcap P p c g)
  behind-holds nil z h = tt
  behind-holds (node b v) z h = h
  behind-holds (page b v) z h =
      behind-written pcap P p lp long c g b
      (by_cases (dec_lt b (2 * pcap)) (λ l. absurd (omega (arith, z b l, hit_same {a = b} {b = b} refl))) (λ l. omega arith))
      ∙ h
  behind-holds (x ⊕ y) z h =
      (behind-holds x (λ a l. omega (arith, z a l)) h.0, behind-holds y (λ a l. omega (arith, z a l)) h.1)

  -- beside the words of a table before
  pub written-heap : (x y : Cells) (Q : List ℕ) → Heap N P (x ⊕ y ⊕ word_cells Q (2 * pcap)) → Heap N (with_page pcap P p c g) (x ⊕ y)
  written-heap x y Q h = record {
    holds = behind-holds (x ⊕ y) (λ a l. omega (arith, h.pages a, words-once Q (2 * pcap) a l)) (h.holds.0, h.holds.1.0);
    nodes = λ a. omega (arith, h.nodes a);
    pages = λ a. omega (arith, h.pages a);
  }
