-- The words that the tries of all blocks and the free chain claim: no word twice.
use Prim.Native.Nat.{ℕ, suc, ◌+◌, ◌-◌, ◌≤◌, ◌<◌}
use native.Mathlib.Omega.{arith}
use native.Mathlib.Nat.{suc-mul}
use native.Mathlib.Decide.{dec_lt}
use mathlib.Core.Path.{◌≡◌, refl, ap}
use mathlib.Core.Logic.{by_cases}
use mathlib.Core.List.{List, [], ◌∷◌}
use lib.Dec.{eqb}
use lib.ListN.{get_or}
use Rattle.meaning.specs.Lists.{count}
use Rattle.layout.specs.Nodes.{state_at}
use Rattle.layout.specs.Pages.{next_at}
use Rattle.children.specs.Heap.{Holds, node_claims, page_claims, ◌⊕◌}
use Rattle.children.specs.Phys.{Phys, tree, cells, free_cells, Below}
use Rattle.children.specs.Phys.{Sound as SoundNodes}
use Rattle.meaning.specs.Trie.{pages_in}
use Rattle.trie_check_laws.specs.Uses.{uses}
use Rattle.children.proofs.Owner.{owner}
use Rattle.trie_check_laws.proofs.Claims.{trie-words, state-claims, free-words, uses-beyond, used-state, free-zero}
use Rattle.store.proofs.Claims.{free-none, trie-claims, trie-none, tries-behind}
use Rattle.promises.specs.Sound.{tries_cells, Rooted}
use Rattle.check_tries.proofs.Tries.{Each, uses_all}
use Rattle.check_tables.proofs.FreeChain.{free-once}

module _ (cap pcap : ℕ) where
  -- ---- the node table
  module _ (a : ℕ) where
    tries-words : (ts : List Phys) (j : ℕ) → Rooted cap pcap j ts → node_claims (tries_cells cap pcap j ts) a ≤ uses_all ts (owner cap a)
    tries-words [] j r = omega arith
    tries-words (t ∷ ts) j r = omega (arith, trie-words cap pcap (next_at pcap j) a t r.1, tries-words ts (suc j) r.2)

  -- a node's state is claimed as often as it stands in the tries
  pub tries-state : (x : ℕ) → x < cap → (ts : List Phys) (j : ℕ) → Rooted cap pcap j ts → node_claims (tries_cells cap pcap j ts) (state_at cap x) ≡ uses_all ts x
  tries-state x l [] j r = refl
  tries-state x l (t ∷ ts) j r = omega (arith, state-claims cap pcap (next_at pcap j) t r.1 x l, tries-state x l ts (suc j) r.2)

  pub tries-beyond : (x : ℕ) → cap ≤ x → (ts : List Phys) (j : ℕ) → Rooted cap pcap j ts → uses_all ts x ≡ 0
  tries-beyond x l [] j r = refl
  tries-beyond x l (t ∷ ts) j r = omega (arith, uses-beyond cap pcap x l t r.1, tries-beyond x l ts (suc j) r.2)

  tries-used : (N P : List ℕ) (x : ℕ) (ts : List Phys) (j : ℕ) → Holds (tries_cells cap pcap j ts) N P → 0 < uses_all ts x → 0 < get_or N (state_at cap x) 0
  tries-used N P x [] j h l = absurd (omega arith)
  tries-used N P x (t ∷ ts) j h l =
      by_cases (dec_lt 0 (uses t x)) (λ k. used-state cap (next_at pcap j) N P x t h.0 k)
      (λ z. tries-used N P x ts (suc j) h.1 (omega arith))

  module _ (N P : List ℕ) (ts : List Phys) (fs : List ℕ) (rooted : Rooted cap pcap 0 ts) (below : Below cap fs)
      (tries : Holds (tries_cells cap pcap 0 ts) N P) (free : Holds (free_cells cap fs) N P) (once : (x : ℕ) → x < cap → uses_all ts x ≤ 1) where
    -- a node stands once in the tries, or once in the free chain
    either : (x : ℕ) → uses_all ts x + count (eqb x) fs ≤ 1
    either x =
        by_cases (dec_lt 0 (count (eqb x) fs))
        (λ c. by_cases (dec_lt 0 (uses_all ts x))
        (λ u. absurd (omega (arith, tries-used N P x ts 0 tries u, free-zero cap 0 N P x fs free c)))
        (λ z. omega (arith, free-once N P cap x fs free)))
        (λ z. by_cases (dec_lt x cap) (λ l. omega (arith, once x l)) (λ l. omega (arith, tries-beyond x (omega arith) ts 0 rooted)))

    pub nodes-once : (a : ℕ) → node_claims (tries_cells cap pcap 0 ts ⊕ free_cells cap fs) a ≤ 1
    nodes-once a = omega (arith, tries-words a ts 0 rooted, free-words cap a fs below, either (owner cap a))

  -- ---- the page table
  abbrev pub Once : ℕ → Phys → Type 0
  Once j t = (x : ℕ) → count (eqb x) (pages_in (tree t)) ≤ 1

  -- block j's links begin at next_at P j, and end where those of the next block begin
  next : (j : ℕ) → next_at pcap (suc j) ≡ next_at pcap j + pcap
  next j = omega (arith, suc-mul (2 + j) pcap)

  module _ (a : ℕ) where
    -- the links of a block that begin at base
    block-once : (base : ℕ) (t : Phys) → SoundNodes cap pcap t → Once base t → page_claims (cells cap base t) a ≤ 1
    block-once base t s once =
        by_cases (dec_lt a base)
        (λ l. omega (arith, trie-none cap pcap base a (λ x k e. omega arith) t s))
        (λ l.
        let at : base + (a - base) ≡ a = omega arith in
        omega (arith, ap (λ n. page_claims (cells cap base t) n) at, trie-claims cap base (a - base) t, once (a - base)))

    tries-pages : (ts : List Phys) (j : ℕ) → Rooted cap pcap j ts → Each Once j ts → page_claims (tries_cells cap pcap j ts) a ≤ 1
    tries-pages [] j r o = omega arith
    tries-pages (t ∷ ts) j r o =
        by_cases (dec_lt a (next_at pcap (suc j)))
        (λ l. omega (arith, block-once (next_at pcap j) t r.1 o.0, tries-behind cap pcap a ts (suc j) r.2 l))
        (λ l. omega (arith, trie-none cap pcap (next_at pcap j) a (λ x k e. omega (arith, next j)) t r.1, tries-pages ts (suc j) r.2 o.1))

  pub pages-once : (ts : List Phys) (fs : List ℕ) → Rooted cap pcap 0 ts → Each Once 0 ts → (a : ℕ) → page_claims (tries_cells cap pcap 0 ts ⊕ free_cells cap fs) a ≤ 1
  pages-once ts fs r o a = omega (arith, tries-pages a ts 0 r o, free-none cap a fs)
