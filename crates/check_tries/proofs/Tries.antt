-- The tries of all blocks, as they lie in the tables, and what the test of a window says of them.
use Rattle.std.specs.Prelude.{Option, Some, None}
use Prim.Native.Nat.{ℕ, zero, suc, ◌+◌, ◌-◌, ◌*◌, ◌≤◌, ◌<◌}
use native.Mathlib.Omega.{arith}
use mathlib.Core.Path.{◌≡◌, refl, sym, ap, ap₂, ◌∙◌}
use mathlib.Core.Bool.{true, false}
use mathlib.Core.List.{List, [], ◌∷◌, map as each}
use borrow.Author.Tests.{eqb-true}
use lib.ListN.{length}
use Rattle.meaning.specs.Lists.{all, sum}
use Rattle.meaning.specs.Sketch.{block_length}
use Rattle.meaning.specs.Trie.{nodes as nodes_of}
use Rattle.meaning.specs.Ledger.{Settings}
use Rattle.meaning.specs.Forest.{block_bytes, total_nodes}
use Rattle.words.specs.Bits.{flag}
use Rattle.layout.specs.Nodes.{most_nodes}
use Rattle.layout.specs.Pages.{most_pages, next_at, is_live}
use Rattle.layout.specs.Header.{header_of}
use Rattle.layout.specs.Tables.{Lent}
use Rattle.children.specs.Heap.{Holds}
use Rattle.children.specs.Phys.{Phys, root, tree, cells}
use Rattle.children.specs.Phys.{Sound as SoundNodes}
use Rattle.meaning.specs.Trie.{pages_in}
use Rattle.trie_laws.specs.Walk.{sound_walk}
use Rattle.blocks.specs.RowBytes.{row_bytes, rows_of}
use Rattle.blocks.proofs.RowBytes.{level-byte}
use Rattle.node_check.specs.declared.mark.Window.{Window}
use Rattle.node_check.specs.Given.{Given}
use Rattle.trie_check.specs.Trie.{tested, test_trie}
use Rattle.trie_check_laws.specs.Uses.{uses}
use Rattle.trie_check_laws.specs.Found.{Reads, Found, Marked, one}
use Rattle.trie_check_laws.proofs.RightTrie.{test-right}
use Rattle.trie_check_laws.proofs.WholeTrie.{test-whole}
use Rattle.trie_check_laws.proofs.Same.{same-trie}
use Rattle.check_tries.specs.Windows.{Passed, passed, on_left, blocks_from, block_given}
use Rattle.check_tries.proofs.Fits.{fitting, root-inside}

-- a property of the tries of blocks j, j + 1, ..
abbrev pub Each : (ℕ → Phys → Type 0) → ℕ → List Phys → Type 0
Each Q j [] = Unit {0}
Each Q j (t ∷ ts) = Q j t × Each Q (suc j) ts

-- how often a node stands in some tries
abbrev pub uses_all : List Phys → ℕ → ℕ
uses_all [] x = 0
uses_all (t ∷ ts) x = uses t x + uses_all ts x

module _ (s : Settings) (N P S : List ℕ) (live : ℕ) where
  -- the trie of block j lies in the tables, and is sound; in it stand `live` pages, all live
  pub record InPlace (j : ℕ) (t : Phys) : Type 0 where
    pub place : root t ≡ j
    pub sound : SoundNodes s.nodes s.pages t
    pub holds : Holds (cells s.nodes (next_at s.pages j) t) N P
    pub walked : sound_walk (row_bytes s j S) s.bits (block_length s.symbols s.blocks j) (block_bytes s j) 0 [] (tree t) ≡ true
    pub alive : all (is_live P) (pages_in (tree t)) ≡ true
    pub pages : length (pages_in (tree t)) ≡ live

  from_found : (w : Window) (j : ℕ) (t : Phys) → Found (block_given s N P S w j) (row_bytes s j S) j live t → InPlace j t
  unfolding block_given rows_of
  from_found w j t f = record {
    place = f.place;
    sound = f.sound;
    holds = f.holds;
    walked = f.walked;
    alive = f.live;
    pages = f.pages;
  }

  pub to-found : (w : Window) (j : ℕ) (t : Phys) → InPlace j t → Found (block_given s N P S w j) (row_bytes s j S) j live t
  unfolding block_given rows_of
  to-found w j t f = record {
    place = f.place;
    sound = f.sound;
    holds = f.holds;
    walked = f.walked;
    live = f.alive;
    pages = f.pages;
  }

  -- the marks of a window of nodes after some tries
  pub record Marks (w : Window) (ts : List Phys) (map map' : List ℕ) : Type 0 where
    pub long : length map' ≡ length map
    pub marks : (n : ℕ) → n < w.size → one (flag map' 0 n) ≡ one (flag map 0 n) + uses_all ts (w.from + n)

  marks-none : (w : Window) (map : List ℕ) → Marks w [] map map
  marks-none w map = record { long = refl; marks = λ n l. omega arith }

  marks-more : (w : Window) (j : ℕ) (t : Phys) (ts : List Phys) (map map₁ map₂ : List ℕ) →
      Marked (block_given s N P S w j) t map map₁ → Marks w ts map₁ map₂ → Marks w (t ∷ ts) map map₂
  unfolding block_given
  marks-more w j t ts map map₁ map₂ m k =
      record { long = k.long ∙ m.long; marks = λ n l. omega (arith, m.marks n l, k.marks n l) }

  reads : (w : Window) (j : ℕ) → j < s.blocks → Reads (block_given s N P S w j) (row_bytes s j S)
  unfolding block_given
  reads w j l p k lp lk = level-byte s j l S k p

  -- ---- where the test says yes
  module _ (lent : Lent (header_of s) N P S) (w : Window) where
    pub record Right (k j : ℕ) (map map' : List ℕ) (left : ℕ) : Type 0 where
      pub tries : List Phys
      pub many : length tries ≡ k
      pub all : Each InPlace j tries
      pub marked : Marks w tries map map'
      pub total : total_nodes (each tree tries) ≡ left

    pub passed-no : (map₁ map' : List ℕ) → passed map₁ false ≡ passed map' true → ⊥
    passed-no map₁ map' e = let o : false ≡ true = ap (λ (r : Passed). r.answer) e in no o
      where
        no : false ≡ true → ⊥
        no z = let o : ◌≡◌ {A = ℕ} (one false) (one true) = ap one z in omega arith

    pub blocks-right : (k j : ℕ) → j + k ≡ s.blocks → (map map' : List ℕ) (left : ℕ) → w.size ≤ 32 * length map →
        blocks_from (block_given s N P S w) live k j map left ≡ passed map' true → Right k j map map' left
    unfolding blocks_from total_nodes sum block_given
    blocks-right zero j l map map' left room e = record {
      tries = [];
      many = refl;
      all = tt;
      marked = let same : map ≡ map' = ap (λ (r : Passed). r.map) e in rw same (marks-none w map');
      total = sym (eqb-true left 0 (ap (λ (r : Passed). r.answer) e));
    }
    blocks-right (suc k) j l map map' left room e =
        go (test_trie g j map left live).answer refl e (λ left₁ room₁ e₁. blocks-right k (suc j) (omega arith) map₁ map' left₁ room₁ e₁)
      where
        g : Given
        g = block_given s N P S w j

        map₁ : List ℕ
        map₁ = (test_trie g j map left live).map

        go : (a : Option ℕ) → (test_trie g j map left live).answer ≡ a →
            on_left map₁ (λ left₁. blocks_from (block_given s N P S w) live k (suc j) map₁ left₁) a ≡ passed map' true →
            ((left₁ : ℕ) → w.size ≤ 32 * length map₁ → blocks_from (block_given s N P S w) live k (suc j) map₁ left₁ ≡ passed map' true → Right k (suc j) map₁ map' left₁) →
            Right (suc k) j map map' left
        go None f e later = absurd (passed-no map₁ map' e)
        go (Some left₁) f e later =
            let t = test-right g (row_bytes s j S) j left live map map₁ left₁ (fitting s N P S lent j (omega arith) w map room)
            (reads w j (omega arith)) (root-inside s N P S lent j (omega arith)) (ap (tested map₁) f) in
            let r = later left₁ (omega (arith, t.2.long)) e in record {
              tries = t.0 ∷ r.tries;
              many = ap suc r.many;
              all = (from_found w j t.0 t.1, r.all);
              marked = marks-more w j t.0 r.tries map map₁ map' t.2 r.marked;
              total = omega (arith, t.3, r.total);
            }

  -- ---- the tables determine the tries
  module _ (small : s.nodes ≤ most_nodes) (few : s.pages ≤ most_pages) where
    pub same-tries : (j : ℕ) (ts us : List Phys) → length ts ≡ length us → Each InPlace j ts → Each InPlace j us → ts ≡ us
    same-tries j [] [] l a b = refl
    same-tries j [] (u ∷ us) l a b = absurd (omega arith)
    same-tries j (t ∷ ts) [] l a b = absurd (omega arith)
    same-tries j (t ∷ ts) (u ∷ us) l a b =
        ap₂ (λ x xs. x ∷ xs)
        (same-trie s.nodes s.pages (next_at s.pages j) N P small few t u a.0.holds b.0.holds a.0.sound b.0.sound
        (a.0.place ∙ sym b.0.place))
        (same-tries (suc j) ts us (omega arith) a.1 b.1)

  -- ---- tries that lie in the tables
  module _ (lent : Lent (header_of s) N P S) (w : Window) where
    none : (map : List ℕ) (j : ℕ) → blocks_from (block_given s N P S w) live 0 j map 0 ≡ passed map true
    unfolding blocks_from
    none map j = refl

    step : (k j : ℕ) (map map₁ map' : List ℕ) (left left₁ : ℕ) → test_trie (block_given s N P S w j) j map left live ≡ tested map₁ (Some left₁) →
        blocks_from (block_given s N P S w) live k (suc j) map₁ left₁ ≡ passed map' true → blocks_from (block_given s N P S w) live (suc k) j map left ≡ passed map' true
    unfolding blocks_from
    step k j map map₁ map' left left₁ e f = rw e f

    -- the test says yes where no node is marked yet, and none stands twice
    pub blocks-whole : (ts : List Phys) (j : ℕ) (map : List ℕ) → j + length ts ≡ s.blocks → w.size ≤ 32 * length map → Each InPlace j ts →
        total_nodes (each tree ts) ≤ s.nodes → ((n : ℕ) → n < w.size → one (flag map 0 n) + uses_all ts (w.from + n) ≤ 1) →
        (map' : List ℕ) × (blocks_from (block_given s N P S w) live (length ts) j map (total_nodes (each tree ts)) ≡ passed map' true) × (length map' ≡ length map)
    unfolding total_nodes sum block_given
    blocks-whole [] j map l room a m c = (map, none map j, refl)
    blocks-whole (t ∷ ts) j map l room a m c =
        let rest : ℕ = total_nodes (each tree ts) in
        let r = test-whole (block_given s N P S w j) (row_bytes s j S) j (nodes_of (tree t) + rest) live map t
        (fitting s N P S lent j (omega arith) w map room) (reads w j (omega arith)) (to-found w j t a.0) (omega arith) (omega arith)
        (λ n k. omega (arith, c n k)) in
        let less : nodes_of (tree t) + rest - nodes_of (tree t) ≡ rest = omega arith in
        let q = blocks-whole ts (suc j) r.0 (omega arith) (omega (arith, r.2.long)) a.1 (omega arith)
        (λ n k. omega (arith, c n k, r.2.marks n k)) in (
          q.0,
          step (length ts) j map r.0 q.0 (nodes_of (tree t) + rest) rest (r.1 ∙ ap (λ n. tested r.0 (Some n)) less) q.1,
          q.2 ∙ r.2.long,
        )
