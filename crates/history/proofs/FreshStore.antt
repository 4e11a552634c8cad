-- The tables after an accepted opening are a sound store: a fresh trie for each block, no live page, and all other nodes free.
use Prim.Native.Nat.{ℕ, zero, suc, ◌+◌, ◌*◌, ◌-◌, ◌≤◌, ◌<◌}
use native.Mathlib.Omega.{arith}
use mathlib.Core.Path.{◌≡◌, refl, ap, ◌∙◌, sym, fun_ext, subst}
use mathlib.Core.List.{List, [], ◌∷◌, ◌++◌, map, append_assoc}
use mathlib.Core.Bool.{Bool, true, false, ◌&&◌, true≢false}
use lib.Dec.{ltb}
use lib.ListN.{length, get_or, replicate, length-append, length-map, length-replicate, get_or-replicate}
use lib.Seq.{get_or-append-add, get_or_at}
use borrow.Author.Tests.{lt-ltb, le-ltb, ltb-true}
use Rattle.meaning.specs.Lists.{from, upto}
use Rattle.meaning.specs.Trie.{Tree, fresh}
use Rattle.meaning.specs.Ledger.{Settings, opening}
use Rattle.meaning.specs.Questions.{in_limits}
use Rattle.meaning.proofs.Lists.{length_from}
use Rattle.layout.specs.Settings.{free_at, header, register_length}
use Rattle.layout.specs.Nodes.{node_words, heads_at, state_at, free_state}
use Rattle.layout.specs.Pages.{is_live}
use Rattle.layout.specs.Lengths.{nodes_length}
use Rattle.layout.proofs.Limits.{bounds}
use Rattle.children.specs.Heap.{Holds, Cells, ◌⊕◌, node_claims, page_claims}
use Rattle.children.specs.Phys.{tree, first, no_kids, free_cells, Below}
use Rattle.children.proofs.Bare.{zeros-bare}
use Rattle.trie_laws.proofs.Block.{fresh-forest}
use Rattle.trie_laws.proofs.Forest.{total-fresh}
use Rattle.promises.specs.Tables.{Tables, given}
use Rattle.promises.specs.Answers.{long_for, long_settings, free_link, fresh_settings, fresh_chain, fresh_state, fresh_nodes, opened}
use Rattle.promises.specs.Sound.{tries_cells, Rooted, Holding, live_page, page_bytes, Sound}
use Rattle.history.proofs.Represents.{settings-read}
use Rattle.history.proofs.Opening.{onto-word, settings-length, nodes-length, no-rights, no-page, beginning, header-length}
use Rattle.history.proofs.Claims.{roots, tries-pages, free-pages, all-claims}

-- ---- the words of the node table

map-from : (f : ℕ → ℕ) (k n : ℕ) (t : List ℕ) (i : ℕ) → i < n → get_or (map f (from k n) ++ t) i 0 ≡ f (k + i)
unfolding from
map-from f k zero t i h = absurd (omega arith)
map-from f k (suc n) t zero h = ap f (omega arith)
map-from f k (suc n) t (suc i) h = map-from f (suc k) n t i (omega arith) ∙ ap f (omega arith)

past-map : (f : ℕ → ℕ) (n : ℕ) (t : List ℕ) (i : ℕ) → get_or (map f (upto n) ++ t) (n + i) 0 ≡ get_or t i 0
unfolding upto
past-map f n t i =
    let l : length (map f (from 0 n)) ≡ n = length-map (from 0 n) f ∙ length_from 0 n in
    ap (λ (k : ℕ). get_or (map f (from 0 n) ++ t) (k + i) 0) (sym l) ∙ get_or-append-add (map f (from 0 n)) t i 0

module _ (s : Settings) (limits : in_limits s ≡ true) (T : Tables) where
  abbrev N : ℕ
  N = s.nodes

  abbrev ws : List ℕ
  ws = (opened s T).nodes

  word_at : (i : ℕ) → i < node_words N → get_or (opened s T).nodes i 0 ≡ get_or (fresh_nodes s) i 0
  unfolding opened nodes_length
  word_at i h = onto-word (fresh_nodes s) T.nodes i (omega (arith, nodes-length s limits))

  chain-at : (x : ℕ) → x < N → get_or ws x 0 ≡ fresh_chain s x
  unfolding fresh_nodes upto
  chain-at x h = word_at x (omega arith) ∙ map-from (fresh_chain s) 0 N _ x h ∙ ap (fresh_chain s) (omega arith)

  state-at : (x : ℕ) → x < N → get_or ws (state_at N x) 0 ≡ fresh_state s x
  unfolding fresh_nodes
  state-at x h =
      word_at (N + x) (omega arith) ∙ past-map (fresh_chain s) N _ x
      ∙ unfold upto in map-from (fresh_state s) 0 N _ x h ∙ ap (fresh_state s) (omega arith)

  heads-zero : (a : ℕ) → heads_at N ≤ a → a < node_words N → get_or ws a 0 ≡ 0
  unfolding fresh_nodes
  heads-zero a l h =
      let e : a ≡ N + (N + (a - heads_at N)) = omega arith in
      word_at a h
      ∙ rw (e, past-map (fresh_chain s) N _ (N + (a - heads_at N)), past-map (fresh_state s) N _ (a - heads_at N)) (get_or-replicate (8 * N) (a - heads_at N) 0 0 (omega arith))

  no-heads : (x : ℕ) → x < N → Holds (no_kids N x) ws (opened s T).pages
  no-heads x h = zeros-bare ws (opened s T).pages N x h heads-zero

  -- the roots are empty leaves
  tries-held : (P j n : ℕ) → j + n ≤ s.blocks → s.blocks ≤ N → Holds (tries_cells N P j (roots j n)) ws (opened s T).pages
  unfolding roots fresh_state
  tries-held P j zero h l = tt
  tries-held P j (suc n) h l =
      ((state-at j (omega arith) ∙ rw (lt-ltb j s.blocks (omega arith)), (no-heads j (omega arith), tt)), tries-held P (suc j) n (omega arith) l)

  -- the nodes past them are linked, each to the next
  first-from : (x n : ℕ) → x + n ≡ N → first (from x n) ≡ free_link N x
  unfolding from free_link
  first-from x zero e = rw (le-ltb x N (omega arith))
  first-from x (suc n) e = rw (lt-ltb x N (omega arith)) (omega arith)

  free-held : (x n : ℕ) → s.blocks ≤ x → x + n ≡ N → Holds (free_cells N (from x n)) ws (opened s T).pages
  unfolding from fresh_chain fresh_state
  free-held x zero l e = tt
  free-held x (suc n) l e =
      let chain : get_or ws x 0 ≡ first (from (suc x) n) =
      chain-at x (omega arith) ∙ rw (le-ltb x s.blocks l) (sym (first-from (suc x) n (omega arith))) in
      let state : get_or ws (state_at N x) 0 ≡ free_state = state-at x (omega arith) ∙ rw (le-ltb x s.blocks l) in
      (chain, (state, (no-heads x (omega arith), free-held (suc x) n (omega arith) (omega arith))))

-- ---- the roots and the free nodes

-- the word behind a run of zeros
past-zeros : (h : List ℕ) (n y i : ℕ) → length h + n ≡ i → get_or (h ++ (replicate n 0 ++ y ∷ [])) i 0 ≡ y
past-zeros h n y i e =
    ap (λ (l : List ℕ). get_or l i 0) (sym (append_assoc h (replicate n 0) (y ∷ [])))
    ∙ get_or_at (h ++ replicate n 0) y [] 0 i (simp (length-append, length-replicate) e)

below-from : (cap x n : ℕ) → x + n ≤ cap → Below cap (from x n)
unfolding from
below-from cap x zero h = tt
below-from cap x (suc n) h = (omega arith, below-from cap (suc x) n (omega arith))

rooted : (N P j n : ℕ) → j + n ≤ N → Rooted N P j (roots j n)
unfolding roots
rooted N P j zero h = tt
rooted N P j (suc n) h = (refl, (omega arith, tt), rooted N P (suc j) n (omega arith))

roots-length : (j n : ℕ) → length (roots j n) ≡ n
unfolding roots
roots-length j zero = refl
roots-length j (suc n) = ap suc (roots-length (suc j) n)

roots-fresh : (j n : ℕ) → map tree (roots j n) ≡ replicate n fresh
unfolding roots fresh
roots-fresh j zero = refl
roots-fresh j (suc n) = ap {B = List Tree} (λ F. fresh ∷ F) (roots-fresh (suc j) n)

module _ (s : Settings) (limits : in_limits s ≡ true) (T : Tables) (long : long_settings T && long_for s T (opening s) ≡ true) where
  abbrev q : ℕ
  q = s.blocks

  abbrev free : List ℕ
  free = from q (s.nodes - q)

  given-opened : given (opened s T) ≡ s
  given-opened = settings-read s limits (opened s T).settings (beginning s limits T long)

  fits : q ≤ s.nodes
  fits = (bounds s limits).header.nodes-least

  free-link : get_or (opened s T).settings free_at 0 ≡ first free
  unfolding opened fresh_settings
  free-link =
      onto-word (fresh_settings s) T.settings free_at (omega (arith, settings-length s limits))
      ∙ past-zeros (header s) register_length (free_link s.nodes q) free_at (omega (arith, header-length s limits))
      ∙ sym (first-from s limits T q (s.nodes - q) (omega (arith, fits)))

  -- the cells of the tries and of the free nodes, by these settings
  abbrev cells : Settings → Cells
  cells g = tries_cells g.nodes g.pages 0 (roots 0 q) ⊕ free_cells g.nodes free

  held : Holding (opened s T) (roots 0 q) free
  held = record {
    words = record {
      holds = subst (λ (g : Settings). Holds (cells g) (opened s T).nodes (opened s T).pages) (sym given-opened) (tries-held s limits T s.pages 0 q (omega arith) fits, free-held s limits T q (s.nodes - q) (omega arith) (omega (arith, fits)));
      nodes = λ a. subst (λ (g : Settings). node_claims (cells g) a ≤ 1) (sym given-opened) (all-claims s.nodes s.pages q (s.nodes - q) a (omega (arith, fits)));
      pages = λ a. subst (λ (g : Settings). page_claims (cells g) a ≤ 1) (sym given-opened) (omega (arith, tries-pages s.nodes s.pages 0 q a, free-pages s.nodes s.pages free a));
    };
    blocks = roots-length 0 q ∙ rw given-opened;
    roots = rw given-opened (rooted s.nodes s.pages 0 q (omega (arith, fits)));
    chain = free-link;
    below = rw given-opened (below-from s.nodes q (s.nodes - q) (omega (arith, fits)));
    all = rw (given-opened, roots-fresh 0 q, total-fresh q, length_from q (s.nodes - q)) (omega (arith, fits));
  }

  no-live : live_page (opened s T) ≡ (λ p. false)
  unfolding live_page
  no-live = fun_ext (λ p. rw given-opened (go p (ltb p s.pages) refl))
    where
      go : (p : ℕ) (t : Bool) → ltb p s.pages ≡ t → t && is_live (opened s T).pages p ≡ false
      go p true e = no-page s limits T long p (ltb-true p s.pages e)
      go p false e = refl

  pub fresh-store : Sound (opened s T) (replicate q fresh)
  fresh-store = record {
    tries = roots 0 q;
    free = free;
    holding = held;
    forest = roots-fresh 0 q;
    blocks = rw no-live (fresh-forest (given (opened s T)) (page_bytes (opened s T)) q);
    pages = λ p e. absurd (true≢false (sym e ∙ ap (λ f. f p) no-live));
    entries = (no-rights s limits T long).entries;
  }
