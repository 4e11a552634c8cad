-- A drop on a sound store leaves a sound store, whose tries are without the page.
use Rattle.std.specs.Prelude.{Some}
use Prim.Native.Nat.{ℕ, ◌+◌, ◌≤◌, ◌<◌}
use native.Mathlib.Decide.{ℕ_discrete}
use native.Mathlib.Omega.{arith}
use mathlib.Core.Path.{◌≡◌, refl, sym, ap, ◌∙◌, subst}
use mathlib.Core.Bool.{Bool, true, false, cond, ◌&&◌, false≢true}
use mathlib.Core.Logic.{◌≢◌, by_cases}
use mathlib.Core.List.{List, map}
use borrow.Author.Tests.{eqb-true, eqb-false, ltb-true, lt-ltb}
use lib.Dec.{ltb, eqb}
use lib.ListN.{length, get_or, set, length-map}
use lib.Seq.{get_or-set_same}
use Rattle.meaning.specs.Trie.{Tree}
use Rattle.meaning.specs.Ledger.{Settings, drop}
use Rattle.meaning.specs.Forest.{bytes_of_sketch, bytes_in, each_from, forest_after, total_nodes}
use Rattle.layout.specs.Settings.{free_at, settings_of}
use Rattle.layout.specs.Lengths.{pages_length}
use Rattle.layout.specs.Pages.{is_live, signature_at, row_of, without_page, links_at}
use Rattle.layout.proofs.Words.{live-struck, live-struck-other, class-struck-other, signature-struck, live-kept, class-kept, signature-kept}
use Rattle.layout.proofs.Written.{settings-set}
use Rattle.children.specs.Heap.{Cells, Heap, hit, page_claims, nil, page, ◌⊕◌}
use Rattle.children.specs.Phys.{tree, free_cells}
use Rattle.children.proofs.Frame.{less, hit_other, hit_same, page-write}
use Rattle.trie_laws.specs.Block.{SoundBlock, EachFrom}
use Rattle.trie_laws.specs.Sound.{without_page as without}
use Rattle.trie_laws.proofs.Block.{remove-forest, remove-same}
use Rattle.trie_laws.proofs.Forest.{each-length}
use Rattle.blocks.specs.RowBytes.{row_bytes}
use Rattle.blocks.proofs.RowBytes.{row_same}
use Rattle.blocks.proofs.Tables.{roomy}
use Rattle.trie_remove.specs.Remove.{gone}
use Rattle.promises.specs.Tables.{Tables, given, page_class, page_row, rows_of}
use Rattle.promises.specs.Sound.{tries_cells, live_page, page_bytes, SoundPage, Sound}
use Rattle.promises.proofs.Stores.{live_below, entries-kept}
use Rattle.store.specs.Within.{Within}
use Rattle.store.proofs.Claims.{free-none, tries-behind}
use Rattle.store.proofs.Cells.{beside_none}
use Rattle.store.proofs.LiveBytes.{live-bytes}
use Rattle.drop_laws.specs.Removal.{remove_from, remove_all}
use Rattle.drop_laws.specs.After.{dropped}
use Rattle.drop_laws.proofs.Inside.{GoneIn, all-within}
use Rattle.drop_laws.proofs.Leaves.{removes, LeftFrom, remove-from}
use Rattle.drop_laws.proofs.Admitted.{Admitted, row_in, words-in}

-- ---- a word of the page table that no one claims may be written
unclaimed : {N P : List ℕ} {xs : Cells} (a w : ℕ) → page_claims xs a ≡ 0 → a < length P → Heap N P xs → Heap N (set P a w) xs
unclaimed {N} {P} {xs} a w z l h = less (record { holds = λ N P h. h.1; nodes = λ b. omega arith; pages = λ b. omega arith }) (page-write w with l)
  where
    once : (b : ℕ) → hit a b + page_claims xs b ≤ 1
    once b = by_cases (ℕ_discrete b a) (λ e. omega (arith, hit_same {a = b} {b = a} e, ap (page_claims xs) e, z)) (λ d. omega (arith, hit_other {a = b} {b = a} d, h.pages b))

    with : Heap N P (page a (get_or P a 0) ⊕ xs)
    with = record { holds = (refl, h.holds); nodes = λ b. omega (arith, h.nodes b); pages = once }

-- the same property by equal names
each_same : (s s' : Settings) (b b' : ℕ → ℕ → List ℕ) (v v' : ℕ → Bool) (F F' : List Tree) → s' ≡ s → b' ≡ b → v' ≡ v → F' ≡ F →
    EachFrom (SoundBlock s b v) 0 F → EachFrom (SoundBlock s' b' v') 0 F'
each_same s s' b b' v v' F F' e f g h k = rw (e, f, g, h) k

-- ---- the pages after a drop
module _ (T : Tables) (p : ℕ) (a : Admitted T p) (N P : List ℕ) (free : ℕ)
    (kept : Within (links_at (given T).pages) (pages_length (given T)) T.pages P) where
  abbrev T' : Tables
  T' = dropped T p N P free

  given-same : given T' ≡ given T
  given-same = settings-set T.settings free_at free (omega arith)

  words_long : (given T).pages + p < length P
  words_long = omega (arith, words-in T p a, kept.same)

  bytes_same : page_bytes T' ≡ page_bytes T
  unfolding page_bytes page_row
  bytes_same =
      let read : Settings → ℕ → ℕ → List ℕ = λ s j q. bytes_of_sketch s j (row_of s.symbols T.sketches q) in
      ap read given-same

  live-after : (q : ℕ) → live_page T' q ≡ without p (live_page T) q
  unfolding live_page
  live-after q = rw given-same (go (ltb q (given T).pages) refl (eqb q p) refl)
    where
      go : (t : Bool) → ltb q (given T).pages ≡ t → (u : Bool) → eqb q p ≡ u →
          (t && is_live (without_page P p) q) ≡ cond u false (t && is_live T.pages q)
      go true e true m = ap (is_live (without_page P p)) (eqb-true q p m) ∙ live-struck (given T).pages P p a.page words_long
      go true e false m =
          let l : q < (given T).pages = ltb-true q (given T).pages e in
          live-struck-other (given T).pages P p a.page words_long q l (eqb-false q p m)
          ∙ live-kept (given T).pages P T.pages kept.front q l
      go false e true m = refl
      go false e false m = refl

  live_same : live_page T' ≡ without p (live_page T)
  live_same = λ i q. live-after q i

  -- a live page was live before, and is another one
  live-before : (q : ℕ) → live_page T' q ≡ true → (live_page T q ≡ true) × (q ≢ p)
  live-before q h = go (eqb q p) refl (sym (live-after q) ∙ h)
    where
      go : (u : Bool) → eqb q p ≡ u → cond u false (live_page T q) ≡ true → (live_page T q ≡ true) × (q ≢ p)
      go true m e = absurd (false≢true e)
      go false m e = (e, eqb-false q p m)

  module _ (q : ℕ) (below : q < (given T).pages) where
    class_same : q ≢ p → page_class T' q ≡ page_class T q
    unfolding page_class
    class_same d =
        class-struck-other (given T).pages P p a.page words_long q below d
        ∙ class-kept (given T).pages P T.pages kept.front q below

    signature-same : signature_at (without_page P p) (given T).pages q ≡ signature_at T.pages (given T).pages q
    signature-same =
        signature-struck (given T).pages P p a.page words_long q below
        ∙ signature-kept (given T).pages P T.pages kept.front q below

  page-sound : (q : ℕ) → live_page T q ≡ true → q ≢ p → SoundPage T q → SoundPage T' q
  unfolding page_row live_page
  page-sound q h d g =
      let below : q < (given T).pages = live_below T q h in
      record {
        class = rw (class_same q below d) g.class;
        symbols = rw given-same (unfold page_row in g.symbols);
        signature = rw given-same (signature-same q below ∙ (unfold page_row in g.signature));
      }

-- ---- what `remove_all` comes to
pub record DropSound (T : Tables) (p : ℕ) (F : List Tree) : Type 0 where
  pub nodes_to : List ℕ
  pub pages_to : List ℕ
  pub free_to : ℕ
  pub is : remove_all (given T) T.sketches p T.nodes T.pages (get_or T.settings free_at 0) ≡ gone nodes_to pages_to (Some free_to)
  pub sound : Sound (dropped T p nodes_to pages_to free_to) F

module _ (T : Tables) (F : List Tree) (S : Sound T F) (p : ℕ) (a : Admitted T p) where
  here : live_page T p ≡ true
  unfolding live_page
  here = rw (lt-ltb p (given T).pages a.page, a.live) refl

  mine : (j : ℕ) → j < (given T).blocks → page_bytes T j p ≡ row_bytes (given T) j T.sketches p
  unfolding page_bytes page_row
  mine j l = sym (row_same (given T) j T.sketches p (unfold page_row in (S.pages p here).symbols))

  left : LeftFrom (given T) 0 (total_nodes (map tree S.tries) + length S.free) (each_from (removes (page_bytes T) p) 0 (map tree S.tries)) nil
      (remove_from (given T) T.sketches p (length S.tries) 0 T.nodes T.pages (get_or T.settings free_at 0))
  left =
      let H = S.holding in
      remove-from (given T) T.sketches p (row_in T p a) (live_page T) here (page_bytes T) mine S.tries 0 (roomy (given T) T.nodes T.pages T.sketches a.opened.lent) S.free H.chain H.below nil
      (omega (arith, H.blocks)) (less (beside_none _ _) H.words) H.roots (rw S.forest S.blocks)

  left_is : remove_all (given T) T.sketches p T.nodes T.pages (get_or T.settings free_at 0) ≡ gone left.nodes_to left.pages_to (Some left.free_to)
  unfolding remove_all
  left_is =
      ap (λ (k : ℕ). remove_from (given T) T.sketches p k 0 T.nodes T.pages (get_or T.settings free_at 0)) (sym S.holding.blocks) ∙ left.is

  kept : Within (links_at (given T).pages) (pages_length (given T)) T.pages left.pages_to
  kept =
      (subst (GoneIn (given T).nodes (links_at (given T).pages) (pages_length (given T)) T.nodes T.pages) left_is
      (all-within (given T) T.sketches p a.opened.lent.limits.nodes-least T.nodes T.pages (get_or T.settings free_at 0))).1

  forest-is : each_from (removes (page_bytes T) p) 0 F ≡ forest_after (given T) (rows_of T) (drop p) F
  unfolding forest_after
  forest-is = remove-same (given T) (page_bytes T) (live_page T) F S.blocks p (bytes_in (given T) (rows_of T)) (λ j l. sym (live-bytes T j p here))

  words_left : Heap left.nodes_to (without_page left.pages_to p) (tries_cells (given T).nodes (given T).pages 0 left.to ⊕ free_cells (given T).nodes left.frees_to)
  unfolding without_page
  words_left =
      unclaimed p 0
      (omega (arith, a.page, tries-behind (given T).nodes (given T).pages p left.to 0 left.roots (omega (arith, a.page)), free-none (given T).nodes p left.frees_to))
      (omega (arith, words-in T p a, kept.same))
      (less (record { holds = λ N P h. (h.0, h.1.0); nodes = λ b. omega arith; pages = λ b. omega arith }) left.heap)

  blocks-left : length left.to ≡ (given T).blocks
  blocks-left =
      omega (
        arith,
        length-map left.to tree,
        ap length left.left,
        each-length (removes (page_bytes T) p) 0 (map tree S.tries),
        length-map S.tries tree,
        S.holding.blocks,
      )

  pub drop-sound : DropSound T p (forest_after (given T) (rows_of T) (drop p) F)
  drop-sound =
      let N : List ℕ = left.nodes_to in
      let P : List ℕ = left.pages_to in
      let free : ℕ = left.free_to in
      let same : settings_of (set T.settings free_at free) ≡ settings_of T.settings = given-same T p a N P free kept in
      record {
        nodes_to = N;
        pages_to = P;
        free_to = free;
        is = left_is;
        sound = record {
          tries = left.to;
          free = left.frees_to;
          holding = record {
            words = rw same words_left;
            blocks = rw same blocks-left;
            roots = rw same left.roots;
            chain = get_or-set_same T.settings free_at free 0 (omega (arith, a.opened.long)) ∙ left.chain;
            below = rw same left.below;
            all = rw same (left.count ∙ S.holding.all);
          };
          forest = left.left ∙ ap (each_from (removes (page_bytes T) p) 0) S.forest ∙ forest-is;
          blocks =
              each_same (given T) (given (dropped T p N P free)) (page_bytes T) (page_bytes (dropped T p N P free)) (without p (live_page T)) (live_page (dropped T p N P free))
              (each_from (removes (page_bytes T) p) 0 F) (forest_after (given T) (rows_of T) (drop p) F)
              same (bytes_same T p a N P free kept) (live_same T p a N P free kept) (sym forest-is)
              (remove-forest (given T) (page_bytes T) (live_page T) F S.blocks p);
          pages = λ q h.
              let l = live-before T p a N P free kept q h in
              page-sound T p a N P free kept q l.0 l.1 (S.pages q l.0);
          entries = entries-kept T F S free;
        };
      }
