-- Where the test says yes, the store is sound.
use Rattle.std.specs.Prelude.{Option, Some, None}
use Prim.Native.Nat.{ℕ, suc, ◌*◌, ◌≤◌, ◌<◌}
use native.Mathlib.Omega.{arith}
use mathlib.Core.Path.{◌≡◌, refl, sym, ◌∙◌}
use mathlib.Core.Bool.{true, false}
use mathlib.Core.List.{List, [], ◌∷◌, map as each}
use borrow.Author.Tests.{ltb-true}
use lib.Dec.{ltb}
use lib.ListN.{length, get_or}
use Rattle.meaning.specs.Lists.{upto}
use Rattle.meaning.specs.Sketch.{block_length}
use Rattle.meaning.specs.Trie.{Tree}
use Rattle.meaning.specs.Ledger.{Settings}
use Rattle.meaning.specs.Forest.{block_bytes}
use Rattle.layout.specs.Settings.{free_at}
use Rattle.layout.specs.Pages.{is_live}
use Rattle.layout.specs.Header.{header_of}
use Rattle.layout.specs.Tables.{Lent}
use Rattle.children.specs.Heap.{Holds}
use Rattle.children.specs.Phys.{Phys, tree}
use Rattle.trie_laws.specs.Sound.{Stands}
use Rattle.trie_laws.specs.Block.{SoundBlock, EachFrom}
use Rattle.meaning.proofs.Lists.{and_first, and_second}
use Rattle.trie_laws.proofs.Pages.{stands-any}
use Rattle.trie_laws.proofs.Walk.{walk-sound}
use Rattle.trie_laws.proofs.Agree.{sound-agree}
use Rattle.blocks.specs.RowBytes.{row_bytes}
use Rattle.blocks.proofs.RowBytes.{row_same}
use Rattle.trie_check_laws.proofs.Once.{pages-stand}
use Rattle.trie_check_laws.proofs.Once.{pages-once as page-once}
use Rattle.rights.specs.Entries.{all_current}
use Rattle.promises.specs.Tables.{Tables, given, page_class, page_row}
use Rattle.promises.specs.Sound.{tries_cells, Rooted, live_page, page_bytes, SoundPage, Sound}
use Rattle.check_tables.specs.Pages.{page_fits, test_pages}
use Rattle.check_tables.specs.Free.{test_free}
use Rattle.check_tries.specs.Windows.{passed, on_left, window_at, block_given, test_windows}
use Rattle.check_store.specs.Store.{test_store}
use Rattle.check_tables.proofs.LivePages.{Counted, fits-live, pages-right}
use Rattle.check_tables.proofs.FreeChain.{free-right}
use Rattle.check_tries.proofs.Tries.{Each, InPlace, to-found, passed-no}
use Rattle.check_tries.proofs.Passes.{all_right}
use Rattle.check_store.proofs.Words.{Once, nodes-once, pages-once}

-- the tries of blocks j, j + 1, ..
module _ (s : Settings) (N P S : List ℕ) (live : ℕ) where
  pub in-roots : (j : ℕ) (ts : List Phys) → Each (InPlace s N P S live) j ts → Rooted s.nodes s.pages j ts
  in-roots j [] a = tt
  in-roots j (t ∷ ts) a = (a.0.place, a.0.sound, in-roots (suc j) ts a.1)

  pub in_words : (j : ℕ) (ts : List Phys) → Each (InPlace s N P S live) j ts → Holds (tries_cells s.nodes s.pages j ts) N P
  in_words j [] a = tt
  in_words j (t ∷ ts) a = (a.0.holds, in_words (suc j) ts a.1)

  in-once : (j : ℕ) (ts : List Phys) → Each (InPlace s N P S live) j ts → Each (Once s.nodes s.pages) j ts
  in-once j [] a = tt
  in-once j (t ∷ ts) a =
      (page-once (block_given s N P S (window_at 0 0) j) (row_bytes s j S) j live t (to-found s N P S live (window_at 0 0) j t a.0), in-once (suc j) ts a.1)

module _ (T : Tables) where
  abbrev s : Settings
  s = given T

  module _ (live : ℕ) (pages : Counted (page_fits s T.pages T.sketches) (is_live T.pages) s.pages 0 0 live) where
    pub live-page : (p : ℕ) → live_page T p ≡ true → SoundPage T p
    unfolding live_page page_class page_row
    live-page p l =
        let below : p < s.pages = ltb-true p s.pages (and_first (ltb p s.pages) (is_live T.pages p) l) in
        let f = fits-live s T.pages T.sketches p (pages.fit p (omega arith) (omega arith)) (and_second (ltb p s.pages) (is_live T.pages p) l) in
        record { class = f.class; symbols = f.symbols; signature = f.signature }

    -- the bytes of a live page's row are those of its sketch
    same_bytes : (j p : ℕ) → live_page T p ≡ true → row_bytes s j T.sketches p ≡ page_bytes T j p
    unfolding page_bytes page_row
    same_bytes j p l = row_same s j T.sketches p (live-page p l).symbols

    stands : (j : ℕ) (t : Phys) → InPlace s T.nodes T.pages T.sketches live j t → Stands (live_page T) (tree t)
    unfolding live_page block_given upto
    stands j t i =
        pages-stand (block_given s T.nodes T.pages T.sketches (window_at 0 0) j) (row_bytes s j T.sketches) j live t
        (to-found s T.nodes T.pages T.sketches live (window_at 0 0) j t i) (omega (arith, pages.total))

    sound-block : (j : ℕ) (t : Phys) → InPlace s T.nodes T.pages T.sketches live j t → SoundBlock s (page_bytes T) (live_page T) j (tree t)
    sound-block j t i = record {
      sound =
          sym (sound-agree (row_bytes s j T.sketches) (page_bytes T j) s.bits (block_length s.symbols s.blocks j) (block_bytes s j) 0 (tree t)
          (λ x m. same_bytes j x (sym (stands-any (live_page T) (tree t) (stands j t i) x) ∙ m)))
          ∙ sym (walk-sound (row_bytes s j T.sketches) s.bits (block_length s.symbols s.blocks j) (block_bytes s j) (tree t))
          ∙ i.walked;
      stands = stands j t i;
    }

    sound-blocks : (j : ℕ) (ts : List Phys) → Each (InPlace s T.nodes T.pages T.sketches live) j ts →
        EachFrom (SoundBlock s (page_bytes T) (live_page T)) j (each tree ts)
    sound-blocks j [] a = tt
    sound-blocks j (t ∷ ts) a = (sound-block j t a.0, sound-blocks (suc j) ts a.1)

  module _ (lent : Lent (header_of s) T.nodes T.pages T.sketches) (words : ℕ) (map map' : List ℕ) (long : words ≤ length map) (enough : s.nodes ≤ 8 * (32 * words))
      (current : all_current T.settings ≡ true) where
    abbrev free : ℕ
    free = get_or T.settings free_at 0

    from_parts : (live : ℕ) → test_pages s T.pages T.sketches ≡ Some live → (left : ℕ) → test_free T.nodes s.nodes free ≡ Some left →
        test_windows s T.nodes T.pages T.sketches words left live map ≡ passed map' true → (F : List Tree) × Sound T F
    unfolding test_free
    from_parts live p left f w =
        let pages = pages-right s T.pages T.sketches live p in
        let chain = free-right T.nodes T.pages s.nodes s.nodes free left f in
        let fs : List ℕ = chain.0 in
        let all = all_right s T.nodes T.pages T.sketches live lent words left map map' long enough w in
        let ts : List Phys = all.tries in
        let rooted = in-roots s T.nodes T.pages T.sketches live 0 ts all.all in
        let words = in_words s T.nodes T.pages T.sketches live 0 ts all.all in
        let once = in-once s T.nodes T.pages T.sketches live 0 ts all.all in (
          each tree ts,
          record {
            tries = ts;
            free = fs;
            holding = record {
              words = record {
                holds = (words, chain.1.holds);
                nodes = nodes-once s.nodes s.pages T.nodes T.pages ts fs rooted chain.1.below words chain.1.holds all.once;
                pages = pages-once s.nodes s.pages ts fs rooted once;
              };
              blocks = all.many;
              roots = rooted;
              chain = chain.1.start;
              below = chain.1.below;
              all = omega (arith, all.total, chain.1.count);
            };
            forest = refl;
            blocks = sound-blocks live pages 0 ts all.all;
            pages = live-page live pages;
            entries = current;
          },
        )

    pub store-right : test_store s T.nodes T.pages T.sketches free words map ≡ passed map' true → (F : List Tree) × Sound T F
    unfolding test_store
    store-right e = go (test_pages s T.pages T.sketches) refl (test_free T.nodes s.nodes free) refl e
      where
        no : passed map false ≡ passed map' true → ⊥
        no = passed-no s T.nodes T.pages T.sketches 0 lent (window_at 0 0) map map'

        go : (a : Option ℕ) → test_pages s T.pages T.sketches ≡ a → (b : Option ℕ) → test_free T.nodes s.nodes free ≡ b →
            on_left map (λ live. on_left map (λ left. test_windows s T.nodes T.pages T.sketches words left live map) b) a ≡ passed map' true →
            (F : List Tree) × Sound T F
        go None p b f e = absurd (no e)
        go (Some live) p None f e = absurd (no e)
        go (Some live) p (Some left) f e = from_parts live p left f e
