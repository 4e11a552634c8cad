-- Where the store is sound, the test says yes.
use Rattle.std.specs.Prelude.{Some}
use Prim.Native.Nat.{ℕ, suc, ◌≤◌, ◌<◌}
use native.Mathlib.Omega.{arith}
use native.Mathlib.Decide.{dec_lt}
use mathlib.Core.Path.{◌≡◌, refl, sym, ap, ◌∙◌}
use mathlib.Core.Logic.{by_cases}
use mathlib.Core.Bool.{true}
use mathlib.Core.List.{List, [], ◌∷◌, map as each}
use borrow.Author.Tests.{lt-ltb}
use lib.Dec.{ltb}
use lib.ListN.{length, get_or}
use Rattle.meaning.specs.Lists.{count, upto}
use Rattle.meaning.specs.Sketch.{block_length}
use Rattle.meaning.specs.Trie.{Tree}
use Rattle.meaning.specs.Ledger.{Settings}
use Rattle.meaning.specs.Forest.{block_bytes, total_nodes}
use Rattle.layout.specs.Nodes.{state_at}
use Rattle.layout.specs.Settings.{free_at}
use Rattle.layout.specs.Pages.{is_live}
use Rattle.layout.specs.Header.{header_of}
use Rattle.layout.specs.Tables.{Lent}
use Rattle.sketch_laws.proofs.Lists.{count_same}
use Rattle.children.specs.Heap.{Holds}
use Rattle.children.specs.Phys.{Phys, tree}
use Rattle.trie_laws.specs.Block.{SoundBlock, EachFrom}
use Rattle.meaning.proofs.Lists.{and_intro, and_second}
use Rattle.trie_laws.proofs.Pages.{stands-any, stands-all, stands-length}
use Rattle.trie_laws.proofs.Walk.{walk-sound}
use Rattle.trie_laws.proofs.Agree.{sound-agree}
use Rattle.blocks.specs.RowBytes.{row_bytes}
use Rattle.blocks.proofs.RowBytes.{row_same}
use Rattle.promises.specs.Tables.{Tables, given, page_class, page_row}
use Rattle.promises.specs.Sound.{tries_cells, Rooted, live_page, page_bytes, Sound}
use Rattle.promises.proofs.Stores.{live_below}
use Rattle.check_tables.specs.Free.{test_free}
use Rattle.check_tries.specs.Windows.{passed, test_windows}
use Rattle.check_store.specs.Store.{test_store}
use Rattle.check_tables.proofs.LivePages.{Fits, pages-whole}
use Rattle.check_tables.proofs.FreeChain.{free-whole}
use Rattle.check_tries.proofs.Tries.{Each, uses_all, InPlace}
use Rattle.check_tries.proofs.Passes.{windows-whole}
use Rattle.check_store.proofs.Words.{tries-state, tries-beyond}

module _ (T : Tables) (F : List Tree) (sound : Sound T F) where
  abbrev s : Settings
  s = given T

  abbrev N : List ℕ
  N = T.nodes

  abbrev P : List ℕ
  P = T.pages

  abbrev S : List ℕ
  S = T.sketches

  abbrev live : ℕ
  live = count (is_live P) (upto s.pages)

  page-live : (p : ℕ) → p < s.pages → is_live P p ≡ true → live_page T p ≡ true
  unfolding live_page
  page-live p l e = and_intro (ltb p s.pages) (is_live P p) (lt-ltb p s.pages l) e

  page-alive : (p : ℕ) → live_page T p ≡ true → is_live P p ≡ true
  unfolding live_page
  page-alive p e = and_second (ltb p s.pages) (is_live P p) e

  page-fits : (p : ℕ) → p < s.pages → is_live P p ≡ true → Fits s P S p
  unfolding page_class page_row
  page-fits p l e =
      let f = sound.pages p (page-live p l e) in
      record { class = f.class; symbols = f.symbols; signature = f.signature }

  same_bytes : (j p : ℕ) → live_page T p ≡ true → row_bytes s j S p ≡ page_bytes T j p
  unfolding page_bytes page_row
  same_bytes j p e = row_same s j S p (page-fits p (live_below T p e) (page-alive p e)).symbols

  same_count : count (live_page T) (upto s.pages) ≡ live
  unfolding live_page
  same_count = count_same (live_page T) (is_live P) s.pages (λ i l. rw (lt-ltb i s.pages l) refl)

  -- ---- the tries
  places : (j : ℕ) (ts : List Phys) → Rooted s.nodes s.pages j ts → Holds (tries_cells s.nodes s.pages j ts) N P →
      EachFrom (SoundBlock s (page_bytes T) (live_page T)) j (each tree ts) → Each (InPlace s N P S live) j ts
  places j [] r h b = tt
  places j (t ∷ ts) r h b = (
    record {
      place = r.0;
      sound = r.1;
      holds = h.0;
      walked =
          walk-sound (row_bytes s j S) s.bits (block_length s.symbols s.blocks j) (block_bytes s j) (tree t)
          ∙ sound-agree (row_bytes s j S) (page_bytes T j) s.bits (block_length s.symbols s.blocks j) (block_bytes s j) 0 (tree t)
          (λ x m. same_bytes j x (sym (stands-any (live_page T) (tree t) b.0.stands x) ∙ m))
          ∙ b.0.sound;
      alive = stands-all (live_page T) (tree t) b.0.stands (is_live P) page-alive;
      pages = stands-length (live_page T) (tree t) b.0.stands s.pages (live_below T) ∙ same_count;
    },
    places (suc j) ts r.2 h.1 b.1,
  )

  once : (x : ℕ) → uses_all sound.tries x ≤ 1
  once x =
      let h = sound.holding in
      by_cases (dec_lt x s.nodes)
      (λ l. omega (arith, h.words.nodes (state_at s.nodes x), tries-state s.nodes s.pages x l sound.tries 0 h.roots))
      (λ l. omega (arith, tries-beyond s.nodes s.pages x (omega arith) sound.tries 0 h.roots))

  module _ (lent : Lent (header_of s) N P S) (words : ℕ) (map : List ℕ) (long : words ≤ length map) where
    abbrev left : ℕ
    left = total_nodes (each tree sound.tries)

    free_part : test_free N s.nodes (get_or T.settings free_at 0) ≡ Some left
    unfolding test_free
    free_part =
        let h = sound.holding in
        rw h.chain (free-whole N P s.nodes sound.free s.nodes h.below h.words.holds.1 (omega (arith, h.all))
        ∙ ap Some (omega (arith, h.all)))

    tries-part : (map' : List ℕ) × (test_windows s N P S words left live map ≡ passed map' true)
    unfolding test_windows
    tries-part =
        let h = sound.holding in
        windows-whole s N P S live lent words left sound.tries h.blocks
        (places 0 sound.tries h.roots h.words.holds.0 (rw (sym sound.forest) at sound.blocks)) refl (omega (arith, h.all)) once 8 0 map long

    pub store-whole : (map' : List ℕ) × (test_store s N P S (get_or T.settings free_at 0) words map ≡ passed map' true)
    unfolding test_store
    store-whole = (tries-part.0, rw (pages-whole s P S page-fits, free_part) tries-part.1)
