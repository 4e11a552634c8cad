-- On a sound store every page that a search is to list is met by the walk of some block.
use Prim.Native.Nat.{ℕ, ◌≤◌, ◌<◌}
use native.Mathlib.Omega.{arith}
use native.Mathlib.Nat.{zero-add}
use mathlib.Core.Path.{◌≡◌, refl, ◌∙◌}
use mathlib.Core.Bool.{true}
use mathlib.Core.List.{List}
use lib.Dec.{ltb, leb, eqb}
use lib.ListN.{length, get_or}
use borrow.Author.Tests.{lt-ltb, leb-true}
use Rattle.meaning.specs.Lists.{any}
use Rattle.meaning.specs.Sketch.{distance, in_range, block_length}
use Rattle.meaning.specs.Trie.{Tree, fresh}
use Rattle.meaning.specs.Forest.{block_bytes, bytes_of_sketch, met_from}
use Rattle.layout.specs.Header.{header_of}
use Rattle.layout.specs.Limits.{HeaderLimits}
use Rattle.layout.specs.Lengths.{sketches_length}
use Rattle.layout.specs.Pages.{is_live}
use Rattle.layout.proofs.Rows.{row_inside, length-row}
use Rattle.rights.specs.Register.{opens}
use Rattle.sketch_laws.proofs.Walk.{met-somewhere}
use Rattle.meaning.specs.Trie.{pages_in as pages_upon}
use Rattle.meaning.proofs.Lists.{and_first, and_second, and_intro}
use Rattle.trie_laws.specs.Block.{SoundBlock}
use Rattle.trie_laws.proofs.Block.{each-get}
use Rattle.trie_laws.proofs.Pages.{stands-any}
use Rattle.promises.specs.Tables.{Tables, given, page_class, page_row, is_shown}
use Rattle.hits.proofs.Wanted.{wanted}
use Rattle.promises.specs.Sound.{Sound, live_page, page_bytes}
use Rattle.promises.proofs.Stores.{tries-count}
use Rattle.search_laws.proofs.Paths.{sound-path, sound-shallow}
use Rattle.search_laws.proofs.Meets.{met-from}

module _ (T : Tables) (F : List Tree) (sound : Sound T F) (limits : HeaderLimits (header_of (given T)))
    (long : sketches_length (given T) ≤ length T.sketches) where
  -- the trie of block j
  trie : ℕ → Tree
  trie j = get_or F j fresh

  block-sound : (j : ℕ) → j < (given T).blocks → SoundBlock (given T) (page_bytes T) (live_page T) j (trie j)
  unfolding trie
  block-sound j l =
      rw (zero-add j) at (each-get (SoundBlock (given T) (page_bytes T) (live_page T)) 0 F j fresh (omega (arith, tries-count T F sound)) sound.blocks)

  module _ (reader radius : ℕ) (x : List ℕ) (count : length x ≡ (given T).symbols) (range : in_range (given T).bits x ≡ true)
      (p : ℕ) (page : p < (given T).pages) (w : wanted T reader radius x p ≡ true) where
    near : distance (page_row T p) x ≤ radius
    near = leb-true (distance (page_row T p) x) radius (and_second (is_shown T reader p) (leb (distance (page_row T p) x) radius) w)

    live : live_page T p ≡ true
    unfolding live_page is_shown
    live =
        and_intro (ltb p (given T).pages) (is_live T.pages p) (lt-ltb p (given T).pages page)
        (and_first (is_live T.pages p) (opens T.settings reader (page_class T p)) (and_first (is_shown T reader p) (leb (distance (page_row T p) x) radius) w))

    row-long : length (page_row T p) ≡ (given T).symbols
    unfolding page_row sketches_length
    row-long =
        length-row (given T).symbols T.sketches p (row_inside (given T).symbols (given T).pages (length T.sketches) page long)

    in-trie : (j : ℕ) → j < (given T).blocks → any (eqb p) (pages_upon (trie j)) ≡ true
    in-trie j l = stands-any (live_page T) (trie j) (block-sound j l).stands p ∙ live

    pub met-wanted : any (eqb p) (met_from (given T) radius x 0 F) ≡ true
    unfolding page_bytes bytes_of_sketch block_bytes trie
    met-wanted =
        let b : ℕ = (given T).bits in
        let m : ℕ = (given T).symbols in
        let q : ℕ = (given T).blocks in
        let at = met-somewhere b m q radius p (page_row T p) x (page_bytes T) trie
        limits.bits-least limits.bits_most limits.blocks-least row-long count (sound.pages p live).symbols range
        (λ j l. refl)
        (λ j l. sound-path (page_bytes T j) b (block_length m q j) (block_bytes (given T) j) (trie j) 0 (block-sound j l).sound)
        (λ j l. sound-shallow (page_bytes T j) b (block_length m q j) (block_bytes (given T) j) (trie j) 0 (block-sound j l).sound)
        in-trie near in
        met-from (given T) radius x p F 0 at.0 fresh (omega (arith, at.1, tries-count T F sound)) (rw (zero-add at.0) at.2)
