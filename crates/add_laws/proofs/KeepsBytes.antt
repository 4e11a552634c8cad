-- The packed bytes of the pages after an add. Readings that agree on the new page and on the live ones give the same tries.
use Prim.Native.Nat.{ℕ, ◌+◌, ◌*◌, ◌≤◌, ◌<◌}
use native.Mathlib.Omega.{arith}
use mathlib.Core.Path.{◌≡◌, sym, ap, ◌∙◌}
use mathlib.Core.Bool.{true, false, false≢true}
use mathlib.Core.Logic.{◌≢◌}
use mathlib.Core.List.{List}
use borrow.Author.Tests.{eqb-true, ltb-true}
use lib.Dec.{ltb, eqb}
use lib.ListN.{length, get_or}
use Rattle.meaning.specs.Lists.{all, upto}
use Rattle.meaning.specs.Sketch.{in_range, packable, all_packable, block, block_length, block_start}
use Rattle.meaning.specs.Trie.{Tree, byte_at}
use Rattle.meaning.specs.Ledger.{Settings, add}
use Rattle.meaning.specs.Forest.{block_bytes, bytes_of_sketch, each_from, forest_after}
use Rattle.meaning.proofs.Lists.{and_first}
use Rattle.layout.specs.Pages.{row_of, with_row, is_live}
use Rattle.layout.proofs.Rows.{row_inside, length-row, row_other}
use Rattle.layout.proofs.Rows.{row_same as row_written}
use Rattle.sketch.proofs.Places.{part-range}
use Rattle.sketch_laws.proofs.Packing.{pack-packable}
use Rattle.trie_laws.specs.Sound.{packs, with_page}
use Rattle.trie_laws.specs.Block.{packs_in, SoundBlock, EachFrom}
use Rattle.trie_laws.proofs.Lists.{holds, fails, truth}
use Rattle.trie_laws.proofs.Block.{agree-forest, insert-forest, insert-same}
use Rattle.blocks.specs.RowBytes.{row_bytes}
use Rattle.blocks.proofs.RowBytes.{row_same}
use Rattle.promises.specs.Tables.{Tables, given, page_row, rows_of}
use Rattle.promises.specs.Sound.{Sound, live_page, page_bytes}
use Rattle.blocks.proofs.BlockBytes.{block-length}
use Rattle.add_laws.proofs.NewBytes.{new_bytes, new-mine, new-live}
use Rattle.add_laws.proofs.Grows.{inserts}

-- the bytes of a sketch are such that packing can give
sketch-packs : (s : Settings) (j : ℕ) → j < s.blocks → (row : List ℕ) → length row ≡ s.symbols → in_range s.bits row ≡ true →
    (bytes : ℕ → ℕ → List ℕ) (q : ℕ) → bytes j q ≡ bytes_of_sketch s j row → packs_in s bytes j q ≡ true
unfolding packs byte_at block_bytes bytes_of_sketch all_packable block
sketch-packs s j l row count range bytes q e =
    let n : ℕ = block_length s.symbols s.blocks j in
    ap (λ (ys : List ℕ). all (λ k. packable s.bits n k (get_or ys k 0)) (upto (block_bytes s j))) e
    ∙ pack-packable s.bits n (block s.symbols s.blocks j row) (block-length s j l row count)
    (part-range s.bits (block_start s.symbols s.blocks j) n row range)

module _ (T : Tables) (p : ℕ) (x : List ℕ) where
  -- the sketch's bytes for page p, those of their rows for live pages
  pub record Reads (bytes : ℕ → ℕ → List ℕ) : Type 0 where
    pub mine : (j : ℕ) → bytes j p ≡ bytes_of_sketch (given T) j x
    pub others : (j q : ℕ) → live_page T q ≡ true → bytes j q ≡ page_bytes T j q

  apart : live_page T p ≡ false → (q : ℕ) → live_page T q ≡ true → q ≢ p
  apart dead q live e = false≢true (sym dead ∙ ap (live_page T) (sym e) ∙ live)

  -- by the ledger's rows
  pub new-reads : (c : ℕ) → live_page T p ≡ false → Reads (new_bytes T p c x)
  new-reads c dead = record { mine = new-mine T p c x; others = new-live T p c x dead }

  module _ (F : List Tree) (sound : Sound T F) where
    pub read-blocks : (bytes : ℕ → ℕ → List ℕ) → Reads bytes → EachFrom (SoundBlock (given T) bytes (live_page T)) 0 F
    read-blocks bytes r = agree-forest (given T) (page_bytes T) (live_page T) F sound.blocks bytes (λ j q l live. sym (r.others j q live))

    pub read_same : (f g : ℕ → ℕ → List ℕ) → Reads f → Reads g → each_from (inserts (given T) f p) 0 F ≡ each_from (inserts (given T) g p) 0 F
    read_same f g a b =
        insert-same (given T) f (live_page T) F (read-blocks f a) p g (given T).thresholds (λ j l. a.mine j ∙ sym (b.mine j))
        (λ j q l live. a.others j q live ∙ sym (b.others j q live))

    pub forest-read : (c : ℕ) → live_page T p ≡ false → (bytes : ℕ → ℕ → List ℕ) → Reads bytes →
        each_from (inserts (given T) bytes p) 0 F ≡ forest_after (given T) (rows_of T) (add p c x) F
    unfolding forest_after new_bytes
    forest-read c dead bytes r = read_same bytes (new_bytes T p c x) r (new-reads c dead)

    module _ (dead : live_page T p ≡ false) (count : length x ≡ (given T).symbols) (range : in_range (given T).bits x ≡ true)
        (long : (given T).pages * (given T).symbols ≤ length T.sketches) (page : p < (given T).pages) where
      abbrev pub written : List ℕ
      written = with_row (given T).symbols T.sketches p x

      abbrev inside : p * (given T).symbols + (given T).symbols ≤ length T.sketches
      inside = row_inside (given T).symbols (given T).pages (length T.sketches) page long

      -- the rows of the table with x written
      pub mine-row : row_of (given T).symbols written p ≡ x
      mine-row = row_written (given T).symbols T.sketches p inside x count

      pub other_row : (q : ℕ) → q ≢ p → row_of (given T).symbols written q ≡ row_of (given T).symbols T.sketches q
      other_row q d = row_other (given T).symbols T.sketches p inside x count q d

      pub row_reads : Reads (λ j. row_bytes (given T) j written)
      unfolding page_bytes page_row
      row_reads = record {
        mine = λ j. row_same (given T) j written p (rw mine-row range) ∙ ap (bytes_of_sketch (given T) j) mine-row;
        others = λ j q live.
            let e : row_of (given T).symbols written q ≡ row_of (given T).symbols T.sketches q = other_row q (apart dead q live) in
            row_same (given T) j written q (rw e (sound.pages q live).symbols) ∙ ap (bytes_of_sketch (given T) j) e;
      }

      -- without reducing the symbols
      abbrev pub written-bytes : ℕ → ℕ → List ℕ
      written-bytes j q = bytes_of_sketch (given T) j (row_of (given T).symbols written q)

      pub written-reads : Reads written-bytes
      unfolding page_bytes page_row
      written-reads = record {
        mine = λ j. ap (bytes_of_sketch (given T) j) mine-row;
        others = λ j q live. ap (bytes_of_sketch (given T) j) (other_row q (apart dead q live));
      }

      written-packs : (j q : ℕ) → j < (given T).blocks → with_page p (live_page T) q ≡ true → packs_in (given T) written-bytes j q ≡ true
      unfolding live_page page_row
      written-packs j q l live = elim (truth (eqb q p)) [
        | holds e ↦
            sketch-packs (given T) j l x count range written-bytes q
            (ap (λ (i : ℕ). written-bytes j i) (eqb-true q p e) ∙ written-reads.mine j)
        | fails e ↦
            let old : live_page T q ≡ true = rw e at live in
            let below : q < (given T).pages = ltb-true q (given T).pages (and_first (ltb q (given T).pages) (is_live T.pages q) old) in
            let row : List ℕ = row_of (given T).symbols T.sketches q in
            sketch-packs (given T) j l row
            (length-row (given T).symbols T.sketches q (row_inside (given T).symbols (given T).pages (length T.sketches) below long))
            (sound.pages q old).symbols written-bytes q (ap (bytes_of_sketch (given T) j) (other_row q (apart dead q old)))
      ]

      -- the tries afterwards
      pub written-blocks : length F ≤ (given T).blocks →
          EachFrom (SoundBlock (given T) written-bytes (with_page p (live_page T))) 0 (each_from (inserts (given T) written-bytes p) 0 F)
      written-blocks few =
          insert-forest (given T) (page_bytes T) (live_page T) F sound.blocks p written-bytes (given T).thresholds dead
          (λ j q l live. sym (written-reads.others j q live))
          (λ j q l live. written-packs j q (omega arith) live)
