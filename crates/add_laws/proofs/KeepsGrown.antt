-- On a sound store an add that no question refuses puts its page into the trie of every block; the page words and signatures stay.
use Rattle.std.specs.Prelude.{Some}
use Prim.Native.Nat.{ℕ, ◌+◌, ◌*◌, ◌≤◌, ◌<◌}
use native.Mathlib.Omega.{arith}
use mathlib.Core.Path.{◌≡◌, sym, ap, ◌∙◌}
use mathlib.Core.List.{List, map}
use lib.ListN.{length, get_or}
use Rattle.meaning.specs.Trie.{Tree}
use Rattle.meaning.specs.Ledger.{Settings, add}
use Rattle.meaning.specs.Forest.{block_bytes, each_from, forest_after, total_nodes}
use Rattle.layout.specs.Settings.{free_at}
use Rattle.layout.specs.Lengths.{sketches_length}
use Rattle.layout.specs.Pages.{links_at}
use Rattle.layout.proofs.Rows.{row_inside, length-with-row}
use Rattle.children.specs.Heap.{Heap, ◌⊕◌}
use Rattle.blocks.specs.Tables.{RowTable}
use Rattle.children.specs.Phys.{Phys, tree, first, free_cells, Below}
use Rattle.trie_laws.specs.Sound.{Stands}
use Rattle.trie_laws.specs.Block.{SoundBlock, EachFrom}
use Rattle.trie_laws.specs.Needed.{sum_from}
use Rattle.trie_laws.proofs.Block.{each_map}
use Rattle.trie_laws.proofs.Forest.{total-insert}
use Rattle.blocks.specs.RowBytes.{row_bytes, rows_of as rows_in}
use Rattle.blocks.proofs.RowBytes.{rows-table}
use Rattle.blocks.proofs.Tables.{roomy}
use Rattle.promises.specs.Tables.{Tables, given, rows_of}
use Rattle.promises.specs.Sound.{Sound, live_page, tries_cells, Rooted}
use Rattle.add_laws.specs.Insert.{filled, insert_from, insert_all}
use Rattle.add_laws.specs.Add.{row_added, page_written}
use Rattle.add_laws.proofs.Enough.{needs}
use Rattle.add_laws.proofs.Grows.{inserts, GrownFrom, insert-from}
use Rattle.add_laws.proofs.Spares.{held_by, spare-heap}
use Rattle.add_laws.proofs.KeepsAsked.{Accepted}
use Rattle.add_laws.proofs.KeepsBytes.{Reads, read-blocks, forest-read, row_reads}
use Rattle.add_laws.proofs.KeepsWords.{word_cells, words-kept, words-heap, written-heap}

-- the tries afterwards, in the page table with the page written
pub record Placed (T : Tables) (F : List Tree) (p c : ℕ) (x : List ℕ) : Type 0 where
  pub nodes_to : List ℕ
  pub pages_to : List ℕ
  pub link : ℕ
  pub to : List Phys
  pub free : List ℕ
  pub is : insert_all (given T) (row_added T p c x) x p T.nodes T.pages (get_or T.settings free_at 0) ≡ filled nodes_to pages_to (Some link)
  pub words : Heap nodes_to (page_written T p c x pages_to) (tries_cells (given T).nodes (given T).pages 0 to ⊕ free_cells (given T).nodes free)
  pub roots : Rooted (given T).nodes (given T).pages 0 to
  pub chain : link ≡ first free
  pub below : Below (given T).nodes free
  pub all : total_nodes (map tree to) + length free ≡ (given T).nodes
  pub forest : map tree to ≡ forest_after (given T) (rows_of T) (add p c x) F
  -- the page words and signatures before page p is written
  pub long : (given T).pages + p < length pages_to
  pub kept : (i : ℕ) → i < links_at (given T).pages → get_or pages_to i 0 ≡ get_or T.pages i 0

module _ (T : Tables) (F : List Tree) (sound : Sound T F) (p c : ℕ) (x : List ℕ) (a : Accepted T F p c x) where
  abbrev s : Settings
  s = given T

  abbrev S' : List ℕ
  S' = row_added T p c x

  abbrev bytes : ℕ → ℕ → List ℕ
  bytes j = row_bytes s j S'

  pub sketches-long : s.pages * s.symbols ≤ length T.sketches
  unfolding sketches_length
  sketches-long = a.opened.lent.sketches-long

  reads : Reads T p x bytes
  reads = row_reads T p x F sound a.dead a.count a.range sketches-long a.page

  rows : (j : ℕ) → j < s.blocks → RowTable s.pages (rows_in s j) S'
  rows j l =
      let inside : p * s.symbols + s.symbols ≤ length T.sketches = row_inside s.symbols s.pages (length T.sketches) a.page sketches-long in
      rows-table s j l s.pages S' (omega (arith, a.opened.lent.limits)) a.opened.lent.limits.symbols-most
      (omega (arith, sketches-long, length-with-row s.symbols T.sketches p inside x a.count))

  -- the free nodes suffice
  enough : sum_from (needs s bytes p) 0 (map tree sound.tries) ≤ length sound.free
  enough =
      let sum : total_nodes (each_from (inserts s bytes p) 0 F) ≡ total_nodes F + sum_from (needs s bytes p) 0 F = total-insert bytes p (block_bytes s) s.thresholds 0 F in
      let all : total_nodes F + length sound.free ≡ s.nodes = ap (λ f. total_nodes f + length sound.free) (sym sound.forest) ∙ sound.holding.all in
      rw sound.forest (omega (arith, sum, all, ap total_nodes (forest-read T p x F sound c a.dead bytes reads), a.room))

  stands : EachFrom (λ k. Stands (live_page T)) 0 (map tree sound.tries)
  stands =
      rw sound.forest
      (each_map (SoundBlock s bytes (live_page T)) (length F) (λ k. Stands (live_page T)) (λ j t l b. b.stands) 0 F (omega arith)
      (read-blocks T p x F sound bytes reads))

  grown : GrownFrom s 0 (total_nodes (map tree sound.tries) + length sound.free) (each_from (inserts s bytes p) 0 (map tree sound.tries))
      (word_cells T.pages (links_at s.pages))
      (insert_from s S' x p (length sound.tries) 0 T.nodes T.pages (get_or T.settings free_at 0))
  grown =
      let H = sound.holding in
      insert-from s S' x a.count a.range p a.page (live_page T) (λ j l. reads.mine j) rows (held_by s.pages T.pages p)
      sound.tries 0 (roomy s T.nodes T.pages T.sketches a.opened.lent) sound.free H.chain H.below (word_cells T.pages (links_at s.pages)) (omega (arith, H.blocks))
      (words-heap s.nodes s.pages p (held_by s.pages T.pages p) sound.tries sound.free H.roots
      (spare-heap s.nodes s.pages p (live_page T) a.page a.dead sound.tries sound.free H.roots stands H.words))
      H.roots (rw sound.forest (read-blocks T p x F sound bytes reads)) enough

  pub placed : Placed T F p c x
  unfolding insert_all
  placed =
      let E = grown in
      let long : s.pages + p < length E.pages_to = omega (arith, (E.tables.pages 0 a.opened.lent.limits.blocks-least).long, a.page) in
      record {
        nodes_to = E.nodes_to;
        pages_to = E.pages_to;
        link = E.free_to;
        to = E.to;
        free = E.frees_to;
        is =
            ap (λ (k : ℕ). insert_from s S' x p k 0 T.nodes T.pages (get_or T.settings free_at 0)) (sym sound.holding.blocks) ∙ E.is;
        words =
            written-heap s.pages p c _ a.page E.nodes_to E.pages_to long
            (tries_cells s.nodes s.pages 0 E.to) (free_cells s.nodes E.frees_to) T.pages E.heap;
        roots = E.roots;
        chain = E.chain;
        below = E.below;
        all = E.count ∙ sound.holding.all;
        forest =
            E.grown ∙ ap (each_from (inserts s bytes p) 0) sound.forest ∙ forest-read T p x F sound c a.dead bytes reads;
        long = long;
        kept = λ i l. words-kept T.pages E.nodes_to E.pages_to (links_at s.pages) i l E.heap.holds.1.1;
      }
