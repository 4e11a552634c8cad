-- The tries of a history have few nodes: each inner one has a child, and the live pages are those of the rows (document 02, F-2).
use Prim.Native.Nat.{ℕ, suc, ◌+◌, ◌*◌, ◌≤◌, ◌<◌}
use native.Mathlib.Nat.{zero-add}
use mathlib.Core.Path.{◌≡◌, refl, sym, ap, ◌∙◌}
use mathlib.Core.Bool.{true}
use mathlib.Core.List.{List, [], ◌∷◌}
use lib.ListN.{length, get_or, replicate}
use borrow.Author.Tests.{lt-ltb}
use Rattle.meaning.specs.Lists.{all, count, upto}
use Rattle.meaning.specs.Sketch.{block_length}
use Rattle.meaning.specs.Trie.{Tree, fresh, nodes, pages_in, pruned}
use Rattle.meaning.specs.Ledger.{Settings, Row, row, Ledger}
use Rattle.meaning.specs.Forest.{block_bytes}
use Rattle.meaning.proofs.Lists.{and_first, and_second}
use Rattle.layout.specs.Pages.{is_live}
use Rattle.layout.proofs.Tests.{all-at}
use Rattle.trie_laws.specs.Block.{SoundBlock, EachFrom}
use Rattle.trie_laws.proofs.Block.{each-get}
use Rattle.trie_laws.proofs.Pages.{stands-length}
use Rattle.trie_laws.proofs.Pruned.{fresh-pruned, few-nodes, no-pages}
use Rattle.promises.specs.Tables.{Tables, given, page_class, page_row, rows_of}
use Rattle.promises.specs.Sound.{live_page, page_bytes}
use Rattle.promises.proofs.Stores.{live_below, tries-count}
use Rattle.history.proofs.Lists.{rows_upto, rows-length}
use Rattle.history.proofs.Represents.{given_eq}
use Rattle.history.proofs.Numbers.{Shows}

module _ (T : Tables) (L : Ledger) (F : List Tree) (W : Shows T L F) (h : all pruned F ≡ true) where
  abbrev s : Settings
  s = given T

  live-rows : count (live_page T) (upto s.pages) ≡ length L.rows
  unfolding rows_of live_page upto
  live-rows =
      let at : ℕ → Row = λ p. row p (page_class T p) (page_row T p) in
      sym (rows-length (live_page T) at 0 s.pages)
      ∙ ap length (rows_upto (live_page T) (is_live T.pages) at at s.pages (λ i l. rw (lt-ltb i s.pages l) refl) (λ i l e. refl))
      ∙ ap length (sym W.tables.rows)

  -- each trie has as many pages as there are rows
  module _ (j : ℕ) (t : Tree) (b : SoundBlock s (page_bytes T) (live_page T) j t) where
    pages-rows : length (pages_in t) ≡ length L.rows
    pages-rows = stands-length (live_page T) t b.stands s.pages (live_below T) ∙ live-rows

    few-in : pruned t ≡ true → nodes t ≤ 1 + length L.rows * block_bytes s j
    few-in e = rw (← pages-rows) (few-nodes (page_bytes T j) s.bits (block_length s.symbols s.blocks j) (block_bytes s j) t b.sound e)

    fresh_in : L.rows ≡ [] → pruned t ≡ true → t ≡ fresh
    fresh_in z e =
        no-pages (page_bytes T j) s.bits (block_length s.symbols s.blocks j) (block_bytes s j) t b.sound e (pages-rows ∙ ap length z)

  pub few : (j : ℕ) → j < length F → nodes (get_or F j fresh) ≤ 1 + length L.rows * block_bytes L.settings j
  few j l =
      rw (← given_eq T L W.tables)
      (few-in j (get_or F j fresh)
      (rw (zero-add j) at (each-get (SoundBlock s (page_bytes T) (live_page T)) 0 F j fresh l W.store.blocks)) (all-at pruned F j fresh h fresh-pruned))

  alone : L.rows ≡ [] → (j : ℕ) (G : List Tree) → EachFrom (SoundBlock s (page_bytes T) (live_page T)) j G → all pruned G ≡ true → G ≡ replicate (length G) fresh
  unfolding all
  alone z j [] b e = refl
  alone z j (t ∷ G) b e =
      rw (fresh_in j t b.0 z (and_first (pruned t) (all pruned G) e))
      (ap (λ (H : List Tree). fresh ∷ H) (alone z (suc j) G b.1 (and_second (pruned t) (all pruned G) e)))

  blocks : length F ≡ L.settings.blocks
  blocks = tries-count T F W.store ∙ ap (λ (x : Settings). x.blocks) (given_eq T L W.tables)

  pub without-pages : L.rows ≡ [] → F ≡ replicate L.settings.blocks fresh
  without-pages z = alone z 0 F W.store.blocks h ∙ ap (λ (q : ℕ). replicate q fresh) blocks
