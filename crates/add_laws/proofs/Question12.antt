-- On a sound store `room_of` answers question 12.
use Rattle.std.specs.Prelude.{Some, Ok, Err}
use Prim.Native.Nat.{ℕ, ◌+◌}
use native.Mathlib.Omega.{arith}
use mathlib.Core.Path.{◌≡◌, refl, sym, ap, ◌∙◌}
use mathlib.Core.Bool.{Bool, true, false, cond}
use mathlib.Core.List.{List}
use borrow.Author.Tests.{le-leb, lt-leb, leb-true, leb-false}
use lib.Dec.{leb}
use lib.ListN.{length, get_or}
use Rattle.meaning.specs.Sketch.{in_range}
use Rattle.meaning.specs.Trie.{Tree}
use Rattle.meaning.specs.Ledger.{add}
use Rattle.meaning.specs.Forest.{forest_after, total_nodes}
use Rattle.layout.specs.Settings.{free_at}
use Rattle.children.specs.Heap.{nil}
use Rattle.children.proofs.Frame.{less}
use Rattle.trie.specs.declared.Stop.TheVariants.{Full}
use Rattle.trie.proofs.Spans.{free-span}
use Rattle.trie_laws.specs.Block.{SoundBlock, EachFrom}
use Rattle.trie_laws.specs.Needed.{sum_from}
use Rattle.trie_laws.proofs.Forest.{total-add}
use Rattle.trie_laws.proofs.Block.{agree-forest}
use Rattle.blocks.specs.Tables.{Roomy}
use Rattle.promises.specs.Tables.{Tables, given, rows_of}
use Rattle.promises.specs.Sound.{Sound, live_page, page_bytes}
use Rattle.store.proofs.Cells.{beside_none}
use Rattle.add_laws.specs.Room.{needed_from, block_needs, all_needed, room_of}
use Rattle.add_laws.proofs.Enough.{needs, needed-from}
use Rattle.add_laws.proofs.NewBytes.{new_bytes, new-mine, new-live, new-rows}

-- a sum within a sum
leb-sum : (a b c d : ℕ) → a + c ≡ d → leb (a + b) d ≡ leb b c
leb-sum a b c d e = go (leb b c) refl
  where
    go : (t : Bool) → leb b c ≡ t → leb (a + b) d ≡ t
    go true h = le-leb (a + b) d (omega (arith, leb-true b c h))
    go false h = lt-leb (a + b) d (omega (arith, leb-false b c h))

module _ (T : Tables) (F : List Tree) (sound : Sound T F) (roomy : Roomy (given T) T.nodes T.pages) (p c : ℕ) (x : List ℕ)
    (count : length x ≡ (given T).symbols) (range : in_range (given T).bits x ≡ true) (dead : live_page T p ≡ false) where
  -- the tries by the bytes after the add
  pub new-blocks : EachFrom (SoundBlock (given T) (new_bytes T p c x) (live_page T)) 0 F
  new-blocks =
      agree-forest (given T) (page_bytes T) (live_page T) F sound.blocks (new_bytes T p c x)
      (λ j q l live. sym (new-live T p c x dead j q live))

  pub new_needs : ℕ
  new_needs = sum_from (needs (given T) (new_bytes T p c x) p) 0 F

  all_right : all_needed (given T) T.nodes T.pages T.sketches x ≡ Some new_needs
  unfolding all_needed new_needs
  all_right =
      let H = sound.holding in
      ap (needed_from (block_needs (given T) T.nodes T.pages T.sketches x) 0 0) (sym H.blocks)
      ∙ needed-from (given T) x count range (new_bytes T p c x) (live_page T) p (λ j l. new-mine T p c x j)
      T.sketches (λ j q l live. new-rows T p c x dead sound.pages j q live)
      roomy sound.free H.chain H.below sound.tries 0 0 nil (omega (arith, H.blocks)) (less (beside_none _ _) H.words) H.roots
      (rw sound.forest new-blocks)
      ∙ ap Some (omega (arith, ap (sum_from (needs (given T) (new_bytes T p c x) p) 0) sound.forest))

  pub room-right : room_of (given T) T.nodes T.pages T.sketches x (get_or T.settings free_at 0)
      ≡ cond (leb (total_nodes (forest_after (given T) (rows_of T) (add p c x) F)) (given T).nodes) (Ok tt) (Err Full)
  unfolding room_of new_needs new_bytes
  room-right =
      let H = sound.holding in
      rw (all_right)
      (free-span T.nodes T.pages (given T).nodes sound.free (get_or T.settings free_at 0) new_needs H.words.holds.1 H.below H.chain
      ∙ ap (λ t. cond t (Ok tt) (Err Full))
      (sym (ap (λ n. leb n (given T).nodes) (total-add (given T) (rows_of T) p c x F)
      ∙ leb-sum (total_nodes F) new_needs (length sound.free) (given T).nodes
      (ap (λ f. total_nodes f + length sound.free) (sym sound.forest) ∙ H.all))))
