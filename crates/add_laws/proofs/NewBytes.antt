-- The packed bytes of the pages, by the rows after an add: the sketch's for the new page, those of their rows for live pages.
use Prim.Native.Nat.{ℕ}
use mathlib.Core.Path.{◌≡◌, refl, sym, ap, ◌∙◌}
use mathlib.Core.Bool.{true, false, false≢true}
use mathlib.Core.Logic.{◌≢◌}
use mathlib.Core.List.{List}
use borrow.Author.Tests.{eq-eqb, ne_eqb}
use Rattle.meaning.specs.Ledger.{put_row}
use Rattle.meaning.specs.Forest.{bytes_of_sketch, bytes_in}
use Rattle.trie_laws.proofs.Forest.{bytes-put}
use Rattle.blocks.specs.RowBytes.{row_bytes}
use Rattle.blocks.proofs.RowBytes.{row_same}
use Rattle.promises.specs.Tables.{Tables, given, page_row, rows_of}
use Rattle.promises.specs.Sound.{live_page, page_bytes, SoundPage}
use Rattle.store.proofs.LiveBytes.{live-bytes}

module _ (T : Tables) (p c : ℕ) (x : List ℕ) where
  unfoldable pub new_bytes : ℕ → ℕ → List ℕ
  new_bytes = bytes_in (given T) (put_row (record { page = p; class = c; sketch = x }) (rows_of T))

  pub new-mine : (j : ℕ) → new_bytes j p ≡ bytes_of_sketch (given T) j x
  unfolding new_bytes
  new-mine j =
      bytes-put (given T) j p (record { page = p; class = c; sketch = x }) (rows_of T) ∙ rw (eq-eqb p p refl) refl

  module _ (dead : live_page T p ≡ false) where
    pub new-live : (j q : ℕ) → live_page T q ≡ true → new_bytes j q ≡ page_bytes T j q
    unfolding new_bytes
    new-live j q live =
        let apart : p ≢ q = λ e. false≢true (sym dead ∙ ap (live_page T) e ∙ live) in
        bytes-put (given T) j q (record { page = p; class = c; sketch = x }) (rows_of T)
        ∙ rw (ne_eqb p q apart) (live-bytes T j q live)

    pub new-rows : ((q : ℕ) → live_page T q ≡ true → SoundPage T q) → (j q : ℕ) → live_page T q ≡ true → new_bytes j q ≡ row_bytes (given T) j T.sketches q
    unfolding page_bytes page_row
    new-rows sound j q live = new-live j q live ∙ sym (row_same (given T) j T.sketches q (unfold page_row in (sound q live).symbols))
