-- The test by the tables and a reader's rights: what passes are pages that a search is to list, and where the live pages are sound it
-- is all of them.
use mathlib.Core.Path.{◌≡◌, refl, sym, ◌∙◌}
use mathlib.Core.Bool.{Bool, true, false, ◌&&◌, and-false}
use mathlib.Core.List.{List}
use Prim.Native.Nat.{ℕ, ◌<◌}
use lib.Dec.{leb}
use borrow.Author.Tests.{lt-ltb}
use Rattle.meaning.specs.Sketch.{distance, in_range}
use Rattle.layout.specs.Pages.{is_live}
use Rattle.rights.proofs.Open.{is-open-opens}
use Rattle.promises.specs.Tables.{Tables, given, page_class, page_row, is_shown}
use Rattle.promises.specs.Sound.{live_page, SoundPage}
use Rattle.hits.specs.Hit.{Test, test_of, Fitting, is_hit, near_query, passes}
use Rattle.hits.proofs.Hit.{row-long}
use Rattle.hits.proofs.Filter.{passes_same}

module _ (T : Tables) (reader radius : ℕ) (x : List ℕ) where
  abbrev asked : Test
  asked = test_of T reader radius x

  -- a page that the search is to list
  abbrev pub wanted : ℕ → Bool
  wanted p = is_shown T reader p && leb (distance (page_row T p) x) radius

  pub hit-wanted : (p : ℕ) → p < (given T).pages → is_hit asked p ≡ wanted p
  unfolding is_hit is_shown page_class page_row
  hit-wanted p h = rw (lt-ltb p (given T).pages h, is-open-opens)

  -- on any tables
  pub passes-wanted : (p : ℕ) → p < (given T).pages → passes asked p ≡ near_query asked p && wanted p
  unfolding passes
  passes-wanted p h = rw (hit-wanted p h) (swap (wanted p) (near_query asked p))
    where
      swap : (s t : Bool) → s && t ≡ t && s
      swap true true = refl
      swap true false = refl
      swap false true = refl
      swap false false = refl

  module _ (fit : Fitting asked) (range : in_range (given T).bits x ≡ true) (sound : (p : ℕ) → live_page T p ≡ true → SoundPage T p) where
    module _ (p : ℕ) (below : p < (given T).pages) where
      dead : is_live T.pages p ≡ false → near_query asked p && wanted p ≡ wanted p
      unfolding is_shown
      dead e = rw e (and-false (near_query asked p))

      alive : is_live T.pages p ≡ true → SoundPage T p
      unfolding live_page
      alive e = sound p (rw (lt-ltb p (given T).pages below, e))

      same : SoundPage T p → passes asked p ≡ is_hit asked p
      unfolding page_row
      same s =
          passes_same asked p fit.limits.bits-least fit.limits.bits_most (row-long asked p below fit ∙ sym fit.query) s.symbols range s.signature

      pub passes-sound : passes asked p ≡ wanted p
      passes-sound = go (is_live T.pages p) refl
        where
          go : (t : Bool) → is_live T.pages p ≡ t → passes asked p ≡ wanted p
          go true e = same (alive e) ∙ hit-wanted p below
          go false e = passes-wanted p below ∙ dead e
