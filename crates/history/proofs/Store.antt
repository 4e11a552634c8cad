-- Soundness reads the settings' header and free link, the nodes, the pages and the sketches, and asks that no entry is stale: a call that
-- leaves these as they were, and the entries current, keeps it.
use Prim.Native.Nat.{ℕ}
use mathlib.Core.Path.{◌≡◌, refl, ◌∙◌, fun_ext}
use mathlib.Core.Bool.{true}
use mathlib.Core.List.{List}
use lib.ListN.{get_or, take}
use Rattle.meaning.specs.Trie.{Tree}
use Rattle.layout.specs.Settings.{members_at, free_at, settings_of}
use Rattle.layout.proofs.Written.{settings-kept}
use Rattle.rights.specs.Entries.{all_current}
use Rattle.promises.specs.Tables.{Tables, page_class, page_row}
use Rattle.promises.specs.Sound.{live_page, page_bytes, SoundPage, Sound}
use Rattle.promises.specs.Relation.{to_store, with_working}

-- another settings table and another working table
abbrev others : Tables → List ℕ → List ℕ → Tables
others T ws vs = record { settings = ws; nodes = T.nodes; pages = T.pages; sketches = T.sketches; working = vs }

module _ (T : Tables) (ws vs : List ℕ) (head : take members_at ws ≡ take members_at T.settings) (link : get_or ws free_at 0 ≡ get_or T.settings free_at 0)
    (current : all_current ws ≡ true) (F : List Tree) (h : Sound T F) where
  given-same : settings_of ws ≡ settings_of T.settings
  given-same = settings-kept ws T.settings head

  live_same : live_page (others T ws vs) ≡ live_page T
  unfolding live_page
  live_same = fun_ext (λ p. rw given-same)

  bytes_same : page_bytes (others T ws vs) ≡ page_bytes T
  unfolding page_bytes page_row
  bytes_same = fun_ext (λ j. fun_ext (λ p. rw given-same))

  page-same : (p : ℕ) → SoundPage T p → SoundPage (others T ws vs) p
  unfolding page_class page_row
  page-same p k = record { class = k.class; symbols = rw given-same k.symbols; signature = rw given-same k.signature }

  pub sound-others : Sound (others T ws vs) F
  sound-others = record {
    tries = h.tries;
    free = h.free;
    holding = record {
      words = rw given-same h.holding.words;
      blocks = rw given-same h.holding.blocks;
      roots = rw given-same h.holding.roots;
      chain = link ∙ h.holding.chain;
      below = rw given-same h.holding.below;
      all = rw given-same h.holding.all;
    };
    forest = h.forest;
    blocks = rw (given-same, bytes_same, live_same) h.blocks;
    pages = λ p e. page-same p (h.pages p (rw live_same at e));
    entries = current;
  }

module _ (T : Tables) (F : List Tree) where
  -- the working table is not read
  pub sound-working : (vs : List ℕ) → Sound T F → Sound (with_working T vs) F
  sound-working vs h = sound-others T T.settings vs refl refl h.entries F h

  pub sound_back : Sound (to_store T) F → Sound T F
  sound_back h = sound-others (to_store T) T.settings T.working refl refl h.entries F h
