-- The tables that pass 5 and 6, once the maps are cleared, as the rest of a search takes them.
use Prim.Native.Nat.{ℕ, ◌+◌, ◌*◌, ◌≤◌}
use native.Mathlib.Omega.{arith}
use mathlib.Core.Path.{◌≡◌}
use mathlib.Core.List.{List, []}
use Rattle.words.specs.Bits.{zeroed}
use Rattle.layout.specs.declared.Numbers.{Numbers}
use Rattle.layout.specs.Header.{bare}
use Rattle.layout.specs.Lengths.{working_length}
use Rattle.layout.specs.Working.{map_words, summary_words}
use Rattle.layout.proofs.Sizes.{map-most, pages-mapped}
use Rattle.promises.specs.Tables.{Tables}
use Rattle.entry.proofs.Enters.{Entered}
use Rattle.marks.specs.Marks.{summary_of, Room, Summarised, list_of}
use Rattle.marks.proofs.Marked.{cleared-room, cleared-summarised, cleared-list}

module _ (T : Tables) (h : Numbers) (o : Entered T h) (words : ℕ) (f : words ≡ map_words (bare h)) where
  pub entered-room : Room T.working words
  unfolding working_length summary_words
  entered-room = rw f (record { most = map-most (bare h) o.limits; long = o.working-long })

  pub entered-bits : h.pages ≤ words * 32
  entered-bits = rw f (omega (arith, pages-mapped (bare h)))

  module _ (cleared : List ℕ) (g : cleared ≡ zeroed T.working 0 (words + summary_of words)) where
    pub entered-list : list_of cleared words ≡ []
    entered-list = rw g (cleared-list T.working words entered-room)

    pub entered-summary : Summarised cleared words
    entered-summary = rw g (cleared-summarised T.working words entered-room)

    pub entered-cleared : Room cleared words
    entered-cleared = rw g (cleared-room T.working words entered-room)
