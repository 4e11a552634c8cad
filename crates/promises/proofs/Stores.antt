-- Of sound stores, what laws of several calls use.
use Prim.Native.Nat.{ℕ, ◌<◌}
use native.Mathlib.Omega.{arith}
use mathlib.Core.Path.{◌≡◌, sym, ap, ◌∙◌}
use mathlib.Core.Bool.{true}
use mathlib.Core.List.{List}
use borrow.Author.Tests.{ltb-true}
use lib.Dec.{ltb}
use lib.ListN.{length, set, length-map}
use lib.Seq.{take-set-le}
use Rattle.meaning.specs.Trie.{Tree}
use Rattle.meaning.proofs.Lists.{and_first}
use Rattle.layout.specs.Settings.{free_at}
use Rattle.layout.specs.Pages.{is_live}
use Rattle.rights.specs.Register.{recorded, opens}
use Rattle.rights.specs.Entries.{all_current}
use Rattle.rights.proofs.Kept.{current-at, current-same}
use Rattle.children.specs.Phys.{tree}
use Rattle.promises.specs.Tables.{Tables, given}
use Rattle.promises.specs.Sound.{live_page, Sound}

-- a live page is below the capacity
pub live_below : (T : Tables) (p : ℕ) → live_page T p ≡ true → p < (given T).pages
unfolding live_page
live_below T p e = ltb-true p (given T).pages (and_first (ltb p (given T).pages) (is_live T.pages p) e)

-- as many tries as blocks
pub tries-count : (T : Tables) (F : List Tree) → Sound T F → length F ≡ (given T).blocks
tries-count T F sound = ap length (sym sound.forest) ∙ length-map sound.tries tree ∙ sound.holding.blocks

-- an add or a drop writes the free link, and no entry gets stale by that
pub entries-kept : (T : Tables) (F : List Tree) → Sound T F → (link : ℕ) → all_current (set T.settings free_at link) ≡ true
entries-kept T F sound link =
    current-same T.settings (set T.settings free_at link) (take-set-le free_at T.settings free_at link (omega arith)) sound.entries

-- on a sound store the entries open what the records do
pub sound-opens : (T : Tables) (F : List Tree) → Sound T F → (r c : ℕ) → r < 256 → c < 64 → opens T.settings r c ≡ recorded T.settings r c
sound-opens T F sound r c hr hc = current-at T.settings sound.entries r c hr hc
