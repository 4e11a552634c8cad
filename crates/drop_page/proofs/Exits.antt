-- What `drop_page` knows past its questions, and its ways out.
use Rattle.std.specs.Prelude.{Option, Some, None, Ok, Err}
use Prim.Native.Nat.{ℕ, ◌<◌, ◌≤◌}
use native.Mathlib.Omega.{arith}
use mathlib.Core.Path.{◌≡◌, sym, ap, ◌∙◌}
use mathlib.Core.List.{List, []}
use lib.ListN.{length, get_or, set}
use Rattle.meaning.specs.Ledger.{drop}
use Rattle.layout.specs.declared.Numbers.{Numbers}
use Rattle.layout.specs.Header.{bare}
use Rattle.layout.specs.Lengths.{pages_length}
use Rattle.layout.specs.Tables.{Lent}
use Rattle.layout.specs.Pages.{without_page}
use Rattle.layout.specs.Settings.{settings_length, free_at}
use Rattle.layout.proofs.Words.{page-inside}
use Rattle.promises.specs.Tables.{Tables, tables, given}
use Rattle.promises.specs.Answers.{number}
use Rattle.promises.specs.Store.{outcome, DropPromise}
use Rattle.trie_remove.specs.Remove.{gone}
use Rattle.entry.specs.Admission.{admission}
use Rattle.entry.proofs.Admits.{admission-shown}
use Rattle.drop_laws.specs.Removal.{remove_all}
use Rattle.drop_laws.specs.After.{on_gone, on_opening, drop_page}
use Rattle.drop_laws.proofs.Removes.{remove-bare}
use Rattle.drop_laws.proofs.Admitted.{Admitted, admitted}
use Rattle.drop_laws.proofs.Promise.{drop-promise}

module _ (ws N P S : List ℕ) (p : ℕ) where
  abbrev T : Tables
  T = tables ws N P S []

  -- what the contract says
  abbrev Meets : ℕ → Tables → Type 0
  Meets n T' = DropPromise T p n T' × (outcome n T' ≡ drop_page T p)

  pub refuses : (n : ℕ) → Err n ≡ admission T (drop p) → Meets n T
  unfolding drop_page
  refuses n e = drop-promise T p n T (ap (on_opening T p) e)

  module _ (h : Numbers) (e : Ok h ≡ admission T (drop p)) where
    passed : number T [] (drop p) ≡ 0
    passed = (admission-shown T (drop p) h (sym e)).0

    known : Admitted T p
    known = admitted T p passed

    pub settings-long : settings_length ≤ length ws
    settings-long = known.opened.long

    pub lent : Lent h N P S
    lent = rw (← (admission-shown T (drop p) h (sym e)).1) known.opened.lent

    pub page-in : p < h.pages
    page-in = rw (← (admission-shown T (drop p) h (sym e)).1) known.page

    pub word_in : p < length P
    unfolding pages_length
    word_in = omega (arith, page-inside (given T) known.page, known.opened.lent.pages-long)

    module _ (N' P' : List ℕ) (r : Option ℕ) (free : ℕ) (f : free ≡ get_or ws free_at 0) (g : gone N' P' r ≡ remove_all (bare h) S p N P free) where
      comes-to : remove_all (given T) S p N P (get_or ws free_at 0) ≡ gone N' P' r
      unfolding remove_all
      comes-to =
          sym (g ∙ rw (← (admission-shown T (drop p) h (sym e)).1, f) (remove-bare (given T) S p (given T).blocks 0 N P (get_or ws free_at 0)))

      leaves : on_gone T p (gone N' P' r) ≡ drop_page T p
      unfolding drop_page
      leaves = ap (on_gone T p) (sym comes-to) ∙ ap (on_opening T p) e

      pub drops : (link : ℕ) → r ≡ Some link → (ws' P'' : List ℕ) → ws' ≡ set ws free_at link → P'' ≡ without_page P' p → Meets 0 (tables ws' N' P'' S [])
      drops link d ws' P'' v w = drop-promise T p 0 (tables ws' N' P'' S []) (rw (v, w) (rw d at leaves))

      pub breaks : r ≡ None → Meets 14 (tables ws N' P' S [])
      breaks d = drop-promise T p 14 (tables ws N' P' S []) (rw d at leaves)
