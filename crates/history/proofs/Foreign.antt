-- A call that is refused by 4, 5 or 6 leaves all tables as they were, and its two lists, whatever it was lent.
use Prim.Native.Nat.{ℕ, ◌≤◌}
use native.Mathlib.Omega.{arith}
use mathlib.Core.Path.{◌≡◌, ◌∙◌}
use mathlib.Core.List.{List}
use borrow.Author.Tests.{ne_eqb}
use Rattle.meaning.specs.Output.{Output}
use Rattle.meaning.specs.Ledger.{search, Call, opening, add, drop, change, reading}
use Rattle.promises.specs.Tables.{Tables}
use Rattle.promises.specs.Relation.{Answer, Promised}
use Rattle.promises.proofs.Readings.{law}
use Rattle.history.proofs.Opening.{left_by}
use Rattle.history.proofs.Keeps.{rejoin}

module _ (T : Tables) (a : Answer) (T' : Tables) (l : 4 ≤ a.number) (m : a.number ≤ 6) where
  pub untouched : (c : Call) → Promised c T a T' → T' ≡ T
  untouched (opening s) p = left_by s T a T' p ∙ rw (ne_eqb a.number 0 (omega arith))
  untouched (add q c x) p = rejoin T T' (p.0.refused (omega arith) (omega arith)) p.1
  untouched (drop q) p = rejoin T T' (p.0.refused (omega arith) (omega arith)) p.1
  untouched (change c) p = p.1 ∙ rw (p.0.settings-left, ← p.0.answers, ne_eqb a.number 0 (omega arith))
  untouched (reading q) p = p.1 ∙ rw (((law q T).read a T'.working p.0).kept l m)

  -- the two lists of a search
  pub output-kept : (r d : ℕ) (x : List ℕ) (o : Output) → Promised (reading (search r d x o)) T a T' → a.output ≡ o
  output-kept r d x o p = (p.0.refused (omega arith) (omega arith)).1
