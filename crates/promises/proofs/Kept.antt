-- Tables that calls leave as they were: an add alone writes the sketch table, a reading that takes the working table alone that one.
use mathlib.Core.Path.{◌≡◌, ap, ◌∙◌}
use mathlib.Core.Bool.{Bool, true, false, true≢false}
use Rattle.meaning.specs.Ledger.{Call, opening, add, drop, change, reading}
use Rattle.promises.specs.Tables.{Tables, takes_of}
use Rattle.promises.specs.Relation.{Answer, Promised}
use Rattle.promises.proofs.Readings.{working_after, law}

-- the calls that write the sketch table, and those that write the working table
unfoldable pub writes_sketches : Call → Bool
writes_sketches (opening s) = false
writes_sketches (add p c x) = true
writes_sketches (drop p) = false
writes_sketches (change c) = false
writes_sketches (reading q) = false

unfoldable pub writes_working : Call → Bool
writes_working (opening s) = false
writes_working (add p c x) = false
writes_working (drop p) = false
writes_working (change c) = false
writes_working (reading q) = (takes_of q).working

module _ (T : Tables) (a : Answer) (T' : Tables) where
  pub sketches-kept : (c : Call) → writes_sketches c ≡ false → Promised c T a T' → T'.sketches ≡ T.sketches
  unfolding writes_sketches
  sketches-kept (opening s) e p = ap (λ (U : Tables). U.sketches) p.1
  sketches-kept (add q c x) e p = absurd (true≢false e)
  sketches-kept (drop q) e p = p.0.sketches
  sketches-kept (change c) e p = ap (λ (U : Tables). U.sketches) p.1
  sketches-kept (reading q) e p = ap (λ (U : Tables). U.sketches) p.1

  pub working-kept : (c : Call) → writes_working c ≡ false → Promised c T a T' → T'.working ≡ T.working
  unfolding writes_working working_after
  working-kept (opening s) e p = ap (λ (U : Tables). U.working) p.1
  working-kept (add q c x) e p = p.1
  working-kept (drop q) e p = p.1
  working-kept (change c) e p = ap (λ (U : Tables). U.working) p.1
  working-kept (reading q) e p = ((law q T).read a T'.working p.0).left ∙ rw e
