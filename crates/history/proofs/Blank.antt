-- No row of a history's ledger is blank: question 15 refuses such an add (document 02, F-1).
use Prim.Native.Nat.{ℕ}
use mathlib.Core.Path.{◌≡◌, refl, sym, ◌∙◌}
use mathlib.Core.Bool.{Bool, true, false, cond, not}
use mathlib.Core.List.{List, [], ◌∷◌}
use lib.Dec.{ltb, eqb}
use borrow.Author.Tests.{eqb-true}
use Rattle.meaning.specs.Lists.{all, keep}
use Rattle.meaning.specs.Sketch.{blank}
use Rattle.meaning.specs.Trie.{Tree}
use Rattle.meaning.specs.Ledger.{Row, row, Ledger, Call, opening, add, drop, change, reading, accept, step, with_rows, with_register, put_row}
use Rattle.meaning.proofs.Lists.{and_intro, and_first, and_second}
use Rattle.promises.specs.Tables.{Tables}
use Rattle.history.specs.History.{event, judged}
use Rattle.history.proofs.Steps.{add-passed}

-- ---- a test that every row passes
module _ (f : Row → Bool) where
  all-put : (r : Row) (rows : List Row) → f r ≡ true → all f rows ≡ true → all f (put_row r rows) ≡ true
  unfolding all put_row
  all-put r [] e h = and_intro (f r) true e refl
  all-put r (x ∷ xs) e h = go (ltb x.page r.page) (all-put r xs e (and_second (f x) (all f xs) h))
    where
      go : (t : Bool) → all f (put_row r xs) ≡ true → all f (cond t (x ∷ put_row r xs) (r ∷ x ∷ xs)) ≡ true
      go true k = and_intro (f x) (all f (put_row r xs)) (and_first (f x) (all f xs) h) k
      go false k = and_intro (f r) (all f (x ∷ xs)) e h

  all-kept : (g : Row → Bool) (rows : List Row) → all f rows ≡ true → all f (keep g rows) ≡ true
  unfolding all keep
  all-kept g [] h = refl
  all-kept g (x ∷ xs) h = go (g x) (all-kept g xs (and_second (f x) (all f xs) h))
    where
      go : (t : Bool) → all f (keep g xs) ≡ true → all f (cond t (x ∷ keep g xs) (keep g xs)) ≡ true
      go true k = and_intro (f x) (all f (keep g xs)) (and_first (f x) (all f xs) h) k
      go false k = k

-- ---- the rows of a ledger
abbrev pub NoneBlank : Ledger → Type 0
NoneBlank L = all (λ r. not (blank r.sketch)) L.rows ≡ true

module _ (T : Tables) (L : Ledger) (F : List Tree) where
  accepted : NoneBlank L → (c : Call) → judged T L F c ≡ 0 → NoneBlank (accept c L)
  unfolding accept with_rows with_register all
  accepted h (opening s) e = refl
  accepted h (add p c x) e = all-put (λ r. not (blank r.sketch)) (row p c x) L.rows (add-passed T L F p c x e).inked h
  accepted h (drop p) e = all-kept (λ r. not (blank r.sketch)) _ L.rows h
  accepted h (change c) e = h
  accepted h (reading q) e = h

  -- a call that gave the number by the ledger's questions
  pub still-none : NoneBlank L → (c : Call) (n : ℕ) → n ≡ judged T L F c → NoneBlank (step (event c n) L)
  unfolding step
  still-none h c n j = go (eqb n 0) refl
    where
      go : (t : Bool) → eqb n 0 ≡ t → NoneBlank (cond (not t) L (accept c L))
      go true e = accepted h c (sym j ∙ eqb-true n 0 e)
      go false e = h
