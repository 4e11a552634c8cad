-- The rows of the live pages, read off the page table and the sketch table, before and after a write.
use mathlib.Core.Path.{◌≡◌, refl, sym, ◌∙◌}
use mathlib.Core.Bool.{Bool, true, false, cond, not, false≢true}
use mathlib.Core.Logic.{◌≢◌}
use mathlib.Core.List.{List}
use Prim.Native.Nat.{ℕ, ◌*◌, ◌≤◌, ◌<◌}
use native.Mathlib.Omega.{arith}
use lib.Dec.{eqb}
use lib.ListN.{length, take}
use borrow.Author.Tests.{eqb-true, eqb-false}
use Rattle.meaning.specs.Lists.{keep}
use Rattle.meaning.specs.Ledger.{Row, row, put_row}
use Rattle.layout.specs.Pages.{is_live, class_of, row_of, with_page, without_page}
use Rattle.layout.proofs.Words.{live-kept, class-kept, live_written, live-written-other, class-written, class-written-other, live-struck, live-struck-other, class-struck-other}
use Rattle.promises.specs.Tables.{rows_from}
use Rattle.history.proofs.Lists.{rows_upto, rows-put, rows-strike}

-- the row of a page, m symbols a row, and the rows of P pages
abbrev pub row_at : ℕ → List ℕ → List ℕ → ℕ → Row
row_at m pages sketches p = row p (class_of pages p) (row_of m sketches p)

abbrev pub rows_in : ℕ → ℕ → List ℕ → List ℕ → List Row
rows_in P m pages sketches = rows_from (is_live pages) (row_at m pages sketches) 0 P

-- ---- page p written, or struck out, and the links in any way

-- a page that is live then was live before, and is another one
pub left : (i p : ℕ) {live : Bool} → cond (eqb i p) false live ≡ true → (i ≢ p) × (live ≡ true)
left i p {live} = go (eqb i p) refl
  where
    go : (t : Bool) → eqb i p ≡ t → cond t false live ≡ true → (i ≢ p) × (live ≡ true)
    go true e h = absurd (false≢true h)
    go false e h = (eqb-false i p e, h)

module _ (P : ℕ) (pages pages' : List ℕ) (p : ℕ) (page : p < P) (long : 2 * P ≤ length pages) where
  module _ (struck : take (2 * P) pages' ≡ take (2 * P) (without_page pages p)) (i : ℕ) (h : i < P) where
    pub live-drop : is_live pages' i ≡ cond (eqb i p) false (is_live pages i)
    live-drop = live-kept P pages' (without_page pages p) struck i h ∙ go (eqb i p) refl
      where
        go : (t : Bool) → eqb i p ≡ t → is_live (without_page pages p) i ≡ cond t false (is_live pages i)
        go true e = rw (eqb-true i p e) (live-struck P pages p page (omega arith))
        go false e = live-struck-other P pages p page (omega arith) i h (eqb-false i p e)

    pub class-drop : i ≢ p → class_of pages' i ≡ class_of pages i
    class-drop apart = class-kept P pages' (without_page pages p) struck i h ∙ class-struck-other P pages p page (omega arith) i h apart

  module _ (c g : ℕ) (written : take (2 * P) pages' ≡ take (2 * P) (with_page P pages p c g)) (i : ℕ) (h : i < P) where
    pub live-add : is_live pages' i ≡ cond (eqb i p) true (is_live pages i)
    live-add = live-kept P pages' (with_page P pages p c g) written i h ∙ go (eqb i p) refl
      where
        go : (t : Bool) → eqb i p ≡ t → is_live (with_page P pages p c g) i ≡ cond t true (is_live pages i)
        go true e = rw (eqb-true i p e) (live_written P pages p page (omega arith) c g)
        go false e = live-written-other P pages p page (omega arith) c g i h (eqb-false i p e)

    pub class-add : class_of pages' i ≡ cond (eqb i p) c (class_of pages i)
    class-add = class-kept P pages' (with_page P pages p c g) written i h ∙ go (eqb i p) refl
      where
        go : (t : Bool) → eqb i p ≡ t → class_of (with_page P pages p c g) i ≡ cond t c (class_of pages i)
        go true e = rw (eqb-true i p e) (class-written P pages p page (omega arith) c g)
        go false e = class-written-other P pages p page (omega arith) c g i h (eqb-false i p e)

  -- the rows afterwards
  module _ (m : ℕ) (sketches sketches' : List ℕ) where
    pub rows_drop : take (2 * P) pages' ≡ take (2 * P) (without_page pages p) → ((i : ℕ) → i < P → row_of m sketches' i ≡ row_of m sketches i)
        → keep (λ r. not (eqb r.page p)) (rows_in P m pages sketches) ≡ rows_in P m pages' sketches'
    rows_drop struck rows =
        rows-strike (is_live pages) (row_at m pages sketches) (λ i. refl) p 0 P
        ∙ rows_upto (λ i. cond (eqb i p) false (is_live pages i)) (is_live pages') (row_at m pages sketches) (row_at m pages' sketches') P
        (λ i h. sym (live-drop struck i h))
        (λ i h live. cc (class-drop struck i h (left i p live).0, rows i h))

    pub rows-add : (c g : ℕ) (x : List ℕ) → is_live pages p ≡ false → take (2 * P) pages' ≡ take (2 * P) (with_page P pages p c g)
        → row_of m sketches' p ≡ x → ((i : ℕ) → i < P → i ≢ p → row_of m sketches' i ≡ row_of m sketches i)
        → put_row (row p c x) (rows_in P m pages sketches) ≡ rows_in P m pages' sketches'
    rows-add c g x free written here rows =
        rows-put (is_live pages) (row_at m pages sketches) (λ i. refl) (row p c x) free 0 P (omega arith) (omega arith)
        ∙ rows_upto (λ i. cond (eqb i p) true (is_live pages i)) (is_live pages')
        (λ i. cond (eqb i p) (row p c x) (row_at m pages sketches i)) (row_at m pages' sketches') P
        (λ i h. sym (live-add c g written i h))
        (λ i h live. go i h (eqb i p) refl (class-add c g written i h))
      where
        go : (i : ℕ) → i < P → (t : Bool) → eqb i p ≡ t → class_of pages' i ≡ cond (eqb i p) c (class_of pages i)
            → cond t (row p c x) (row_at m pages sketches i) ≡ row_at m pages' sketches' i
        go i h true e k = let q : i ≡ p = eqb-true i p e in let d : class_of pages' i ≡ c = k ∙ rw e in rw (d, q, here)
        go i h false e k = let d : class_of pages' i ≡ class_of pages i = k ∙ rw e in rw (d, rows i h (eqb-false i p e))
