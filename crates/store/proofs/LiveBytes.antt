-- By the rows of the live pages, a live page has the packed bytes of its own row.
use Prim.Native.Nat.{ℕ, zero, suc, ◌+◌, ◌≤◌, ◌<◌}
use native.Mathlib.Omega.{arith}
use mathlib.Core.Path.{◌≡◌, refl, sym, ap, ◌∙◌}
use mathlib.Core.Bool.{Bool, true, false, cond, false≢true}
use mathlib.Core.Logic.{◌≢◌}
use mathlib.Core.List.{List, ◌∷◌}
use borrow.Author.Tests.{eqb-true, eqb-false, ltb-true}
use lib.Dec.{ltb, eqb}
use Rattle.meaning.specs.Ledger.{Settings, Row, row}
use Rattle.meaning.specs.Forest.{bytes_of_sketch, bytes_in}
use Rattle.meaning.proofs.Lists.{and_first, and_second}
use Rattle.layout.specs.Pages.{is_live}
use Rattle.promises.specs.Tables.{Tables, given, page_class, page_row, rows_from, rows_of}
use Rattle.promises.specs.Sound.{live_page, page_bytes}

module _ (s : Settings) (j : ℕ) (l : ℕ → Bool) (h : ℕ → Row) (own : (i : ℕ) → (h i).page ≡ i) where
  rows-bytes : (q k n : ℕ) → k ≤ q → q < k + n → l q ≡ true → bytes_in s (rows_from l h k n) j q ≡ bytes_of_sketch s j (h q).sketch
  unfolding bytes_in rows_from
  rows-bytes q k zero a b live = absurd (omega arith)
  rows-bytes q k (suc n) a b live = go (eqb k q) refl (l k) refl (λ c. rows-bytes q (suc k) n (omega arith) (omega arith) live)
    where
      rest : List Row
      rest = rows_from l h (suc k) n

      go : (t : Bool) → eqb k q ≡ t → (u : Bool) → l k ≡ u → (k ≢ q → bytes_in s rest j q ≡ bytes_of_sketch s j (h q).sketch)
          → bytes_in s (cond u (h k ∷ rest) rest) j q ≡ bytes_of_sketch s j (h q).sketch
      go true e true m ih = rw (own k, e) (ap (λ (i : ℕ). bytes_of_sketch s j (h i).sketch) (eqb-true k q e))
      go true e false m ih = absurd (false≢true (sym m ∙ ap l (eqb-true k q e) ∙ live))
      go false e true m ih = rw (own k, e) (ih (eqb-false k q e))
      go false e false m ih = ih (eqb-false k q e)

module _ (T : Tables) where
  pub live-bytes : (j q : ℕ) → live_page T q ≡ true → bytes_in (given T) (rows_of T) j q ≡ page_bytes T j q
  unfolding rows_of live_page page_bytes
  live-bytes j q live =
      rows-bytes (given T) j (is_live T.pages) (λ i. row i (page_class T i) (page_row T i)) (λ i. refl) q 0 (given T).pages
      (omega arith)
      (omega (arith, ltb-true q (given T).pages (and_first (ltb q (given T).pages) (is_live T.pages q) live)))
      (and_second (ltb q (given T).pages) (is_live T.pages q) live)
