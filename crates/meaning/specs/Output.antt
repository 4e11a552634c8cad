-- The two lists of a search (document 02, F-3): page numbers, the nearest page on top, and beside each its distance from the query.
use Rattle.std.specs.Prelude.{ℕ, suc, Bool, ◌&&◌, List, map, leb, length}
use Rattle.meaning.specs.Lists.{grouped, upto}
use Rattle.meaning.specs.SketchCalls.{output_left}

pub record Output : Type 0 where
  pub pages : List ℕ
  pub distances : List ℕ

abbrev pub output : List ℕ → List ℕ → Output
output ps ds = record { pages = ps; distances = ds }

-- 13: is there room for n pages, and for their distances?
unfoldable pub has_room : ℕ → Output → Bool
has_room n o = leb n (length o.pages) && leb n (length o.distances)

module _ {A : Type 0} where
  -- for each distance from 0 to the radius those that are so far, in the order in which they stand: a stable sort by distance
  unfoldable pub nearest : (A → ℕ) → ℕ → List A → List A
  nearest far radius xs = grouped far (upto (suc radius)) xs

  -- what is listed: their page numbers and their distances
  unfoldable pub listing : (A → ℕ) → (A → ℕ) → ℕ → List A → Output
  listing page far radius xs = output (map page (nearest far radius xs)) (map far (nearest far radius xs))

-- both lists afterwards: their beginnings written where the search is carried out, else as they were
unfoldable pub both_left : ℕ → Output → Output → Output
both_left number found o =
    output (output_left number found.pages o.pages) (output_left number found.distances o.distances)
