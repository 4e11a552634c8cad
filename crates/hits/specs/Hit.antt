-- The test that a page must pass to be listed: live, of an open class, and within the radius of the query.
use Rattle.std.specs.Prelude.{ℕ, ◌≤◌, ◌≡◌, Bool, cond, ◌&&◌, List, ltb, leb, length, Option, Some, None}
use Rattle.meaning.specs.Sketch.{distance}
use Rattle.layout.specs.declared.Numbers.{Numbers}
use Rattle.layout.specs.Header.{header_of, bare}
use Rattle.layout.specs.Limits.{HeaderLimits}
use Rattle.layout.specs.Lengths.{pages_length, sketches_length}
use Rattle.layout.specs.Pages.{is_live, class_of, signature_at, row_of}
use Rattle.layout.specs.Signature.{signature}
use Rattle.rights.specs.declared.Classes.{Classes}
use Rattle.rights.specs.Open.{is_open, entry_of}
use Rattle.promises.specs.Tables.{Tables, given}
use Rattle.signature.specs.Distance.{signature_distance}

-- what a page is tested by: the tables, the capacities, the open classes, the query and its radius
pub record Test : Type 0 where
  pub pages : List ℕ
  pub sketches : List ℕ
  pub header : Numbers
  pub classes : Classes
  pub query : List ℕ
  pub radius : ℕ

abbrev pub test : List ℕ → List ℕ → Numbers → Classes → List ℕ → ℕ → Test
test pages sketches header classes query radius =
    record { pages = pages; sketches = sketches; header = header; classes = classes; query = query; radius = radius }

-- by the tables lent to a search, for a reader
abbrev pub test_of : Tables → ℕ → ℕ → List ℕ → Test
test_of T reader radius x = test T.pages T.sketches (header_of (given T)) (entry_of T.settings reader) x radius

-- the capacities are within their limits, the tables long enough for them, and the query has m symbols
pub record Fitting (t : Test) : Type 0 where
  pub limits : HeaderLimits t.header
  pub pages : pages_length (bare t.header) ≤ length t.pages
  pub sketches : sketches_length (bare t.header) ≤ length t.sketches
  pub query : length t.query ≡ t.header.m

-- how far the row of page p is from a query: m, the rows, the query
abbrev pub row_distance : ℕ → List ℕ → List ℕ → ℕ → ℕ
row_distance m sketches query p = distance (row_of m sketches p) query

abbrev pub far : Test → ℕ → ℕ
far t p = row_distance t.header.m t.sketches t.query p

-- no number at or above the capacity passes
unfoldable pub is_hit : Test → ℕ → Bool
is_hit t p =
    ltb p t.header.pages
    && is_live t.pages p
    && is_open t.classes (class_of t.pages p)
    && leb (far t p) t.radius

-- the signature stored for page p is within the radius of a signature s
unfoldable pub is_near : Numbers → List ℕ → ℕ → ℕ → ℕ → Bool
is_near h pages s radius p = leb (signature_distance h.b (signature_at pages h.pages p) s) radius

-- by the query's signature
abbrev pub near_query : Test → ℕ → Bool
near_query t p = is_near t.header t.pages (signature t.header.b t.query) t.radius p

-- the test that a search makes of a page that it meets; it is `is_hit` where the signature stored is that of the row
unfoldable pub passes : Test → ℕ → Bool
passes t p = is_hit t p && near_query t p

-- what it says: the distance of a page that passes
unfoldable pub verdict : Test → ℕ → Option ℕ
verdict t p = cond (passes t p) (Some (far t p)) None
