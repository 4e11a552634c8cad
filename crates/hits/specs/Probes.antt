-- What the pages of one search are tested by, worked out once.
use Rattle.std.specs.Prelude.{ℕ, ◌*◌, ◌≡◌, Bool, cond, List, ltb, Option, Some, None}
use Rattle.meaning.specs.Sketch.{per_byte}
use Rattle.layout.specs.declared.Header.{Header}
use Rattle.layout.specs.declared.Numbers.{Numbers}
use Rattle.layout.specs.Headers.{numbers}
use Rattle.layout.specs.Signature.{signature}
use Rattle.rights.specs.declared.Classes.{Classes}
use Rattle.comparison.specs.Shapes.{shape_of}
use Rattle.hits.specs.declared.Probe.{Probe}
use Rattle.hits.specs.Hit.{Test, test}

-- signatures differ in 4 × z groups at most: they tell pages apart within a smaller radius alone
abbrev pub filters_of : Numbers → ℕ → Bool
filters_of h radius = ltb radius (4 * per_byte h.b)

-- the query's signature s, where they do
abbrev pub filter_for : Numbers → ℕ → ℕ → Option ℕ
filter_for h s radius = cond (filters_of h radius) (Some s) None

abbrev pub probe_of : Header → Classes → List ℕ → ℕ → Probe
probe_of h classes query radius = record {
  header = h;
  classes = classes;
  radius = radius;
  shape = shape_of h.b h.m;
  signature = signature h.b query;
  filter = filter_for (numbers h) (signature h.b query) radius;
}

-- a probe that was made for the query
abbrev pub Prepared : List ℕ → Probe → Type 0
Prepared query p = p ≡ probe_of p.header p.classes query p.radius

-- the test by a probe
abbrev pub test_by : List ℕ → List ℕ → List ℕ → Probe → Test
test_by pages sketches query p = test pages sketches (numbers p.header) p.classes query p.radius
