-- The test that a search makes, against what a hit is: what passes is a hit, and where the signature stored for a page is that of its
-- row, every hit passes.
use mathlib.Core.Path.{◌≡◌, refl}
use mathlib.Core.Bool.{Bool, true, false, ◌&&◌}
use Prim.Native.Nat.{ℕ, ◌≤◌, ◌<◌}
use native.Mathlib.Omega.{arith}
use lib.Dec.{ltb, leb}
use lib.ListN.{length}
use borrow.Author.Tests.{leb-true, le-ltb, le-leb}
use Rattle.meaning.specs.Sketch.{distance, in_range}
use Rattle.meaning.proofs.Lists.{and_first, and_second}
use Rattle.layout.specs.Pages.{is_live, class_of, signature_at, row_of}
use Rattle.layout.specs.Signature.{signature}
use Rattle.rights.specs.Open.{is_open}
use Rattle.signature.specs.Distance.{signature_distance}
use Rattle.signature.proofs.Below.{signature-below}
use Rattle.hits.specs.Hit.{Test, is_hit, is_near, near_query, passes}

pub passes-hit : (t : Test) (p : ℕ) → passes t p ≡ true → is_hit t p ≡ true
unfolding passes
passes-hit t p e = and_first (is_hit t p) (near_query t p) e

-- a page at or above the capacity is no hit
pub hit-below : (t : Test) (p : ℕ) → t.header.pages ≤ p → is_hit t p ≡ false
unfolding is_hit
hit-below t p h = rw (le-ltb p t.header.pages h)

pub passes-below : (t : Test) (p : ℕ) → t.header.pages ≤ p → passes t p ≡ false
unfolding passes
passes-below t p h = rw (hit-below t p h)

-- a hit whose signature is right passes
module _ (t : Test) (p : ℕ) (least : 0 < t.header.b) (most : t.header.b ≤ 8)
    (long : length (row_of t.header.m t.sketches p) ≡ length t.query)
    (rows : in_range t.header.b (row_of t.header.m t.sketches p) ≡ true) (range : in_range t.header.b t.query ≡ true)
    (right : signature_at t.pages t.header.pages p ≡ signature t.header.b (row_of t.header.m t.sketches p)) where
  hit-near : is_hit t p ≡ true → near_query t p ≡ true
  unfolding is_hit is_near
  hit-near e =
      let within : distance (row_of t.header.m t.sketches p) t.query ≤ t.radius =
      leb-true (distance (row_of t.header.m t.sketches p) t.query) t.radius
      (and_second (ltb p t.header.pages && is_live t.pages p && is_open t.classes (class_of t.pages p)) (leb (distance (row_of t.header.m t.sketches p) t.query) t.radius) e) in
      rw right
      (le-leb (signature_distance t.header.b (signature t.header.b (row_of t.header.m t.sketches p)) (signature t.header.b t.query)) t.radius
      (omega (arith, signature-below t.header.b (row_of t.header.m t.sketches p) t.query least most long rows range)))

  pub passes_same : passes t p ≡ is_hit t p
  unfolding passes
  passes_same = go (is_hit t p) (near_query t p) hit-near
    where
      go : (s u : Bool) → (s ≡ true → u ≡ true) → s && u ≡ s
      go true u h = h refl
      go false u h = refl
