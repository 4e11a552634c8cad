-- The test of a page, step by step, and that its words and its row lie in the tables.
use Rattle.std.specs.Prelude.{Option, Some, None}
use mathlib.Core.Path.{◌≡◌, refl, sym, ◌∙◌}
use mathlib.Core.Bool.{Bool, true, false, cond, ◌&&◌, and-false}
use mathlib.Core.List.{List}
use mathlib.Core.Logic.{◌≢◌}
use Prim.Native.Nat.{ℕ, ◌+◌, ◌-◌, ◌*◌, ◌≤◌, ◌<◌}
use native.Mathlib.Nat.{mul-le-mul_right}
use native.Mathlib.Omega.{arith}
use lib.Dec.{ltb, leb}
use lib.ListN.{length, get_or}
use borrow.Author.Tests.{ltb-true, leb-true, lt-ltb, ltb-false, le-leb}
use Rattle.meaning.specs.Sketch.{distance}
use Rattle.meaning.proofs.Lists.{and_first, and_second}
use Rattle.meaning.proofs.Sums.{distance-le}
use Rattle.layout.specs.declared.Numbers.{Numbers}
use Rattle.layout.specs.Lengths.{pages_length, sketches_length}
use Rattle.layout.specs.Pages.{is_live, class_of, signature_at, row_of}
use Rattle.layout.proofs.Rows.{row_inside, length-row}
use Rattle.rights.specs.Open.{is_open}
use Rattle.comparison.specs.Verdicts.{verdict_of}
use Rattle.signature.proofs.Most.{signature-most}
use Rattle.hits.specs.Hit.{Test, Fitting, far, is_hit, is_near, near_query, passes, verdict}
use Rattle.layout.specs.Signature.{signature}
use Rattle.hits.specs.Probes.{filters_of, filter_for}

-- where signatures cannot tell pages apart
pub near-all : (h : Numbers) (pages : List ℕ) (s radius p : ℕ) → filters_of h radius ≡ false → true ≡ is_near h pages s radius p
unfolding is_near
near-all h pages s radius p e =
    sym (le-leb _ radius (omega (arith, ltb-false radius _ e, signature-most h.b (signature_at pages h.pages p) s)))

module _ (t : Test) (p : ℕ) (below : p < t.header.pages) where
  -- the page word says that the page is not live, or gives its class
  pub dead : get_or t.pages p 0 ≡ 0 → None ≡ verdict t p
  unfolding verdict passes is_hit is_live
  dead e = rw (lt-ltb p t.header.pages below, e)

  module _ (live : get_or t.pages p 0 ≢ 0) where
    pub closed : is_open t.classes (get_or t.pages p 0 - 1) ≡ false → None ≡ verdict t p
    unfolding verdict passes is_hit is_live class_of
    closed f = rw (lt-ltb p t.header.pages below, lt-ltb 0 (get_or t.pages p 0) (omega arith), f)

    pub judged : is_open t.classes (get_or t.pages p 0 - 1) ≡ true → near_query t p ≡ true → (row : List ℕ) → row ≡ row_of t.header.m t.sketches p
        → verdict_of (distance row t.query) t.radius ≡ verdict t p
    unfolding verdict passes is_hit is_live class_of verdict_of
    judged f e row g =
        rw (e, lt-ltb p t.header.pages below, lt-ltb 0 (get_or t.pages p 0) (omega arith), f, g) (go (leb (far t p) t.radius))
      where
        go : (s : Bool) → cond s (Some (far t p)) None ≡ cond (s && true) (Some (far t p)) None
        go true = refl
        go false = refl

  pub hidden : near_query t p ≡ false → None ≡ verdict t p
  unfolding verdict passes
  hidden e = rw (e, and-false (is_hit t p))

  -- inside the tables
  module _ (fit : Fitting t) where
    pub page-inside : t.header.pages + p < length t.pages
    unfolding pages_length
    page-inside = omega (arith, fit.pages, mul-le-mul_right {m = 2} {n = 2 + t.header.q} t.header.pages (omega arith))

    pub row_fits : p * t.header.m + t.header.m ≤ length t.sketches
    unfolding sketches_length
    row_fits = row_inside t.header.m t.header.pages (length t.sketches) below fit.sketches

    pub row-long : length (row_of t.header.m t.sketches p) ≡ t.header.m
    row-long = length-row t.header.m t.sketches p row_fits

    -- no page is further than a sketch is long
    pub far-most : far t p ≤ 64
    far-most = omega (arith, distance-le (row_of t.header.m t.sketches p) t.query, fit.query, fit.limits.symbols-most)

-- a page that passes is below the capacity, and within the radius
pub passes-near : (t : Test) (p : ℕ) → passes t p ≡ true → (p < t.header.pages) × (far t p ≤ t.radius)
unfolding passes is_hit
passes-near t p e =
    let hit = and_first (is_hit t p) (near_query t p) e in
    let shown = and_first (ltb p t.header.pages && is_live t.pages p && is_open t.classes (class_of t.pages p)) (leb (far t p) t.radius) hit in
    let first = and_first (ltb p t.header.pages && is_live t.pages p) (is_open t.classes (class_of t.pages p)) shown in (
      ltb-true p t.header.pages (and_first (ltb p t.header.pages) (is_live t.pages p) first),
      leb-true (far t p) t.radius (and_second (ltb p t.header.pages && is_live t.pages p && is_open t.classes (class_of t.pages p)) (leb (far t p) t.radius) hit),
    )

-- what the verdict says
pub verdict-within : (t : Test) (p d : ℕ) → verdict t p ≡ Some d → (passes t p ≡ true) × (d ≡ far t p)
unfolding verdict
verdict-within t p d = go (passes t p)
  where
    go : (s : Bool) → cond s (Some (far t p)) None ≡ Some d → (s ≡ true) × (d ≡ far t p)
    go true e = (refl, cc)
    go false e = let z : ◌≡◌ {A = ℕ} 0 1 = cc in absurd (omega arith)

pub verdict-beyond : (t : Test) (p : ℕ) → verdict t p ≡ None → passes t p ≡ false
unfolding verdict
verdict-beyond t p = go (passes t p)
  where
    go : (s : Bool) → cond s (Some (far t p)) None ≡ None → s ≡ false
    go true e = let z : ◌≡◌ {A = ℕ} 0 1 = cc in absurd (omega arith)
    go false e = refl

-- ---- the query's signature, where signatures tell pages apart
module _ (h : Numbers) (query : List ℕ) (radius : ℕ) (s : Option ℕ) (e : s ≡ filter_for h (signature h.b query) radius) where
  pub telling-none : s ≡ None → filters_of h radius ≡ false
  telling-none q = go (filters_of h radius) (sym e ∙ q)
    where
      go : (t : Bool) → cond t (Some (signature h.b query)) None ≡ None → t ≡ false
      go true f = let z : ◌≡◌ {A = ℕ} 0 1 = cc in absurd (omega arith)
      go false f = refl

  pub telling-some : (n : ℕ) → s ≡ Some n → n ≡ signature h.b query
  telling-some n q = go (filters_of h radius) (sym e ∙ q)
    where
      go : (t : Bool) → cond t (Some (signature h.b query)) None ≡ Some n → n ≡ signature h.b query
      go true f = cc
      go false f = let z : ◌≡◌ {A = ℕ} 0 1 = cc in absurd (omega arith)
