-- 7, 10 and 11 of a search, by the tests on the way.
use Prim.Native.Nat.{ℕ, ◌≤◌, ◌<◌}
use native.Mathlib.Omega.{arith}
use mathlib.Core.Path.{◌≡◌}
use mathlib.Core.Bool.{true, false}
use mathlib.Core.Logic.{◌≢◌}
use mathlib.Core.List.{List}
use borrow.Author.Tests.{lt-ltb, le-ltb, le-leb, lt-leb, eq-eqb, ne_eqb, ltb-true, eqb-true}
use lib.Dec.{ltb, leb}
use lib.ListN.{length}
use Rattle.meaning.specs.Refusal.{first_no}
use Rattle.meaning.specs.Sketch.{in_range}
use Rattle.meaning.proofs.Lists.{and_first}
use Rattle.layout.specs.declared.Numbers.{Numbers}
use Rattle.entry.proofs.Questions.{all_yes}
use Rattle.layout.specs.Tables.{Fits}
use Rattle.search.specs.Questions.{query_asked}

module _ (h : Numbers) (reader radius : ℕ) (x : List ℕ) where
  pub query-reader : 256 ≤ reader → 7 ≡ first_no (query_asked h reader radius x)
  unfolding query_asked first_no
  query-reader a = rw (le-ltb reader 256 a)

  module _ (a : reader < 256) where
    pub query-radius : 64 < radius → 7 ≡ first_no (query_asked h reader radius x)
    unfolding query_asked first_no
    query-radius b = rw (lt-ltb reader 256 a, lt-leb radius 64 b)

    module _ (b : radius ≤ 64) where
      pub query-count : length x ≢ h.m → 10 ≡ first_no (query_asked h reader radius x)
      unfolding query_asked first_no
      query-count c = rw (lt-ltb reader 256 a, le-leb radius 64 b, ne_eqb (length x) h.m c)

      module _ (c : length x ≡ h.m) where
        pub query-range : in_range h.b x ≡ false → 11 ≡ first_no (query_asked h reader radius x)
        unfolding query_asked first_no
        query-range d = rw (lt-ltb reader 256 a, le-leb radius 64 b, eq-eqb (length x) h.m c, d)

        pub query-none : in_range h.b x ≡ true → 0 ≡ first_no (query_asked h reader radius x)
        unfolding query_asked first_no
        query-none d = rw (lt-ltb reader 256 a, le-leb radius 64 b, eq-eqb (length x) h.m c, d)

  -- none of them says no
  pub query-passed : first_no (query_asked h reader radius x) ≡ 0 → (reader < 256) × Fits h x
  unfolding query_asked
  query-passed z =
      let yes = all_yes (query_asked h reader radius x) (omega arith) z in
      (ltb-true reader 256 (and_first (ltb reader 256) (leb radius 64) yes.0), record { count = eqb-true (length x) h.m yes.1.0; range = yes.1.1.0 })
