use Prim.Native.Nat.{◌-◌}
use mathlib.Core.Path.{◌≡◌}
use lib.ListN.{length}
use Rattle.layout.specs.Headers.{numbers}
use Rattle.layout.specs.Header.{with_thresholds}
use Rattle.add_laws.specs.Insert.{insert_from, insert_all}
use Rattle.add_page.proofs.insert.insert_all.Given as goal

abbrev pub invariant-loop-j : goal.invariant-loop-j
invariant-loop-j l =
    (insert_from (with_thresholds (numbers l.h) l.thresholds) l.sketches l.sketch l.p (l.h.q - l.j) l.j l.nodes l.pages l.link
    ≡ insert_all (with_thresholds (numbers l.h) l.thresholds) l.sketches l.sketch l.p l.initial.nodes l.initial.pages l.free)
    × (length l.nodes ≡ length l.initial.nodes) × (length l.pages ≡ length l.initial.pages)
