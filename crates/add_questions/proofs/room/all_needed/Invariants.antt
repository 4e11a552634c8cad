use Prim.Native.Nat.{◌*◌, ◌-◌, ◌≤◌}
use mathlib.Core.Path.{◌≡◌}
use Rattle.layout.specs.Headers.{numbers}
use Rattle.layout.specs.Header.{with_thresholds}
use Rattle.add_laws.specs.Room.{needed_from, block_needs, all_needed}
use Rattle.add_questions.proofs.room.all_needed.Given as goal

abbrev pub invariant-loop-j : goal.invariant-loop-j
invariant-loop-j l =
    let v = l.view in
    (needed_from (block_needs (with_thresholds (numbers l.h) l.thresholds) v.nodes.now v.pages.now v.sketches.now l.sketch) l.sum l.j (l.h.q - l.j)
    ≡ all_needed (with_thresholds (numbers l.h) l.thresholds) v.nodes.now v.pages.now v.sketches.now l.sketch)
    × (l.sum ≤ 65537 * l.j)
