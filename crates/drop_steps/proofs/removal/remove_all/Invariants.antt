use Prim.Native.Nat.{◌-◌}
use mathlib.Core.Path.{◌≡◌}
use lib.ListN.{length}
use Rattle.layout.specs.Headers.{given_by}
use Rattle.drop_laws.specs.Removal.{remove_from, remove_all}
use Rattle.drop_steps.proofs.removal.remove_all.Given as goal

abbrev pub invariant-loop-j : goal.invariant-loop-j
invariant-loop-j l =
    (remove_from (given_by l.h) l.sketches l.p (l.h.q - l.j) l.j l.nodes l.pages l.link ≡ remove_all (given_by l.h) l.sketches l.p l.initial.nodes l.initial.pages l.free)
    × (length l.nodes ≡ length l.initial.nodes) × (length l.pages ≡ length l.initial.pages)
