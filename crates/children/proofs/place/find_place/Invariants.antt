use Prim.Native.Nat.{◌-◌, ◌<◌}
use mathlib.Core.Path.{◌≡◌}
use Rattle.layout.specs.Nodes.{node_words}
use Rattle.children.specs.Places.{place_from, find_place}
use Rattle.children.proofs.place.find_place.Given as goal

abbrev pub invariant-loop : goal.invariant-loop
invariant-loop l =
    (place_from l.nodes l.cap l.byte l.slot (33 - l.counter) ≡ find_place l.nodes l.cap l.n l.byte) × (l.slot < node_words l.cap)
