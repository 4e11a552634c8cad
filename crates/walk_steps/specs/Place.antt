-- Where a walk stands between its steps.
use Rattle.std.specs.Prelude.{ℕ, ◌+◌, ◌-◌, cond, List, ltb, eqb, Option, None}
use Rattle.walk_steps.specs.declared.frame.Frame.{Frame}
use Rattle.walk_steps.specs.declared.place.Place.{Place}
use Rattle.walk_steps.specs.declared.turn.Move.{Move}
use Rattle.walk_steps.specs.Given.{Given}
use Rattle.walk_steps.specs.Turn.{entered, at_chain, at_link, found, reads}
use Rattle.walk_steps.specs.Stack.{frame_at}

abbrev pub placed : ℕ → Frame → ℕ → ℕ → Place
placed depth frame nodes steps = record { depth = depth; frame = frame; nodes = nodes; steps = steps }

-- with other nodes left
abbrev pub with_nodes : Place → ℕ → Place
with_nodes p nodes = placed p.depth p.frame nodes p.steps

-- in the next chain
abbrev pub on_chain : Place → ℕ → ℕ → Place
on_chain p at link = placed p.depth (at_chain p.frame at link) p.nodes (p.steps - 1)

-- past a child, which is read
abbrev pub on_link : Place → ℕ → Place
on_link p link = placed p.depth (at_link p.frame link) (p.nodes - 1) (p.steps - 1)

-- in an inner node x, a level below
abbrev pub lowered : List ℕ → ℕ → Place → ℕ → ℕ → Place
lowered nodes cap p x radius = placed (p.depth + 1) (entered nodes cap x radius) p.nodes p.steps

-- back in the node above
abbrev pub raised : List Frame → Place → Place
raised stack p = placed (p.depth - 1) (frame_at stack (p.depth - 1)) p.nodes (p.steps - 1)

-- the next step, where there are a step and the node that it reads
unfoldable pub turned : Given → Place → Option Move
turned w p =
    let m : Option Move = found w p.depth p.frame in
    cond (eqb p.steps 0) None (cond (ltb p.nodes (reads m)) None m)
