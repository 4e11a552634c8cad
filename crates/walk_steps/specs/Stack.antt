-- The frames of the nodes above the one where a walk stands: that of level k is at place k.
use Rattle.std.specs.Prelude.{ℕ, zero, suc, ◌<◌, List, [], ◌∷◌, get_or}
use Rattle.layout.specs.Nodes.{node_words}
use Rattle.walk_steps.specs.declared.frame.Frame.{Frame}

-- what is read past the end
abbrev pub no_frame : Frame
no_frame = record { cursor = record { at = 0; last = 0; link = 0 }; radius = 0 }

abbrev pub frame_at : List Frame → ℕ → Frame
frame_at stack k = get_or stack k no_frame

-- those of the levels below n, the nearest first
unfoldable pub frames : List Frame → ℕ → List Frame
frames stack zero = []
frames stack (suc n) = frame_at stack n ∷ frames stack n

-- the heads of a frame lie in the table
abbrev pub Within : ℕ → Frame → Type 0
Within cap f = f.cursor.last < node_words cap

abbrev pub AllWithin : ℕ → List Frame → Type 0
AllWithin cap [] = Unit {0}
AllWithin cap (f ∷ fs) = Within cap f × AllWithin cap fs
