-- One step of a walk in a node, and where it leads.
use Rattle.std.specs.Prelude.{ℕ, ◌+◌, ◌-◌, ◌%◌, cond, List, ltb, eqb, length, get_or, Option, Some, None}
use Rattle.std.specs.Int.Bits.{bit_xor}
use Rattle.meaning.specs.Sketch.{byte_distance}
use Rattle.layout.specs.States.{kind_of}
use Rattle.layout.specs.declared.nodes.Kind.{Kind}
use Rattle.layout.specs.declared.nodes.Kind.TheVariants as kind
use Rattle.children.specs.Cursors.{all_of, next_of}
use Rattle.children.specs.declared.cursor.Next.{Next}
use Rattle.children.specs.declared.cursor.Next.TheVariants as next
use Rattle.descent.specs.Cursor.{ended}
use Rattle.walk_steps.specs.declared.frame.Frame.{Frame}
use Rattle.walk_steps.specs.declared.turn.Move.{Move}
use Rattle.walk_steps.specs.declared.turn.Move.TheVariants.{Chain, Past, Leaf, Down, Up}
use Rattle.walk_steps.specs.Given.{Given, exact_from}

-- all children of node x
abbrev pub entered : List ℕ → ℕ → ℕ → ℕ → Frame
entered nodes cap x radius = record { cursor = all_of nodes cap x; radius = radius }

-- from a link on in the chain whose head is at `at`
abbrev pub at_chain : Frame → ℕ → ℕ → Frame
at_chain f at link = record { cursor = record { at = at; last = f.cursor.last; link = link }; radius = f.radius }

-- from another link on in the same chain
abbrev pub at_link : Frame → ℕ → Frame
at_link f link = at_chain f f.cursor.at link

module _ (w : Given) where
  -- to a child x that is within the radius, when so much of it is left: at a level of the query's bytes, and with a link after it
  abbrev pub reached_as : ℕ → ℕ → ℕ → ℕ → Kind → Option Move
  reached_as x level radius link kind.Free = None
  reached_as x level radius link (kind.Leaf first) = Some (Leaf (ended first) link)
  reached_as x level radius link kind.Inner =
      cond (eqb radius 0) (Some (Leaf (exact_from w x level) link))
      (cond (ltb level (length w.bytes)) (Some (Down x radius link)) None)

  unfoldable pub reached : ℕ → ℕ → ℕ → ℕ → Option Move
  reached x level radius link = reached_as x level radius link (kind_of w.nodes w.cap x)

  -- how far a child's byte is from the query's at a level; in sound tables it is below 256 as it stands
  abbrev pub distance_at : ℕ → ℕ → ℕ
  distance_at level byte = byte_distance w.b (bit_xor (byte % 256) (get_or w.bytes level 0))

  abbrev pub found_by : ℕ → ℕ → Option Next → Option Move
  found_by level radius (Some (next.Child x byte link)) =
      cond (ltb radius (distance_at level byte)) (Some (Past link)) (reached x (level + 1) (radius - distance_at level byte) link)
  found_by level radius (Some (next.Chain at link)) = Some (Chain at link)
  found_by level radius (Some next.End) = Some Up
  found_by level radius None = None

  -- the next step in a node at a level
  unfoldable pub found : ℕ → Frame → Option Move
  found level f = found_by level f.radius (next_of w.nodes w.cap f.cursor)

-- how many nodes it reads
abbrev pub reads : Option Move → ℕ
reads (Some (Chain at link)) = 0
reads (Some (Past link)) = 1
reads (Some (Leaf c link)) = 1
reads (Some (Down x radius link)) = 1
reads (Some Up) = 0
reads None = 0
