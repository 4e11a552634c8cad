-- The nodes that a walk goes through: those that its steps and its exact descents lead to, and the root.
use Rattle.std.specs.Prelude.{ℕ, zero, suc, ◌-◌, cond, List, [], ◌∷◌, ◌++◌, eqb, length, get_or, Option, Some, None}
use Rattle.layout.specs.Nodes.{steps_for}
use Rattle.layout.specs.States.{kind_of}
use Rattle.layout.specs.declared.nodes.Kind.{Kind}
use Rattle.layout.specs.declared.nodes.Kind.TheVariants as kind
use Rattle.children.specs.Cursors.{look_at}
use Rattle.children.specs.declared.cursor.Child.{Child}
use Rattle.descent.specs.declared.Cursor.{Cursor}
use Rattle.descent.specs.Cursor.{advance}
use Rattle.walk_steps.specs.declared.frame.Frame.{Frame}
use Rattle.walk_steps.specs.declared.turn.Move.{Move}
use Rattle.walk_steps.specs.declared.turn.Move.TheVariants as move
use Rattle.walk_steps.specs.Given.{Given, exact_from}
use Rattle.walk_steps.specs.Turn.{entered, at_chain, at_link, found}
use Rattle.walk.specs.Walk.{State, state}

-- ---- of an exact descent
module _ (nodes : List ℕ) (cap : ℕ) (bytes : List ℕ) where
  -- the child that a descent is ahead of, where its byte is the query's; otherwise it does not go there
  abbrev pub reached_by : ℕ → Option Child → List ℕ
  reached_by at (Some c) = cond (eqb c.byte (get_or bytes at 0)) (c.node ∷ []) []
  reached_by at None = []

  unfoldable pub reached : Cursor → List ℕ
  reached c = cond (eqb c.link 0) [] (reached_by c.at (look_at nodes cap c.link))

  -- the nodes that f steps go to
  unfoldable pub exact_trail : ℕ → Cursor → List ℕ
  exact_trail zero c = []
  exact_trail (suc f) c = reached c ++ exact_trail f (advance nodes cap bytes c)

-- ---- of a walk
module _ (w : Given) where
  -- those that a descent goes to
  abbrev pub exact_after : Cursor → List ℕ
  exact_after c = exact_trail w.nodes w.cap w.bytes w.cap c

  -- where a step goes that looks at node x; one past a child that is too far does not go there
  abbrev pub goes : ℕ → Option Move → List ℕ
  goes x (Some (move.Chain at link)) = []
  goes x (Some (move.Past link)) = []
  goes x (Some (move.Leaf c link)) = x ∷ exact_after c
  goes x (Some (move.Down y radius link)) = x ∷ []
  goes x (Some move.Up) = []
  goes x None = []

  -- the nodes behind a step, as `follow` follows it
  module _ (trail : State → List ℕ) (frame : Frame) (stack : List Frame) where
    abbrev pub trace_above : List Frame → List ℕ
    trace_above [] = []
    trace_above (f ∷ fs) = trail (state f fs)

    abbrev pub trace : Option Move → List ℕ
    trace (Some (move.Chain at link)) = trail (state (at_chain frame at link) stack)
    trace (Some (move.Past link)) = trail (state (at_link frame link) stack)
    trace (Some (move.Leaf c link)) = trail (state (at_link frame link) stack)
    trace (Some (move.Down x radius link)) = trail (state (entered w.nodes w.cap x radius) (at_link frame link ∷ stack))
    trace (Some move.Up) = trace_above stack
    trace None = []

  -- the nodes that the steps of `run` go to
  unfoldable pub trail : ℕ → State → List ℕ
  trail zero s = []
  trail (suc f) s =
      let m : Option Move = found w (length s.stack) s.frame in
      goes (s.frame.cursor.link - 1) m ++ trace (trail f) s.frame s.stack m

  -- below an inner root
  abbrev pub trail_below : ℕ → ℕ → List ℕ
  trail_below root radius =
      cond (eqb radius 0) (exact_after (exact_from w root 0)) (trail (steps_for w.cap) (state (entered w.nodes w.cap root radius) []))

  abbrev pub trail_as : ℕ → ℕ → Kind → List ℕ
  trail_as root radius kind.Free = []
  trail_as root radius (kind.Leaf first) = root ∷ []
  trail_as root radius kind.Inner = root ∷ trail_below root radius

  -- of a whole walk: the root, and the trail below it
  unfoldable pub trail_from : ℕ → ℕ → List ℕ
  trail_from root radius = trail_as root radius (kind_of w.nodes w.cap root)
