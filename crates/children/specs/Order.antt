-- The children of a node one after the other, tested on the way. N is the node table.
use Rattle.std.specs.Prelude.{ℕ, ◌+◌, ◌*◌, ◌-◌, Bool, cond, List, ltb, eqb, get_or, Option, Some, None}
use Rattle.meaning.specs.Lists.{all, upto}
use Rattle.layout.specs.Nodes.{link_of, byte_of, head_at}
use Rattle.children.specs.declared.order.Frame.{Frame}
use Rattle.children.specs.declared.order.Step.{Step}
use Rattle.children.specs.declared.order.Step.TheVariants.{Chain, Child, Up}

-- all heads of node x are 0
unfoldable pub bare : List ℕ → ℕ → ℕ → Bool
bare N cap x = all (λ g. eqb (get_or N (head_at cap x g) 0) 0) (upto 8)

-- all children of node x; a head holds a link alone
unfoldable pub entered : List ℕ → ℕ → ℕ → Frame
entered N cap x = record { node = x; group = 0; link = get_or N (head_at cap x 0) 0; least = 0 }

-- the children after one with a byte, from a link on
abbrev pub past_child : Frame → ℕ → ℕ → Frame
past_child f byte link = record { node = f.node; group = f.group; link = link; least = byte + 1 }

-- those of the next chain, from its first link on
abbrev pub next_chain : Frame → ℕ → Frame
next_chain f link = record { node = f.node; group = f.group + 1; link = link; least = 32 * (f.group + 1) }

-- Bytes rise, and belong to their chain.
module _ (N : List ℕ) (cap : ℕ) (f : Frame) where
  -- the step to the next child of a chain
  unfoldable pub step_along : Option Step
  step_along =
      let x : ℕ = f.link - 1 in
      let byte : ℕ = byte_of (get_or N x 0) in
      cond (ltb cap f.link) None
      (cond (ltb byte f.least) None
      (cond (ltb (32 * f.group + 31) byte) None
      (Some (Child x byte (link_of (get_or N x 0))))))

  -- the next step: along the chain, else to the next chain, else up
  unfoldable pub next_child : Option Step
  next_child =
      cond (eqb f.link 0)
      (cond (ltb f.group 7) (Some (Chain (get_or N (head_at cap f.node (f.group + 1)) 0))) (Some Up))
      step_along
