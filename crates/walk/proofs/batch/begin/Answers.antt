-- `begin` is at the root, by what it is.
use Rattle.walk.proofs.Batches.{begins-free, begins-leaf, begins-inner}
use Rattle.walk.proofs.batch.begin.Goals as goal

pub returns-in-Free : goal.returns-in-Free
returns-in-Free c = rw c.bare.ensures (begins-free _ _ _ _ c.requires.2 _ c.kind_of.ensures c.in-Free.is)

pub returns-in-Leaf : goal.returns-in-Leaf
returns-in-Leaf c = begins-leaf _ _ _ _ c.requires.2 _ c.kind_of.ensures _ c.in-Leaf.is

pub returns-in-Inner : goal.returns-in-Inner
returns-in-Inner c = rw (c.bare-in-Inner.ensures, c.enter.ensures) (begins-inner _ _ _ _ c.requires.2 _ c.kind_of.ensures c.args.walk.now.fitting c.requires.0 c.requires.1 c.in-Inner.is)
