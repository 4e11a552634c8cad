-- The function `is_free` is the definition `is_free`, by what the node is.
use mathlib.Core.Path.{sym, ◌∙◌}
use Rattle.check_tables.proofs.FreeSteps.{free-bare, inner-used, leaf-used}
use Rattle.check_tables.proofs.free.is_free.Goals as goal

pub returns-in-Free : goal.returns-in-Free
returns-in-Free c = c.is_bare.ensures ∙ sym (free-bare _ _ _ (sym c.kind_of.ensures ∙ c.in-Free.is))

pub returns-in-Inner : goal.returns-in-Inner
returns-in-Inner c = sym (inner-used _ _ _ (sym c.kind_of.ensures ∙ c.in-Inner.is))

pub returns-in-Leaf : goal.returns-in-Leaf
returns-in-Leaf c = sym (leaf-used _ _ _ _ (sym c.kind_of.ensures ∙ c.in-Leaf.is))
