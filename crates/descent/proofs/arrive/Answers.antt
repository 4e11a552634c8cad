-- `arrive` is its definition, by what the node is.
use mathlib.Core.Path.{sym, ◌∙◌}
use Rattle.descent.proofs.Steps.{arrive-free, arrive-leaf, arrive-short, arrive-inner}
use Rattle.descent.proofs.arrive.Goals as goal

pub returns-then-last-at : goal.returns-then-last-at
returns-then-last-at c =
    c.ended-then-last-at.ensures ∙ sym (arrive-short _ _ _ _ _ _ (sym c.kind_of.ensures ∙ c.in-Inner.is) c.if-last-at.true)

pub returns-in-Free : goal.returns-in-Free
returns-in-Free c =
    c.ended.ensures ∙ sym (arrive-free _ _ _ _ _ _ (sym c.kind_of.ensures ∙ c.in-Free.is))

pub returns-in-Leaf : goal.returns-in-Leaf
returns-in-Leaf c =
    c.ended-in-Leaf.ensures ∙ sym (arrive-leaf _ _ _ _ _ _ _ (sym c.kind_of.ensures ∙ c.in-Leaf.is))

pub returns-else-last-at : goal.returns-else-last-at
returns-else-last-at c =
    rw c.first_for.ensures (sym (arrive-inner _ _ _ _ _ _ (sym c.kind_of.ensures ∙ c.in-Inner.is) c.if-last-at.false))
