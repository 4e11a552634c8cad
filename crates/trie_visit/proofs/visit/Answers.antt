-- The child that `visit` tests is a node of the table.
use mathlib.Core.Path.{sym, ap, ◌∙◌}
use Rattle.std.specs.Prelude.{Some}
use Rattle.node_check.proofs.Steps.{child-within}
use Rattle.trie_visit.proofs.visit.Goals as goal

pub visit_child-requires-clause-node_lt_nodes : goal.visit_child-requires-clause-node_lt_nodes
visit_child-requires-clause-node_lt_nodes c =
    let inside = child-within _ _ _ _ _ _ c.requires.node_lt_nodes.1 _ _ _ (sym c.next_step.ensures ∙ c.in_ok-step.was ∙ ap Some c.in-Child.is) in
    (inside.0, c.requires.node_lt_nodes.2)
