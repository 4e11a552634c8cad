-- `meet_exact`: the descents draw on the budget, then the chains of their leaves are met.
use native.Mathlib.Omega.{arith}
use mathlib.Core.Path.{◌≡◌}
use Prim.Native.Nat.{◌≤◌}
use Rattle.layout.specs.Headers.{numbers}
use Rattle.std.specs.Prelude.{Some, None}
use Rattle.layout.specs.Pages.{next_at}
use Rattle.meeting.specs.Chains.{base_of, Linked}
use Rattle.meeting.proofs.Linked.{linked-from, inside-each}
use Rattle.traversal.proofs.Going.{going_start, going-broken}
use Rattle.traversal.proofs.Tables.{nodes-there, links-inside}
use Rattle.traversal.proofs.Exact.{exact-spent, exact-met, exact-unmet}
use Rattle.traversal.proofs.all_blocks.meet_exact.Goals as goal
use Rattle.traversal.proofs.all_blocks.meet_exact.Goals.{After-chains_of-each}

-- the chains, a leaf of each block
linked : (c : After-chains_of-each) →
    let h = (numbers c.args.quest.now.trial.probe.header) in
    Linked (base_of (next_at h.pages 0) h.pages) c.leaves-ends.result.firsts h.q c.chains_of-each.result
linked c = linked-from _ _ _ c.next_at.ensures c.chains_of-each.ensures

few : (c : After-chains_of-each) → c.args.quest.now.trial.probe.header.q ≤ 16
few c = omega (arith, c.args.quest.now.trial.fitting.limits.blocks-most)

pub leaves-ends-requires-clause-nodes_in_bounds : goal.leaves-ends-requires-clause-nodes_in_bounds
leaves-ends-requires-clause-nodes_in_bounds c = nodes-there (numbers c.args.quest.now.trial.probe.header) _ c.args.quest.now.nodes_long

pub returns-in_err-left : goal.returns-in_err-left
returns-in_err-left c =
    let none : c.leaves-ends.result.left ≡ None = grind arith in
    let up : c.from_residual.result ≡ None = grind arith in
    rw up (going-broken _ _ (going_start _ _ _ _ _ _ c.requires.tallied) (exact-spent _ _ _ _ _ _ c.leaves-ends.ensures none))

pub meet-requires-clause-inside : goal.meet-requires-clause-inside
meet-requires-clause-inside c =
    let at = (goal.at.meet-requires-clause-inside c).After-chains_of-each in
    inside-each _ (linked at) (few at) _ (links-inside (numbers c.args.quest.now.trial.probe.header) _ c.args.quest.now.trial.fitting.pages)

pub returns-in_err-met : goal.returns-in_err-met
returns-in_err-met c =
    let at = (goal.at.returns-in_err-met c).After-chains_of-each in
    let lasts : c.leaves-ends.result.left ≡ Some c.in_ok-left.left = grind arith in
    let none : c.meet.result ≡ None = grind arith in
    let up : c.from_residual-in_err-met.result ≡ None = grind arith in
    rw up (exact-unmet _ _ _ _ _ _ c.leaves-ends.ensures _ lasts (linked at) (few at) _ _ _ c.requires.tallied c.meet.ensures none)

pub returns : goal.returns
returns c =
    let at = (goal.at.returns c).After-chains_of-each in
    let lasts : c.leaves-ends.result.left ≡ Some c.in_ok-left.left = grind arith in
    let some : c.meet.result ≡ Some c.in_ok-met.met = grind arith in
    exact-met _ _ _ _ _ _ c.leaves-ends.ensures _ lasts (linked at) (few at) _ _ _ c.requires.tallied c.meet.ensures _ some
