-- `walk` is the definition `descend_to`: each turn takes one step of the definition; and it notes the nodes that it passes.
use mathlib.Core.Path.{◌≡◌}
use mathlib.Core.Bool.{false≢true}
use Rattle.std.specs.Prelude.{Some, None}
use borrow.Author.Tests.{eq-eqb}
use native.Mathlib.Omega.{arith}
use Rattle.trie.specs.declared.path.Step.TheVariants as step
use Rattle.trie.proofs.Descends.{desc-leaf, desc-child, desc-gap, desc-nowhere}
use Rattle.trie.proofs.Inside.{child-node, child-slot, child-level}
use Rattle.trie.proofs.Notes.{passed_on, note-on}
use Rattle.trie.proofs.path.walk.Goals as goal
use Rattle.trie.proofs.path.walk.Goals.{then-this-ne0, else-this-ne0}

pub loop-s-preserved : goal.loop-s-preserved
loop-s-preserved g c =
    let at = c.loop-s in
    let is : c.step_to.result ≡ Some (step.Child c.in-Child.s c.in-Child.child) = grind arith in
    let l = child-level _ _ _ _ c.step_to.ensures.inside _ _ is in (
      search (desc-child, is, l),
      search (child-node, is),
      search (child-slot, is),
      omega (arith, l),
      search (passed_on, is),
      λ q. elim c.if-this-ne0.branch [
        | then-this-ne0 w ↦
            let room = c.requires.room q in
            rw w.path-is (note-on at.path _ at.level at.n at.slot (at.invariant.5 q) at.invariant.4 (omega (arith, l, room, at.invariant.6)))
        | else-this-ne0 w ↦
            let z : g.row.NOTES ≡ 0 = omega (arith, w.if-this-ne0) in
            absurd (false≢true (rw (eq-eqb g.row.NOTES 0 z) at q))
      ],
      omega (arith, c.if-this-ne0.auto.path, at.invariant.6),
    )

pub returns-in-Leaf-clause-value : goal.returns-in-Leaf-clause-value
returns-in-Leaf-clause-value g c = let is : c.step_to.result ≡ Some step.Leaf = grind arith in search (desc-leaf, is)

pub returns-in-Gap-clause-value : goal.returns-in-Gap-clause-value
returns-in-Gap-clause-value g c = let is : c.step_to.result ≡ Some (step.Gap c.in-Gap.slot) = grind arith in search (desc-gap, is)

pub returns-in_err-s-clause-value : goal.returns-in_err-s-clause-value
returns-in_err-s-clause-value g c =
    let up : c.from_residual.result ≡ None = grind arith in
    let none : c.step_to.result ≡ None = grind arith in
    rw up (desc-nowhere _ _ _ _ _ _ _ c.loop-s.invariant.0 _ c.step_to.ensures.value none)
