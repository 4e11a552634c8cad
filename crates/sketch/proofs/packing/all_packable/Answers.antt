-- The function `all_packable` is the definition `all_packable`: the bytes from place k on decide it.
use mathlib.Core.Path.{sym, ◌∙◌}
use native.Mathlib.Omega.{arith}
use Rattle.meaning.specs.Sketch.{packed_length}
use Rattle.sketch.proofs.Packed.{packable_at}
use Rattle.sketch.proofs.Runs.{all-fails, all-passes, all_done}
use Rattle.sketch.proofs.packing.all_packable.Goals as goal

pub returns-then-not-packable : goal.returns-then-not-packable
returns-then-not-packable c =
    let at-loop = c in
    let args = at-loop.args in
    let no = sym c.packable.ensures ∙ c.if-not-packable.true in
    sym (all-fails (packable_at args.b args.n args.bytes.now) at-loop.loop-k.k (packed_length args.b args.n) (omega arith) no)
    ∙ at-loop.loop-k.invariant

pub loop-k-preserved : goal.loop-k-preserved
loop-k-preserved c =
    let at-loop = c in
    let args = at-loop.args in
    let yes = sym c.packable.ensures ∙ c.if-not-packable.false in
    sym (all-passes (packable_at args.b args.n args.bytes.now) at-loop.loop-k.k (packed_length args.b args.n) (omega arith) yes)
    ∙ at-loop.loop-k.invariant

pub returns : goal.returns
returns c =
    let at-loop = c in
    let args = at-loop.args in
    sym (all_done (packable_at args.b args.n args.bytes.now) at-loop.loop-k.k (packed_length args.b args.n) (omega arith)) ∙ at-loop.loop-k.invariant
