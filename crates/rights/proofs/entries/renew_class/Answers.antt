-- `renew_class` is `class_renewed`. The invariant: it is done for the readers passed.
use Prim.Native.Nat.{◌+◌}
use native.Mathlib.Omega.{arith}
use mathlib.Core.Path.{◌≡◌, ap, ◌∙◌}
use Rattle.layout.specs.Settings.{members_at}
use Rattle.rights.specs.Entries.{class_renewed}
use Rattle.rights.proofs.Holders.{renewed-more}
use Rattle.rights.proofs.entries.renew_class.Goals as goal

pub loop-reader-preserved : goal.loop-reader-preserved
loop-reader-preserved c =
    let a = c.args in
    c.renew_member.ensures
    ∙ rw (c.loop-reader.invariant, c.holders-holders.ensures)
    (renewed-more a.ws.now a.group a.class c.loop-reader.reader (omega arith) (omega arith) (omega arith)
    (omega (arith, c.slice_known-1.given (members_at + c.loop-reader.reader))))

pub returns : goal.returns
returns c =
    let end : c.loop-reader.reader ≡ 256 = omega arith in
    c.loop-reader.invariant ∙ ap (class_renewed _ _ _) end
