-- `thresholds_fit` tests each threshold. The invariant: the joined bits are below 65,536 exactly where the thresholds passed are.
use Prim.Native.Nat.{ℕ, ◌+◌, ◌<◌}
use native.Mathlib.Numerals.{add-one}
use native.Mathlib.Omega.{arith}
use mathlib.Core.Path.{◌≡◌, refl, sym, ap, ◌∙◌}
use mathlib.Core.Bool.{◌&&◌}
use mathlib.Core.List.{List}
use lib.Bits.{bit_or}
use lib.ListN.{length, get_or, take}
use lib.Seq.{take_all}
use Rattle.meaning.specs.Lists.{all}
use Rattle.words.proofs.Bits.{or-below}
use Rattle.settings.proofs.Tests.{all_more, thresholds-count}
use Rattle.layout.proofs.Limits.{short}
use Rattle.settings.proofs.thresholds_fit.Goals as goal

more : (ts : List ℕ) (seen k : ℕ) → k < length ts → short seen ≡ all short (take k ts)
    → short (bit_or seen (get_or ts k 0)) ≡ all short (take (k + 1) ts)
more ts seen k h e =
    or-below 16 seen (get_or ts k 0)
    ∙ ap (λ t. t && short (get_or ts k 0)) e
    ∙ sym (all_more short ts k 0 h)
    ∙ ap (λ n. all short (take n ts)) (sym (add-one k))

pub loop-t-init : goal.loop-t-init
unfolding all
loop-t-init c = refl

pub loop-t-preserved : goal.loop-t-preserved
loop-t-preserved c = more c.thresholds-t-items.result.now c.loop-t.seen c.loop-t.t-index (omega arith) c.loop-t.invariant

pub returns : goal.returns
returns c =
    let count = thresholds-count c.args.settings.now (omega (arith, c.requires)) in
    c.loop-t.invariant
    ∙ ap (all short) (take_all c.loop-t.t-index c.thresholds-t-items.result.now (omega (arith, count, ap length c.thresholds-t-items.ensures)) ∙ c.thresholds-t-items.ensures)
