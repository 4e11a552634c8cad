-- `unpack_into` is `unpack`: at each turn the first i symbols are written, and the next is group g of byte k.
use mathlib.Core.List.{List, map}
use mathlib.Core.Path.{◌≡◌, refl, ap, ap₂, ◌∙◌}
use Prim.Native.Nat.{ℕ, ◌+◌, ◌*◌, ◌<◌}
use native.Mathlib.Omega.{arith}
use lib.ListN.{set, length-set}
use borrow.Author.Rules.{rules}
use Rattle.meaning.specs.Lists.{onto, upto}
use Rattle.meaning.specs.Sketch.{packed_length}
use Rattle.sketch.proofs.Packed.{symbol_of, symbol-at}
use Rattle.sketch.proofs.Runs.{fill_none, fill_more}
use Rattle.sketch.proofs.Width.{z-pos, byte_of}
use Rattle.sketch.proofs.packing.unpack_into.Goals as goal
use Rattle.sketch.proofs.packing.unpack_into.Goals.{After-group_of, In-loop-i, then-g-z, else-g-z}

-- the next symbol's byte is one of the packing
inside : (c : In-loop-i) →
    let args = c.args in
    c.loop-i.k < packed_length args.b args.n
inside c =
    let start = c in
    byte_of start.args.b start.args.n c.loop-i.k start.requires.bits (omega (arith, ap (λ (z : ℕ). c.loop-i.k * z) c.per_byte-z.ensures))

-- the output with the next symbol
written : (c : After-group_of) →
    let at-loop = c in
    let args = at-loop.args in
    set at-loop.loop-i.out at-loop.loop-i.i c.group_of.result ≡ onto (map (symbol_of args.b args.bytes.now) (upto (at-loop.loop-i.i + 1))) args.out.now
written c =
    let at-loop = c in
    let args = at-loop.args in
    let inv = at-loop.loop-i.invariant in
    let symbol = c.group_of.ensures ∙ symbol-at args.b args.bytes.now _ at-loop.loop-i.i at-loop.loop-i.k at-loop.loop-i.g c.per_byte-z.ensures inv.0 inv.1 in
    ap₂ (λ (l : List ℕ) (v : ℕ). set l at-loop.loop-i.i v) inv.3 symbol
    ∙ fill_more (symbol_of args.b args.bytes.now) at-loop.loop-i.i args.out.now 0 (omega arith)

pub loop-i-init : goal.loop-i-init
loop-i-init c =
    (search rules, rw c.per_byte-z.ensures (z-pos c.args.b c.requires.bits), refl, fill_none _ _)

pub bounds-bytes-k : goal.bounds-bytes-k
bounds-bytes-k c = omega (arith, inside (goal.at.bounds-bytes-k c).In-loop-i)

pub loop-i-preserved : goal.loop-i-preserved
loop-i-preserved c =
    let inv = c.loop-i.invariant in
    let next : (c.loop-i.i + 1 ≡ c.if-g-z.k * c.per_byte-z.result + c.if-g-z.g) × (c.if-g-z.g < c.per_byte-z.result) =
    elim c.if-g-z.branch [ then-g-z w ↦ (omega (arith, ap (λ (k : ℕ). k * c.per_byte-z.result) w.k-is, w.g-is, w.if-g-z.true), omega (arith, w.g-is)) | else-g-z w ↦ (omega (arith, ap (λ (k : ℕ). k * c.per_byte-z.result) w.k-is, w.g-is), omega (arith, w.g-is, w.if-g-z.false)) ] in
    (next.0, next.1, simp length-set inv.2, written (goal.at.loop-i-preserved c).After-group_of)
