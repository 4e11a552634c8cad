-- `pack_into` is `pack`: at each turn the first j bytes are written.
use mathlib.Core.List.{List, map}
use mathlib.Core.Path.{◌≡◌, refl, sym, ap, ap₂, ◌∙◌}
use Prim.Native.Nat.{ℕ, ◌+◌, ◌-◌, ◌*◌, ◌≤◌, ◌<◌}
use native.Mathlib.Omega.{arith}
use lib.ListN.{take, drop, set, length-set}
use lib.Seq.{length-take-le}
use Rattle.meaning.specs.Lists.{onto, upto}
use Rattle.meaning.specs.Sketch.{packed_length, pack_byte}
use Rattle.sketch.proofs.Packed.{part-ends, symbols_of, byte_of, packed, symbols-few, symbols-range, part}
use Rattle.sketch.proofs.Runs.{fill_none, fill_more}
use Rattle.sketch.proofs.Width.{byte-begins}
use Rattle.sketch.proofs.packing.pack_into.Goals as goal
use Rattle.sketch.proofs.packing.pack_into.Goals.{After-symbols_at, In-loop-j}

-- byte j begins inside the symbols
begins : (c : In-loop-j) → c.loop-j.j * c.per_byte-z.result < c.args.n
begins c =
    let start = c in
    rw c.per_byte-z.ensures (byte-begins start.args.b start.args.n c.loop-j.j start.requires.bits (rw c.packed_length-j-end.ensures at c.loop-j-test.true))

ends : (c : After-symbols_at) →
    let at = c.loop-j.j * c.per_byte-z.result in
    at + c.symbols_at.result ≤ c.args.n
ends c =
    let at-loop = c in
    let args = at-loop.args in
    part-ends args.b args.n at-loop.loop-j.j _ _ c.per_byte-z.ensures c.symbols_at.ensures (begins (goal.at.overflow_add-end c).In-loop-j)

-- the part that is passed
passed : (c : After-symbols_at) →
    let args = c.args in
    let at = c.loop-j.j * c.per_byte-z.result in
    take (at + c.symbols_at.result - at) (drop at args.xs.now) ≡ symbols_of args.b (take args.n args.xs.now) c.loop-j.j
passed c =
    let at-loop = c in
    let args = at-loop.args in
    part args.b args.n at-loop.loop-j.j _ _ c.per_byte-z.ensures c.symbols_at.ensures args.xs.now

pub loop-j-init : goal.loop-j-init
loop-j-init c = (refl, fill_none _ _)

pub overflow_mul-at : goal.overflow_mul-at
overflow_mul-at c = omega (arith, begins c)

pub overflow_add-end : goal.overflow_add-end
overflow_add-end c = omega (arith, ends c)

pub slice_bounds-pack_byte-end : goal.slice_bounds-pack_byte-end
slice_bounds-pack_byte-end c = omega (arith, ends c)

pub loop-j-preserved : goal.loop-j-preserved
loop-j-preserved c =
    let at-loop = c in
    let args = at-loop.args in
    let inv = at-loop.loop-j.invariant in
    let byte : c.pack_byte.result ≡ byte_of args.b (take args.n args.xs.now) at-loop.loop-j.j =
    c.pack_byte.ensures ∙ ap (pack_byte args.b) (passed (goal.at.loop-j-preserved c).After-symbols_at) in (
      length-set at-loop.loop-j.out at-loop.loop-j.j c.pack_byte.result ∙ inv.0,
      ap₂ (λ (l : List ℕ) (v : ℕ). set l at-loop.loop-j.j v) inv.1 byte
          ∙ fill_more (byte_of args.b (take args.n args.xs.now)) at-loop.loop-j.j args.out.now 0 (omega arith),
    )

pub returns : goal.returns
returns c =
    let args = c.args in
    let inv = c.loop-j.invariant in
    let all : c.loop-j.j ≡ packed_length args.b args.n = omega arith in
    let symbols = take args.n args.xs.now in
    let written = sym (packed args.b args.n symbols (length-take-le args.n args.xs.now (omega arith))) in
    inv.1 ∙ ap (λ (l : List ℕ). onto l args.out.now) (ap (λ (k : ℕ). map (byte_of args.b symbols) (upto k)) all ∙ written)

pub pack_byte-requires-clause-xs_len_bound : goal.pack_byte-requires-clause-xs_len_bound
pack_byte-requires-clause-xs_len_bound c = let start = c in let ys = take start.args.n start.args.xs.now in rw (passed (goal.at.pack_byte-requires-clause-xs_len_bound c).After-symbols_at) (symbols-few start.args.b ys _)

pub pack_byte-requires-clause-xs_value : goal.pack_byte-requires-clause-xs_value
pack_byte-requires-clause-xs_value c = let start = c in let ys = take start.args.n start.args.xs.now in rw (passed (goal.at.pack_byte-requires-clause-xs_value c).After-symbols_at) (symbols-range start.args.b ys _ start.requires.xs_value)
