-- The function `distinct_bytes` is the definition `distinct_bytes`: each turn takes one page of the chain.
use mathlib.Core.Path.{◌≡◌, refl, ◌∙◌}
use mathlib.Core.Bool.{true, false, not}
use Prim.Native.Nat.{◌-◌, ◌<◌}
use native.Mathlib.Omega.{arith}
use lib.ListN.{length, replicate, length-set}
use Rattle.blocks.specs.Packed.{page_byte}
use Rattle.leaf_bytes.specs.Chains.{chain_from}
use Rattle.leaf_bytes.specs.Bytes.{distinct_bytes}
use Rattle.leaf_bytes.proofs.Count.{flagged, flag-most, no-flags, count-start, bytes-done, bytes-long, bytes-broken, bytes_next}
use Rattle.leaf_bytes.proofs.distinct_bytes.Goals as goal

pub loop-init : goal.loop-init
unfolding distinct_bytes
loop-init c =
    let args = c.args in
    let all : args.block.pages - 0 ≡ args.block.pages = omega arith in (
      rw all (count-start (page_byte args.sketches.now args.level) args.byte (replicate 256 false)
          (chain_from args.pages.now args.block.base args.block.pages args.first args.block.pages) (omega arith) (no-flags 256)),
      length-set (replicate 256 false) args.byte true,
      omega arith,
    )

pub returns-then-link-eq0 : goal.returns-then-link-eq0
returns-then-link-eq0 c = search (bytes-done, arith)

pub returns-then-block-link : goal.returns-then-block-link
returns-then-block-link c = search (bytes-broken, arith)

pub loop-preserved : goal.loop-preserved
loop-preserved c =
    let call = c in
    let head = call in
    let v = call.page_byte-v.result in
    let inside : v < length head.loop.seen = omega (arith, head.loop.invariant.1) in (
      bytes_next _ _ _ _ head.loop.seen head.loop.n _ _ _ head.loop.invariant.0 call.if-link-eq0.false
          (omega arith) call.if-block-link.false _ _ refl (omega arith) v call.page_byte-v.ensures inside,
      length-set head.loop.seen v true ∙ head.loop.invariant.1,
      omega (arith, flag-most (not (flagged head.loop.seen v))),
    )

pub returns-then-link-eq0-2 : goal.returns-then-link-eq0-2
returns-then-link-eq0-2 c = search (bytes-done, arith)

pub returns-else-link-eq0-2 : goal.returns-else-link-eq0-2
returns-else-link-eq0-2 c = search (bytes-long, arith)
