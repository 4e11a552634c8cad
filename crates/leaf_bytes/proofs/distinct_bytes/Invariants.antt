use mathlib.Core.Path.{◌≡◌}
use Prim.Native.Nat.{◌+◌, ◌-◌, ◌≤◌}
use lib.ListN.{length}
use Rattle.blocks.specs.Packed.{page_byte}
use Rattle.leaf_bytes.specs.Chains.{chain_from}
use Rattle.leaf_bytes.specs.Bytes.{distinct_bytes}
use Rattle.leaf_bytes.proofs.Count.{counted}
use Rattle.leaf_bytes.proofs.distinct_bytes.Given as goal

abbrev pub invariant-loop : goal.invariant-loop
invariant-loop l =
    (counted (page_byte l.sketches l.level) l.seen l.n (chain_from l.pages l.block.base l.block.pages l.link (l.block.pages - l.counter))
    ≡ distinct_bytes l.pages l.sketches l.block.pages l.block.base l.level l.first l.byte)
    × (length l.seen ≡ 256)
    × (l.n ≤ l.counter + 1)
