-- The node table of an opening: what its three parts leave, as one list.
use Prim.Native.Nat.{ℕ, ◌+◌, ◌*◌, ◌≤◌}
use native.Mathlib.Omega.{arith}
use mathlib.Core.Path.{◌≡◌}
use mathlib.Core.List.{List, ◌++◌, map}
use lib.ListN.{length, replicate, length-replicate, length-append}
use lib.Seq.{sets, length-sets}
use Rattle.meaning.specs.Lists.{onto, upto}
use Rattle.meaning.proofs.Lists.{length-map-upto}
use Rattle.layout.specs.declared.Numbers.{Numbers}
use Rattle.layout.specs.Nodes.{heads_at}
use Rattle.layout.specs.Header.{bare}
use Rattle.layout.specs.Lengths.{nodes_length}
use Rattle.words.specs.Bits.{zeroed}
use Rattle.promises.specs.Answers.{fresh_chain, fresh_state, fresh_nodes}
use Rattle.fresh_tables.proofs.Runs.{sets-append, onto-sets, onto-append, zeroed-sets}

pub nodes-written : (h : Numbers) (ns : List ℕ) → nodes_length (bare h) ≤ length ns
    → zeroed
    (sets (sets ns 0 (map (fresh_chain (bare h)) (upto h.nodes))) h.nodes (map (fresh_state (bare h)) (upto h.nodes)))
    (heads_at h.nodes)
    (8 * h.nodes)
    ≡ onto (fresh_nodes (bare h)) ns
unfolding fresh_nodes nodes_length
nodes-written h ns long =
    let N = h.nodes in
    let A = map (fresh_chain (bare h)) (upto N) in
    let B = map (fresh_state (bare h)) (upto N) in
    let Z : List ℕ = replicate (8 * N) 0 in
    let a : length A ≡ N = length-map-upto (fresh_chain (bare h)) N in
    let b : length B ≡ N = length-map-upto (fresh_state (bare h)) N in
    let z : length Z ≡ 8 * N = length-replicate (8 * N) 0 in
    let inside : 2 * N + 8 * N ≤ length (sets (sets ns 0 A) N B) = rw (length-sets, length-sets) (omega arith) in
    let all : length A + length (B ++ Z) ≤ length ns = omega (arith, length-append B Z) in
    let twice : N + N ≡ 2 * N = omega arith in
    rw (
      onto-append A (B ++ Z) ns all,
      sets-append B Z (onto A ns) (length A),
      onto-sets A ns (omega arith),
      zeroed-sets (sets (sets ns 0 A) N B) (2 * N) (8 * N) inside,
      a,
      b,
      twice,
    )
