-- What the tables and the query offer to the walks, the descents and the chains.
use Prim.Native.Nat.{ℕ, ◌+◌, ◌≤◌, ◌<◌}
use native.Mathlib.Omega.{arith}
use native.Mathlib.Nat.{suc-mul, mul-le-mul_right}
use mathlib.Core.Path.{◌≡◌, sym, ◌∙◌}
use mathlib.Core.List.{List}
use lib.ListN.{length, take, drop}
use lib.Seq.{take_at}
use Rattle.meaning.specs.Lists.{onto}
use Rattle.meaning.specs.Sketch.{pack, block}
use Rattle.meaning.specs.Forest.{bytes_of_sketch}
use Rattle.layout.specs.declared.Numbers.{Numbers}
use Rattle.layout.specs.Header.{bare}
use Rattle.layout.specs.Nodes.{node_words}
use Rattle.layout.specs.Pages.{next_at}
use Rattle.layout.specs.Lengths.{nodes_length, pages_length}
use Rattle.block_leaves.specs.Leaves.{block_size}
use Rattle.block_leaves.proofs.Sizes.{bytes-length, size-most, size-some}
use Rattle.walk_steps.specs.Given.{given, Fitting}
use Rattle.layout.specs.Limits.{HeaderLimits}

-- the packed bytes of block j
pub bytes-first : (h : Numbers) (x : List ℕ) → length x ≡ h.m → (j : ℕ) → j < h.q → (n : ℕ) (out : List ℕ) → n ≡ block_size h j
    → take n (onto (pack h.b (block h.m h.q j x)) out) ≡ bytes_of_sketch (bare h) j x
unfolding onto bytes_of_sketch
bytes-first h x all j l n out e =
    take_at (pack h.b (block h.m h.q j x)) (drop (length (pack h.b (block h.m h.q j x))) out) n (bytes-length h x all j l ∙ sym e)

pub nodes-there : (h : Numbers) (N : List ℕ) → nodes_length (bare h) ≤ length N → node_words h.nodes ≤ length N
unfolding nodes_length
nodes-there h N long = long

pub links-inside : (h : Numbers) (P : List ℕ) → pages_length (bare h) ≤ length P → (j : ℕ) → j < h.q → next_at h.pages j + h.pages ≤ length P
unfolding pages_length
links-inside h P long j l =
    let behind : 2 + j < 2 + h.q = omega arith in
    omega (arith, rw suc-mul at (mul-le-mul_right h.pages behind), long)

-- what the walk of block j asks
pub fitting : (h : Numbers) → HeaderLimits h → (N x : List ℕ) → nodes_length (bare h) ≤ length N → length x ≡ h.m → (j : ℕ) → j < h.q
    → (bytes : List ℕ) → bytes ≡ bytes_of_sketch (bare h) j x → Fitting (given N h.nodes h.b bytes)
fitting h limits N x there query j l bytes e =
    let long : length (bytes_of_sketch (bare h) j x) ≡ _ = bytes-length h x query j l in
    rw e record {
      nodes = record { long = nodes-there h N there; small = limits.nodes-most };
      b = (limits.bits-least, limits.bits_most);
      some = rw long (size-some h limits j l);
      bytes = omega (arith, long, size-most h limits j l);
    }
