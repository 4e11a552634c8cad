-- On any tables, the bytes are at most one more than the pages that a chain may have.
use Prim.Native.Nat.{ℕ, zero, suc, ◌+◌, ◌-◌, ◌≤◌}
use mathlib.Core.Bool.{Bool, true, false, cond}
use mathlib.Core.List.{List, [], ◌∷◌, map}
use native.Mathlib.Omega.{arith}
use lib.Dec.{ltb, eqb}
use lib.ListN.{length, length-map}
use Rattle.blocks.specs.declared.Level.{Level}
use Rattle.blocks.specs.Packed.{page_byte}
use Rattle.trie_laws.proofs.Distinct.{distinct-length}
use Rattle.leaf_bytes.specs.Chains.{Chained, whole, broken, ahead, next_link, chain_from}
use Rattle.leaf_bytes.specs.Bytes.{count_in, bytes_with, distinct_bytes}

-- a chain is not longer than its budget
abbrev size : Chained → ℕ
size (whole xs) = length xs
size broken = 0

chain-size : (T : List ℕ) (base cap link f : ℕ) → size (chain_from T base cap link f) ≤ f
unfolding chain_from
chain-size T base cap link zero = go (eqb link 0)
  where
    go : (q : Bool) → size (cond q (whole []) broken) ≤ 0
    go true = omega arith
    go false = omega arith
chain-size T base cap link (suc f) = go (eqb link 0) (ltb cap link) (chain_from T base cap (next_link T base link) f) (chain-size T base cap (next_link T base link) f)
  where
    go : (q o : Bool) (c : Chained) → size c ≤ f → size (cond q (whole []) (cond o broken (ahead (link - 1) c))) ≤ suc f
    go true o c h = omega arith
    go false true c h = omega arith
    go false false (whole xs) h = omega arith
    go false false broken h = omega arith

bytes-few : (byte_of : ℕ → ℕ) (byte n : ℕ) (c : Chained) → size c ≤ n → count_in (bytes_with byte_of byte c) ≤ n + 1
bytes-few byte_of byte n (whole ps) h = omega (arith, distinct-length (λ y. false) (byte ∷ map byte_of ps), length-map ps byte_of)
bytes-few byte_of byte n broken h = omega arith

pub distinct-few : (P S : List ℕ) (pcap base : ℕ) (v : Level) (link byte : ℕ) → count_in (distinct_bytes P S pcap base v link byte) ≤ pcap + 1
unfolding distinct_bytes
distinct-few P S pcap base v link byte = bytes-few (page_byte S v) byte pcap (chain_from P base pcap link pcap) (chain-size P base pcap link pcap)
