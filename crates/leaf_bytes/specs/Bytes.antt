-- How many different bytes the pages of a leaf have at one level. P is the page table, S the sketch table.
use Rattle.std.specs.Prelude.{ℕ, false, List, ◌∷◌, map, Option, Some, None}
use Rattle.blocks.specs.declared.Level.{Level}
use Rattle.blocks.specs.Packed.{page_byte}
use Rattle.trie_laws.specs.Needed.{distinct_from}
use Rattle.leaf_bytes.specs.Chains.{Chained, whole, broken, chain_from}

-- the number in an answer
abbrev pub count_in : Option ℕ → ℕ
count_in (Some n) = n
count_in None = 0

-- how many different bytes a byte and those of the pages of a chain are
abbrev pub bytes_with : (ℕ → ℕ) → ℕ → Chained → Option ℕ
bytes_with byte_of byte (whole ps) = Some (distinct_from (λ y. false) (byte ∷ map byte_of ps))
bytes_with byte_of byte broken = None

unfoldable pub distinct_bytes : List ℕ → List ℕ → ℕ → ℕ → Level → ℕ → ℕ → Option ℕ
distinct_bytes P S pcap base v first byte = bytes_with (page_byte S v) byte (chain_from P base pcap first pcap)
