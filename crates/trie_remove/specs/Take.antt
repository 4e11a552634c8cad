-- What `take_page` computes: P is the page table, and page x's link stands at base + x.
use Rattle.std.specs.Prelude.{ℕ, zero, suc, ◌+◌, ◌-◌, cond, List, ltb, eqb, get_or, set, Ok, Err, Result}
use Rattle.trie_remove.specs.declared.Lost.{Lost}
use Rattle.trie_remove.specs.declared.Lost.TheVariants.{Missing, Broken}

-- the page table and the answer
pub data Took : Type 0 where
  took : List ℕ → Result ℕ Lost → Took

-- the link in an answer
abbrev pub link_in : Result ℕ Lost → ℕ
link_in (Ok l) = l
link_in (Err e) = 0

-- page p behind the page at link l, over fewer than f links, in a chain that begins at link a
unfoldable pub take_from : List ℕ → ℕ → ℕ → ℕ → ℕ → ℕ → ℕ → Took
take_from P pcap base p a l zero = took P (Err Broken)
take_from P pcap base p a l (suc f) =
    cond (eqb l 0) (took P (Err Missing))
    (cond (ltb pcap l) (took P (Err Broken))
    (cond (eqb (get_or P (base + (l - 1)) 0) (p + 1)) (took (set P (base + (l - 1)) (get_or P (base + p) 0)) (Ok a))
    (take_from P pcap base p a (get_or P (base + (l - 1)) 0) f)))

-- page p out of the chain that begins at link l
unfoldable pub take_page : List ℕ → ℕ → ℕ → ℕ → ℕ → Took
take_page P pcap base l p =
    cond (eqb l (p + 1)) (cond (ltb pcap (get_or P (base + p) 0)) (took P (Err Broken)) (took P (Ok (get_or P (base + p) 0)))) (take_from P pcap base p l l pcap)
