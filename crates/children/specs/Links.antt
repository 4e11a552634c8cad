-- A node put among the children of another, and taken out: N is the node table.
use Rattle.std.specs.Prelude.{ℕ, ◌+◌, List, get_or, set}
use Rattle.layout.specs.Nodes.{chain_word, with_link, chain_at}
use Rattle.children.specs.Places.{link_at}

-- node x with byte b, linked into slot s before what the slot linked to
abbrev pub put_in : List ℕ → ℕ → ℕ → ℕ → List ℕ
put_in N s x b = set (set N (chain_at x) (chain_word b (link_at N s))) s (with_link (get_or N s 0) (x + 1))

-- child x out of its chain: slot s, which linked to it, links to what is after it
abbrev pub take_out : List ℕ → ℕ → ℕ → List ℕ
take_out N s x = set N s (with_link (get_or N s 0) (link_at N (chain_at x)))
