-- The node table, of N nodes: N chain words, N state words, then eight heads a node. A link is 0 for none, else a number + 1.
use Rattle.std.specs.Prelude.{ℕ, zero, suc, ◌+◌, ◌*◌, ◌/◌, ◌%◌}

-- the limit of document 01 on the capacity
abbrev pub most_nodes : ℕ
most_nodes = 262144

-- how many words a table of N nodes needs
abbrev pub node_words : ℕ → ℕ
node_words N = 10 * N

-- links are below this
abbrev pub link_base : ℕ
link_base = 524288

-- A walk over the nodes of a trie takes at most so many steps for each: one to it, one up, and one to each of its chains.
abbrev pub node_steps : ℕ
node_steps = 10

abbrev pub steps_for : ℕ → ℕ
steps_for N = node_steps * (N + 1)

-- A chain word holds a link to the next sibling, or to the next free node, and the node's byte above it.
-- A head holds a link to the first child of its range of 32 bytes. A word that holds a link is a slot.
abbrev pub link_of : ℕ → ℕ
link_of w = w % link_base

abbrev pub byte_of : ℕ → ℕ
byte_of w = w / link_base

abbrev pub chain_word : ℕ → ℕ → ℕ
chain_word byte link = link + byte * link_base

-- a slot's word with another link
abbrev pub with_link : ℕ → ℕ → ℕ
with_link w link = chain_word (byte_of w) link

-- where the words of node x stand
abbrev pub chain_at : ℕ → ℕ
chain_at x = x

abbrev pub state_at : ℕ → ℕ → ℕ
state_at N x = N + x

-- where the heads begin
abbrev pub heads_at : ℕ → ℕ
heads_at N = 2 * N

abbrev pub head_at : ℕ → ℕ → ℕ → ℕ
head_at N x g = heads_at N + 8 * x + g

-- the state of a leaf with pages holds their number, and below it the link to the first
abbrev pub count_base : ℕ
count_base = 65536

abbrev pub state_with : ℕ → ℕ → ℕ
state_with n link = link + n * count_base

-- where there is no such link, the state is that of a free node, an inner one, or a leaf without pages
abbrev pub free_state : ℕ
free_state = 0

abbrev pub inner_state : ℕ
inner_state = 65536

abbrev pub empty_state : ℕ
empty_state = 131072

-- a leaf with n pages, the first at a link
abbrev pub leaf_state : ℕ → ℕ → ℕ
leaf_state zero link = empty_state
leaf_state (suc n) link = state_with (suc n) link
