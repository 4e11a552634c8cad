-- What a node is, by its state, and how many pages a leaf has. N is the node table, of cap nodes.
use Rattle.std.specs.Prelude.{ℕ, ◌+◌, ◌-◌, ◌/◌, ◌%◌, cond, List, eqb, ltb, get_or, set}
use Rattle.layout.specs.Nodes.{chain_at, state_at, free_state, inner_state, empty_state, count_base, state_with}
use Rattle.layout.specs.Pages.{most_pages}
use Rattle.layout.specs.declared.nodes.State.{State}
use Rattle.layout.specs.declared.nodes.State.TheVariants.{Empty, Free as Unused, Inner as Within}
use Rattle.layout.specs.declared.nodes.Kind.{Kind}
use Rattle.layout.specs.declared.nodes.Kind.TheVariants.{Free, Inner, Leaf}

-- the word of a state
abbrev pub word_of : State → ℕ
word_of Unused = free_state
word_of Within = inner_state
word_of Empty = empty_state

-- the kind that a state stands for
abbrev pub kind_by : ℕ → Kind
kind_by w =
    cond (eqb w free_state) Free
    (cond (eqb w inner_state) Inner
    (Leaf (w % count_base)))

unfoldable pub kind_of : List ℕ → ℕ → ℕ → Kind
kind_of N cap x = kind_by (get_or N (state_at cap x) 0)

-- the link to the first page of a leaf; 0 of another node
abbrev pub first_of : Kind → ℕ
first_of Free = 0
first_of Inner = 0
first_of (Leaf first) = first

-- the number of pages that stands in a leaf
abbrev pub count_by : ℕ → ℕ
count_by w = cond (eqb w empty_state) 0 (w / count_base)

unfoldable pub count_of : List ℕ → ℕ → ℕ → ℕ
count_of N cap x = count_by (get_or N (state_at cap x) 0)

-- one page more, and one less; on damaged tables the greatest number stays, and 0 does
abbrev pub one_more : ℕ → ℕ
one_more count = cond (ltb count most_pages) (count + 1) most_pages

abbrev pub one_less : ℕ → ℕ
one_less count = count - 1

-- leaf x with so many pages, the first at a link
abbrev pub with_count : List ℕ → ℕ → ℕ → ℕ → ℕ → List ℕ
with_count N cap x link count = set N (state_at cap x) (state_with count link)

-- leaf x with one page more, and with one less but some, the first at a link then
unfoldable pub longer : List ℕ → ℕ → ℕ → ℕ → List ℕ
longer N cap x link = set N (state_at cap x) (state_with (one_more (count_of N cap x)) link)

unfoldable pub shorter : List ℕ → ℕ → ℕ → ℕ → List ℕ
shorter N cap x link = set N (state_at cap x) (state_with (one_less (count_of N cap x)) link)

-- a free node's chain word is the link to the next
abbrev pub next_free : List ℕ → ℕ → ℕ
next_free N x = get_or N (chain_at x) 0

-- node x free, and linked to the next
abbrev pub with_free : List ℕ → ℕ → ℕ → ℕ → List ℕ
with_free N cap x next = set (set N (state_at cap x) free_state) (chain_at x) next
