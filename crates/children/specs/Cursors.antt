-- The children of a node one after the other, as the words lead. N is the node table, of cap nodes.
use Rattle.std.specs.Prelude.{ℕ, ◌+◌, ◌-◌, ◌/◌, cond, List, ltb, eqb, Option, Some, None}
use Rattle.layout.specs.Nodes.{head_at}
use Rattle.children.specs.Places.{link_at, byte_in}
use Rattle.children.specs.declared.cursor.Cursor.{Cursor}
use Rattle.children.specs.declared.cursor.Child.{Child as Kid}
use Rattle.children.specs.declared.cursor.Next.{Next}
use Rattle.children.specs.declared.cursor.Next.TheVariants.{Child, Chain, End}

-- all children of node x
unfoldable pub all_of : List ℕ → ℕ → ℕ → Cursor
all_of N cap x = record { at = head_at cap x 0; last = head_at cap x 7; link = link_at N (head_at cap x 0) }

-- child x of a byte, with a link after it
abbrev pub seen : ℕ → ℕ → ℕ → Option Kid
seen x byte link = Some (record { node = x; byte = byte; link = link })

-- the child at a link
unfoldable pub look_at : List ℕ → ℕ → ℕ → Option Kid
look_at N cap link = cond (ltb cap link) None (seen (link - 1) (byte_in N (link - 1)) (link_at N (link - 1)))

abbrev pub next_by : Option Kid → Option Next
next_by (Some c) = Some (Child c.node c.byte c.link)
next_by None = None

-- the next step: along the chain, else to the next chain
unfoldable pub next_of : List ℕ → ℕ → Cursor → Option Next
next_of N cap c =
    cond (eqb c.link 0)
    (cond (ltb c.at c.last) (Some (Chain (c.at + 1) (link_at N (c.at + 1)))) (Some End))
    (next_by (look_at N cap c.link))

-- the link to the first child of node x in the chain of a byte
unfoldable pub first_for : List ℕ → ℕ → ℕ → ℕ → ℕ
first_for N cap x byte = link_at N (head_at cap x (byte / 32))
