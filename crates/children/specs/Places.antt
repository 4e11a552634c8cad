-- Where a byte belongs among the children of a node: N is the node table, of cap nodes.
use Rattle.std.specs.Prelude.{ℕ, zero, suc, ◌-◌, ◌/◌, ◌<◌, List, cond, ltb, eqb, get_or, Option, Some, None}
use Rattle.layout.specs.Nodes.{link_of, byte_of, head_at, node_words}
use Rattle.children.specs.declared.place.Place.{Place}
use Rattle.children.specs.declared.place.Place.TheVariants.{Found, Missing}

-- a place inside the table: its slot, and the child there
abbrev pub slot_of : Option Place → ℕ
slot_of (Some (Found s c)) = s
slot_of (Some (Missing s)) = s
slot_of None = 0

abbrev pub child_of : Option Place → ℕ
child_of (Some (Found s c)) = c
child_of (Some (Missing s)) = 0
child_of None = 0

pub record Inside (cap : ℕ) (r : Option Place) : Type 0 where
  pub slot : slot_of r < node_words cap
  pub child : child_of r < cap

-- the link in a slot, the node that it links to, and the byte of a node
abbrev pub link_at : List ℕ → ℕ → ℕ
link_at N s = link_of (get_or N s 0)

abbrev pub child_at : List ℕ → ℕ → ℕ
child_at N s = link_at N s - 1

abbrev pub byte_in : List ℕ → ℕ → ℕ
byte_in N n = byte_of (get_or N n 0)

-- the place of byte b in a chain from slot s on, over fewer than f links
unfoldable pub place_from : List ℕ → ℕ → ℕ → ℕ → ℕ → Option Place
place_from N cap b s zero = None
place_from N cap b s (suc f) =
    cond (eqb (link_at N s) 0) (Some (Missing s))
    (cond (ltb cap (link_at N s)) None
    (cond (ltb (byte_in N (child_at N s)) b) (place_from N cap b (child_at N s) f)
    (cond (eqb (byte_in N (child_at N s)) b) (Some (Found s (child_at N s))) (Some (Missing s)))))

unfoldable pub find_place : List ℕ → ℕ → ℕ → ℕ → Option Place
find_place N cap n b = place_from N cap b (head_at cap n (b / 32)) 33
