-- What stands at the place of a byte among the children of a node: a child, or none.
use Rattle.std.specs.Prelude.{Option, Some}
use Prim.Native.Nat.{ℕ, ◌+◌}
use Rattle.meaning.specs.Trie.{Children, child}
use Rattle.layout.specs.Nodes.{chain_word}
use Rattle.children.specs.declared.place.Place.{Place}
use Rattle.children.specs.declared.place.Place.TheVariants.{Found, Missing}
use Rattle.children.specs.Heap.{Cells, nil, node, ◌⊕◌}
use Rattle.children.specs.Phys.{Phys, Kids, kid, root, tree, cells, Sound}

pub data Held : Type 0 where
  gap : Held
  held : Phys → Held

-- with byte b before others
abbrev pub entry : ℕ → Held → Kids → Kids
entry b gap ks = ks
entry b (held u) ks = kid b u ks

abbrev pub onto : ℕ → Held → Children → Children
onto b gap cs = cs
onto b (held u) cs = child b (tree u) cs

-- what `find_place` answers
abbrev pub answer : Held → ℕ → Option Place
answer gap s = Some (Missing s)
answer (held u) s = Some (Found s (root u))

-- the link in the slot before it, where `next` is the link to what is after it
abbrev pub link_to : Held → ℕ → ℕ
link_to gap next = next
link_to (held u) next = root u + 1

-- its chain word and its tree
abbrev pub held_cells : ℕ → ℕ → ℕ → ℕ → Held → Cells
held_cells cap base b next gap = nil
held_cells cap base b next (held u) = node (root u) (chain_word b next) ⊕ cells cap base u

abbrev pub SoundH : ℕ → ℕ → Held → Type 0
SoundH cap pcap gap = Unit {0}
SoundH cap pcap (held u) = Sound cap pcap u
