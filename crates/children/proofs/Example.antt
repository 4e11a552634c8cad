-- An example, computed: four nodes, the first inner with children of the bytes 1 and 2, in chain 0, and 40, in chain 1.
use Rattle.std.specs.Prelude.{Some}
use Prim.Native.Nat.{ℕ}
use native.Mathlib.Omega.{arith}
use mathlib.Core.Path.{◌≡◌, refl}
use mathlib.Core.List.{List, [], ◌∷◌}
use lib.ListN.{replicate}
use Rattle.children.specs.declared.place.Place.TheVariants.{Found, Missing}
use Rattle.children.specs.Heap.{Holds}
use Rattle.children.specs.Places.{place_from, find_place}
use Rattle.children.specs.Phys.{Phys, no_kid, kid, leaf_p, inner_p, heads_from, cells, Sound}

abbrev t : Phys
t = inner_p 0 (kid 1 (leaf_p 1 (0 ∷ [])) (kid 2 (leaf_p 2 (1 ∷ [])) (kid 40 (leaf_p 3 (2 ∷ 3 ∷ [])) no_kid)))

-- chain words, states, and the heads, of which two are not 0
abbrev N : List ℕ
N = 0 ∷ 524291 ∷ 1048576 ∷ 20971520 ∷ 65536 ∷ 65537 ∷ 65538 ∷ 131075 ∷ 2 ∷ 4 ∷ replicate 30 0

abbrev P : List ℕ
P = 0 ∷ 0 ∷ 4 ∷ 0 ∷ []

pub lies : Holds (cells 4 0 t) N P
unfolding heads_from
lies = (refl, ((refl, (refl, (refl, (refl, (refl, (refl, (refl, (refl, tt)))))))), (refl, (search, (refl, (search, (refl, (search, tt))))))))

pub sound : Sound 4 4 t
sound = search arith

-- a child that is there, with the slot that links to it, and two that are not
pub found : find_place N 4 0 2 ≡ Some (Found 1 2)
unfolding find_place place_from
found = refl

pub behind : find_place N 4 0 41 ≡ Some (Missing 3)
unfolding find_place place_from
behind = refl

pub other-chain : find_place N 4 0 100 ≡ Some (Missing 11)
unfolding find_place place_from
other-chain = refl
