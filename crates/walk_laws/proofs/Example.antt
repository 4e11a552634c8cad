-- An example: two leaves below a root, at distances 2 and 0 from the query's byte. So what the laws ask can be met.
use Prim.Native.Nat.{ℕ, zero, suc, ◌+◌, ◌*◌, ◌^◌, ◌<◌}
use native.Mathlib.Omega.{arith}
use mathlib.Core.Path.{◌≡◌, refl, ap, ◌∙◌}
use mathlib.Core.List.{List, [], ◌∷◌}
use lib.ListN.{get_or, set}
use Rattle.meaning.specs.Lists.{count, from, upto}
use Rattle.meaning.specs.Sketch.{per_byte, group, byte_distance}
use Rattle.meaning.specs.Trie.{met, met_in}
use Rattle.layout.specs.States.{kind_of}
use Rattle.children.specs.Cursors.{all_of, look_at, next_of, first_for}
use Rattle.children.specs.Heap.{Holds}
use Rattle.children.specs.Phys.{Phys, leaf_p, inner_p, no_kid, kid, first, tree, heads_from, no_kids, cells, Sound}
use Rattle.walk_steps.specs.Given.{Given, given}
use Rattle.walk_steps.specs.Turn.{reached, found}
use Rattle.walk.specs.Leaves.{leaves, broken}
use Rattle.walk.specs.Walk.{run, walk_below, walk_from}
use Rattle.descent.specs.Cursor.{arrive, advance, descended, drawn, leaf_of}
use Rattle.walk_laws.specs.Near.{near, near_k, near_nodes, near_nodes_in, paths_in, paths_among}
use Rattle.walk_laws.specs.Trail.{trail_from, exact_trail}
use Rattle.walk_laws.proofs.Fit.{Fit}
use Rattle.walk_laws.proofs.Leads.{steps-below}
use Rattle.walk_laws.proofs.Right.{WalkRight, right, right-trail}
use Rattle.walk_laws.proofs.Exact.{exact-leaf, exact-near}
use Rattle.walk_laws.proofs.Numbers.{leaf-renumbered, walk_same}

abbrev node_table : List ℕ
node_table =
    0 ∷ 94371840 ∷ 119537664 ∷ 65536 ∷ 65539 ∷ 65544 ∷
    0 ∷ 0 ∷ 0 ∷ 0 ∷ 0 ∷ 2 ∷ 0 ∷ 3 ∷
    0 ∷ 0 ∷ 0 ∷ 0 ∷ 0 ∷ 0 ∷ 0 ∷ 0 ∷
    0 ∷ 0 ∷ 0 ∷ 0 ∷ 0 ∷ 0 ∷ 0 ∷ 0 ∷ []

-- no page has a next
abbrev pub page_table : List ℕ
page_table = 0 ∷ 0 ∷ 0 ∷ 0 ∷ 0 ∷ 0 ∷ 0 ∷ 0 ∷ 0 ∷ 0 ∷ 0 ∷ 0 ∷ 0 ∷ 0 ∷ 0 ∷ 0 ∷ 0 ∷ 0 ∷ 0 ∷ 0 ∷ 0 ∷ 0 ∷ 0 ∷ 0 ∷ []

abbrev w : Given
w = given node_table 3 2 (228 ∷ [])

abbrev t : Phys
t = inner_p 0 (kid 180 (leaf_p 1 (2 ∷ [])) (kid 228 (leaf_p 2 (7 ∷ [])) no_kid))

holds : Holds (cells 3 16 t) node_table page_table
unfolding heads_from
holds =
    let bare₁ : Holds (no_kids 3 1) node_table page_table = (refl, (refl, (refl, (refl, (refl, (refl, (refl, (refl, tt)))))))) in
    let bare₂ : Holds (no_kids 3 2) node_table page_table = (refl, (refl, (refl, (refl, (refl, (refl, (refl, (refl, tt)))))))) in (
      refl,
      (
        (refl, (refl, (refl, (refl, (refl, (refl, (refl, (refl, tt)))))))),
        (refl, ((refl, (bare₁, (refl, tt))), (refl, ((refl, (bare₂, (refl, tt))), tt)))),
      ),
    )

sound : Sound 3 8 t
sound = search arith

query : (k : ℕ) → get_or w.bytes k 0 < 2 ^ (2 * per_byte 2)
unfolding per_byte
query zero = omega arith
query (suc k) = omega arith

fits : Fit 2 1 t 0
unfolding per_byte
fits = (omega arith, (omega arith, tt, (omega arith, tt, tt)))

-- both pages within 2 of 228, the second alone within 1
met-two : met 2 2 (tree t) (228 ∷ []) ≡ 2 ∷ 7 ∷ []
unfolding met met_in byte_distance count upto from per_byte group
met-two = refl

met-one : met 2 1 (tree t) (228 ∷ []) ≡ 7 ∷ []
unfolding met met_in byte_distance count upto from per_byte group
met-one = refl

-- two nodes are behind the root, and both are read
pub example : WalkRight w 16 8 page_table t 2 2
example = right w page_table 8 16 (omega arith, omega arith) query t 2 holds sound fits (omega arith) (omega arith) 2 (omega (arith, steps-below t))

pub example-walk : walk_from w 0 2 2 ≡ leaves (3 ∷ 8 ∷ []) 0
unfolding walk_from walk_below run found reached kind_of all_of next_of look_at arrive first_for advance descended drawn leaf_of byte_distance count upto from per_byte group
example-walk = refl

pub example-near : walk_from w 0 1 2 ≡ leaves (8 ∷ []) 0
unfolding walk_from walk_below run found reached kind_of all_of next_of look_at arrive first_for advance descended drawn leaf_of byte_distance count upto from per_byte group
example-near = refl

-- with another number in the second leaf, 5 in the place of 1
pub example-renumbered : walk_from (given (set node_table 5 327688) 3 2 (228 ∷ [])) 0 2 2 ≡ leaves (3 ∷ 8 ∷ []) 0
unfolding kind_of
example-renumbered = walk_same (leaf-renumbered node_table 3 2 5 8 (omega arith) refl (omega arith)) 2 (228 ∷ []) 0 2 2 ∙ example-walk

-- one is too few
pub example-short : walk_from w 0 2 1 ≡ broken
unfolding walk_from walk_below run found reached kind_of all_of next_of look_at arrive first_for advance descended drawn leaf_of byte_distance count upto from per_byte group
example-short = refl

-- ---- the nodes gone through: the root and both leaves within 2, without the first leaf within 1
near-two : near 2 2 t (228 ∷ []) ≡ 0 ∷ 1 ∷ 2 ∷ []
unfolding near near_k byte_distance count upto from per_byte group
near-two = refl

near-one : near 2 1 t (228 ∷ []) ≡ 0 ∷ 2 ∷ []
unfolding near near_k byte_distance count upto from per_byte group
near-one = refl

pub example-trail : trail_from w 0 2 ≡ 0 ∷ 1 ∷ 2 ∷ []
example-trail = right-trail w page_table 8 16 (omega arith, omega arith) query t 2 holds sound fits (omega arith) (omega arith) ∙ near-two

pub example-trail-near : trail_from w 0 1 ≡ 0 ∷ 2 ∷ []
example-trail-near = right-trail w page_table 8 16 (omega arith, omega arith) query t 1 holds sound fits (omega arith) (omega arith) ∙ near-one

-- their paths; at radius 0 the packed length and the root
paths : paths_in (tree t) ≡ [] ∷ (180 ∷ []) ∷ (228 ∷ []) ∷ []
unfolding paths_in paths_among
paths = refl

most : near_nodes 2 0 (tree t) (228 ∷ []) ≡ 1 + 1
unfolding near_nodes near_nodes_in byte_distance count upto from per_byte group
most = refl

-- ---- exact descents: to the leaf of page 7; to none for the bytes beside 228
abbrev leaf_link : ℕ → ℕ
leaf_link y = leaf_of (descended node_table 3 (y ∷ []) 3 (arrive node_table 3 (y ∷ []) 0 0 0))

exact-there : leaf_link 228 ≡ 8
unfolding leaf_of descended advance look_at arrive kind_of first_for
exact-there = refl

exact-before : leaf_link 227 ≡ 0
unfolding leaf_of descended advance look_at arrive kind_of first_for
exact-before = refl

exact-behind : leaf_link 229 ≡ 0
unfolding leaf_of descended advance look_at arrive kind_of first_for
exact-behind = refl

met-none : met 2 0 (tree t) (228 ∷ []) ≡ 7 ∷ []
unfolding met met_in byte_distance count upto from per_byte group
met-none = refl

near_none : near 2 0 t (228 ∷ []) ≡ 0 ∷ 2 ∷ []
unfolding near near_k byte_distance count upto from per_byte group
near_none = refl

pub example-exact : leaf_link 228 ≡ 8
example-exact = exact-leaf w page_table 8 16 (omega arith, omega arith) query t 0 holds sound fits (omega arith) ∙ ap first met-none

pub example-exact-near : 0 ∷ exact_trail node_table 3 (228 ∷ []) 3 (arrive node_table 3 (228 ∷ []) 0 0 0) ≡ 0 ∷ 2 ∷ []
example-exact-near = exact-near w page_table 8 16 (omega arith, omega arith) query t 0 holds sound fits (omega arith) ∙ near_none

-- a walk at radius 0 reads the second node alone
pub example-none : walk_from w 0 0 2 ≡ leaves (8 ∷ []) 1
unfolding walk_from walk_below run found reached kind_of all_of next_of look_at arrive first_for advance descended drawn leaf_of byte_distance count upto from per_byte group
example-none = refl

pub example-trail-none : trail_from w 0 0 ≡ 0 ∷ 2 ∷ []
example-trail-none = right-trail w page_table 8 16 (omega arith, omega arith) query t 0 holds sound fits (omega arith) (omega arith) ∙ near_none
