-- An example with two levels: an inner node below the root at distance 1 from the query's first byte, and a leaf below it. So a walk at radius 1
-- goes on from the inner node by an exact descent, and one at radius 2 through its children.
use Prim.Native.Nat.{ℕ, zero, suc, ◌*◌, ◌^◌, ◌<◌}
use native.Mathlib.Omega.{arith}
use mathlib.Core.Path.{◌≡◌, refl, ◌∙◌}
use mathlib.Core.List.{List, [], ◌∷◌}
use lib.ListN.{get_or}
use Rattle.std.specs.Prelude.{Some}
use Rattle.meaning.specs.Lists.{count, from, upto}
use Rattle.meaning.specs.Sketch.{per_byte, group, byte_distance}
use Rattle.layout.specs.States.{kind_of}
use Rattle.children.specs.Cursors.{all_of, look_at, next_of, first_for}
use Rattle.children.specs.Heap.{Holds}
use Rattle.children.specs.Phys.{Phys, leaf_p, inner_p, no_kid, kid, heads_from, no_kids, cells, Sound}
use Rattle.walk_steps.specs.declared.turn.Move.TheVariants.{Leaf, Down}
use Rattle.walk_steps.specs.Given.{Given, given, exact_from}
use Rattle.walk_steps.specs.Turn.{reached, found}
use Rattle.walk.specs.Leaves.{leaves, broken}
use Rattle.walk.specs.Walk.{run, walk_below, walk_from}
use Rattle.descent.specs.Cursor.{arrive, advance, descended, drawn, leaf_of}
use Rattle.walk_laws.specs.Near.{near, near_k}
use Rattle.walk_laws.specs.Trail.{trail_from}
use Rattle.walk_laws.proofs.Fit.{Fit}
use Rattle.walk_laws.proofs.Leads.{steps-below}
use Rattle.walk_laws.proofs.Right.{WalkRight, right, right-trail}
use Rattle.walk_laws.proofs.Example.{page_table}

-- node 1 has byte 180, and node 2 below it byte 27 and page 7
abbrev node_table : List ℕ
node_table =
    0 ∷ 94371840 ∷ 14155776 ∷ 65536 ∷ 65536 ∷ 65544 ∷
    0 ∷ 0 ∷ 0 ∷ 0 ∷ 0 ∷ 2 ∷ 0 ∷ 0 ∷
    3 ∷ 0 ∷ 0 ∷ 0 ∷ 0 ∷ 0 ∷ 0 ∷ 0 ∷
    0 ∷ 0 ∷ 0 ∷ 0 ∷ 0 ∷ 0 ∷ 0 ∷ 0 ∷ []

-- for a query of the bytes 181 and y
abbrev w : ℕ → Given
w y = given node_table 3 2 (181 ∷ y ∷ [])

abbrev t₁ : Phys
t₁ = inner_p 1 (kid 27 (leaf_p 2 (7 ∷ [])) no_kid)

abbrev t : Phys
t = inner_p 0 (kid 180 t₁ no_kid)

holds₁ : Holds (cells 3 16 t₁) node_table page_table
unfolding heads_from
holds₁ =
    let bare : Holds (no_kids 3 2) node_table page_table = (refl, (refl, (refl, (refl, (refl, (refl, (refl, (refl, tt)))))))) in
    (refl, ((refl, (refl, (refl, (refl, (refl, (refl, (refl, (refl, tt)))))))), (refl, ((refl, (bare, (refl, tt))), tt))))

holds : Holds (cells 3 16 t) node_table page_table
unfolding heads_from
holds = (refl, ((refl, (refl, (refl, (refl, (refl, (refl, (refl, (refl, tt)))))))), (refl, (holds₁, tt))))

sound : Sound 3 8 t
sound = search arith

query : (y : ℕ) → y < 256 → (k : ℕ) → get_or (w y).bytes k 0 < 2 ^ (2 * per_byte 2)
unfolding per_byte
query y l zero = omega arith
query y l (suc zero) = omega arith
query y l (suc (suc k)) = omega arith

fits : Fit 2 2 t 0
unfolding per_byte
fits = (omega arith, (omega arith, (omega arith, (omega arith, tt, tt)), tt))

-- ---- the leaves: two nodes are behind the root, and a walk reads both
pub deeper : WalkRight (w 27) 16 8 page_table t 1 2
deeper = right (w 27) page_table 8 16 (omega arith) (query 27 (omega arith)) t 1 holds sound fits (omega arith) (omega arith) 2 (omega (arith, steps-below t))

-- within 1 the one that 181 and 27 lead to; none for a second byte at a distance, unless within 2
pub deeper-one : walk_from (w 27) 0 1 2 ≡ leaves (8 ∷ []) 0
unfolding walk_from walk_below run found reached kind_of all_of next_of look_at arrive first_for advance descended drawn leaf_of byte_distance count upto from per_byte group
deeper-one = refl

pub deeper-off : walk_from (w 26) 0 1 2 ≡ leaves (0 ∷ []) 0
unfolding walk_from walk_below run found reached kind_of all_of next_of look_at arrive first_for advance descended drawn leaf_of byte_distance count upto from per_byte group
deeper-off = refl

pub deeper-two : walk_from (w 26) 0 2 2 ≡ leaves (8 ∷ []) 0
unfolding walk_from walk_below run found reached kind_of all_of next_of look_at arrive first_for advance descended drawn leaf_of byte_distance count upto from per_byte group
deeper-two = refl

-- with one node alone an exact descent below the first stops, and so does a walk through its children
pub deeper-short : (walk_from (w 27) 0 1 1 ≡ broken) × (walk_from (w 27) 0 2 1 ≡ broken)
unfolding walk_from walk_below run found reached kind_of all_of next_of look_at arrive first_for advance descended drawn leaf_of byte_distance count upto from per_byte group
deeper-short = (refl, refl)

-- ---- the nodes
near-one : near 2 1 t (181 ∷ 27 ∷ []) ≡ 0 ∷ 1 ∷ 2 ∷ []
unfolding near near_k byte_distance count upto from per_byte group
near-one = refl

near-off : near 2 1 t (181 ∷ 26 ∷ []) ≡ 0 ∷ 1 ∷ []
unfolding near near_k byte_distance count upto from per_byte group
near-off = refl

pub deeper-trail : trail_from (w 27) 0 1 ≡ 0 ∷ 1 ∷ 2 ∷ []
deeper-trail = right-trail (w 27) page_table 8 16 (omega arith) (query 27 (omega arith)) t 1 holds sound fits (omega arith) (omega arith) ∙ near-one

pub deeper-trail-off : trail_from (w 26) 0 1 ≡ 0 ∷ 1 ∷ []
deeper-trail-off = right-trail (w 26) page_table 8 16 (omega arith) (query 26 (omega arith)) t 1 holds sound fits (omega arith) (omega arith) ∙ near-off

-- ---- the steps to node 1, which lead there
step-one : found (w 27) 0 (record { cursor = record { at = 11; last = 13; link = 2 }; radius = 1 }) ≡ Some (Leaf (exact_from (w 27) 1 1) 0)
unfolding found reached kind_of next_of look_at byte_distance count upto from per_byte group
step-one = refl

step-two : found (w 27) 0 (record { cursor = record { at = 11; last = 13; link = 2 }; radius = 2 }) ≡ Some (Down 1 1 0)
unfolding found reached kind_of next_of look_at byte_distance count upto from per_byte group
step-two = refl
