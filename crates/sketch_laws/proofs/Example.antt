-- A trie that computes, so that what the laws of the walk ask for can be met: b 2, m 4, q 1, threshold 1;
-- page 0 has the sketch 0 1 2 3, each other page 0 1 3 2.
use Prim.Native.Nat.{ℕ, zero, suc}
use native.Mathlib.Omega.{arith}
use mathlib.Core.Path.{◌≡◌, refl}
use mathlib.Core.Bool.{true}
use mathlib.Core.List.{List, [], ◌∷◌}
use lib.Dec.{eqb}
use Rattle.meaning.specs.Lists.{all, any, count, from, upto}
use Rattle.meaning.specs.Sketch.{per_byte, packed_length, pack_byte, pack_bytes, pack, group, byte_distance}
use Rattle.meaning.specs.Trie.{Tree, leaf, inner, none, child, fresh, insert, add_leaf, split, put_leaf, byte_at, met, met_in, pages_in, pages_among}
use Rattle.sketch_laws.specs.Packed.{sum_pairs, packed_distance}
use Rattle.sketch_laws.specs.Paths.{OnPath, Shallow}
use Rattle.sketch_laws.proofs.Walk.{met-near}

abbrev bytes : ℕ → List ℕ
bytes zero = 228 ∷ []
bytes (suc p) = 180 ∷ []

packed : (pack 2 (0 ∷ 1 ∷ 2 ∷ 3 ∷ []) ≡ bytes 0) × (pack 2 (0 ∷ 1 ∷ 3 ∷ 2 ∷ []) ≡ bytes 1)
unfolding pack pack_bytes pack_byte packed_length per_byte
packed = (refl, refl)

-- after both pages have been added
abbrev grown : Tree
grown = inner (child 180 (leaf (1 ∷ [])) (child 228 (leaf (0 ∷ [])) none))

grows : insert bytes 1 (1 ∷ []) 0 1 (insert bytes 1 (1 ∷ []) 0 0 fresh) ≡ grown
unfolding fresh insert add_leaf split put_leaf byte_at
grows = refl

on-path : OnPath bytes 0 grown
unfolding byte_at all pages_in
on-path = (refl, tt, (refl, tt, tt))

shallow : Shallow 1 0 grown
shallow = (omega arith, (tt, (tt, tt)))

-- the sketches differ in two symbols: a walk within 1 meets one page, and one within 2 also meets the other
apart : met 2 1 grown (bytes 1) ≡ 1 ∷ []
unfolding met met_in byte_distance count upto from group per_byte
apart = refl

near : any (eqb 0) (met 2 2 grown (bytes 1)) ≡ true
unfolding any pages_in pages_among packed_distance sum_pairs byte_distance count upto from group per_byte
near = met-near bytes 2 2 0 0 grown (bytes 1) on-path shallow refl refl (omega arith)
