-- A small trie, computed: the laws' hypotheses can be met. Eight symbols of 2 bits, two bytes, thresholds of one page.
use Prim.Native.Nat.{ℕ, ◌+◌, ◌*◌, ◌/◌, ◌%◌}
use native.Mathlib.Omega.{arith}
use mathlib.Core.Path.{◌≡◌, refl, ap}
use mathlib.Core.Bool.{true, false≢true}
use mathlib.Core.List.{List, [], ◌∷◌}
use lib.ListN.{length}
use Rattle.meaning.specs.Lists.{all, any, from, upto}
use Rattle.meaning.specs.Sketch.{per_byte, symbols_at, packable}
use Rattle.meaning.specs.Trie.{Tree, leaf, inner, none, child, fresh, without, push, put_leaf, prune, shrunk, byte_at, split, remove, add_leaf, insert, pages_in, nodes, has_child, pruned}
use Rattle.trie_laws.specs.Sound.{filled, packs, sound_trie}
use Rattle.trie_laws.specs.Needed.{distinct_from, distinct, splits, split_nodes, needed, frees}
use Rattle.trie_laws.specs.Path.{child_by, below, is_leaf, subtree, path_of, depth}
use Rattle.trie_laws.proofs.Back.{back-same}

abbrev bytes : ℕ → List ℕ
bytes p = p % 10 ∷ p / 10 ∷ []

-- pages 12 and 22 have the same first byte, 13 another
abbrev three : Tree
three = inner (child 2 (leaf (12 ∷ 22 ∷ [])) (child 3 (leaf (13 ∷ [])) none))

grown : insert bytes 2 (1 ∷ 1 ∷ []) 0 22 (insert bytes 2 (1 ∷ 1 ∷ []) 0 13 fresh) ≡ inner (child 2 (leaf (22 ∷ [])) (child 3 (leaf (13 ∷ [])) none))
unfolding fresh insert add_leaf split put_leaf push byte_at
grown = refl

-- sound, its pages packed; one more makes three nodes
sound : sound_trie bytes 2 8 2 0 three ≡ true
unfolding sound_trie pages_in filled all packable symbols_at per_byte byte_at
sound = refl

packed : all (packs bytes 2 8 2) (32 ∷ pages_in three) ≡ true
unfolding packs pages_in all upto from packable symbols_at per_byte byte_at
packed = refl

makes : needed bytes 2 (1 ∷ 1 ∷ []) 0 32 three ≡ 3
unfolding needed split_nodes splits distinct distinct_from byte_at
makes = refl

made : insert bytes 2 (1 ∷ 1 ∷ []) 0 32 three ≡
    inner (child 2 (inner (child 1 (leaf (12 ∷ [])) (child 2 (leaf (22 ∷ [])) (child 3 (leaf (32 ∷ [])) none)))) (child 3 (leaf (13 ∷ [])) none))
unfolding insert add_leaf split put_leaf push byte_at
made = refl

-- the path of a page, and its leaf's end
reached : subtree (path_of bytes 0 13 (depth bytes 0 13 three)) three ≡ leaf (13 ∷ [])
unfolding subtree below child_by path_of depth byte_at
reached = refl

gone : remove bytes 0 13 three ≡ inner (child 2 (leaf (12 ∷ 22 ∷ [])) none)
unfolding remove prune shrunk without byte_at
gone = refl

freed : frees bytes 0 13 three ≡ 1
unfolding frees filled remove without byte_at
freed = refl

-- page 14 comes into a leaf of its own, below a new inner node; taken out again it leaves the trie as it was
two_made : needed bytes 2 (1 ∷ 0 ∷ []) 0 14 three ≡ 2
unfolding needed split_nodes splits distinct distinct_from byte_at
two_made = refl

two_gone : remove bytes 0 14 (insert bytes 2 (1 ∷ 0 ∷ []) 0 14 three) ≡ three
unfolding pages_in any subtree path_of depth byte_at is_leaf nodes
two_gone = back-same bytes 2 8 2 (1 ∷ 0 ∷ []) 14 0 three sound refl (λ e. absurd (omega (arith, ap nodes e))) (λ x xs e. absurd (false≢true (ap is_leaf e)))

-- page 123 alone, a node for each of its three bytes: all but the root go with it
abbrev digits : ℕ → List ℕ
digits p = p / 100 ∷ p / 10 % 10 ∷ p % 10 ∷ []

abbrev chain : Tree
chain = inner (child 1 (inner (child 2 (inner (child 3 (leaf (123 ∷ [])) none)) none)) none)

freed-chain : frees digits 0 123 chain ≡ 3
unfolding frees filled remove prune shrunk without byte_at
freed-chain = refl

-- as many nodes as few-nodes allows
sound-chain : sound_trie digits 2 12 3 0 chain ≡ true
unfolding sound_trie pages_in filled all packable symbols_at per_byte byte_at
sound-chain = refl

pruned-chain : pruned chain ≡ true
unfolding pruned has_child
pruned-chain = refl

most : nodes chain ≡ 1 + length (pages_in chain) * 3
unfolding nodes pages_in
most = refl
