-- A page put into a leaf: the leaf splits, or it stays a leaf.
use Prim.Native.Nat.{ℕ, ◌<◌}
use mathlib.Core.Path.{◌≡◌, refl}
use mathlib.Core.Bool.{true, false}
use mathlib.Core.List.{List, ◌∷◌}
use lib.ListN.{length}
use borrow.Author.Tests.{ltb-true}
use Rattle.meaning.specs.Trie.{leaf, inner, none, split, add_leaf}
use Rattle.trie_laws.specs.Needed.{splits}
use Rattle.meaning.proofs.Lists.{and_first}

-- only below the packed length
pub splits-level : (len : ℕ) (thresholds : List ℕ) (k size : ℕ) → splits len thresholds k size ≡ true → k < len
unfolding splits
splits-level len thresholds k size h = ltb-true k len (search and_first)

module _ (bytes_of : ℕ → List ℕ) (len : ℕ) (thresholds : List ℕ) (k p : ℕ) (ps : List ℕ) where
  pub add-splits : splits len thresholds k (length (p ∷ ps)) ≡ true → add_leaf bytes_of len thresholds k p ps ≡ inner (split bytes_of k (p ∷ ps) none)
  unfolding add_leaf splits
  add-splits h = rw h refl

  pub add-stays : splits len thresholds k (length (p ∷ ps)) ≡ false → add_leaf bytes_of len thresholds k p ps ≡ leaf (p ∷ ps)
  unfolding add_leaf splits
  add-stays h = rw h refl
