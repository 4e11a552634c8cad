-- Soundness as a walk tests it: each leaf's pages against the path of bytes that led there.
use Rattle.std.specs.Prelude.{ℕ, suc, Bool, true, ◌&&◌, List, [], ◌∷◌, ◌++◌, ltb, leb}
use Rattle.meaning.specs.Lists.{all}
use Rattle.meaning.specs.Sketch.{packable}
use Rattle.meaning.specs.Trie.{Tree, leaf, inner, Children, none, child}
use Rattle.trie_laws.specs.Sound.{filled}
use Rattle.trie_laws.specs.Path.{follows}

module _ (bytes_of : ℕ → List ℕ) (b n len : ℕ) where
  unfoldable mutual
    -- a node at level k, below the k bytes ys
    pub sound_walk : ℕ → List ℕ → Tree → Bool
    sound_walk k ys (leaf ps) = all (follows bytes_of 0 ys) ps
    sound_walk k ys (inner cs) = ltb k len && walk_from k ys 0 cs

    pub walk_from : ℕ → List ℕ → ℕ → Children → Bool
    walk_from k ys lo none = true
    walk_from k ys lo (child c t cs) =
        leb lo c && (packable b n k c && (filled t && (sound_walk (suc k) (ys ++ c ∷ []) t && walk_from k ys (suc c) cs)))
