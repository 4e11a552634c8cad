-- In a sound trie each page stands on its bytes' path, and inner nodes are above the packed length.
use Prim.Native.Nat.{ℕ, suc}
use mathlib.Core.Path.{◌≡◌}
use mathlib.Core.Bool.{true}
use mathlib.Core.List.{List}
use Rattle.meaning.specs.Trie.{Tree, leaf, inner, Children, none, child}
use Rattle.sketch_laws.specs.Paths.{OnPath, OnPathUnder, Shallow, ShallowUnder}
use Rattle.trie_laws.specs.Sound.{sound_trie, sound_from}
use Rattle.trie_laws.proofs.Sound.{inner-parts, child-parts}

module _ (bytes_of : ℕ → List ℕ) (b n len : ℕ) where
  mutual
    pub sound-path : (t : Tree) (k : ℕ) → sound_trie bytes_of b n len k t ≡ true → OnPath bytes_of k t
    sound-path (leaf ps) k h = tt
    sound-path (inner cs) k h = path-under cs k 0 (inner-parts bytes_of b n len k cs h).children_b

    path-under : (cs : Children) (k lo : ℕ) → sound_from bytes_of b n len k lo cs ≡ true → OnPathUnder bytes_of k cs
    path-under none k lo h = tt
    path-under (child c t cs) k lo h =
        let parts = child-parts bytes_of b n len k lo c t cs h in
        (parts.here.path, sound-path t (suc k) parts.here.sub, path-under cs k (suc c) parts.rest)

  mutual
    pub sound-shallow : (t : Tree) (k : ℕ) → sound_trie bytes_of b n len k t ≡ true → Shallow len k t
    sound-shallow (leaf ps) k h = tt
    sound-shallow (inner cs) k h =
        let parts = inner-parts bytes_of b n len k cs h in
        (parts.level, shallow-under cs k 0 parts.children_b)

    shallow-under : (cs : Children) (k lo : ℕ) → sound_from bytes_of b n len k lo cs ≡ true → ShallowUnder len k cs
    shallow-under none k lo h = tt
    shallow-under (child c t cs) k lo h =
        let parts = child-parts bytes_of b n len k lo c t cs h in
        (sound-shallow t (suc k) parts.here.sub, shallow-under cs k (suc c) parts.rest)
