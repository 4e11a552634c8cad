-- The parts of a sound trie, taken apart and put together; weaker bounds.
use Prim.Native.Nat.{ℕ, suc, ◌≤◌, ◌<◌}
use native.Mathlib.Omega.{arith}
use mathlib.Core.Path.{◌≡◌, refl}
use mathlib.Core.Bool.{true}
use mathlib.Core.List.{List}
use lib.Dec.{ltb, eqb}
use borrow.Author.Tests.{ltb-true, lt-ltb, leb-true, le-leb}
use Rattle.meaning.specs.Lists.{all}
use Rattle.meaning.specs.Sketch.{packable}
use Rattle.meaning.specs.Trie.{Tree, inner, Children, none, child, byte_at, pages_in}
use Rattle.trie_laws.specs.Sound.{filled, sound_trie, sound_from}
use Rattle.meaning.proofs.Lists.{and_intro, and_first, and_second}

module _ (bytes_of : ℕ → List ℕ) (b n len k : ℕ) where
  -- an inner node
  pub record SoundInner (cs : Children) : Type 0 where
    pub level : k < len
    pub children_b : sound_from bytes_of b n len k 0 cs ≡ true

  pub inner-parts : (cs : Children) → sound_trie bytes_of b n len k (inner cs) ≡ true → SoundInner cs
  unfolding sound_trie
  inner-parts cs h = record { level = ltb-true k len (search and_first); children_b = search (and_first, and_second) }

  pub inner-whole : (cs : Children) → SoundInner cs → sound_trie bytes_of b n len k (inner cs) ≡ true
  unfolding sound_trie
  inner-whole cs s = and_intro (ltb k len) (sound_from bytes_of b n len k 0 cs) (lt-ltb k len s.level) s.children_b

  -- a tree that can stand below byte c
  pub record SoundBelow (c : ℕ) (t : Tree) : Type 0 where
    pub packing : packable b n k c ≡ true
    pub full : filled t ≡ true
    pub path : all (λ p. eqb (byte_at bytes_of k p) c) (pages_in t) ≡ true
    pub sub : sound_trie bytes_of b n len (suc k) t ≡ true

  -- it does, with those after it
  pub record SoundChild (lo c : ℕ) (t : Tree) (cs : Children) : Type 0 where
    pub rising : lo ≤ c
    pub here : SoundBelow c t
    pub rest : sound_from bytes_of b n len k (suc c) cs ≡ true

  module _ (lo c : ℕ) (t : Tree) (cs : Children) where
    pub child-parts : sound_from bytes_of b n len k lo (child c t cs) ≡ true → SoundChild lo c t cs
    unfolding sound_trie
    child-parts h =
        record {
          rising = leb-true lo c (search and_first);
          here = record {
            packing = search (and_first, and_second);
            full = search (and_first, and_second);
            path = search (and_first, and_second);
            sub = search (and_first, and_second);
          };
          rest = search (and_first, and_second);
        }

    pub child-whole : SoundChild lo c t cs → sound_from bytes_of b n len k lo (child c t cs) ≡ true
    unfolding sound_trie
    child-whole s = rw (le-leb lo c s.rising, s.here.packing, s.here.full, s.here.path, s.here.sub, s.rest) refl

  -- from a lower byte on
  pub lower : (lo hi : ℕ) (cs : Children) → lo ≤ hi → sound_from bytes_of b n len k hi cs ≡ true → sound_from bytes_of b n len k lo cs ≡ true
  unfolding sound_trie
  lower lo hi none l h = refl
  lower lo hi (child c t cs) l h =
      let s = child-parts hi c t cs h in
      child-whole lo c t cs (record { rising = omega (arith, s.rising); here = s.here; rest = s.rest })

  -- a new child at the end, before another, in another's stead; others behind a child
  pub sound-last : (lo y : ℕ) (u : Tree) → lo ≤ y → SoundBelow y u → sound_from bytes_of b n len k lo (child y u none) ≡ true
  unfolding sound_trie
  sound-last lo y u l f = child-whole lo y u none (record { rising = l; here = f; rest = refl })

  module _ (lo c : ℕ) (t : Tree) (cs : Children) (h : sound_from bytes_of b n len k lo (child c t cs) ≡ true) where
    pub sound-before : (y : ℕ) (u : Tree) → lo ≤ y → y < c → SoundBelow y u → sound_from bytes_of b n len k lo (child y u (child c t cs)) ≡ true
    sound-before y u l m f =
        let s = child-parts lo c t cs h in
        child-whole lo y u (child c t cs)
        (record { rising = l; here = f; rest = child-whole (suc y) c t cs (record { rising = m; here = s.here; rest = s.rest }) })

    pub sound-instead : (u : Tree) → SoundBelow c u → sound_from bytes_of b n len k lo (child c u cs) ≡ true
    sound-instead u f =
        let s = child-parts lo c t cs h in
        child-whole lo c u cs (record { rising = s.rising; here = f; rest = s.rest })

    pub sound-behind : (ds : Children) → sound_from bytes_of b n len k (suc c) ds ≡ true → sound_from bytes_of b n len k lo (child c t ds) ≡ true
    sound-behind ds r =
        let s = child-parts lo c t cs h in
        child-whole lo c t ds (record { rising = s.rising; here = s.here; rest = r })
