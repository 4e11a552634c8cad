-- A walk that tests each leaf's pages against the path that led there finds a trie sound exactly where it is.
use Prim.Native.Nat.{ℕ, suc, ◌+◌}
use native.Mathlib.Omega.{arith}
use native.Mathlib.Nat.{zero-add, add-zero}
use mathlib.Core.Path.{◌≡◌, refl, sym, ap, ◌∙◌, fun_ext}
use mathlib.Core.Bool.{Bool, true, false, ◌&&◌, and-true, and_assoc}
use mathlib.Core.List.{List, [], ◌∷◌, ◌++◌}
use lib.Dec.{ltb, leb, eqb}
use lib.ListN.{length, length-append}
use Rattle.meaning.specs.Lists.{all}
use Rattle.meaning.specs.Sketch.{packable}
use Rattle.meaning.specs.Trie.{Tree, leaf, inner, Children, none, child, byte_at, pages_in, pages_among}
use Rattle.trie_laws.specs.Sound.{filled, sound_trie, sound_from}
use Rattle.trie_laws.specs.Path.{follows}
use Rattle.trie_laws.specs.Walk.{sound_walk, walk_from}
use Rattle.meaning.proofs.Lists.{all_append}
use Rattle.trie_laws.proofs.Lists.{all_true}
use Rattle.trie_laws.proofs.Path.{shift}

-- a path with one byte more
pub follows-snoc : (bytes_of : ℕ → List ℕ) (k : ℕ) (ys : List ℕ) (c p : ℕ) →
    follows bytes_of k (ys ++ c ∷ []) p ≡ follows bytes_of k ys p && eqb (byte_at bytes_of (k + length ys) p) c
unfolding follows
follows-snoc bytes_of k [] c p = rw (add-zero k) (and-true (eqb (byte_at bytes_of k p) c))
follows-snoc bytes_of k (y ∷ ys) c p =
    rw (follows-snoc bytes_of (suc k) ys c p, shift k (length ys))
    (sym (and_assoc (eqb (byte_at bytes_of k p) y) (follows bytes_of (suc k) ys p) (eqb (byte_at bytes_of (suc k + length ys) p) c)))

all-and : (q r : ℕ → Bool) (xs : List ℕ) → all (λ x. q x && r x) xs ≡ all q xs && all r xs
unfolding all
all-and q r [] = refl
all-and q r (x ∷ xs) = rw (all-and q r xs) (order (q x) (r x) (all q xs) (all r xs))
  where
    order : (a b c d : Bool) → a && b && (c && d) ≡ a && c && (b && d)
    order true true c d = refl
    order true false true d = refl
    order true false false d = refl
    order false b c d = refl

-- both tests of a child, in another order
order : (a b c d e f g h : Bool) → a && (b && (c && (d && (e && f) && (g && h)))) ≡ a && (b && (c && (f && (d && g)))) && (e && h)
order false b c d e f g h = refl
order true false c d e f g h = refl
order true true false d e f g h = refl
order true true true false e true g h = refl
order true true true false e false g h = refl
order true true true true true true g h = refl
order true true true true true false g h = refl
order true true true true false true true h = refl
order true true true true false true false h = refl
order true true true true false false g h = refl

snoc-length : (ys : List ℕ) (c : ℕ) → length (ys ++ c ∷ []) ≡ suc (length ys)
snoc-length ys c = omega (arith, length-append ys (c ∷ []))

module _ (bytes_of : ℕ → List ℕ) (b n len : ℕ) where
  below-path : (k : ℕ) (ys : List ℕ) (c : ℕ) (ps : List ℕ) → length ys ≡ k →
      all (follows bytes_of 0 (ys ++ c ∷ [])) ps ≡ all (follows bytes_of 0 ys) ps && all (λ p. eqb (byte_at bytes_of k p) c) ps
  below-path k ys c ps e =
      ap (λ (q : ℕ → Bool). all q ps) (fun_ext (λ p. follows-snoc bytes_of 0 ys c p))
      ∙ rw (zero-add (length ys), e) (all-and (follows bytes_of 0 ys) (λ p. eqb (byte_at bytes_of k p) c) ps)

  mutual
    unfolding sound_trie sound_walk pages_in all

    pub walk-tree : (k : ℕ) (ys : List ℕ) (t : Tree) → length ys ≡ k →
        sound_walk bytes_of b n len k ys t ≡ sound_trie bytes_of b n len k t && all (follows bytes_of 0 ys) (pages_in t)
    walk-tree k ys (leaf ps) e = refl
    walk-tree k ys (inner cs) e =
        rw (walk_from_lem k ys 0 cs e) (sym (and_assoc (ltb k len) (sound_from bytes_of b n len k 0 cs) (all (follows bytes_of 0 ys) (pages_among cs))))

    pub walk_from_lem : (k : ℕ) (ys : List ℕ) (lo : ℕ) (cs : Children) → length ys ≡ k →
        walk_from bytes_of b n len k ys lo cs ≡ sound_from bytes_of b n len k lo cs && all (follows bytes_of 0 ys) (pages_among cs)
    walk_from_lem k ys lo none e = refl
    walk_from_lem k ys lo (child c t cs) e =
        rw (
          walk-tree (suc k) (ys ++ c ∷ []) t (snoc-length ys c ∙ ap suc e),
          walk_from_lem k ys (suc c) cs e,
          below-path k ys c (pages_in t) e,
          all_append (follows bytes_of 0 ys) (pages_in t) (pages_among cs),
        )
        (order (leb lo c) (packable b n k c) (filled t) (sound_trie bytes_of b n len (suc k) t) (all (follows bytes_of 0 ys) (pages_in t))
        (all (λ p. eqb (byte_at bytes_of k p) c) (pages_in t)) (sound_from bytes_of b n len k (suc c) cs) (all (follows bytes_of 0 ys) (pages_among cs)))

  pub walk-sound : (t : Tree) → sound_walk bytes_of b n len 0 [] t ≡ sound_trie bytes_of b n len 0 t
  unfolding follows
  walk-sound t =
      walk-tree 0 [] t refl ∙ rw (all_true (λ p. true) (pages_in t) (λ p. refl)) (and-true (sound_trie bytes_of b n len 0 t))
