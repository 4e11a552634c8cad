-- The distance of two signatures is at most that of the sketches: the exclusive or of packed bytes is no further from another such
-- exclusive or than the bytes are, added up.
use Prim.Native.Nat.{ℕ, ◌+◌, ◌≤◌, ◌<◌}
use native.Mathlib.Omega.{arith}
use mathlib.Core.Path.{◌≡◌, refl, sym, ap₂, ◌∙◌}
use mathlib.Core.Bool.{Bool, true, false, cond, not}
use mathlib.Core.List.{List, [], ◌∷◌}
use lib.Dec.{eqb}
use lib.Bits.{bit_xor}
use lib.ListN.{length}
use borrow.Author.Tests.{eqb-true, eqb-false}
use Rattle.meaning.specs.Lists.{count, from, upto, sum}
use Rattle.meaning.specs.Sketch.{distance, in_range, per_byte, pack, group, byte_distance}
use Rattle.sketch_laws.specs.Packed.{sum_pairs, packed_distance}
use Rattle.sketch_laws.proofs.Packing.{pack-length}
use Rattle.sketch_laws.proofs.ByteDistance.{xor-group, byte-distance, byte-distance-zero, distance-packed}
use Rattle.layout.specs.Signature.{folded_byte, folded, signature}
use Rattle.signature.specs.Distance.{signature_distance}
use Rattle.signature.proofs.Folded.{packed-range, folded-at}

-- 1 where two numbers differ
abbrev other : ℕ → ℕ → ℕ
other x y = cond (not (eqb x y)) 1 0

-- where two numbers are equal, and two others, so are their exclusive ors
other-xor : (v w x y : ℕ) → other (bit_xor v x) (bit_xor w y) ≤ other v w + other x y
other-xor v w x y = go (eqb v w) (eqb x y) (eqb (bit_xor v x) (bit_xor w y)) refl refl refl
  where
    go : (s t u : Bool) → eqb v w ≡ s → eqb x y ≡ t → eqb (bit_xor v x) (bit_xor w y) ≡ u → cond (not u) 1 0 ≤ cond (not s) 1 0 + cond (not t) 1 0
    go s t true p q r = omega arith
    go false t false p q r = omega arith
    go true false false p q r = omega arith
    go true true false p q r = absurd (eqb-false (bit_xor v x) (bit_xor w y) r (ap₂ bit_xor (eqb-true v w p) (eqb-true x y q)))

count_add : (p q r : ℕ → Bool) → ((i : ℕ) → cond (r i) 1 0 ≤ cond (p i) 1 0 + cond (q i) 1 0)
    → (xs : List ℕ) → count r xs ≤ count p xs + count q xs
unfolding count
count_add p q r h [] = omega arith
count_add p q r h (x ∷ xs) = omega (arith, h x, count_add p q r h xs)

byte-distance-xor : (b v w x y : ℕ)
    → byte_distance b (bit_xor (bit_xor v x) (bit_xor w y)) ≤ byte_distance b (bit_xor v w) + byte_distance b (bit_xor x y)
byte-distance-xor b v w x y =
    rw (byte-distance b (bit_xor v x) (bit_xor w y), byte-distance b v w, byte-distance b x y)
    (count_add
    (λ i. not (eqb (group b v i) (group b w i)))
    (λ i. not (eqb (group b x i) (group b y i)))
    (λ i. not (eqb (group b (bit_xor v x) i) (group b (bit_xor w y) i)))
    (λ i. rw (xor-group b v x i, xor-group b w y i) (other-xor (group b v i) (group b w i) (group b x i) (group b y i)))
    (upto (per_byte b)))

-- ---- folded bytes
abbrev apart : ℕ → List ℕ → List ℕ → ℕ → ℕ
apart b vs ws i = byte_distance b (bit_xor (folded_byte i vs) (folded_byte i ws))

folded-below : (b : ℕ) (vs ws : List ℕ) → length vs ≡ length ws
    → apart b vs ws 0 + apart b vs ws 1 + apart b vs ws 2 + apart b vs ws 3 ≤ packed_distance b vs ws
unfolding folded_byte packed_distance sum_pairs
folded-below b [] [] e = omega (arith, byte-distance-zero b)
folded-below b [] (w ∷ ws) e = absurd (omega arith)
folded-below b (v ∷ vs) [] e = absurd (omega arith)
folded-below b (v ∷ vs) (w ∷ ws) e =
    omega (arith, byte-distance-xor b v w (folded_byte 3 vs) (folded_byte 3 ws), folded-below b vs ws (omega arith))

-- ---- sketches
byte-apart : (b : ℕ) (x y : List ℕ) → in_range b x ≡ true → in_range b y ≡ true → (i : ℕ) → i < 4
    → byte_distance b (group 8 (bit_xor (signature b x) (signature b y)) i) ≡ apart b (pack b x) (pack b y) i
unfolding signature
byte-apart b x y r s i h =
    rw (
      xor-group 8 (folded (pack b x)) (folded (pack b y)) i,
      folded-at i (pack b x) (packed-range b x r) h,
      folded-at i (pack b y) (packed-range b y s) h,
    )

pub signature-below : (b : ℕ) (x y : List ℕ) → 0 < b → b ≤ 8 → length x ≡ length y → in_range b x ≡ true → in_range b y ≡ true
    → signature_distance b (signature b x) (signature b y) ≤ distance x y
unfolding signature_distance sum upto from
signature-below b x y lo hi e r s =
    omega (
      arith,
      byte-apart b x y r s 0 (omega arith),
      byte-apart b x y r s 1 (omega arith),
      byte-apart b x y r s 2 (omega arith),
      byte-apart b x y r s 3 (omega arith),
      folded-below b (pack b x) (pack b y) (pack-length b (length y) x e ∙ sym (pack-length b (length y) y refl)),
      distance-packed b x y lo hi e r s,
    )
