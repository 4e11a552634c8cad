-- The distance of two packed bytes, read from their exclusive or, is the number of their symbols that differ;
-- so the distance of two sketches is the sum of the distances of their packed bytes.
use Prim.Native.Nat.{ℕ, zero, suc, ◌+◌, ◌*◌, ◌/◌, ◌%◌, ◌^◌, ◌≤◌, ◌<◌}
use native.Mathlib.Omega.{arith}
use native.Mathlib.Nat.{not-suc-le-zero, zero-div, zero-mod}
use mathlib.Core.Path.{◌≡◌, refl, sym, ap, ap₂, ◌∙◌}
use mathlib.Core.Bool.{Bool, true, false, cond, not}
use mathlib.Core.List.{List, [], ◌∷◌}
use lib.Dec.{eqb}
use lib.Bits.{bit_xor, xor_shr, xor_mod, xor_self, xor_add_and, and_le_l, and_le_r}
use lib.ListN.{length, get_or, take, drop, length-take, length-drop}
use borrow.Author.Tests.{eqb-true, eqb-false, eq-eqb, ne_eqb}
use Rattle.meaning.specs.Lists.{count, from, upto}
use Rattle.meaning.specs.Sketch.{distance, in_range, per_byte, packed_length, pack_byte, pack_bytes, pack, group, byte_distance}
use Rattle.meaning.proofs.Lists.{count-upto}
use Rattle.sketch_laws.specs.Packed.{group_distance, sum_pairs, packed_distance}
use Rattle.sketch_laws.proofs.Lists.{count-suc, count-upto-le, count_same, count_none}
use Rattle.sketch_laws.proofs.Packing.{range-take, range-drop, group-byte, per-byte-pos, packed-covers}
use Rattle.sketch_laws.proofs.Distance.{distance-le, distance-split}

-- ---- the exclusive or
pub xor-group : (b v w i : ℕ) → group b (bit_xor v w) i ≡ bit_xor (group b v i) (group b w i)
unfolding group
xor-group b v w i =
    ap (λ (n : ℕ). n % 2 ^ b) (xor_shr v w (b * i)) ∙ xor_mod (v / 2 ^ (b * i)) (w / 2 ^ (b * i)) b

pub xor-zero : (x y : ℕ) → bit_xor x y ≡ 0 → x ≡ y
xor-zero x y e = omega (arith, xor_add_and x y, and_le_l x y, and_le_r x y)

-- it is 0 exactly for equal numbers
pub xor-eqb : (x y : ℕ) → eqb (bit_xor x y) 0 ≡ eqb x y
xor-eqb x y = go (eqb x y) refl
  where
    go : (t : Bool) → eqb x y ≡ t → eqb (bit_xor x y) 0 ≡ t
    go true e = eq-eqb (bit_xor x y) 0 (ap (bit_xor x) (sym (eqb-true x y e)) ∙ xor_self x)
    go false e = ne_eqb (bit_xor x y) 0 (λ q. eqb-false x y e (xor-zero x y q))

-- ---- one byte
cond-not : (t : Bool) → ◌≡◌ {A = ℕ} (cond (not t) 1 0) (cond t 0 1)
cond-not true = refl
cond-not false = refl

pub byte-distance : (b v w : ℕ) → byte_distance b (bit_xor v w) ≡ count (λ i. not (eqb (group b v i) (group b w i))) (upto (per_byte b))
unfolding byte_distance
byte-distance b v w =
    count_same (λ i. not (eqb (group b (bit_xor v w) i) 0)) (λ i. not (eqb (group b v i) (group b w i))) (per_byte b)
    (λ i l. rw (xor-group b v w i, xor-eqb (group b v i) (group b w i)))

pub group-distance-all : (b v : ℕ) → group_distance b v (per_byte b) ≡ byte_distance b v
unfolding group_distance byte_distance
group-distance-all b v = refl

pub group-distance-none : (b v : ℕ) → group_distance b v 0 ≡ 0
unfolding group_distance count upto from
group-distance-none b v = refl

-- one group more
pub group-distance-suc : (b v i : ℕ) → group_distance b v (suc i) ≡ group_distance b v i + cond (eqb (group b v i) 0) 0 1
unfolding group_distance
group-distance-suc b v i =
    count-suc (λ j. not (eqb (group b v j) 0)) i
    ∙ ap (λ (n : ℕ). count (λ j. not (eqb (group b v j) 0)) (upto i) + n) (cond-not (eqb (group b v i) 0))

pub group-distance-le : (b v i : ℕ) → i ≤ per_byte b → group_distance b v i ≤ byte_distance b v
unfolding group_distance byte_distance
group-distance-le b v i h = count-upto-le (λ j. not (eqb (group b v j) 0)) i (per_byte b) h

pub byte-distance-le : (b v : ℕ) → byte_distance b v ≤ per_byte b
unfolding byte_distance
byte-distance-le b v = count-upto (λ i. not (eqb (group b v i) 0)) (per_byte b)

pub byte-distance-zero : (b : ℕ) → byte_distance b 0 ≡ 0
unfolding byte_distance group
byte-distance-zero b = count_none (λ i. not (eqb (group b 0 i) 0)) (per_byte b) (λ i l. rw (zero-div (2 ^ (b * i)), zero-mod (2 ^ b)))

count-shift : (p : ℕ → Bool) (k n : ℕ) → count p (from (suc k) n) ≡ count (λ i. p (suc i)) (from k n)
unfolding count from
count-shift p k zero = refl
count-shift p k (suc n) = ap (λ (c : ℕ). cond (p (suc k)) 1 0 + c) (count-shift p (suc k) n)

-- the places where two lists differ, counted; past their ends they do not
count-other : (n : ℕ) (cs ds : List ℕ) → length cs ≡ length ds → length cs ≤ n
    → count (λ i. not (eqb (get_or cs i 0) (get_or ds i 0))) (upto n) ≡ distance cs ds
unfolding count upto from distance
count-other n [] [] e h = count_none (λ i. not (eqb 0 0)) n (λ i l. refl)
count-other n [] (d ∷ ds) e h = absurd (omega arith)
count-other n (c ∷ cs) [] e h = absurd (omega arith)
count-other zero (c ∷ cs) (d ∷ ds) e h = absurd (not-suc-le-zero h)
count-other (suc n) (c ∷ cs) (d ∷ ds) e h =
    ap₂ (λ (x y : ℕ). x + y) (cond-not (eqb c d))
    (count-shift (λ i. not (eqb (get_or (c ∷ cs) i 0) (get_or (d ∷ ds) i 0))) 0 n ∙ count-other n cs ds (omega arith) (omega arith))

-- the distance of two packed bytes is that of their symbols
pub byte-distance-symbols : (b : ℕ) (cs ds : List ℕ) → length cs ≡ length ds → length cs ≤ per_byte b → in_range b cs ≡ true → in_range b ds ≡ true
    → byte_distance b (bit_xor (pack_byte b cs) (pack_byte b ds)) ≡ distance cs ds
byte-distance-symbols b cs ds e h r s =
    byte-distance b (pack_byte b cs) (pack_byte b ds)
    ∙ count_same
    (λ i. not (eqb (group b (pack_byte b cs) i) (group b (pack_byte b ds) i)))
    (λ i. not (eqb (get_or cs i 0) (get_or ds i 0)))
    (per_byte b)
    (λ i l. rw (group-byte b i cs r, group-byte b i ds s))
    ∙ count-other (per_byte b) cs ds e h

-- ---- all bytes
packs-distance : (b n : ℕ) (xs ys : List ℕ) → length xs ≡ length ys → length xs ≤ n * per_byte b → in_range b xs ≡ true → in_range b ys ≡ true
    → packed_distance b (pack_bytes b n xs) (pack_bytes b n ys) ≡ distance xs ys
unfolding pack_bytes packed_distance sum_pairs
packs-distance b zero xs ys e h r s = omega (arith, distance-le xs ys)
packs-distance b (suc n) xs ys e h r s =
    let z : ℕ = per_byte b in
    ap₂ (λ (d t : ℕ). d + t)
    (byte-distance-symbols b (take z xs) (take z ys)
    (omega (arith, length-take z xs, length-take z ys)) (omega (arith, length-take z xs))
    (range-take b z xs r) (range-take b z ys s))
    (packs-distance b n (drop z xs) (drop z ys)
    (omega (arith, length-drop z xs, length-drop z ys)) (omega (arith, length-drop z xs))
    (range-drop b z xs r) (range-drop b z ys s))
    ∙ sym (distance-split z xs ys)

-- the distance of two sketches is that of their packings
pub distance-packed : (b : ℕ) (xs ys : List ℕ) → 0 < b → b ≤ 8 → length xs ≡ length ys → in_range b xs ≡ true → in_range b ys ≡ true
    → distance xs ys ≡ packed_distance b (pack b xs) (pack b ys)
unfolding pack
distance-packed b xs ys lo hi e r s =
    let n : ℕ = packed_length b (length xs) in
    sym (packs-distance b n xs ys e (packed-covers b (per-byte-pos b lo hi) (length xs)) r s)
    ∙ ap (λ (m : ℕ). packed_distance b (pack_bytes b n xs) (pack_bytes b (packed_length b m) ys)) e
