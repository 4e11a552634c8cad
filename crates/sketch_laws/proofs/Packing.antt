-- Packing and unpacking undo each other, on exactly the bytes that packing gives (crate meaning, Sketch.antt).
-- Each law is over the bits a symbol, b.
use Prim.Native.Nat.{ℕ, zero, suc, ◌+◌, ◌*◌, ◌-◌, ◌/◌, ◌%◌, ◌^◌, ◌≤◌, ◌<◌}
use native.Mathlib.Omega.{arith}
use native.Mathlib.Nat.{div-zero, le-mul_of_pos_right, not-suc-le-zero, not-le_of_lt, lt_of_lt_of_le, eq-zero-or-pos, le-div_iff_mul-le, div-mul-le_self, div-add-mod', mod-lt, mod-eq_of_lt, mul-le-mul_left, mul-le-mul_right, min-le_left, mul-zero, mul-suc, mul_comm, zero-mul, div-div-eq-div-mul, zero-add, zero-div, zero-mod, div-one, mod-one, add-mul-mod_self_left, add-mul-div_left, div-eq_of_lt, add_comm}
use native.Mathlib.Decide.{dec_le, dec_lt}
use mathlib.Core.Path.{◌≡◌, refl, sym, ap, ◌∙◌}
use mathlib.Core.Logic.{◌↔◌, ⊎_elim, by_cases}
use mathlib.Core.Bool.{true, false}
use mathlib.Core.List.{List, [], ◌∷◌, ◌++◌, map, map-append}
use lib.Dec.{ltb}
use lib.ListN.{length, get_or, take, drop, length-map, length-take, length-drop, drop_of_length-le, get_or-eq_default}
use lib.Seq.{take-nil, take-suc, drop-cons, length-take-le, get_or-take, get_or-drop, drop-drop, ext_get_or}
use lib.Arith.{digits_div, digits_mod}
use lib.Pow.{pow_pos, pow_mono, pow-add, mod-pow-add}
use borrow.Author.Tests.{ltb-true, lt-ltb}
use Rattle.meaning.specs.Lists.{all, from, upto}
use Rattle.meaning.specs.Sketch.{in_range, per_byte, packed_length, pack_byte, pack_bytes, pack, group, symbols_at, packable, all_packable, unpack}
use Rattle.sketch_laws.specs.Packed.{symbols_of}
use Rattle.meaning.proofs.Lists.{not_so, and_intro, and_first, and_second, length-upto, upto-suc, upto-at, upto_all, all-upto}

-- ---- symbols in range
module _ (b : ℕ) where
  pub range_at : (i : ℕ) (xs : List ℕ) → in_range b xs ≡ true → get_or xs i 0 < 2 ^ b
  unfolding in_range all
  range_at i [] r = pow_pos b
  range_at zero (x ∷ xs) r = ltb-true x (2 ^ b) (and_first (ltb x (2 ^ b)) (in_range b xs) r)
  range_at (suc i) (x ∷ xs) r = range_at i xs (and_second (ltb x (2 ^ b)) (in_range b xs) r)

  pub range-of : (xs : List ℕ) → ((i : ℕ) → i < length xs → get_or xs i 0 < 2 ^ b) → in_range b xs ≡ true
  unfolding in_range all
  range-of [] h = refl
  range-of (x ∷ xs) h =
      and_intro (ltb x (2 ^ b)) (in_range b xs) (lt-ltb x (2 ^ b) (h 0 (omega arith))) (range-of xs (λ i l. h (suc i) (omega arith)))

  pub range-take : (n : ℕ) (xs : List ℕ) → in_range b xs ≡ true → in_range b (take n xs) ≡ true
  range-take n xs r =
      range-of (take n xs)
      (λ i l. rw (get_or-take n xs i 0 (omega (arith, length-take n xs))) (range_at i xs r))

  pub range-drop : (n : ℕ) (xs : List ℕ) → in_range b xs ≡ true → in_range b (drop n xs) ≡ true
  range-drop n xs r = range-of (drop n xs) (λ i l. rw (get_or-drop n xs i 0) (range_at (n + i) xs r))

  pub range-symbols : (k : ℕ) (xs : List ℕ) → in_range b xs ≡ true → in_range b (symbols_of b k xs) ≡ true
  range-symbols k xs r = range-take (per_byte b) (drop (k * per_byte b) xs) (range-drop (k * per_byte b) xs r)

  pub range-not : (i : ℕ) (xs : List ℕ) → 2 ^ b ≤ get_or xs i 0 → in_range b xs ≡ false
  range-not i xs h = not_so (in_range b xs) (λ r. not-le_of_lt (range_at i xs r) h)

-- ---- one byte
module _ (b : ℕ) where
  -- one symbol more
  width-suc : (n : ℕ) → 2 ^ (b * suc n) ≡ 2 ^ (b * n) * 2 ^ b
  width-suc n = ap (λ (e : ℕ). 2 ^ e) (mul-suc b n) ∙ pow-add 2 (b * n) b

  pub byte-append : (cs ds : List ℕ) → pack_byte b (cs ++ ds) ≡ pack_byte b cs + 2 ^ (b * length cs) * pack_byte b ds
  unfolding pack_byte
  byte-append [] ds = rw (mul-zero b) (omega arith)
  byte-append (c ∷ cs) ds = rw (byte-append cs ds, width-suc (length cs)) (omega arith)

  -- one symbol more, from either end
  pub byte-suc : (i : ℕ) (cs : List ℕ) → i < length cs → pack_byte b (take (suc i) cs) ≡ pack_byte b (take i cs) + get_or cs i 0 * 2 ^ (b * i)
  unfolding pack_byte
  byte-suc i cs h =
      ap (pack_byte b) (take-suc cs i 0 h) ∙ byte-append (take i cs) (get_or cs i 0 ∷ []) ∙ rw (length-take-le i cs (omega arith)) (omega arith)

  pub byte-drop : (i : ℕ) (cs : List ℕ) → i < length cs → pack_byte b (drop i cs) ≡ get_or cs i 0 + 2 ^ b * pack_byte b (drop (suc i) cs)
  unfolding pack_byte
  byte-drop i cs h = rw (drop-cons cs i 0 h)

  pub byte-lt : (cs : List ℕ) → in_range b cs ≡ true → pack_byte b cs < 2 ^ (b * length cs)
  unfolding pack_byte in_range all
  byte-lt [] r = pow_pos (b * 0)
  byte-lt (c ∷ cs) r =
      let h : c < 2 ^ b = range_at b 0 (c ∷ cs) r in
      let l : pack_byte b cs < 2 ^ (b * length cs) = byte-lt cs (and_second (ltb c (2 ^ b)) (in_range b cs) r) in
      omega (arith, width-suc (length cs), mul-le-mul_left (2 ^ b) l)

  group-tail : (c v i : ℕ) → c < 2 ^ b → group b (c + 2 ^ b * v) (suc i) ≡ group b v i
  unfolding group
  group-tail c v i h =
      rw (width-suc i, mul_comm (2 ^ (b * i)) (2 ^ b), ← div-div-eq-div-mul (c + 2 ^ b * v) (2 ^ b) (2 ^ (b * i)), add-mul-div_left c v (pow_pos b), div-eq_of_lt h, zero-add v)

  -- the symbols of a byte are its groups
  pub group-byte : (i : ℕ) (cs : List ℕ) → in_range b cs ≡ true → group b (pack_byte b cs) i ≡ get_or cs i 0
  unfolding group pack_byte in_range all
  group-byte i [] r = rw (zero-div (2 ^ (b * i)), zero-mod (2 ^ b))
  group-byte zero (c ∷ cs) r =
      rw (mul-zero b, div-one (c + 2 ^ b * pack_byte b cs), add-mul-mod_self_left c (2 ^ b) (pack_byte b cs))
      (mod-eq_of_lt (range_at b 0 (c ∷ cs) r))
  group-byte (suc i) (c ∷ cs) r =
      group-tail c (pack_byte b cs) i (range_at b 0 (c ∷ cs) r) ∙ group-byte i cs (and_second (ltb c (2 ^ b)) (in_range b cs) r)

  -- the s lowest groups of a byte make up its b × s lowest bits
  pub byte-groups : (v s : ℕ) → pack_byte b (map (group b v) (upto s)) ≡ v % 2 ^ (b * s)
  unfolding group pack_byte upto from
  byte-groups v zero = rw (mul-zero b) (sym (mod-one v))
  byte-groups v (suc s) =
      ap (λ (l : List ℕ). pack_byte b (map (group b v) l)) (upto-suc s)
      ∙ ap (pack_byte b) (map-append (group b v) (upto s) (s ∷ []))
      ∙ byte-append (map (group b v) (upto s)) (group b v s ∷ [])
      ∙ rw (length-map (upto s) (group b v), length-upto s, byte-groups v s)
      (omega (arith, mod-pow-add v b (b * s), ap (λ (e : ℕ). v % 2 ^ e) (mul-suc b s ∙ add_comm (b * s) b)))

-- ---- how many symbols a byte takes, and how many bytes the symbols take
pub per-byte-le : (b : ℕ) → per_byte b * b ≤ 8
unfolding per_byte
per-byte-le b = div-mul-le_self 8 b

pub per-byte-pos : (b : ℕ) → 0 < b → b ≤ 8 → 0 < per_byte b
unfolding per_byte
per-byte-pos b lo hi = (le-div_iff_mul-le lo).1 (omega arith)

module _ (b : ℕ) (z : 0 < per_byte b) where
  -- there is a byte k exactly where there is a symbol k × z
  pub byte-there : (n k : ℕ) → (k < packed_length b n) ↔ (k * per_byte b < n)
  unfolding packed_length
  byte-there n k =
      (λ h. omega (arith, (le-div_iff_mul-le {x = suc k} {y = n + per_byte b - 1} z).0 h), λ h. (le-div_iff_mul-le z).1 (omega arith))

  pub packed-covers : (n : ℕ) → n ≤ packed_length b n * per_byte b
  unfolding packed_length
  packed-covers n = omega (arith, div-add-mod' (n + per_byte b - 1) (per_byte b), mod-lt (n + per_byte b - 1) z)

pub packed-most : (b n : ℕ) → packed_length b n ≤ n
unfolding packed_length
packed-most b n =
    ⊎_elim
    (λ z. omega (arith, ap (λ (d : ℕ). (n + d - 1) / d) z ∙ div-zero (n + 0 - 1)))
    (λ z. by_cases (dec_le (packed_length b n) n) (λ h. h) (λ h. absurd (omega (arith, (byte-there b z n n).0 (omega arith), le-mul_of_pos_right n z))))
    (eq-zero-or-pos (per_byte b))

-- ---- symbols to bytes
module _ (b : ℕ) where
  packs-length : (n : ℕ) (xs : List ℕ) → length (pack_bytes b n xs) ≡ n
  unfolding pack_bytes
  packs-length zero xs = refl
  packs-length (suc n) xs = ap suc (packs-length n (drop (per_byte b) xs))

  pub pack-length : (n : ℕ) (xs : List ℕ) → length xs ≡ n → length (pack b xs) ≡ packed_length b n
  unfolding pack
  pack-length n xs e = packs-length (packed_length b (length xs)) xs ∙ ap (packed_length b) e

  packs-at : (n k : ℕ) (xs : List ℕ) → k < n → get_or (pack_bytes b n xs) k 0 ≡ pack_byte b (symbols_of b k xs)
  unfolding pack_bytes
  packs-at zero k xs h = absurd (not-suc-le-zero h)
  packs-at (suc n) zero xs h = rw (zero-mul (per_byte b))
  packs-at (suc n) (suc k) xs h =
      let e : per_byte b + k * per_byte b ≡ suc k * per_byte b = omega arith in
      packs-at n k (drop (per_byte b) xs) (omega arith) ∙ rw (drop-drop (k * per_byte b) (per_byte b) xs, e)

  past-none : (n k : ℕ) (xs : List ℕ) → length xs ≡ n → packed_length b n ≤ k → symbols_of b k xs ≡ []
  past-none n k xs e h = ⊎_elim
      (λ z. ap (λ (i : ℕ). take i (drop (k * per_byte b) xs)) z)
      (λ z.
      let past : length xs ≤ k * per_byte b = omega (arith, packed-covers b z n, mul-le-mul_right (per_byte b) h) in
      rw (drop_of_length-le xs past) (take-nil {A = ℕ} (per_byte b)))
      (eq-zero-or-pos (per_byte b))

  -- byte k has the symbols from k × z on; past the end there are none
  pub pack-at : (k : ℕ) (xs : List ℕ) → get_or (pack b xs) k 0 ≡ pack_byte b (symbols_of b k xs)
  unfolding pack pack_byte
  pack-at k xs =
      by_cases (dec_lt k (packed_length b (length xs)))
      (packs-at (packed_length b (length xs)) k xs)
      (λ h.
      let past : packed_length b (length xs) ≤ k = omega arith in
      get_or-eq_default (pack b xs) 0 (omega (arith, pack-length (length xs) xs refl)) ∙ rw (past-none (length xs) k xs refl past))

  pub symbols-length : (n k : ℕ) (xs : List ℕ) → length xs ≡ n → length (symbols_of b k xs) ≡ symbols_at b n k
  unfolding symbols_at
  symbols-length n k xs e = rw (length-take (per_byte b) (drop (k * per_byte b) xs), length-drop (k * per_byte b) xs, e)

  pub pack-lt : (n k : ℕ) (xs : List ℕ) → length xs ≡ n → in_range b xs ≡ true → get_or (pack b xs) k 0 < 2 ^ (b * symbols_at b n k)
  pack-lt n k xs e r =
      rw (pack-at k xs, ← symbols-length n k xs e)
      (byte-lt b (symbols_of b k xs) (range-symbols b k xs r))

  pub pack-packable : (n : ℕ) (xs : List ℕ) → length xs ≡ n → in_range b xs ≡ true → all_packable b n (pack b xs) ≡ true
  unfolding all_packable packable
  pack-packable n xs e r =
      all-upto (λ k. packable b n k (get_or (pack b xs) k 0)) (packed_length b n)
      (λ k l. lt-ltb (get_or (pack b xs) k 0) (2 ^ (b * symbols_at b n k)) (pack-lt n k xs e r))

  -- the bits of the symbols of byte k are in one byte
  pub symbols-fit : (n k : ℕ) → 2 ^ (b * symbols_at b n k) ≤ 256
  unfolding symbols_at
  symbols-fit n k =
      pow_mono {i = b * symbols_at b n k} {j = 8}
      (omega (arith, per-byte-le b, mul-le-mul_left b (min-le_left (per_byte b) (n - k * per_byte b))))

  pub packable-byte : (n k v : ℕ) → packable b n k v ≡ true → v < 256
  unfolding packable
  packable-byte n k v h = lt_of_lt_of_le (ltb-true v (2 ^ (b * symbols_at b n k)) h) (symbols-fit n k)

  pub pack-byte : (k : ℕ) (xs : List ℕ) → in_range b xs ≡ true → get_or (pack b xs) k 0 < 256
  pack-byte k xs r = lt_of_lt_of_le (pack-lt (length xs) k xs refl r) (symbols-fit (length xs) k)

-- ---- bytes to symbols
module _ (b : ℕ) where
  pub unpack-length : (n : ℕ) (bs : List ℕ) → length (unpack b n bs) ≡ n
  unfolding unpack
  unpack-length n bs = length-map (upto n) (λ i. group b (get_or bs (i / per_byte b) 0) (i % per_byte b)) ∙ length-upto n

  pub unpack-at : (n i : ℕ) (bs : List ℕ) → i < n → get_or (unpack b n bs) i 0 ≡ group b (get_or bs (i / per_byte b) 0) (i % per_byte b)
  unfolding unpack
  unpack-at n i bs h = upto-at (λ i. group b (get_or bs (i / per_byte b) 0) (i % per_byte b)) n i 0 h

  pub unpack-range : (n : ℕ) (bs : List ℕ) → in_range b (unpack b n bs) ≡ true
  unfolding group
  unpack-range n bs =
      range-of b (unpack b n bs)
      (λ i l.
      let h : i < n = omega (arith, unpack-length n bs) in
      rw (unpack-at n i bs h) (mod-lt (get_or bs (i / per_byte b) 0 / 2 ^ (b * (i % per_byte b))) (pow_pos b)))

  -- the symbols that byte k gives
  unpack-part : (n k : ℕ) (bs : List ℕ)
      → symbols_of b k (unpack b n bs) ≡ map (group b (get_or bs k 0)) (upto (symbols_at b n k))
  unfolding symbols_at
  unpack-part n k bs =
      let s : ℕ = symbols_at b n k in
      let part : List ℕ = symbols_of b k (unpack b n bs) in
      let long : length part ≡ s = symbols-length b n k (unpack b n bs) (unpack-length n bs) in
      ext_get_or 0 part (map (group b (get_or bs k 0)) (upto s))
      (long ∙ sym (length-map (upto s) (group b (get_or bs k 0)) ∙ length-upto s))
      (λ i l.
      let h : i < s = omega arith in
      let z : i < per_byte b = omega arith in
      get_or-take (per_byte b) (drop (k * per_byte b) (unpack b n bs)) i 0 z
      ∙ get_or-drop (k * per_byte b) (unpack b n bs) i 0
      ∙ unpack-at n (k * per_byte b + i) bs (omega arith)
      ∙ rw (digits_div k z, digits_mod k z) (sym (upto-at (group b (get_or bs k 0)) s i 0 h)))

  pub pack-unpack : (n : ℕ) (bs : List ℕ) → length bs ≡ packed_length b n → all_packable b n bs ≡ true → pack b (unpack b n bs) ≡ bs
  unfolding all_packable packable
  pack-unpack n bs l h =
      let long : length (pack b (unpack b n bs)) ≡ packed_length b n = pack-length b n (unpack b n bs) (unpack-length n bs) in
      ext_get_or 0 (pack b (unpack b n bs)) bs (long ∙ sym l)
      (λ k i.
      pack-at b k (unpack b n bs)
      ∙ ap (pack_byte b) (unpack-part n k bs)
      ∙ byte-groups b (get_or bs k 0) (symbols_at b n k)
      ∙ mod-eq_of_lt
      (ltb-true (get_or bs k 0) (2 ^ (b * symbols_at b n k))
      (upto_all (λ k. packable b n k (get_or bs k 0)) (packed_length b n) h k (omega arith))))

  pub unpack-pack : (n : ℕ) (xs : List ℕ) → 0 < b → b ≤ 8 → length xs ≡ n → in_range b xs ≡ true → unpack b n (pack b xs) ≡ xs
  unpack-pack n xs lo hi e r =
      let z : ℕ = per_byte b in
      let long : length (unpack b n (pack b xs)) ≡ n = unpack-length n (pack b xs) in
      ext_get_or 0 (unpack b n (pack b xs)) xs (long ∙ sym e)
      (λ i l.
      unpack-at n i (pack b xs) (omega arith)
      ∙ ap (λ (v : ℕ). group b v (i % z)) (pack-at b (i / z) xs)
      ∙ group-byte b (i % z) (symbols_of b (i / z) xs) (range-symbols b (i / z) xs r)
      ∙ get_or-take z (drop (i / z * z) xs) (i % z) 0 (mod-lt i (per-byte-pos b lo hi))
      ∙ get_or-drop (i / z * z) xs (i % z) 0
      ∙ ap (λ (j : ℕ). get_or xs j 0) (div-add-mod' i z))
