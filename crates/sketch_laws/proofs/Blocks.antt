-- The q blocks of a sketch of m symbols lie end to end and make it up; so two sketches within r of each other
-- have a block within r / q.
use Prim.Native.Nat.{ℕ, zero, suc, ◌+◌, ◌*◌, ◌/◌, ◌%◌, min, ◌≤◌, ◌<◌}
use native.Mathlib.Omega.{arith}
use native.Mathlib.Decide.{dec_le, le_ind}
use native.Mathlib.Nat.{le_refl, div-add-mod', mod-lt, lt-div-mul-add, le-div_iff_mul-le}
use mathlib.Core.Path.{◌≡◌, refl, sym, ap, ap₂, ◌∙◌}
use mathlib.Core.Logic.{◌⊎◌, inl, inr, ⊎_elim, by_cases}
use mathlib.Core.Bool.{Bool, true, false, cond}
use mathlib.Core.List.{List, map}
use lib.Dec.{ltb}
use lib.ListN.{length, take, drop, length-take, length-drop}
use lib.Seq.{take-add, take_all}
use borrow.Author.Tests.{ltb-true, ltb-false}
use Rattle.meaning.specs.Lists.{from, upto, sum}
use Rattle.meaning.specs.Sketch.{distance, in_range, pack, packed_length, block_length, block_start, block}
use Rattle.sketch_laws.specs.Packed.{packed_distance}
use Rattle.sketch_laws.proofs.Lists.{sum-suc}
use Rattle.sketch_laws.proofs.Packing.{range-take, range-drop, pack-length}
use Rattle.sketch_laws.proofs.Distance.{distance-append}
use Rattle.sketch_laws.proofs.ByteDistance.{distance-packed}

-- ---- where the blocks lie
module _ (m q : ℕ) where
  pub block-next : (j : ℕ) → block_start m q (suc j) ≡ block_start m q j + block_length m q j
  unfolding block_start block_length
  block-next j = go (ltb j (m % q)) refl
    where
      go : (t : Bool) → ltb j (m % q) ≡ t → suc j * (m / q) + min (suc j) (m % q) ≡ j * (m / q) + min j (m % q) + (m / q + cond t 1 0)
      go true e = omega (arith, ltb-true j (m % q) e)
      go false e = omega (arith, ltb-false j (m % q) e)

  pub block-first : block_start m q 0 ≡ 0
  unfolding block_start
  block-first = omega arith

  pub block_last : 0 < q → block_start m q q ≡ m
  unfolding block_start
  block_last h = omega (arith, div-add-mod' m q, mod-lt m h)

  pub block-rises : (i j : ℕ) → i ≤ j → block_start m q i ≤ block_start m q j
  block-rises i j h =
      le_ind (λ (k : ℕ). block_start m q i ≤ block_start m q k) (le_refl (block_start m q i)) (λ k l r. omega (arith, block-next k)) j h

  pub block-end : (j : ℕ) → j < q → block_start m q j + block_length m q j ≤ m
  block-end j h = omega (arith, block-next j, block-rises (suc j) q h, block_last (omega arith))

  pub block-pos : (j : ℕ) → 0 < q → q ≤ m → 0 < block_length m q j
  unfolding block_length
  block-pos j h l = omega (arith, (le-div_iff_mul-le {x = 1} {y = m} h).1 (omega arith))

  pub block-length : (j : ℕ) (xs : List ℕ) → j < q → length xs ≡ m → length (block m q j xs) ≡ block_length m q j
  unfolding block
  block-length j xs h e = omega (arith, length-take (block_length m q j) (drop (block_start m q j) xs), length-drop (block_start m q j) xs, block-end j h)

  pub block-range : (b j : ℕ) (xs : List ℕ) → in_range b xs ≡ true → in_range b (block m q j xs) ≡ true
  unfolding block
  block-range b j xs r = range-take b (block_length m q j) (drop (block_start m q j) xs) (range-drop b (block_start m q j) xs r)

  pub block-packed : (b j : ℕ) (xs : List ℕ) → j < q → length xs ≡ m → length (pack b (block m q j xs)) ≡ packed_length b (block_length m q j)
  block-packed b j xs h e = pack-length b (block_length m q j) (block m q j xs) (block-length j xs h e)

  -- ---- the distance by blocks
  blocks-distance : (xs ys : List ℕ) → length xs ≡ length ys → (n : ℕ)
      → distance (take (block_start m q n) xs) (take (block_start m q n) ys) ≡ sum (map (λ j. distance (block m q j xs) (block m q j ys)) (upto n))
  unfolding block upto from sum distance
  blocks-distance xs ys e zero = rw block-first
  blocks-distance xs ys e (suc n) =
      let s : ℕ = block_start m q n in
      let l : ℕ = block_length m q n in
      rw (block-next n, take-add s l xs, take-add s l ys)
      (distance-append (take s xs) (take s ys) (take l (drop s xs)) (take l (drop s ys)) (omega (arith, length-take s xs, length-take s ys))
      ∙ ap (λ (d : ℕ). d + distance (block m q n xs) (block m q n ys)) (blocks-distance xs ys e n)
      ∙ sym (sum-suc (λ j. distance (block m q j xs) (block m q j ys)) n))

  pub distance-blocks : (xs ys : List ℕ) → 0 < q → length xs ≡ m → length ys ≡ m
      → distance xs ys ≡ sum (map (λ j. distance (block m q j xs) (block m q j ys)) (upto q))
  distance-blocks xs ys h e f =
      ap₂ distance
      (sym (take_all (block_start m q q) xs (omega (arith, block_last h))))
      (sym (take_all (block_start m q q) ys (omega (arith, block_last h))))
      ∙ blocks-distance xs ys (e ∙ sym f) q

-- ---- a small one among q numbers
small-or : (f : ℕ → ℕ) (c n : ℕ) → ((j : ℕ) × (j < n) × (f j ≤ c)) ⊎ (n * suc c ≤ sum (map f (upto n)))
small-or f c zero = inr (omega arith)
small-or f c (suc n) =
    ⊎_elim
    (λ s. inl (s.0, omega arith, s.2))
    (λ h. by_cases (dec_le (f n) c) (λ l. inl (n, omega arith, l)) (λ l. inr (omega (arith, sum-suc f n))))
    (small-or f c n)

pub pigeonhole : (f : ℕ → ℕ) (q r : ℕ) → 0 < q → sum (map f (upto q)) ≤ r → (j : ℕ) × (j < q) × (f j ≤ r / q)
pigeonhole f q r h l = ⊎_elim (λ s. s) (λ g. absurd (omega (arith, lt-div-mul-add {a = r} h))) (small-or f (r / q) q)

-- two sketches within r of each other have a block within r / q
pub near-block : (m q r : ℕ) (xs ys : List ℕ) → 0 < q → length xs ≡ m → length ys ≡ m → distance xs ys ≤ r
    → (j : ℕ) × (j < q) × (distance (block m q j xs) (block m q j ys) ≤ r / q)
near-block m q r xs ys h e f l =
    pigeonhole (λ j. distance (block m q j xs) (block m q j ys)) q r h (omega (arith, distance-blocks m q xs ys h e f))

-- the same of the packed blocks
pub near-packed : (b m q r : ℕ) (xs ys : List ℕ) → 0 < b → b ≤ 8 → 0 < q → length xs ≡ m → length ys ≡ m
    → in_range b xs ≡ true → in_range b ys ≡ true → distance xs ys ≤ r
    → (j : ℕ) × (j < q) × (packed_distance b (pack b (block m q j xs)) (pack b (block m q j ys)) ≤ r / q)
near-packed b m q r xs ys lo hi h e f x y l =
    let near : (j : ℕ) × (j < q) × (distance (block m q j xs) (block m q j ys) ≤ r / q) = near-block m q r xs ys h e f l in
    let j : ℕ = near.0 in
    let same : length (block m q j xs) ≡ length (block m q j ys) = block-length m q j xs near.1 e ∙ sym (block-length m q j ys near.1 f) in (
      j,
      near.1,
      omega (arith, distance-packed b (block m q j xs) (block m q j ys) lo hi same (block-range m q b j xs x) (block-range m q b j ys y)),
    )
