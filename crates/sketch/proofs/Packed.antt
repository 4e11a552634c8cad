-- A packing, byte by byte.
use mathlib.Core.Bool.{Bool, true}
use mathlib.Core.List.{List, ◌∷◌, map}
use mathlib.Core.Path.{◌≡◌, refl, sym, ap, ap₂, ◌∙◌, fun_ext}
use Prim.Native.Nat.{ℕ, zero, suc, ◌+◌, ◌-◌, ◌*◌, ◌/◌, ◌%◌, ◌<◌, ◌≤◌}
use native.Mathlib.Nat.{add-sub_cancel_left, suc-mul, add_comm, zero-mul}
use native.Mathlib.Omega.{arith}
use lib.Arith.{digits_div, digits_mod}
use lib.ListN.{length, take, drop, get_or, length-take}
use lib.Seq.{drop-drop}
use Rattle.meaning.specs.Lists.{upto, from}
use Rattle.meaning.specs.Sketch.{in_range, per_byte, packed_length, pack_byte, pack_bytes, pack, packable, group, symbols_at}
use Rattle.sketch.proofs.Lists.{window}
use Rattle.sketch.proofs.Places.{part-range}
use Rattle.sketch.proofs.Runs.{map-from-suc}

-- the symbols of byte k
abbrev pub symbols_of : ℕ → List ℕ → ℕ → List ℕ
symbols_of b xs k = take (per_byte b) (drop (k * per_byte b) xs)

-- byte k
abbrev pub byte_of : ℕ → List ℕ → ℕ → ℕ
byte_of b xs k = pack_byte b (symbols_of b xs k)

-- symbol i of bytes
abbrev pub symbol_of : ℕ → List ℕ → ℕ → ℕ
symbol_of b bytes i = group b (get_or bytes (i / per_byte b) 0) (i % per_byte b)

-- whether byte k is one that packing n symbols can give there
abbrev pub packable_at : ℕ → ℕ → List ℕ → ℕ → Bool
packable_at b n bytes k = packable b n k (get_or bytes k 0)

module _ (b : ℕ) where
  later : (xs : List ℕ) (k : ℕ) → byte_of b (drop (per_byte b) xs) k ≡ byte_of b xs (suc k)
  later xs k =
      ap (λ (ys : List ℕ). pack_byte b (take (per_byte b) ys))
      (drop-drop (k * per_byte b) (per_byte b) xs ∙ ap (λ (i : ℕ). drop i xs) (add_comm (per_byte b) (k * per_byte b) ∙ sym (suc-mul k (per_byte b))))

  bytes : (k : ℕ) (xs : List ℕ) → pack_bytes b k xs ≡ map (byte_of b xs) (upto k)
  unfolding pack_bytes upto from
  bytes zero xs = refl
  bytes (suc k) xs =
      let first : pack_byte b (take (per_byte b) xs) ≡ byte_of b xs 0 = ap (λ (i : ℕ). pack_byte b (take (per_byte b) (drop i xs))) (sym (zero-mul (per_byte b))) in
      let rest : pack_bytes b k (drop (per_byte b) xs) ≡ map (byte_of b xs) (from 1 k) =
      bytes k (drop (per_byte b) xs) ∙ ap (λ (g : ℕ → ℕ). map g (from 0 k)) (fun_ext (later xs)) ∙ sym (map-from-suc (byte_of b xs) 0 k) in
      ap₂ ◌∷◌ first rest

  pub packed : (n : ℕ) (xs : List ℕ) → length xs ≡ n → pack b xs ≡ map (byte_of b xs) (upto (packed_length b n))
  unfolding pack
  packed n xs e = bytes (packed_length b (length xs)) xs ∙ ap (λ (i : ℕ). map (byte_of b xs) (upto (packed_length b i))) e

  module _ (xs : List ℕ) (k : ℕ) where
    pub symbols-few : length (symbols_of b xs k) ≤ per_byte b
    symbols-few = rw length-take (omega arith)

    pub symbols-range : in_range b xs ≡ true → in_range b (symbols_of b xs k) ≡ true
    symbols-range = part-range b (k * per_byte b) (per_byte b) xs

  -- byte k of the first n symbols takes those from k * z up to k * z + r
  module _ (n k z r : ℕ) (ez : z ≡ per_byte b) (er : r ≡ symbols_at b n k) where
    pub part-ends : k * z < n → k * z + r ≤ n
    unfolding symbols_at
    part-ends h = omega (arith, ap (λ (i : ℕ). k * i) ez)

    pub part : (xs : List ℕ) → take (k * z + r - k * z) (drop (k * z) xs) ≡ symbols_of b (take n xs) k
    unfolding symbols_at
    part xs =
        rw (add-sub_cancel_left (k * z) r, er, ez) (sym (window (per_byte b) (k * per_byte b) n xs))

  pub symbol-at : (bytes : List ℕ) (z i k g : ℕ) → z ≡ per_byte b → i ≡ k * z + g → g < z → group b (get_or bytes k 0) g ≡ symbol_of b bytes i
  symbol-at bytes z i k g ez ei h =
      let byte : i / per_byte b ≡ k = rw (← ez, ei) (digits_div k h) in
      let place : i % per_byte b ≡ g = rw (← ez, ei) (digits_mod k h) in
      rw (byte, place)
