-- Two different packed bytes are at a distance, so a walk at radius 0 meets only what is below the query's own byte.
use Prim.Native.Nat.{ℕ, zero, suc, ◌+◌, ◌*◌, ◌^◌, ◌≤◌, ◌<◌}
use native.Mathlib.Omega.{arith}
use native.Mathlib.Nat.{mod-eq_of_lt}
use mathlib.Core.Path.{◌≡◌, refl, sym, ap, ap₂, ◌∙◌}
use mathlib.Core.Logic.{◌≢◌}
use mathlib.Core.Bool.{Bool, true, false, cond, not, false≢true}
use mathlib.Core.List.{◌∷◌, map}
use lib.Dec.{eqb}
use lib.Bits.{bit_xor}
use borrow.Author.Tests.{eqb-true, eqb-false, not-false}
use Rattle.meaning.specs.Lists.{count, from, upto}
use Rattle.meaning.specs.Sketch.{per_byte, pack_byte, group, byte_distance}
use Rattle.sketch_laws.proofs.Lists.{count-suc}
use Rattle.sketch_laws.proofs.ByteDistance.{byte-distance}
use Rattle.sketch_laws.proofs.Packing.{byte-groups}

pub counted : (t : Bool) → t ≡ true → ◌≡◌ {A = ℕ} (cond t 1 0) 1
counted true e = refl
counted false e = absurd (false≢true e)

none-counted : (p : ℕ → Bool) (n : ℕ) → count p (upto n) ≡ 0 → (i : ℕ) → i < n → p i ≡ false
none-counted p zero e i l = absurd (omega arith)
none-counted p (suc n) e i l = go (eqb i n) refl (p n) refl (none-counted p n (omega (arith, count-suc p n)) i)
  where
    go : (q : Bool) → eqb i n ≡ q → (t : Bool) → p n ≡ t → (i < n → p i ≡ false) → p i ≡ false
    go q f true g h = absurd (omega (arith, count-suc p n, counted (p n) g))
    go true f false g h = ap p (eqb-true i n f) ∙ g
    go false f false g h = h (omega (arith, eqb-false i n f))

same_map : (f g : ℕ → ℕ) (k n : ℕ) → ((i : ℕ) → k ≤ i → i < k + n → f i ≡ g i) → map f (from k n) ≡ map g (from k n)
unfolding from
same_map f g k zero h = refl
same_map f g k (suc n) h = ap₂ ◌∷◌ (h k (omega arith) (omega arith)) (same_map f g (suc k) n (λ i l m. h i (omega arith) (omega arith)))

-- bytes of z groups that have the same groups are equal
same-groups : (b c y : ℕ) → c < 2 ^ (b * per_byte b) → y < 2 ^ (b * per_byte b) → ((i : ℕ) → i < per_byte b → group b c i ≡ group b y i) → c ≡ y
unfolding upto
same-groups b c y l m h =
    sym (mod-eq_of_lt l)
    ∙ sym (byte-groups b c (per_byte b))
    ∙ ap (pack_byte b) (same_map (group b c) (group b y) 0 (per_byte b) (λ i u v. h i (omega arith)))
    ∙ byte-groups b y (per_byte b)
    ∙ mod-eq_of_lt m

pub apart : (b c y : ℕ) → c < 2 ^ (b * per_byte b) → y < 2 ^ (b * per_byte b) → c ≢ y → 0 < byte_distance b (bit_xor c y)
apart b c y l m n = go (byte_distance b (bit_xor c y)) refl
  where
    go : (d : ℕ) → byte_distance b (bit_xor c y) ≡ d → 0 < byte_distance b (bit_xor c y)
    go zero e =
        absurd
        (n
        (same-groups b c y l m
        (λ i h.
        eqb-true (group b c i) (group b y i)
        (not-false (eqb (group b c i) (group b y i))
        (none-counted (λ j. not (eqb (group b c j) (group b y j))) (per_byte b) (sym (byte-distance b c y) ∙ e) i h)))))
    go (suc d) e = omega arith
