-- A law of `any` over a range of numbers.
use mathlib.Core.Path.{◌≡◌, refl}
use mathlib.Core.Bool.{Bool, true, false, cond, ◌&&◌, ◌||◌}
use mathlib.Core.List.{[], ◌∷◌, ◌++◌}
use Prim.Native.Nat.{ℕ, zero, suc}
use Rattle.meaning.specs.Lists.{any, from}
use Rattle.words.specs.Bits.{rising}

-- of the numbers that pass a first test
pub any-rising : (p q : ℕ → Bool) (k n : ℕ) → any q (rising p k n) ≡ any (λ i. p i && q i) (from k n)
unfolding any from rising
any-rising p q k zero = refl
any-rising p q k (suc n) = rw (← any-rising p q (suc k) n) (go (p k))
  where
    go : (t : Bool) → any q (cond t (k ∷ []) [] ++ rising p (suc k) n) ≡ (t && q k) || any q (rising p (suc k) n)
    go true = refl
    go false = refl
