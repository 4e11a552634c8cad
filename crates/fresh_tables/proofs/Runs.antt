-- Lists stored over a table, one after another: as one list, as the rest of a loop that stores them, and as `onto` and `zeroed`.
use Prim.Native.Nat.{ℕ, suc, ◌+◌, ◌-◌, ◌≤◌, ◌<◌}
use native.Mathlib.Omega.{arith}
use native.Mathlib.Nat.{add-zero, zero-add, add-suc, suc-add}
use native.Mathlib.Numerals.{add-one}
use mathlib.Core.Path.{◌≡◌, ◌∙◌}
use mathlib.Core.List.{List, [], ◌∷◌, ◌++◌, map, append_assoc}
use lib.ListN.{length, set, replicate, length-replicate, length-append}
use lib.Seq.{sets, sets-eq}
use Rattle.meaning.specs.Lists.{onto, from, upto}
use Rattle.words.specs.Bits.{zeroed}

module _ {A : Type 0} where
  pub sets-append : (xs ys l : List A) (i : ℕ) → sets l i (xs ++ ys) ≡ sets (sets l i xs) (i + length xs) ys
  sets-append [] ys l i = rw add-zero
  sets-append (x ∷ xs) ys l i = rw (sets-append xs ys (set l i x) (suc i), add-suc, suc-add)

  pub onto-sets : (xs l : List A) → length xs ≤ length l → onto xs l ≡ sets l 0 xs
  unfolding onto
  onto-sets xs l h = rw (sets-eq xs l 0 (omega arith), zero-add)

  pub onto-append : (xs ys l : List A) → length xs + length ys ≤ length l → onto (xs ++ ys) l ≡ sets (onto xs l) (length xs) ys
  onto-append xs ys l h =
      onto-sets (xs ++ ys) l (rw length-append h)
      ∙ sets-append xs ys l 0
      ∙ rw (← onto-sets xs l (omega arith), zero-add)

  -- ---- f 0 to f (n - 1), stored from `base` on
  module _ (f : ℕ → A) (base n : ℕ) where
    -- with what is left from f x on
    unfoldable pub rest : List A → ℕ → List A
    rest l x = sets l (base + x) (map f (from x (n - x)))

    pub rest-first : (l : List A) → rest l 0 ≡ sets l base (map f (upto n))
    unfolding rest upto
    rest-first l =
        let all : n - 0 ≡ n = omega arith in
        rw (all, add-zero)

    pub rest-next : (l : List A) (i x : ℕ) (w : A) → x < n → i ≡ base + x → w ≡ f x → rest (set l i w) (x + 1) ≡ rest l x
    unfolding rest from
    rest-next l i x w h place word =
        let less : n - x ≡ suc (n - suc x) = omega arith in
        rw (place, word, less, add-one, add-suc)

    pub rest-none : (l : List A) (x : ℕ) → n ≤ x → rest l x ≡ l
    unfolding rest from
    rest-none l x h =
        let none : n - x ≡ 0 = omega arith in
        rw none

pub zeroed-sets : (ws : List ℕ) (base n : ℕ) → base + n ≤ length ws → zeroed ws base n ≡ sets ws base (replicate n 0)
unfolding zeroed
zeroed-sets ws base n h =
    rw (sets-eq (replicate n 0) ws base (rw length-replicate h), length-replicate, append_assoc)
