-- Small executable tests and functions on lists that the other definitions share.
use Rattle.std.specs.Prelude.{ℕ, zero, suc, ◌+◌, Bool, true, false, cond, ◌&&◌, ◌||◌, List, [], ◌∷◌, ◌++◌, eqb, length, drop}

module _ {A : Type 0} where
  -- every element passes
  unfoldable pub all : (A → Bool) → List A → Bool
  all p [] = true
  all p (x ∷ xs) = p x && all p xs

  -- some element passes
  unfoldable pub any : (A → Bool) → List A → Bool
  any p [] = false
  any p (x ∷ xs) = p x || any p xs

  -- the elements that pass, in their order
  unfoldable pub keep : (A → Bool) → List A → List A
  keep p [] = []
  keep p (x ∷ xs) = cond (p x) (x ∷ keep p xs) (keep p xs)

  -- how many pass
  unfoldable pub count : (A → Bool) → List A → ℕ
  count p [] = 0
  count p (x ∷ xs) = cond (p x) 1 0 + count p xs

  -- each element is over all that follow it
  unfoldable pub ordered : (A → A → Bool) → List A → Bool
  ordered over [] = true
  ordered over (x ∷ xs) = all (over x) xs && ordered over xs

  -- for each number in turn the elements that have it, in their order
  unfoldable pub grouped : (A → ℕ) → List ℕ → List A → List A
  grouped f [] xs = []
  grouped f (n ∷ ns) xs = keep (λ x. eqb (f x) n) xs ++ grouped f ns xs

  -- a table with a list written over its beginning: the rest stays as it was
  unfoldable pub onto : List A → List A → List A
  onto xs table = xs ++ drop (length xs) table

-- n numbers, rising from k
unfoldable pub from : ℕ → ℕ → List ℕ
from k zero = []
from k (suc n) = k ∷ from (suc k) n

-- 0, 1, .., n - 1
unfoldable pub upto : ℕ → List ℕ
upto n = from 0 n

-- the sum of a list
unfoldable pub sum : List ℕ → ℕ
sum [] = 0
sum (x ∷ xs) = x + sum xs
