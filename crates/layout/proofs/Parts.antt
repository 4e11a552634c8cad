-- A list with one run of its elements replaced by others: its parts before, at and behind the run, and the loop that copies the run.
use Prim.Native.Nat.{ℕ, zero, suc, ◌+◌, ◌-◌, ◌≤◌, ◌<◌}
use native.Mathlib.Omega.{arith}
use native.Mathlib.Nat.{suc-add, zero-add}
use native.Mathlib.Numerals.{add-one}
use mathlib.Core.Path.{◌≡◌, refl, sym, ap, ◌∙◌}
use mathlib.Core.List.{List, [], ◌∷◌, ◌++◌}
use lib.ListN.{length, get_or, set, length-set, take, drop, length-append, length-drop}
use lib.Seq.{take_at, drop_at, take-append-le, drop-append-le, take-take, drop-drop, take-nil, length-take-le, paste, paste-zero, paste-suc, take_all}

module _ {A : Type 0} where
  pub drop-take : (n m : ℕ) (l : List A) → drop n (take (n + m) l) ≡ take m (drop n l)
  drop-take zero m l = rw zero-add
  drop-take (suc n) m [] = rw (suc-add, take-nil)
  drop-take (suc n) m (x ∷ l) = rw (suc-add, drop-take n m l)

  -- l with x in the place of the n elements from a on
  abbrev pub splice : List A → ℕ → ℕ → List A → List A
  splice l a n x = take a l ++ x ++ drop (a + n) l

  module _ (l : List A) (a n : ℕ) (x : List A) (inside : a + n ≤ length l) (long : length x ≡ n) where
    front : length (take a l) ≡ a
    front = length-take-le a l (omega arith)

    upto : length (take a l ++ x) ≡ a + n
    upto = omega (arith, length-append (take a l) x, front)

    pub length-splice : length (splice l a n x) ≡ length l
    length-splice = omega (arith, length-append (take a l ++ x) (drop (a + n) l), upto, length-drop (a + n) l)

    take-splice : take a (splice l a n x) ≡ take a l
    take-splice =
        take-append-le a (take a l ++ x) (drop (a + n) l) (omega (arith, upto)) ∙ take_at (take a l) x a front

    pub splice_at : take n (drop a (splice l a n x)) ≡ x
    splice_at =
        rw (drop-append-le a (take a l ++ x) (drop (a + n) l) (omega (arith, upto)), drop_at (take a l) x a front)
        (take_at x (drop (a + n) l) n long)

    -- k elements from b on, before the run
    pub splice-before : (b k : ℕ) → b + k ≤ a → take k (drop b (splice l a n x)) ≡ take k (drop b l)
    splice-before b k h =
        sym (drop-take b k (splice l a n x)) ∙ ap (drop b) same ∙ drop-take b k l
      where
        same : take (b + k) (splice l a n x) ≡ take (b + k) l
        same = sym (take-take (b + k) a (splice l a n x) h) ∙ ap (take (b + k)) take-splice ∙ take-take (b + k) a l h

    -- what is left from b on, behind the run
    pub splice-behind : (b : ℕ) → a + n ≤ b → drop b (splice l a n x) ≡ drop b l
    splice-behind b h =
        let e : a + n + (b - (a + n)) ≡ b = omega arith in
        rw (← e, ← drop-drop (b - (a + n)) (a + n) (splice l a n x), ← drop-drop (b - (a + n)) (a + n) l)
        (ap (drop (b - (a + n))) (drop_at (take a l ++ x) (drop (a + n) l) (a + n) upto))

-- l is d with the first n elements of s copied to it from a on: what a copying loop keeps
pub record Copied (d : List ℕ) (a : ℕ) (s : List ℕ) (n : ℕ) (l : List ℕ) : Type 0 where
  pub long : length l ≡ length d
  pub holds : l ≡ paste d a s n

module _ (d : List ℕ) (a : ℕ) (s : List ℕ) where
  pub copied_none : Copied d a s 0 d
  copied_none = record { long = refl; holds = paste-zero d a s }

  pub copied_more : (n : ℕ) (l : List ℕ) → a + n < length d → n < length s → Copied d a s n l → Copied d a s (n + 1) (set l (a + n) (get_or s n 0))
  copied_more n l hd hs c =
      record {
        long = length-set l (a + n) (get_or s n 0) ∙ c.long;
        holds = ap (λ t. set t (a + n) (get_or s n 0)) c.holds ∙ paste-suc d a s n 0 hd hs ∙ ap (paste d a s) (sym (add-one n));
      }

  pub copied_all : (n : ℕ) (l : List ℕ) → length s ≡ n → Copied d a s n l → l ≡ splice d a n s
  copied_all n l e c = c.holds ∙ rw (take_all n s (omega arith))
