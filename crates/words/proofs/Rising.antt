-- Laws of the numbers of a range that pass a test, as a rising list.
use mathlib.Core.Path.{◌≡◌, refl, sym}
use mathlib.Core.Bool.{Bool, true, false, cond}
use mathlib.Core.Logic.{◌≢◌, ⊎_elim}
use mathlib.Core.List.{List, [], ◌∷◌, ◌++◌, map, append_assoc}
use Prim.Native.Nat.{ℕ, zero, suc, ◌+◌, ◌≤◌, ◌<◌}
use native.Mathlib.Nat.{eq-or-lt_of_le, add-zero, zero-add}
use native.Mathlib.Omega.{arith}
use lib.ListN.{length}
use Rattle.words.specs.Bits.{rising}

-- the same tests, the same list
pub rising-same : (p q : ℕ → Bool) (k n : ℕ) → ((i : ℕ) → k ≤ i → i < k + n → p i ≡ q i) → rising p k n ≡ rising q k n
unfolding rising
rising-same p q k zero same = refl
rising-same p q k (suc n) same =
    rw (same k (omega arith) (omega arith), rising-same p q (suc k) n (λ i l h. same i (omega arith) (omega arith)))

-- of the first m numbers, and of those after them
pub rising-add : (p : ℕ → Bool) (k m n : ℕ) → rising p k (m + n) ≡ rising p k m ++ rising p (k + m) n
unfolding rising
rising-add p k zero n = rw (add-zero k, zero-add n)
rising-add p k (suc m) n =
    let e : suc m + n ≡ suc (m + n) = omega arith in
    let f : k + suc m ≡ suc k + m = omega arith in
    rw (e, f, rising-add p (suc k) m n) (sym (append_assoc (cond (p k) (k ∷ []) []) (rising p (suc k) m) (rising p (suc k + m) n)))

-- of a range shifted by f
pub rising-map : (f : ℕ → ℕ) → ((i : ℕ) → f (suc i) ≡ suc (f i)) → (p q : ℕ → Bool) (k n : ℕ)
    → ((i : ℕ) → k ≤ i → i < k + n → p (f i) ≡ q i) → rising p (f k) n ≡ map f (rising q k n)
unfolding rising
rising-map f next p q k zero same = refl
rising-map f next p q k (suc n) same =
    rw (same k (omega arith) (omega arith), ← next k, rising-map f next p q (suc k) n (λ i l h. same i (omega arith) (omega arith))) (go (q k))
  where
    go : (t : Bool) → cond t (f k ∷ []) [] ++ map f (rising q (suc k) n) ≡ map f (cond t (k ∷ []) [] ++ rising q (suc k) n)
    go true = refl
    go false = refl

pub rising-length : (p : ℕ → Bool) (k n : ℕ) → length (rising p k n) ≤ n
unfolding rising
rising-length p k zero = omega arith
rising-length p k (suc n) = go (p k) (rising-length p (suc k) n)
  where
    go : (t : Bool) → length (rising p (suc k) n) ≤ n → length (cond t (k ∷ []) [] ++ rising p (suc k) n) ≤ suc n
    go true h = omega arith
    go false h = omega arith

-- an empty list: no number passes
pub rising_none : (p : ℕ → Bool) (k n : ℕ) → rising p k n ≡ [] → (i : ℕ) → k ≤ i → i < k + n → p i ≡ false
unfolding rising
rising_none p k zero e i l h = absurd (omega arith)
rising_none p k (suc n) e i l h = go (p k) refl (rising_none p (suc k) n)
  where
    go : (t : Bool) → p k ≡ t → (rising p (suc k) n ≡ [] → (i : ℕ) → suc k ≤ i → i < suc k + n → p i ≡ false) → p i ≡ false
    go true b later = let r : k ∷ rising p (suc k) n ≡ [] = rw b at e in let z : ◌≡◌ {A = ℕ} 0 1 = cc in absurd (omega arith)
    go false b later = ⊎_elim (λ g. rw (← g) b) (λ g. later (rw b at e) i g (omega arith)) (eq-or-lt_of_le l)

-- j is the first number to pass, and the others are those that pass a test that is false at j and otherwise the same
pub record First (p : ℕ → Bool) (k n j : ℕ) (l : List ℕ) : Type 0 where
  pub from : k ≤ j
  pub below : j < k + n
  pub passes : p j ≡ true
  pub least : (i : ℕ) → k ≤ i → i < j → p i ≡ false
  pub rest : (q : ℕ → Bool) → q j ≡ false → ((i : ℕ) → i ≢ j → q i ≡ p i) → rising q k n ≡ l

pub rising-first : (p : ℕ → Bool) (k n j : ℕ) (l : List ℕ) → rising p k n ≡ j ∷ l → First p k n j l
unfolding rising
rising-first p k zero j l e = let z : ◌≡◌ {A = ℕ} 0 1 = cc in absurd (omega arith)
rising-first p k (suc n) j l e = go (p k) refl (rising-first p (suc k) n j l)
  where
    go : (t : Bool) → p k ≡ t → (rising p (suc k) n ≡ j ∷ l → First p (suc k) n j l) → First p k (suc n) j l
    go true b later =
        let r : k ∷ rising p (suc k) n ≡ j ∷ l = rw b at e in
        let s : k ≡ j = cc in
        let t : rising p (suc k) n ≡ l = cc in
        record {
          from = omega arith;
          below = omega arith;
          passes = rw (← s) b;
          least = λ i h h'. absurd (omega arith);
          rest = λ q no other. rw (s, no, ← s, rising-same q p (suc k) n (λ i h h'. other i (omega arith))) t;
        }
    go false b later =
        let f : First p (suc k) n j l = later (rw b at e) in
        record {
          from = omega (arith, f.from);
          below = omega (arith, f.below);
          passes = f.passes;
          least = λ i h h'. ⊎_elim (λ g. rw (← g) b) (λ g. f.least i g h') (eq-or-lt_of_le h);
          rest = λ q no other. rw (other k (omega (arith, f.from)), b) (f.rest q no other);
        }
