-- The query's bytes as they stand in a table of bytes.
use Prim.Native.Nat.{ℕ, suc, ◌+◌, ◌-◌, ◌*◌, ◌^◌, ◌≤◌, ◌<◌}
use native.Mathlib.Omega.{arith}
use mathlib.Core.Path.{◌≡◌, sym, ap, ◌∙◌}
use mathlib.Core.List.{List, [], ◌∷◌}
use lib.ListN.{length, get_or, drop, length-drop}
use lib.Seq.{get_or-drop}
use Rattle.meaning.specs.Sketch.{per_byte}

module _ (b : ℕ) (bytes : List ℕ) (last : ℕ) where
  -- the bytes ys, of z symbols each, stand in a table from `at` on, none past `last`
  abbrev pub Spelt : List ℕ → ℕ → Type 0
  Spelt [] at = Unit {0}
  Spelt (y ∷ ys) at = (get_or bytes at 0 ≡ y) × (at ≤ last) × (y < 2 ^ (b * per_byte b)) × Spelt ys (at + 1)

  spelt : (ys : List ℕ) (at : ℕ) → ((i : ℕ) → i < length ys → get_or bytes (at + i) 0 ≡ get_or ys i 0) → ((i : ℕ) → i < length ys → at + i ≤ last)
      → ((i : ℕ) → i < length ys → get_or ys i 0 < 2 ^ (b * per_byte b)) → Spelt ys at
  spelt [] at e l q = tt
  spelt (y ∷ ys) at e l q =
      let here : at + 0 ≡ at = omega arith in (
        ap (λ i. get_or bytes i 0) (sym here) ∙ e 0 (omega arith),
        omega (arith, l 0 (omega arith)),
        q 0 (omega arith),
        spelt ys (at + 1)
            (λ i m.
            let there : at + 1 + i ≡ at + suc i = omega arith in
            ap (λ j. get_or bytes j 0) there ∙ e (suc i) (omega arith))
            (λ i m. omega (arith, l (suc i) (omega arith)))
            (λ i m. q (suc i) (omega arith)),
      )

-- those of a query from level k on, in the query itself
pub spelt-drop : (b : ℕ) (bytes : List ℕ) → ((i : ℕ) → get_or bytes i 0 < 2 ^ (b * per_byte b)) → (k : ℕ)
    → Spelt b bytes (length bytes - 1) (drop k bytes) k
spelt-drop b bytes query k =
    spelt b bytes (length bytes - 1) (drop k bytes) k (λ i m. sym (get_or-drop k bytes i 0)) (λ i m. omega (arith, length-drop k bytes))
    (λ i m. rw (get_or-drop k bytes i 0) (query (k + i)))
