-- The tries of all blocks, each changed: their number, and their nodes together.
use Prim.Native.Nat.{ℕ, zero, suc, ◌+◌, ◌<◌}
use native.Mathlib.Omega.{arith}
use mathlib.Core.Path.{◌≡◌, refl, ap, ◌∙◌}
use mathlib.Core.Bool.{false, cond, not}
use mathlib.Core.List.{List, [], ◌∷◌}
use lib.Dec.{ltb, eqb}
use lib.ListN.{length, get_or, replicate}
use borrow.Author.Tests.{ltb-true, eqb-true, ne_eqb}
use Rattle.meaning.specs.Lists.{keep, sum}
use Rattle.meaning.specs.Trie.{Tree, fresh, insert, remove, nodes}
use Rattle.meaning.specs.Ledger.{Settings, Row, row, add, drop, put_row}
use Rattle.meaning.specs.Forest.{block_bytes, bytes_of_sketch, bytes_in, each_from, forest_after, total_nodes}
use Rattle.meaning.proofs.Lists.{eqb_comm}
use Rattle.trie_laws.specs.Needed.{needed, frees, sum_from}
use Rattle.trie_laws.proofs.Lists.{holds, fails, truth}
use Rattle.trie_laws.proofs.Nodes.{insert-nodes, remove-nodes}

module _ (f : ℕ → Tree → Tree) where
  pub each-length : (j : ℕ) (F : List Tree) → length (each_from f j F) ≡ length F
  unfolding each_from
  each-length j [] = refl
  each-length j (t ∷ F) = ap suc (each-length (suc j) F)

  pub each_at : (j : ℕ) (F : List Tree) (i : ℕ) (d e : Tree) → i < length F → get_or (each_from f j F) i d ≡ f (j + i) (get_or F i e)
  unfolding each_from
  each_at j [] i d e l = absurd (omega arith)
  each_at j (t ∷ F) zero d e l = ap (λ (k : ℕ). f k t) (omega arith)
  each_at j (t ∷ F) (suc i) d e l = each_at (suc j) F i d e (omega arith) ∙ ap (λ (k : ℕ). f k (get_or F i e)) (omega arith)

  -- nodes together: more, or less
  pub each_more : (g : ℕ → Tree → ℕ) → ((j : ℕ) (t : Tree) → nodes (f j t) ≡ nodes t + g j t) → (j : ℕ) (F : List Tree) →
      total_nodes (each_from f j F) ≡ total_nodes F + sum_from g j F
  unfolding each_from total_nodes sum sum_from
  each_more g e j [] = refl
  each_more g e j (t ∷ F) = omega (arith, e j t, each_more g e (suc j) F)

  pub each-less : (g : ℕ → Tree → ℕ) → ((j : ℕ) (t : Tree) → nodes (f j t) + g j t ≡ nodes t) → (j : ℕ) (F : List Tree) →
      total_nodes (each_from f j F) + sum_from g j F ≡ total_nodes F
  unfolding each_from total_nodes sum sum_from
  each-less g e j [] = refl
  each-less g e j (t ∷ F) = omega (arith, e j t, each-less g e (suc j) F)

module _ (bytes : ℕ → ℕ → List ℕ) (p : ℕ) where
  pub total-insert : (lens : ℕ → ℕ) (thresholds : List ℕ) (j : ℕ) (F : List Tree) →
      total_nodes (each_from (λ i. insert (bytes i) (lens i) thresholds 0 p) j F) ≡ total_nodes F + sum_from (λ i. needed (bytes i) (lens i) thresholds 0 p) j F
  total-insert lens thresholds =
      each_more (λ i. insert (bytes i) (lens i) thresholds 0 p) (λ i. needed (bytes i) (lens i) thresholds 0 p)
      (λ i t. insert-nodes (bytes i) (lens i) thresholds 0 p t)

  pub total-remove : (j : ℕ) (F : List Tree) →
      total_nodes (each_from (λ i. remove (bytes i) 0 p) j F) + sum_from (λ i. frees (bytes i) 0 p) j F ≡ total_nodes F
  total-remove = each-less (λ i. remove (bytes i) 0 p) (λ i. frees (bytes i) 0 p) (λ i t. remove-nodes (bytes i) 0 p t)

pub total-fresh : (q : ℕ) → total_nodes (replicate q fresh) ≡ q
unfolding total_nodes sum fresh nodes
total-fresh zero = refl
total-fresh (suc q) = omega (arith, total-fresh q)

-- after an accepted call
pub total-add : (s : Settings) (rows : List Row) (p c : ℕ) (x : List ℕ) (F : List Tree) →
    total_nodes (forest_after s rows (add p c x) F) ≡
    total_nodes F + sum_from (λ j. needed (bytes_in s (put_row (row p c x) rows) j) (block_bytes s j) s.thresholds 0 p) 0 F
unfolding forest_after
total-add s rows p c x F = total-insert (bytes_in s (put_row (row p c x) rows)) p (block_bytes s) s.thresholds 0 F

pub total-drop : (s : Settings) (rows : List Row) (p : ℕ) (F : List Tree) →
    total_nodes (forest_after s rows (drop p) F) + sum_from (λ j. frees (bytes_in s rows j) 0 p) 0 F ≡ total_nodes F
unfolding forest_after
total-drop s rows p F = total-remove (bytes_in s rows) p 0 F

-- ---- the packed bytes of a page, by the rows after an add and after a drop
module _ (s : Settings) (j x : ℕ) where
  pub bytes-put : (r : Row) (rows : List Row) → bytes_in s (put_row r rows) j x ≡ cond (eqb r.page x) (bytes_of_sketch s j r.sketch) (bytes_in s rows j x)
  unfolding bytes_in put_row
  bytes-put r [] = refl
  bytes-put r (y ∷ rows) = elim (truth (ltb y.page r.page)) [
    | holds e ↦
        let l : y.page < r.page = ltb-true y.page r.page e in
        rw (e, bytes-put r rows) (elim (truth (eqb r.page x)) [
          | holds z ↦ rw (z, ne_eqb y.page x (omega (arith, eqb-true r.page x z))) refl
          | fails z ↦ rw z refl
        ])
    | fails e ↦ rw e refl
  ]

  pub bytes-strike : (p : ℕ) (rows : List Row) → eqb x p ≡ false → bytes_in s (keep (λ r. not (eqb r.page p)) rows) j x ≡ bytes_in s rows j x
  unfolding bytes_in keep
  bytes-strike p [] h = refl
  bytes-strike p (y ∷ rows) h = elim (truth (eqb y.page p)) [
    | holds e ↦ rw (e, eqb-true y.page p e, eqb_comm p x ∙ h) (bytes-strike p rows h)
    | fails e ↦ rw (e, bytes-strike p rows h) refl
  ]
