-- The loop over the blocks, each within the block radius r.
use Rattle.std.specs.Prelude.{Option, Some, None}
use Prim.Native.Nat.{ℕ, suc, ◌+◌, ◌-◌, ◌/◌, ◌≤◌, ◌<◌}
use native.Mathlib.Omega.{arith}
use native.Mathlib.Numerals.{add-one}
use mathlib.Core.Path.{◌≡◌, refl, sym, ap, ◌∙◌}
use mathlib.Core.List.{List, map}
use Rattle.layout.specs.declared.Numbers.{Numbers}
use Rattle.layout.specs.Pages.{next_at}
use Rattle.walk.specs.Leaves.{Leaves, leaves, broken}
use Rattle.walk.specs.Walk.{walk_from}
use Rattle.hits.specs.Hit.{Test}
use Rattle.meeting.specs.declared.Tally.{Tally}
use Rattle.meeting.specs.Meets.{Meets, met, broken as unmet, and_then, with_left, chains_of, chain}
use Rattle.meeting.specs.Mets.{Meeting}
use Rattle.traversal.specs.Meets.{walk_of, pages_of, meet_block, meet_from, meet_blocks}
use Rattle.traversal.proofs.Left.{walk-left}
use Rattle.traversal.proofs.Going.{Going, going-over, going-met, going-stop}

left-same : (m : Meets) (n : ℕ) (ps : List ℕ) (k : ℕ) → with_left n m ≡ met ps k → n ≡ k
left-same (met qs i) n ps k e = cc
left-same unmet n ps k e = let z : ◌≡◌ {A = ℕ} 0 1 = cc in absurd (omega arith)

module _ (h : Numbers) (N P x : List ℕ) (r : ℕ) where
  pub blocks-all : (radius nodes : ℕ) → r ≡ radius / h.q → nodes ≡ h.nodes - h.q → meet_from h N P x r h.q 0 nodes ≡ meet_blocks h N P x radius
  unfolding meet_blocks
  blocks-all radius nodes e n = rw (e, n)

  pub blocks_start : (nodes : ℕ) → meet_from h N P x r h.q 0 nodes ≡ meet_from h N P x r (h.q - 0) 0 nodes
  blocks_start nodes =
      let all : h.q ≡ h.q - 0 = omega arith in
      ap (λ k. meet_from h N P x r k 0 nodes) all

  -- a block leaves no more of the nodes than it was given
  block-left : (j nodes : ℕ) (ps : List ℕ) (k : ℕ) → meet_block h N P x r j nodes ≡ met ps k → k ≤ nodes
  unfolding meet_block
  block-left j nodes ps k = go (walk_from (walk_of h N P x j) j r nodes) refl
    where
      go : (all : Leaves) → walk_from (walk_of h N P x j) j r nodes ≡ all → pages_of h N P x j all ≡ met ps k → k ≤ nodes
      go (leaves ls n) e f = omega (arith, walk-left (walk_of h N P x j) j r nodes ls n e, left-same (chains_of P h.pages h.pages (map (chain (next_at h.pages j)) ls)) n ps k f)
      go broken e f = let z : ◌≡◌ {A = ℕ} 0 1 = cc in absurd (omega arith)

  module _ (asked : Test) (words : ℕ) {m : Meets} {map₀ map counts : List ℕ} (j left : ℕ) {count : ℕ}
      (g : Going asked words m map₀ map counts (meet_from h N P x r (h.q - j) j left) count) where
    pub blocks-over : h.q ≤ j → Meeting asked words m map₀ map counts (Some record { left = left; count = count })
    unfolding meet_from
    blocks-over l =
        let none : h.q - j ≡ 0 = omega arith in
        going-over asked words g left (ap (λ k. meet_from h N P x r k j left) none)

    module _ (l : j < h.q) {now counts' : List ℕ} {a : Option Tally} (call : Meeting asked words (meet_block h N P x r j left) map now counts' a) where
      abbrev others : ℕ → Meets
      others n = meet_from h N P x r (h.q - (j + 1)) (j + 1) n

      first : meet_from h N P x r (h.q - j) j left ≡ and_then (meet_block h N P x r j left) others
      unfolding meet_from
      first =
          let more : h.q - j ≡ suc (h.q - (j + 1)) = omega arith in
          ap (λ k. meet_from h N P x r k j left) more
          ∙ ap (λ i. and_then (meet_block h N P x r j left) (λ n. meet_from h N P x r (h.q - (j + 1)) i n)) (sym (add-one j))

      pub blocks_more : (t : Tally) → a ≡ Some t → Going asked words m map₀ now counts' (meet_from h N P x r (h.q - (j + 1)) (j + 1) t.left) t.count
      blocks_more t e = going-met asked words g call t e (others t.left) (λ ps q. first ∙ ap (λ z. and_then z others) q)

      pub blocks-left : (t : Tally) → a ≡ Some t → t.left ≤ left
      blocks-left t e = let x = call.some t e in block-left j left x.0 t.left x.1

      pub blocks-stop : a ≡ None → Meeting asked words m map₀ now counts' None
      blocks-stop e = going-stop asked words g call e (λ q. first ∙ ap (λ z. and_then z others) q)
