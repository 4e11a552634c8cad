-- A block radius of 0: the descents of all blocks draw on the budget first, then the pages of their leaves are met.
use Rattle.std.specs.Prelude.{Option, Some, None}
use Prim.Native.Nat.{ℕ, zero, suc, ◌+◌, ◌-◌, ◌*◌, ◌≤◌, ◌<◌}
use native.Mathlib.Omega.{arith}
use mathlib.Core.Path.{◌≡◌, refl, sym, ap, ◌∙◌}
use mathlib.Core.Bool.{Bool, true, false, cond}
use mathlib.Core.List.{List, [], ◌∷◌, map, append-nil}
use lib.Dec.{ltb}
use lib.ListN.{length, take, length-map}
use borrow.Author.Tests.{ltb-true, ltb-false}
use Rattle.meaning.specs.Lists.{from}
use Rattle.meaning.proofs.Lists.{length_from}
use Rattle.layout.specs.declared.Numbers.{Numbers}
use Rattle.layout.specs.Pages.{next_at}
use Rattle.hits.specs.Hit.{Test}
use Rattle.descent.specs.Cursor.{left_of}
use Rattle.block_leaves.specs.declared.Ends.{Ends}
use Rattle.block_leaves.specs.Leaves.{leaf_in, drawn_in, drawn_from, Leaves}
use Rattle.walk.specs.Leaves.{leaves, spend}
use Rattle.walk.proofs.Spend.{spend-paid, spend-short}
use Rattle.walk.proofs.Run.{from-exact}
use Rattle.meeting.specs.declared.Chain.{Chain}
use Rattle.meeting.specs.declared.Chains.{Chains}
use Rattle.meeting.specs.declared.Tally.{Tally}
use Rattle.meeting.specs.Meets.{Meets, met, broken, after, and_then, with_left, chain_of, chains_of, chain}
use Rattle.meeting.specs.Mets.{Tallied, Meeting}
use Rattle.meeting.specs.Chains.{base_of, Linked}
use Rattle.meeting.proofs.Links.{then-broken}
use Rattle.meeting.proofs.Bounded.{left_after, each_of, chains-each}
use Rattle.meeting.proofs.Linked.{linked-each}
use Rattle.traversal.specs.Meets.{walk_of, pages_of, meet_block, meet_from}
use Rattle.traversal.proofs.Going.{Going, going_start, going-same, going-over, going-met, going-stop}

-- ---- what is left of a budget, by the code's answer
left-some : (n d k : ℕ) → left_of n d ≡ Some k → (d ≤ n) × (n - d ≡ k)
unfolding left_of
left-some n d k = go (ltb n d) refl
  where
    go : (t : Bool) → ltb n d ≡ t → cond t None (Some (n - d)) ≡ Some k → (d ≤ n) × (n - d ≡ k)
    go true e h = let w : ◌≡◌ {A = ℕ} 0 1 = cc in absurd (omega arith)
    go false e h = (omega (arith, ltb-false n d e), cc)

left-none : (n d : ℕ) → left_of n d ≡ None → n < d
unfolding left_of
left-none n d = go (ltb n d) refl
  where
    go : (t : Bool) → ltb n d ≡ t → cond t None (Some (n - d)) ≡ None → n < d
    go true e h = ltb-true n d e
    go false e h = let w : ◌≡◌ {A = ℕ} 0 1 = cc in absurd (omega arith)

-- ---- on behind one chain, with another number left
one_then : (n : ℕ) (m : Meets) (go : ℕ → Meets) → and_then (with_left n (and_then m (λ k. met [] k))) go ≡ and_then m (λ k. go n)
one_then n (met ps k) go = ap (λ qs. after qs (go n)) (append-nil ps)
one_then n broken go = refl

left-then : (n : ℕ) (m e : Meets) → and_then m (λ k. with_left n e) ≡ with_left n (and_then m (λ k. e))
left-then n (met ps k) e = sym (left_after n ps e)
left-then n broken e = refl

module _ (h : Numbers) (N P x : List ℕ) where
  -- the chain of the leaf of block j
  abbrev leaf_chain : ℕ → Chain
  leaf_chain j = chain (next_at h.pages j) (leaf_in h N x j)

  -- those of k blocks from j on
  abbrev leaf_chains : ℕ → ℕ → List Chain
  leaf_chains k j = map leaf_chain (from j k)

  abbrev leaf_pages : ℕ → Meets
  leaf_pages j = chain_of P h.pages (next_at h.pages j) (leaf_in h N x j) h.pages

  module _ (j nodes : ℕ) where
    block-exact : meet_block h N P x 0 j nodes ≡ pages_of h N P x j (spend nodes (drawn_in h N x j) (λ k. leaves (leaf_in h N x j ∷ []) k))
    unfolding meet_block leaf_in drawn_in
    block-exact = ap (pages_of h N P x j) (sym (from-exact (walk_of h N P x j) j 0 nodes refl))

    block-lasts : drawn_in h N x j ≤ nodes → meet_block h N P x 0 j nodes ≡ with_left (nodes - drawn_in h N x j) (and_then (leaf_pages j) (λ k. met [] k))
    unfolding chains_of
    block-lasts l = block-exact ∙ ap (pages_of h N P x j) (spend-paid nodes (drawn_in h N x j) (λ k. leaves (leaf_in h N x j ∷ []) k) l)

    block-spent : nodes < drawn_in h N x j → meet_block h N P x 0 j nodes ≡ broken
    block-spent l = block-exact ∙ ap (pages_of h N P x j) (spend-short nodes (drawn_in h N x j) (λ k. leaves (leaf_in h N x j ∷ []) k) l)

  -- block j and k others, where the budget lasts for block j
  first-lasts : (k j nodes : ℕ) → drawn_in h N x j ≤ nodes
      → meet_from h N P x 0 (suc k) j nodes ≡ and_then (leaf_pages j) (λ i. meet_from h N P x 0 k (suc j) (nodes - drawn_in h N x j))
  unfolding meet_from
  first-lasts k j nodes l =
      ap (λ m. and_then m (λ n. meet_from h N P x 0 k (suc j) n)) (block-lasts j nodes l)
      ∙ one_then (nodes - drawn_in h N x j) (leaf_pages j) (λ n. meet_from h N P x 0 k (suc j) n)

  blocks_last : (k j nodes : ℕ) → drawn_from h N x k j ≤ nodes
      → meet_from h N P x 0 k j nodes ≡ with_left (nodes - drawn_from h N x k j) (each_of P h.pages (leaf_chains k j))
  unfolding meet_from drawn_from each_of from
  blocks_last zero j nodes l = let same : nodes ≡ nodes - 0 = omega arith in ap (met []) same
  blocks_last (suc k) j nodes l =
      let n : ℕ = nodes - drawn_in h N x j in
      let rest : Meets = each_of P h.pages (leaf_chains k (suc j)) in
      let less : n - drawn_from h N x k (suc j) ≡ nodes - (drawn_in h N x j + drawn_from h N x k (suc j)) = omega arith in
      first-lasts k j nodes (omega arith)
      ∙ ap (λ m. and_then (leaf_pages j) (λ i. m)) (blocks_last k (suc j) n (omega arith))
      ∙ left-then (n - drawn_from h N x k (suc j)) (leaf_pages j) rest
      ∙ ap (λ r. with_left r (and_then (leaf_pages j) (λ i. rest))) less

  blocks-spent : (k j nodes : ℕ) → nodes < drawn_from h N x k j → meet_from h N P x 0 k j nodes ≡ broken
  unfolding meet_from drawn_from
  blocks-spent zero j nodes l = absurd (omega arith)
  blocks-spent (suc k) j nodes l = go (ltb nodes (drawn_in h N x j)) refl (blocks-spent k (suc j))
    where
      go : (t : Bool) → ltb nodes (drawn_in h N x j) ≡ t → ((n : ℕ) → n < drawn_from h N x k (suc j) → meet_from h N P x 0 k (suc j) n ≡ broken)
          → meet_from h N P x 0 (suc k) j nodes ≡ broken
      go true e deeper = ap (λ m. and_then m (λ n. meet_from h N P x 0 k (suc j) n)) (block-spent j nodes (ltb-true nodes (drawn_in h N x j) e))
      go false e deeper =
          let enough : drawn_in h N x j ≤ nodes = ltb-false nodes (drawn_in h N x j) e in
          first-lasts k j nodes enough
          ∙ then-broken (leaf_pages j) (λ i. meet_from h N P x 0 k (suc j) (nodes - drawn_in h N x j)) (λ i. deeper (nodes - drawn_in h N x j) (omega arith))

  -- ---- as the code goes: the descents, then the chains
  module _ (budget : ℕ) (ends : Ends) (found : Leaves h N x budget ends) where
    pub exact-spent : ends.left ≡ None → meet_from h N P x 0 h.q 0 budget ≡ broken
    exact-spent e = blocks-spent h.q 0 budget (left-none budget (drawn_from h N x h.q 0) (sym found.left ∙ e))

    exact-lasts : (over : ℕ) → ends.left ≡ Some over → (r : Chains) → Linked (base_of (next_at h.pages 0) h.pages) ends.firsts h.q r → h.q ≤ 16
        → meet_from h N P x 0 h.q 0 budget ≡ with_left over (chains_of P h.pages (h.q * h.pages) (take r.n r.each))
    exact-lasts over e r linked few =
        let lasts = left-some budget (drawn_from h N x h.q 0) over (sym found.left ∙ e) in
        let cs : List Chain = leaf_chains h.q 0 in
        let many : length cs ≡ h.q = length-map (from 0 h.q) leaf_chain ∙ length_from 0 h.q in
        blocks_last h.q 0 budget lasts.0
        ∙ ap (λ n. with_left n (each_of P h.pages cs)) lasts.1
        ∙ sym (chains-each P h.pages cs (h.q * h.pages) over (rw many (omega arith)))
        ∙ ap (λ ds. with_left over (chains_of P h.pages (h.q * h.pages) ds)) (sym (linked-each h.pages linked few (leaf_in h N x) (found.each over e)))

    -- the chains are met
    module _ (over : ℕ) (e : ends.left ≡ Some over) {cs : Chains} (linked : Linked (base_of (next_at h.pages 0) h.pages) ends.firsts h.q cs) (few : h.q ≤ 16)
        (asked : Test) (words : ℕ) {map now counts counts' : List ℕ} (count : ℕ) (counted : Tallied asked words map counts count) {r : Option Tally}
        (call : Meeting asked words (chains_of P h.pages (h.q * h.pages) (take cs.n cs.each)) map now counts' r) where
      begun : Going asked words (meet_from h N P x 0 h.q 0 budget) map map counts (with_left over (chains_of P h.pages (h.q * h.pages) (take cs.n cs.each))) count
      begun = going-same asked words (going_start asked words map counts (meet_from h N P x 0 h.q 0 budget) count counted) _ (exact-lasts over e cs linked few)

      pub exact-met : (t : Tally) → r ≡ Some t → Meeting asked words (meet_from h N P x 0 h.q 0 budget) map now counts' (Some record { left = over; count = t.count })
      exact-met t f =
          going-over asked words
          (going-met asked words begun call t f (met [] over) (λ ps q. ap (with_left over) q ∙ ap (λ qs. met qs over) (sym (append-nil ps)))) over refl

      pub exact-unmet : r ≡ None → Meeting asked words (meet_from h N P x 0 h.q 0 budget) map now counts' None
      exact-unmet f = going-stop asked words begun call f (λ q. ap (with_left over) q)
