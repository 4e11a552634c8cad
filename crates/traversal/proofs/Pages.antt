-- The pages of the leaves of one block, some of them after others.
use Prim.Native.Nat.{ℕ}
use mathlib.Core.Path.{◌≡◌, refl, ap, ◌∙◌}
use mathlib.Core.List.{List, ◌++◌, map, map-append}
use Rattle.layout.specs.declared.Numbers.{Numbers}
use Rattle.layout.specs.Pages.{next_at}
use Rattle.walk.specs.Leaves.{Leaves, leaves, broken, before}
use Rattle.meeting.specs.declared.Chain.{Chain}
use Rattle.meeting.specs.Meets.{Meets, met, broken as unmet, after, and_then, with_left, chains_of, chain}
use Rattle.meeting.proofs.Links.{chains-append}
use Rattle.meeting.proofs.Bounded.{left_after}
use Rattle.traversal.specs.Meets.{pages_of}

module _ (h : Numbers) (P : List ℕ) (j : ℕ) where
  -- the chains of leaves of block j
  abbrev pub chains_in : List ℕ → List Chain
  chains_in links = map (chain (next_at h.pages j)) links

  abbrev met_in : ℕ → List ℕ → Meets
  met_in left links = chains_of P h.pages left (chains_in links)

  -- the pages of leaves of block j, when so many may still be met
  abbrev pub pages_from : ℕ → Leaves → Meets
  pages_from left (leaves links n) = with_left n (met_in left links)
  pages_from left broken = unmet

  pub pages-all : (N x : List ℕ) (all : Leaves) → pages_of h N P x j all ≡ pages_from h.pages all
  pages-all N x (leaves links n) = refl
  pages-all N x broken = refl

  module _ (left : ℕ) (links : List ℕ) where
    both : (others : List ℕ) → met_in left (links ++ others) ≡ and_then (met_in left links) (λ k. met_in k others)
    both others =
        ap (chains_of P h.pages left) (map-append (chain (next_at h.pages j)) links others)
        ∙ chains-append P h.pages (chains_in links) (chains_in others) left

    pub pages-met : (ps : List ℕ) (k : ℕ) → met_in left links ≡ met ps k → (rest : Leaves) → pages_from left (before links rest) ≡ after ps (pages_from k rest)
    pages-met ps k e (leaves others n) =
        ap (with_left n) (both others ∙ ap (λ m. and_then m (λ i. met_in i others)) e) ∙ left_after n ps (met_in k others)
    pages-met ps k e broken = refl

    pub pages-unmet : met_in left links ≡ unmet → (rest : Leaves) → pages_from left (before links rest) ≡ unmet
    pages-unmet e (leaves others n) = ap (with_left n) (both others ∙ ap (λ m. and_then m (λ i. met_in i others)) e)
    pages-unmet e broken = refl
