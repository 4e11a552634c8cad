-- Chains whose pages lie in the tables, N of nodes and P of pages.
use Rattle.std.specs.Prelude.{ℕ, ◌≡◌, List, [], ◌∷◌}
use Rattle.children.specs.Heap.{Holds}
use Rattle.children.specs.Phys.{first, page_cells, Below}
use Rattle.meeting.specs.declared.Chain.{Chain}

module _ (N P : List ℕ) (cap : ℕ) where
  -- a chain by its pages, all below the capacity
  abbrev pub HeldChain : Chain → List ℕ → Type 0
  HeldChain c ps = (c.link ≡ first ps) × Holds (page_cells c.base ps) N P × Below cap ps

  abbrev pub HeldChains : List Chain → List (List ℕ) → Type 0
  HeldChains [] [] = Unit {0}
  HeldChains [] (ps ∷ lists) = ⊥
  HeldChains (c ∷ cs) [] = ⊥
  HeldChains (c ∷ cs) (ps ∷ lists) = HeldChain c ps × HeldChains cs lists
