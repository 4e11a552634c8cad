-- Words outside a range stay: through no change, one change after another, a word written inside.
use Prim.Native.Nat.{ℕ, ◌≤◌, ◌<◌}
use native.Mathlib.Omega.{arith}
use mathlib.Core.Path.{refl, ◌∙◌}
use mathlib.Core.List.{List}
use lib.ListN.{set, length-set}
use lib.Seq.{take-set-le, drop-set-lt}
use Rattle.layout.specs.Nodes.{node_words}
use Rattle.store.specs.Within.{Within}

module _ {lo hi : ℕ} where
  pub within_none : {A : List ℕ} → Within lo hi A A
  within_none = record { same = refl; front = refl; back = refl }

  pub within_both : {A B C : List ℕ} → Within lo hi A B → Within lo hi B C → Within lo hi A C
  within_both f g = record { same = g.same ∙ f.same; front = g.front ∙ f.front; back = g.back ∙ f.back }

  pub within-set : (A : List ℕ) (i v : ℕ) → lo ≤ i → i < hi → Within lo hi A (set A i v)
  within-set A i v l h = record { same = length-set A i v; front = take-set-le lo A i v l; back = drop-set-lt hi A i v h }

  pub within-less : {A B : List ℕ} → Within lo hi A B → Within 0 hi A B
  within-less w = record { same = w.same; front = refl; back = w.back }

-- a word of the nodes written
pub node-set : (cap : ℕ) (N : List ℕ) (i v : ℕ) → i < node_words cap → Within 0 (node_words cap) N (set N i v)
node-set cap N i v h = within-set N i v (omega arith) h
