-- The state of a leaf that holds a list of pages: the link to the first, and how many they are.
use Prim.Native.Nat.{ℕ, ◌≤◌}
use native.Mathlib.Omega.{arith}
use mathlib.Core.Path.{◌≡◌, refl}
use mathlib.Core.List.{List, [], ◌∷◌}
use lib.ListN.{length, get_or}
use Rattle.layout.specs.Nodes.{state_at, leaf_state}
use Rattle.layout.specs.Pages.{most_pages}
use Rattle.layout.specs.States.{kind_of, count_of}
use Rattle.layout.specs.declared.nodes.Kind.TheVariants.{Leaf}
use Rattle.layout.proofs.States.{leaf-kind, leaf-count, leaf-state}
use Rattle.children.specs.Phys.{first, Below}

none_first : (ps : List ℕ) → length ps ≡ 0 → first ps ≡ 0
none_first [] e = refl
none_first (p ∷ ps) e = absurd (omega arith)

first-none : (ps : List ℕ) → first ps ≡ 0 → length ps ≡ 0
first-none [] e = refl
first-none (p ∷ ps) e = absurd (omega arith)

pub first_below : (cap : ℕ) (ps : List ℕ) → Below cap ps → first ps ≤ cap
first_below cap [] b = omega arith
first_below cap (p ∷ ps) b = omega (arith, b.0)

module _ (N : List ℕ) (cap x : ℕ) (ps : List ℕ) where
  module _ {pcap : ℕ} (e : get_or N (state_at cap x) 0 ≡ leaf_state (length ps) (first ps)) (b : Below pcap ps) (small : pcap ≤ most_pages) where
    pub held-kind : kind_of N cap x ≡ Leaf (first ps)
    held-kind = leaf-kind N cap x (length ps) (first ps) e (omega (arith, first_below pcap ps b)) (first-none ps) (none_first ps)

    pub held-count : count_of N cap x ≡ length ps
    held-count = leaf-count N cap x (length ps) (first ps) e (omega (arith, first_below pcap ps b)) (first-none ps)

  pub held-state : kind_of N cap x ≡ Leaf (first ps) → count_of N cap x ≡ length ps → get_or N (state_at cap x) 0 ≡ leaf_state (length ps) (first ps)
  held-state k c = leaf-state N cap x (first ps) k (length ps) c (none_first ps)
