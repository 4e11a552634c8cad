-- `prune_up`, one step at a time.
use Rattle.std.specs.Prelude.{Option, Some}
use Prim.Native.Nat.{ℕ, zero, suc, ◌+◌, ◌-◌, ◌<◌, ◌≤◌}
use native.Mathlib.Omega.{arith}
use mathlib.Core.Path.{◌≡◌, refl, ap, ◌∙◌, sym}
use mathlib.Core.Bool.{Bool, true, false}
use mathlib.Core.List.{List}
use lib.ListN.{get_or, set}
use Rattle.meaning.proofs.Stacks.{suc-pred}
use Rattle.layout.specs.Nodes.{state_at, empty_state}
use Rattle.children.specs.Order.{bare}
use Rattle.trie.specs.Model.{free_child}
use Rattle.trie.specs.declared.path.Reached.{Reached}
use Rattle.trie.specs.declared.path.Reach.{Reach}
use Rattle.trie.specs.declared.path.Reach.TheVariants.{Leaf}
use Rattle.trie.specs.declared.path.Passed.{Passed}
use Rattle.trie.specs.Descend.{passed_at, Noted, level_of}
use Rattle.trie.proofs.Notes.{passed-inside}
use Rattle.trie_remove.specs.Prune.{Freed, freed, prune_up, InTable}

module _ (N : List ℕ) (cap : ℕ) (way : ℕ → Passed) (k n s free : ℕ) where
  abbrev left : List ℕ
  left = free_child N cap s n free

  -- the node above has another child, or has none
  pub up-stop : bare left cap (way k).node ≡ false → prune_up N cap way (suc k) n s free ≡ freed left (n + 1)
  unfolding prune_up
  up-stop e = rw e refl

  pub up-on : bare left cap (way k).node ≡ true →
      prune_up N cap way (suc k) n s free ≡ prune_up (set left (state_at cap (way k).node) empty_state) cap way k (way k).node (way k).slot (n + 1)
  unfolding prune_up
  up-on e = rw e refl

-- the same in a loop: R is what the way up comes to in the end
module _ (N : List ℕ) (cap : ℕ) (way : ℕ → Passed) (k n s free : ℕ) (R : Freed) (inv : prune_up N cap way k n s free ≡ R) where
  pub prune-done : k ≤ 0 → freed N free ≡ R
  unfolding prune_up
  prune-done h = let e : k ≡ 0 = omega arith in rw e at inv

  module _ (h : 0 < k) (M : List ℕ) (e : M ≡ free_child N cap s n free) (r : ℕ) (z : r ≡ n + 1) (b : Bool) (q : b ≡ bare M cap (way (k - 1)).node) where
    abbrev above : Passed
    above = way (k - 1)

    from : prune_up N cap way (suc (k - 1)) n s free ≡ R
    from = ap (λ (d : ℕ). prune_up N cap way d n s free) (sym (suc-pred k h)) ∙ inv

    pub prune-stop : b ≡ false → freed M r ≡ R
    prune-stop f = rw (e, z) (sym (up-stop N cap way (k - 1) n s free (rw e at (sym q ∙ f))) ∙ from)

    pub prune-on : b ≡ true → (M' : List ℕ) → M' ≡ set M (state_at cap above.node) empty_state → prune_up M' cap way (k - 1) above.node above.slot r ≡ R
    prune-on f M' v = rw (v, e, z) (sym (up-on N cap way (k - 1) n s free (rw e at (sym q ∙ f))) ∙ from)

-- only the nodes above count
pub prune-same : (cap : ℕ) (path way : ℕ → Passed) (k : ℕ) → Noted path way k → (N : List ℕ) (n s free : ℕ) →
    prune_up N cap path k n s free ≡ prune_up N cap way k n s free
unfolding prune_up
prune-same cap path way zero h N n s free = refl
prune-same cap path way (suc k) h N n s free =
    let M : List ℕ = free_child N cap s n free in
    rw (h k (omega arith), prune-same cap path way k (λ j l. h j (omega arith)) (set M (state_at cap (way k).node) empty_state) (way k).node (way k).slot (n + 1)) refl

-- the nodes that a way notes are in the table
pub noted-within : (N : List ℕ) (cap root : ℕ) (Y : List ℕ) → root < cap → ((k : ℕ) → get_or Y k 0 < 256) → (r : Option Reach) (at : Reached) → r ≡ Some (Leaf at) →
    (path : ℕ → Passed) → Noted path (passed_at N cap root Y) (level_of r) → InTable cap path at.level
noted-within N cap root Y l o r at e path h j m = rw ((rw e at h) j m) (passed-inside N cap root Y l o j)
