-- Where the test ends well, each state of it has a rest that the tables hold: by the turns of the machine, from the last one back.
use Prim.Native.Nat.{ℕ, suc, ◌+◌, ◌<◌, ◌≤◌}
use native.Mathlib.Omega.{arith}
use mathlib.Core.Path.{◌≡◌, refl, subst}
use mathlib.Core.List.{List, [], ◌∷◌}
use lib.ListN.{length, set, take, length-append}
use lib.Seq.{take-set-le}
use Rattle.meaning.specs.Trie.{nodes, nodes_in, pages_in, pages_among}
use Rattle.words.specs.Bits.{flag}
use Rattle.children.specs.Phys.{Phys, Kids, no_kid, kid, tree, children_of}
use Rattle.children.specs.declared.order.Frame.{Frame}
use Rattle.children.specs.Order.{past_child, next_chain}
use Rattle.node_check.specs.Given.{Given}
use Rattle.trie_check_laws.specs.Uses.{uses, uses_among}
use Rattle.trie_check_laws.specs.Found.{one}
use Rattle.trie_check_laws.proofs.RightStep.{AtChild}
use Rattle.children.proofs.StepWords.{AtChain, AtEnd}
use Rattle.children.proofs.AheadOrder.{Placed, placed-chain, placed-child}
use Rattle.trie_check_laws.proofs.RightRest.{nodes_all, pages_all, uses_all, Covers, Hangs, covers-end, covers-chain, covers-child}

module _ (w : Given) (bytes_of : ℕ → List ℕ) where
  -- a frame whose least byte belongs to its group has a rest
  abbrev pub Covered : ℕ → List ℕ → Frame → Kids → Type 0
  Covered k ys f r = Placed f → Covers w bytes_of k ys f r

  -- the frames of a stack, the nearest first, with their rests
  abbrev pub Above : List Frame → List ℕ → List Kids → Type 0
  Above [] path [] = Unit {0}
  Above [] path (r ∷ rs) = ⊥
  Above (f ∷ fs) path [] = ⊥
  Above (f ∷ fs) path (r ∷ rs) = Covered (length fs) (take (length fs) path) f r × Above fs path rs

  -- bytes behind the stack's do not matter
  above-set : (fs : List Frame) (rs : List Kids) (path : List ℕ) (k byte : ℕ) → length fs ≤ k → Above fs (set path k byte) rs → Above fs path rs
  above-set [] [] path k byte l h = tt
  above-set [] (r ∷ rs) path k byte l h = h
  above-set (f ∷ fs) [] path k byte l h = h
  above-set (f ∷ fs) (r ∷ rs) path k byte l h = (
    subst (λ ys. Covered (length fs) ys f r) (take-set-le (length fs) path k byte (omega arith)) h.0,
    above-set fs rs path k byte (omega arith) h.1,
  )

  -- The rest of a state: with it the budgets come out even and the marks become those of map', of which `left'` nodes are left.
  -- `bits` are the marks so far, in a map of `size` words.
  pub record Completes (bits : ℕ → ℕ) (size : ℕ) (path : List ℕ) (left pages : ℕ) (f : Frame) (fs : List Frame) (map' : List ℕ) (left' : ℕ) : Type 0 where
    pub here : Kids
    pub above : List Kids
    pub covers : Covered (length fs) (take (length fs) path) f here
    pub covered : Above fs path above
    pub nodes_left : left' + (nodes_in (children_of here) + nodes_all above) ≡ left
    pub pages_left : length (pages_among (children_of here)) + pages_all above ≡ pages
    pub long : length map' ≡ size
    pub marks : (n : ℕ) → n < w.window.size → one (flag map' 0 n) ≡ bits n + (uses_among here (w.window.from + n) + uses_all above (w.window.from + n))

  module _ (bits : ℕ → ℕ) (size : ℕ) (path : List ℕ) (left pages : ℕ) (f : Frame) where
    abbrev ends : ℕ → Type 0
    ends k = AtEnd w.nodes w.block.nodes f

    -- the last step
    pub complete-done : (map' : List ℕ) (left' : ℕ) → ends 0 → left' ≡ left → pages ≡ 0 → length map' ≡ size
        → ((n : ℕ) → one (flag map' 0 n) ≡ bits n) → Completes bits size path left pages f [] map' left'
    unfolding pages_in nodes
    complete-done map' left' a e z l m = record {
      here = no_kid;
      above = [];
      covers = λ p. covers-end w bytes_of 0 (take 0 path) f p a;
      covered = tt;
      nodes_left = omega arith;
      pages_left = omega arith;
      long = l;
      marks = λ n b. omega (arith, m n);
    }

    -- a step up
    pub complete-up : (f' : Frame) (fs : List Frame) (map' : List ℕ) (left' : ℕ) → ends (suc (length fs))
        → Completes bits size path left pages f' fs map' left' → Completes bits size path left pages f (f' ∷ fs) map' left'
    unfolding pages_in nodes
    complete-up f' fs map' left' a c = record {
      here = no_kid;
      above = c.here ∷ c.above;
      covers = λ p. covers-end w bytes_of (suc (length fs)) (take (suc (length fs)) path) f p a;
      covered = (c.covers, c.covered);
      nodes_left = omega (arith, c.nodes_left);
      pages_left = omega (arith, c.pages_left);
      long = c.long;
      marks = λ n b. omega (arith, c.marks n b);
    }

    -- a step to the next chain
    pub complete-chain : (next : ℕ) (fs : List Frame) (map' : List ℕ) (left' : ℕ)
        → AtChain w.nodes w.block.nodes f next
        → Completes bits size path left pages (next_chain f next) fs map' left' → Completes bits size path left pages f fs map' left'
    complete-chain next fs map' left' a c = record {
      here = c.here;
      above = c.above;
      covers = λ p. covers-chain w bytes_of (length fs) (take (length fs) path) f p next c.here a
          (c.covers (placed-chain w.block.nodes w.block.pages w.block.base w.nodes w.pages f p next a));
      covered = c.covered;
      nodes_left = c.nodes_left;
      pages_left = c.pages_left;
      long = c.long;
      marks = λ n b. omega (arith, c.marks n b);
    }

    -- past a child t
    pub complete-child : (x byte next : ℕ) (t : Phys) (bits' : ℕ → ℕ) (left₁ pages₁ : ℕ) (fs : List Frame) (map' : List ℕ) (left' : ℕ)
        → AtChild w.nodes w.block.nodes w.rows.bits w.rows.length (length fs) f x byte next
        → Hangs w bytes_of (length fs) (take (length fs) path) f x byte t
        → left₁ + nodes (tree t) ≡ left → pages₁ + length (pages_in (tree t)) ≡ pages
        → ((n : ℕ) → n < w.window.size → bits' n ≡ bits n + uses t (w.window.from + n))
        → Completes bits' size (set path (length fs) byte) left₁ pages₁ (past_child f byte next) fs map' left'
        → Completes bits size path left pages f fs map' left'
    unfolding pages_in nodes
    complete-child x byte next t bits' left₁ pages₁ fs map' left' a h u v m c =
        let same : take (length fs) (set path (length fs) byte) ≡ take (length fs) path = take-set-le (length fs) path (length fs) byte (omega arith) in
        record {
          here = kid byte t c.here;
          above = c.above;
          covers = λ p. covers-child w bytes_of (length fs) (take (length fs) path) f p x byte next t c.here a h
              (subst (λ ys. Covered (length fs) ys (past_child f byte next) c.here) same c.covers
              (placed-child w.block.nodes w.block.pages w.block.base w.nodes w.pages f p x byte next a.here));
          covered = above-set fs c.above path (length fs) byte (omega arith) c.covered;
          nodes_left = omega (arith, c.nodes_left);
          pages_left = omega (arith, c.pages_left, length-append (pages_in (tree t)) (pages_among (children_of c.here)));
          long = c.long;
          marks = λ n b. omega (arith, c.marks n b, m n b);
        }

  -- ---- back to the frame above: what was left below it is a tree
  pub record Returned (bits : ℕ → ℕ) (size : ℕ) (path : List ℕ) (left pages : ℕ) (f f' : Frame) (fs : List Frame) (map' : List ℕ) (left' : ℕ) : Type 0 where
    pub below : Kids
    pub covers : Covered (suc (length fs)) (take (suc (length fs)) path) f below
    pub left_after : ℕ
    pub pages_after : ℕ
    pub nodes_below : left_after + nodes_in (children_of below) ≡ left
    pub pages_below : pages_after + length (pages_among (children_of below)) ≡ pages
    pub onward : Completes (λ n. bits n + uses_among below (w.window.from + n)) size path left_after pages_after f' fs map' left'

  pub return : (bits : ℕ → ℕ) (size : ℕ) (path : List ℕ) (left pages : ℕ) (f f' : Frame) (fs : List Frame) (map' : List ℕ) (left' : ℕ)
      → Completes bits size path left pages f (f' ∷ fs) map' left' → Returned bits size path left pages f f' fs map' left'
  return bits size path left pages f f' fs map' left' c = go c.above c.covered c.nodes_left c.pages_left c.marks
    where
      go : (rs : List Kids) → Above (f' ∷ fs) path rs → left' + (nodes_in (children_of c.here) + nodes_all rs) ≡ left
          → length (pages_among (children_of c.here)) + pages_all rs ≡ pages
          → ((n : ℕ) → n < w.window.size → one (flag map' 0 n) ≡ bits n + (uses_among c.here (w.window.from + n) + uses_all rs (w.window.from + n)))
          → Returned bits size path left pages f f' fs map' left'
      go [] a u v m = absurd a
      go (r ∷ rs) a u v m = record {
        below = c.here;
        covers = c.covers;
        left_after = left' + (nodes_in (children_of r) + nodes_all rs);
        pages_after = length (pages_among (children_of r)) + pages_all rs;
        nodes_below = omega arith;
        pages_below = omega arith;
        onward = record {
          here = r;
          above = rs;
          covers = a.0;
          covered = a.1;
          nodes_left = refl;
          pages_left = refl;
          long = c.long;
          marks = λ n b. omega (arith, m n b);
        };
      }
