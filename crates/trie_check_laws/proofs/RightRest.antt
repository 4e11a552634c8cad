-- What a state of the test has still to come, where the test ends well: for each frame the rest of the children.
use Prim.Native.Nat.{ℕ, suc, ◌+◌, ◌<◌, ◌≤◌}
use native.Mathlib.Omega.{arith}
use native.Mathlib.Numerals.{add-one}
use mathlib.Core.Path.{◌≡◌, refl, ◌∙◌, subst}
use mathlib.Core.Bool.{Bool, true}
use mathlib.Core.List.{List, [], ◌∷◌, ◌++◌}
use lib.Dec.{leb}
use lib.ListN.{length, get_or}
use borrow.Author.Tests.{leb-true, le-leb, lt-ltb}
use Rattle.meaning.specs.Lists.{all}
use Rattle.meaning.specs.Sketch.{packable}
use Rattle.meaning.specs.Trie.{Tree, inner, Children, none, child, nodes_in, pages_in, pages_among}
use Rattle.layout.specs.Nodes.{state_at, inner_state}
use Rattle.layout.specs.Pages.{is_live}
use Rattle.children.specs.Heap.{Holds}
use Rattle.children.specs.Phys.{Phys, Kids, inner_p, no_kid, kid, root, tree, children_of, cells, Sound}
use Rattle.children.proofs.AheadOrder.{Placed, AheadF, back-up, back-chain, back-child, back-all}
use Rattle.trie_laws.specs.Sound.{filled}
use Rattle.trie_laws.specs.Walk.{sound_walk, walk_from}
use Rattle.meaning.proofs.Lists.{and_intro, and_first, and_second, all_append}
use Rattle.children.specs.declared.order.Frame.{Frame}
use Rattle.children.specs.Order.{entered, past_child, next_chain}
use Rattle.node_check.specs.Given.{Given}
use Rattle.trie_check_laws.specs.Uses.{uses_among}
use Rattle.trie_check_laws.proofs.RightStep.{AtChild}
use Rattle.children.proofs.StepWords.{AtChain, AtEnd}

-- ---- the walk's test of children
module _ (bytes_of : ℕ → List ℕ) (b n len k : ℕ) (ys : List ℕ) where
  -- from a lower byte on
  pub walk-lower : (lo hi : ℕ) (cs : Children) → lo ≤ hi → walk_from bytes_of b n len k ys hi cs ≡ true → walk_from bytes_of b n len k ys lo cs ≡ true
  unfolding sound_walk
  walk-lower lo hi none l h = refl
  walk-lower lo hi (child c t cs) l h =
      rw (le-leb lo c (omega (arith, leb-true hi c (and_first (leb hi c) _ h)))) (and_second (leb hi c) _ h)

  pub walk-child : (lo c : ℕ) (t : Tree) (cs : Children) → lo ≤ c → packable b n k c ≡ true → filled t ≡ true
      → sound_walk bytes_of b n len (suc k) (ys ++ c ∷ []) t ≡ true → walk_from bytes_of b n len k ys (suc c) cs ≡ true
      → walk_from bytes_of b n len k ys lo (child c t cs) ≡ true
  unfolding sound_walk
  walk-child lo c t cs l p f s r = rw (le-leb lo c l, p, f, s, r) refl

-- ---- rests: the children that are still to come, together
abbrev pub nodes_all : List Kids → ℕ
nodes_all [] = 0
nodes_all (r ∷ rs) = nodes_in (children_of r) + nodes_all rs

abbrev pub pages_all : List Kids → ℕ
pages_all [] = 0
pages_all (r ∷ rs) = length (pages_among (children_of r)) + pages_all rs

abbrev pub uses_all : List Kids → ℕ → ℕ
uses_all [] x = 0
uses_all (r ∷ rs) x = uses_among r x + uses_all rs x

module _ (w : Given) (bytes_of : ℕ → List ℕ) where
  abbrev cap : ℕ
  cap = w.block.nodes

  abbrev walks : ℕ → List ℕ → ℕ → Children → Bool
  walks k ys lo cs = walk_from bytes_of w.rows.bits w.rows.length w.rows.bytes k ys lo cs

  abbrev AheadIn : Frame → Kids → Type 0
  AheadIn = AheadF cap w.block.pages w.block.base w.nodes w.pages

  -- the tables hold the rest of frame f, in a node at level k below the bytes ys
  pub record Covers (k : ℕ) (ys : List ℕ) (f : Frame) (r : Kids) : Type 0 where
    pub ahead : AheadIn f r
    pub walked : walks k ys f.least (children_of r) ≡ true
    pub live : all (is_live w.pages) (pages_among (children_of r)) ≡ true

  module _ (k : ℕ) (ys : List ℕ) (f : Frame) where
    -- a child at its place
    pub record Hangs (x byte : ℕ) (t : Phys) : Type 0 where
      pub place : root t ≡ x
      pub held : Holds (cells cap w.block.base t) w.nodes w.pages
      pub sound : Sound cap w.block.pages t
      pub full : filled (tree t) ≡ true
      pub walked : sound_walk bytes_of w.rows.bits w.rows.length w.rows.bytes (suc k) (ys ++ byte ∷ []) (tree t) ≡ true
      pub live : all (is_live w.pages) (pages_in (tree t)) ≡ true

    module _ (p : Placed f) where
      -- nothing is left
      pub covers-end : AtEnd w.nodes cap f → Covers k ys f no_kid
      unfolding sound_walk pages_in all
      covers-end a = record { ahead = back-up cap w.block.pages w.block.base w.nodes w.pages f p a; walked = refl; live = refl }

      -- the children from the next chain on
      pub covers-chain : (next : ℕ) (r : Kids) → AtChain w.nodes cap f next → Covers k ys (next_chain f next) r → Covers k ys f r
      covers-chain next r a c =
          record {
            ahead = back-chain cap w.block.pages w.block.base w.nodes w.pages f p next r a c.ahead;
            walked = walk-lower bytes_of w.rows.bits w.rows.length w.rows.bytes k ys f.least (next_chain f next).least (children_of r) (omega arith) c.walked;
            live = c.live;
          }

      -- a child and the rest behind it
      pub covers-child : (x byte next : ℕ) (t : Phys) (r : Kids) → AtChild w.nodes cap w.rows.bits w.rows.length k f x byte next
          → Hangs x byte t → Covers k ys (past_child f byte next) r → Covers k ys f (kid byte t r)
      unfolding pages_in
      covers-child x byte next t r a h c =
          record {
            ahead = back-child cap w.block.pages w.block.base w.nodes w.pages f p x byte next t r a.here h.place h.sound h.held c.ahead;
            walked = walk-child bytes_of w.rows.bits w.rows.length w.rows.bytes k ys f.least byte (tree t) (children_of r)
                a.here.least a.packs h.full h.walked (subst (λ m. walks k ys m (children_of r) ≡ true) (add-one byte) c.walked);
            live = all_append (is_live w.pages) (pages_in (tree t)) (pages_among (children_of r))
                ∙ and_intro (all (is_live w.pages) (pages_in (tree t))) (all (is_live w.pages) (pages_among (children_of r))) h.live c.live;
          }

  -- an inner node whose children are the rest of its first frame
  module _ (k : ℕ) (ys : List ℕ) (x : ℕ) (r : Kids) (c : Covers k ys (entered w.nodes cap x) r) where
    pub inner-held : get_or w.nodes (state_at cap x) 0 ≡ inner_state → Holds (cells cap w.block.base (inner_p x r)) w.nodes w.pages
    inner-held e = (e, (back-all cap w.block.pages w.block.base w.nodes w.pages x r c.ahead).0)

    pub inner-sound : x < cap → Sound cap w.block.pages (inner_p x r)
    inner-sound l = (l, (back-all cap w.block.pages w.block.base w.nodes w.pages x r c.ahead).1)

    pub inner-walked : k < w.rows.bytes → sound_walk bytes_of w.rows.bits w.rows.length w.rows.bytes k ys (inner (children_of r)) ≡ true
    unfolding entered sound_walk
    inner-walked l = rw (lt-ltb k w.rows.bytes l) c.walked
