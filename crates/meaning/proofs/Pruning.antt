-- Removal by computation: how far up the nodes go with a page (document 02, F-2). A page's bytes are its three digits.
use Prim.Native.Nat.{ℕ, ◌/◌, ◌%◌}
use mathlib.Core.Path.{◌≡◌, refl}
use mathlib.Core.Bool.{true, false}
use mathlib.Core.List.{List, [], ◌∷◌}
use Rattle.meaning.specs.Trie.{Tree, leaf, inner, Children, none, child, without, prune, shrunk, byte_at, remove, has_child, pruned}

abbrev bytes : ℕ → List ℕ
bytes p = p / 100 ∷ p / 10 % 10 ∷ p % 10 ∷ []

-- page 123 alone below its first byte, three levels down, beside other children
abbrev deep : Children → Children → Tree
deep beside above = inner (child 1 (inner (child 2 (inner (child 3 (leaf (123 ∷ [])) none)) beside)) above)

-- another page
abbrev other : Children
other = child 4 (leaf (440 ∷ [])) none

-- an inner node of an earlier store that had lost its children, with another byte than the page's own
abbrev childless : Children
childless = child 4 (inner none) none

pub record Pruning : Type 0 where
  -- the leaf and the two nodes above it go; a node that has another child stays
  pub three-levels : remove bytes 0 123 (deep none other) ≡ inner other
  pub sibling : remove bytes 0 123 (deep other other) ≡ inner (child 1 (inner other) other)
  -- a leaf that keeps a page stays
  pub page-left : remove bytes 0 123 (inner (child 1 (leaf (123 ∷ 124 ∷ [])) childless)) ≡ inner (child 1 (leaf (124 ∷ [])) childless)
  -- a root that loses its last child is a leaf without pages
  pub root : remove bytes 0 123 (deep none none) ≡ leaf []
  pub leaf-root : remove bytes 0 123 (leaf (123 ∷ [])) ≡ leaf []
  -- a childless sibling is a child, and stays: behind the page's byte, at the root, beside a node that stays, and before the page's byte
  pub childless-sibling : remove bytes 0 123 (deep childless none) ≡ inner (child 1 (inner childless) none)
  pub childless-above : remove bytes 0 123 (deep none childless) ≡ inner childless
  pub childless-beside : remove bytes 0 123 (deep other childless) ≡ inner (child 1 (inner other) childless)
  pub childless-before : remove bytes 0 512 (inner (child 4 (inner none) (child 5 (leaf (512 ∷ [])) none))) ≡ inner childless
  -- so does a childless node where a page's bytes lead
  pub childless-there : remove bytes 0 440 (inner childless) ≡ inner childless
  pub childless-root : remove bytes 0 440 (inner none) ≡ inner none
  -- the test for such nodes: none, one below, one at the root
  pub none-childless : pruned (deep other none) ≡ true
  pub below-childless : pruned (deep childless other) ≡ false
  pub root-childless : pruned (inner none) ≡ false

pub pruning : Pruning
unfolding remove shrunk prune without byte_at pruned has_child
pruning = record {
  three-levels = refl;
  sibling = refl;
  page-left = refl;
  root = refl;
  leaf-root = refl;
  childless-sibling = refl;
  childless-above = refl;
  childless-beside = refl;
  childless-before = refl;
  childless-there = refl;
  childless-root = refl;
  none-childless = refl;
  below-childless = refl;
  root-childless = refl;
}
