-- The number that stands in each leaf of a trie (document 02, F-6). N is the node table, of cap nodes.
use Rattle.std.specs.Prelude.{ℕ, ◌≡◌, List, [], ◌∷◌, length}
use Rattle.layout.specs.States.{count_of}
use Rattle.children.specs.Phys.{Phys, Kids, leaf_p, inner_p, no_kid, kid}

-- it is that of the leaf's pages
module _ (N : List ℕ) (cap : ℕ) where
  abbrev mutual
    pub Numbered : Phys → Type 0
    Numbered (leaf_p x ps) = count_of N cap x ≡ length ps
    Numbered (inner_p x ks) = NumberedKids ks

    pub NumberedKids : Kids → Type 0
    NumberedKids no_kid = Unit {0}
    NumberedKids (kid b t ks) = Numbered t × NumberedKids ks

  abbrev pub AllNumbered : List Phys → Type 0
  AllNumbered [] = Unit {0}
  AllNumbered (t ∷ ts) = Numbered t × AllNumbered ts
