-- Where the pages of a trie stand: each in the leaf on its bytes' path (document 01, "A store is sound if ..").
use Rattle.std.specs.Prelude.{ℕ, suc, ◌<◌, ◌≡◌, true, List, eqb}
use Rattle.meaning.specs.Lists.{all}
use Rattle.meaning.specs.Trie.{Tree, leaf, inner, Children, none, child, byte_at, pages_in}

-- Over the packed bytes of each page; the root of the trie is at level k.
module _ (bytes_of : ℕ → List ℕ) where
  abbrev mutual
    -- the pages below a child have its byte at their parent's level
    pub OnPath : ℕ → Tree → Type 0
    OnPath k (leaf ps) = Unit {0}
    OnPath k (inner cs) = OnPathUnder k cs

    pub OnPathUnder : ℕ → Children → Type 0
    OnPathUnder k none = Unit {0}
    OnPathUnder k (child c t cs) =
        (all (λ p. eqb (byte_at bytes_of k p) c) (pages_in t) ≡ true) × OnPath (suc k) t × OnPathUnder k cs

abbrev mutual
  -- inner nodes have levels below the packed length
  pub Shallow : ℕ → ℕ → Tree → Type 0
  Shallow len k (leaf ps) = Unit {0}
  Shallow len k (inner cs) = (k < len) × ShallowUnder len k cs

  pub ShallowUnder : ℕ → ℕ → Children → Type 0
  ShallowUnder len k none = Unit {0}
  ShallowUnder len k (child c t cs) = Shallow len (suc k) t × ShallowUnder len k cs
