-- What a node is, and the test of a leaf: its pages, and their number. N is the node table, P the page table, S the sketch table.
use Rattle.std.specs.Prelude.{ℕ, zero, suc, ◌+◌, ◌-◌, Bool, cond, List, ltb, eqb, get_or, Option, Some, None}
use Rattle.meaning.specs.Lists.{all, upto}
use Rattle.layout.specs.States.{kind_of as stated}
use Rattle.layout.specs.declared.nodes.Kind.{Kind as Stated}
use Rattle.layout.specs.declared.nodes.Kind.TheVariants as kind
use Rattle.layout.specs.Pages.{is_live}
use Rattle.blocks.specs.declared.Rows.{Rows}
use Rattle.children.specs.Order.{bare}
use Rattle.blocks.specs.Packed.{page_byte, level_at}
use Rattle.node_check.specs.declared.leaf.Kind.{Kind}
use Rattle.node_check.specs.declared.leaf.Kind.TheVariants.{Inner, Leaf}

-- a leaf has no children
abbrev pub childless : Bool → Stated → Option Kind
childless q kind.Free = None
childless q kind.Inner = Some Inner
childless q (kind.Leaf first) = cond q (Some (Leaf first)) None

unfoldable pub kind_of : List ℕ → ℕ → ℕ → Option Kind
kind_of N cap x = childless (bare N cap x) (stated N cap x)

-- the first d bytes of page p are those of the path
unfoldable pub on_path : List ℕ → Rows → List ℕ → ℕ → ℕ → Bool
on_path S r path d p = all (λ k. eqb (page_byte S (level_at r k) p) (get_or path k 0)) (upto d)

-- what pages left of f, where they are as many as the number that stands in their leaf
abbrev pub counted : ℕ → ℕ → Option ℕ → Option ℕ
counted count f (Some n) = cond (eqb (n + count) f) (Some n) None
counted count f None = None

-- the pages of a leaf at the end of a path of d bytes, from a link on, at most f of them: what is left of f
module _ (P S : List ℕ) (pcap base : ℕ) (r : Rows) (path : List ℕ) (d : ℕ) where
  unfoldable pub test_pages : ℕ → ℕ → Option ℕ
  test_pages link zero = cond (eqb link 0) (Some 0) None
  test_pages link (suc f) =
      cond (eqb link 0) (Some (suc f))
      (cond (ltb pcap link) None
      (cond (is_live P (link - 1))
      (cond (on_path S r path d (link - 1)) (test_pages (get_or P (base + (link - 1)) 0) f) None)
      None))

  -- and that they are as many as `count`
  unfoldable pub test_leaf : ℕ → ℕ → ℕ → Option ℕ
  test_leaf first count f = counted count f (test_pages first f)
