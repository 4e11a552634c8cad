-- What the test of one block's trie finds where it says yes. `bytes_of` are the pages' packed bytes in this block.
use Rattle.std.specs.Prelude.{ℕ, ◌+◌, ◌<◌, ◌≡◌, Bool, true, cond, List, [], length}
use Rattle.meaning.specs.Lists.{all}
use Rattle.meaning.specs.Trie.{byte_at, pages_in}
use Rattle.words.specs.Bits.{flag}
use Rattle.layout.specs.Pages.{is_live}
use Rattle.children.specs.Heap.{Holds}
use Rattle.children.specs.Phys.{Phys, root, tree, cells}
use Rattle.children.specs.Phys.{Sound as SoundNodes}
use Rattle.blocks.specs.Packed.{page_byte, level_at}
use Rattle.trie_laws.specs.Walk.{sound_walk}
use Rattle.node_check.specs.Given.{Given}
use Rattle.trie_check_laws.specs.Uses.{uses}

-- the packed bytes are those that the rows of the sketch table give
abbrev pub Reads : Given → (ℕ → List ℕ) → Type 0
Reads w bytes_of =
    (p k : ℕ) → p < w.block.pages → k < w.rows.bytes → byte_at bytes_of k p ≡ page_byte w.sketches (level_at w.rows k) p

-- trie t lies in the tables, at a root, and is sound; in it stand `total` pages, all live
pub record Found (w : Given) (bytes_of : ℕ → List ℕ) (at total : ℕ) (t : Phys) : Type 0 where
  pub place : root t ≡ at
  pub sound : SoundNodes w.block.nodes w.block.pages t
  pub holds : Holds (cells w.block.nodes w.block.base t) w.nodes w.pages
  pub walked : sound_walk bytes_of w.rows.bits w.rows.length w.rows.bytes 0 [] (tree t) ≡ true
  pub live : all (is_live w.pages) (pages_in (tree t)) ≡ true
  pub pages : length (pages_in (tree t)) ≡ total

-- 1 for yes
abbrev pub one : Bool → ℕ
one q = cond q 1 0

-- each node of the window was marked where it stands in t, and none twice
pub record Marked (w : Given) (t : Phys) (map map' : List ℕ) : Type 0 where
  pub long : length map' ≡ length map
  pub marks : (n : ℕ) → n < w.window.size → one (flag map' 0 n) ≡ one (flag map 0 n) + uses t (w.window.from + n)
