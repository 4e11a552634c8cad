-- On tables that hold a sound trie for each block the walks meet exactly what the tries do, and the budget of nodes lasts.
use Prim.Native.Nat.{ℕ, suc, ◌+◌, ◌*◌, ◌/◌, ◌^◌, ◌≤◌, ◌<◌}
use native.Mathlib.Omega.{arith}
use native.Mathlib.Nat.{lt_of_lt_of_le, mul-le-mul_left, min-le_left}
use mathlib.Core.Path.{◌≡◌, refl, sym, ap, ◌∙◌}
use mathlib.Core.Bool.{Bool, true}
use mathlib.Core.List.{List, [], ◌∷◌, ◌++◌, map, flatten}
use lib.ListN.{length, get_or}
use lib.Pow.{pow_mono}
use Rattle.meaning.specs.Lists.{sum}
use Rattle.meaning.specs.Sketch.{per_byte, in_range, symbols_at, block, block_length}
use Rattle.meaning.specs.Trie.{met, nodes}
use Rattle.meaning.specs.Ledger.{Settings}
use Rattle.meaning.specs.Forest.{block_bytes, bytes_of_sketch, met_from, total_nodes}
use Rattle.layout.specs.Header.{header_of}
use Rattle.layout.specs.Limits.{HeaderLimits}
use Rattle.layout.specs.Pages.{next_at}
use Rattle.sketch_laws.proofs.Packing.{pack-lt}
use Rattle.sketch_laws.proofs.Blocks.{block-length, block-range, block-packed}
use Rattle.children.specs.Heap.{Holds}
use Rattle.children.specs.Phys.{Phys, root, tree, cells}
use Rattle.children.specs.Phys.{Sound as SoundNodes}
use Rattle.trie_laws.specs.Block.{SoundBlock, EachFrom}
use Rattle.meaning.proofs.Lists.{count-upto}
use Rattle.trie_laws.proofs.Nodes.{nodes-some}
use Rattle.trie_laws.proofs.Pages.{stands-length}
use Rattle.promises.specs.Sound.{tries_cells, Rooted}
use Rattle.meeting.specs.Meets.{Meets, met as pages, after, and_then, with_left}
use Rattle.meeting.proofs.Held.{chains-at}
use Rattle.walk.specs.Walk.{walk_from}
use Rattle.walk_laws.proofs.Walk.{walk-right}
use Rattle.traversal.specs.Meets.{walk_of, pages_of, meet_block, meet_from, meet_blocks}
use Rattle.search_laws.proofs.Meets.{met-most}

-- each trie has a node
tries-some : (ts : List Phys) → length ts ≤ total_nodes (map tree ts)
unfolding total_nodes sum
tries-some [] = omega arith
tries-some (t ∷ ts) = omega (arith, nodes-some (tree t), tries-some ts)

-- the pages met, and of a budget all is left but the nodes that can be read
pub record Whole (m : Meets) (ps : List ℕ) (budget read : ℕ) : Type 0 where
  pub left : ℕ
  pub enough : budget ≤ left + read
  pub same : m ≡ pages ps left

-- what is met first, and what then
joined : (m : Meets) (go : ℕ → Meets) (ps qs : List ℕ) (k l : ℕ) → m ≡ pages ps k → go k ≡ pages qs l → and_then m go ≡ pages (ps ++ qs) l
joined m go ps qs k l e f = ap (λ n. and_then n go) e ∙ ap (after ps) f

module _ (s : Settings) (limits : HeaderLimits (header_of s)) (N P x : List ℕ) (count : length x ≡ s.symbols) (range : in_range s.bits x ≡ true) where
  -- the query's bytes in block j
  bytes-length : (j : ℕ) → j < s.blocks → length (bytes_of_sketch s j x) ≡ block_bytes s j
  unfolding bytes_of_sketch block_bytes
  bytes-length j l = block-packed s.symbols s.blocks s.bits j x l count

  bytes_small : (j : ℕ) → j < s.blocks → (k : ℕ) → get_or (bytes_of_sketch s j x) k 0 < 2 ^ (s.bits * per_byte s.bits)
  unfolding bytes_of_sketch symbols_at
  bytes_small j l k =
      let n : ℕ = block_length s.symbols s.blocks j in
      lt_of_lt_of_le
      (pack-lt s.bits n k (block s.symbols s.blocks j x)
      (block-length s.symbols s.blocks j x l count) (block-range s.symbols s.blocks s.bits j x range))
      (pow_mono {i = s.bits * symbols_at s.bits n k} {j = s.bits * per_byte s.bits} (mul-le-mul_left s.bits (min-le_left (per_byte s.bits) _)))

  -- `bytes j p` are the packed bytes of page p in block j
  module _ (bytes : ℕ → ℕ → List ℕ) (live : ℕ → Bool) (below : (p : ℕ) → live p ≡ true → p < s.pages) where
    module _ (block_radius : ℕ) where
      block-right : (j : ℕ) (t : Phys) (budget : ℕ) → j < s.blocks → Holds (cells s.nodes (next_at s.pages j) t) N P
          → SoundNodes s.nodes s.pages t → root t ≡ j → SoundBlock s bytes live j (tree t) → nodes (tree t) ≤ s.nodes → nodes (tree t) ≤ budget + 1
          → Whole (meet_block (header_of s) N P x block_radius j budget) (met s.bits block_radius (tree t) (bytes_of_sketch s j x)) (budget + 1) (nodes (tree t))
      unfolding meet_block bytes_of_sketch
      block-right j t budget l h g r b few lasts =
          let base : ℕ = next_at s.pages j in
          let walk = walk-right (walk_of (header_of s) N P x j) base s.pages P (bytes j) (block_length s.symbols s.blocks j) t block_radius
          (limits.nodes-most, limits.pages-most) (bytes_small j l) h g (rw (bytes-length j l) b.sound) few budget lasts in
          let most : length (flatten walk.lists) ≤ s.pages =
          omega (
            arith,
            ap length walk.met,
            met-most s.bits (tree t) block_radius (bytes_of_sketch s j x),
            stands-length live (tree t) b.stands s.pages below,
            count-upto live s.pages,
          ) in
          record {
            left = walk.left;
            enough = walk.enough;
            same = ap (λ k. pages_of (header_of s) N P x j (walk_from (walk_of (header_of s) N P x j) k block_radius budget)) (sym r)
                ∙ ap (pages_of (header_of s) N P x j) walk.same
                ∙ ap (with_left walk.left) (chains-at N P s.pages base walk.lists s.pages walk.held most)
                ∙ ap (λ ps. pages ps walk.left) walk.met;
          }

    -- those of blocks j, j + 1, ..
    from-right : (radius : ℕ) (ts : List Phys) (j budget : ℕ) → j + length ts ≤ s.blocks
        → Holds (tries_cells s.nodes s.pages j ts) N P → Rooted s.nodes s.pages j ts → EachFrom (SoundBlock s bytes live) j (map tree ts)
        → total_nodes (map tree ts) ≤ s.nodes → total_nodes (map tree ts) ≤ budget + length ts
        → Whole (meet_from (header_of s) N P x (radius / s.blocks) (length ts) j budget) (met_from s radius x j (map tree ts)) (budget + length ts) (total_nodes (map tree ts))
    unfolding meet_from met_from total_nodes sum
    from-right radius [] j budget l h r b few lasts = record { left = budget; enough = omega arith; same = refl }
    from-right radius (t ∷ ts) j budget l h r b few lasts =
        let here : List ℕ = met s.bits (radius / s.blocks) (tree t) (bytes_of_sketch s j x) in
        let one = block-right (radius / s.blocks) j t budget (omega arith) h.0 r.1 r.0 b.0 (omega arith) (omega (arith, tries-some ts)) in
        let rest = from-right radius ts (suc j) one.left (omega arith) h.1 r.2 b.1 (omega arith) (omega (arith, one.enough)) in
        record {
          left = rest.left;
          enough = omega (arith, one.enough, rest.enough);
          same = joined (meet_block (header_of s) N P x (radius / s.blocks) j budget) (λ n. meet_from (header_of s) N P x (radius / s.blocks) (length ts) (suc j) n)
              here (met_from s radius x (suc j) (map tree ts)) one.left rest.left one.same rest.same;
        }

    -- all blocks, with a budget that has every node once the roots are counted
    blocks-within : (radius : ℕ) (ts : List Phys) (budget : ℕ) → length ts ≡ s.blocks
        → Holds (tries_cells s.nodes s.pages 0 ts) N P → Rooted s.nodes s.pages 0 ts → EachFrom (SoundBlock s bytes live) 0 (map tree ts)
        → total_nodes (map tree ts) ≤ s.nodes → s.nodes ≤ budget + s.blocks
        → Whole (meet_from (header_of s) N P x (radius / s.blocks) s.blocks 0 budget) (met_from s radius x 0 (map tree ts)) s.nodes (total_nodes (map tree ts))
    blocks-within radius ts budget e h r b few lasts =
        let all = from-right radius ts 0 budget (omega arith) h r b few (omega arith) in
        record {
          left = all.left;
          enough = omega (arith, all.enough);
          same = ap (λ k. meet_from (header_of s) N P x (radius / s.blocks) k 0 budget) (sym e) ∙ all.same;
        }

    pub blocks-right : (radius : ℕ) (ts : List Phys) → length ts ≡ s.blocks → Holds (tries_cells s.nodes s.pages 0 ts) N P
        → Rooted s.nodes s.pages 0 ts → EachFrom (SoundBlock s bytes live) 0 (map tree ts) → total_nodes (map tree ts) ≤ s.nodes
        → Whole (meet_blocks (header_of s) N P x radius) (met_from s radius x 0 (map tree ts)) s.nodes (total_nodes (map tree ts))
    unfolding meet_blocks
    blocks-right radius ts e h r b few = blocks-within radius ts _ e h r b few (omega (arith, tries-some ts))
