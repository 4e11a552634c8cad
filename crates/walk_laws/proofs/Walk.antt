-- The walk over one block's trie, on tables that hold a sound one: it gives exactly the leaves whose pages are met, goes through exactly the nodes within the radius, and reads each node behind the root at most once.
use Prim.Native.Nat.{ℕ, ◌+◌, ◌*◌, ◌^◌, ◌≤◌, ◌<◌}
use native.Mathlib.Omega.{arith}
use mathlib.Core.Path.{◌≡◌, ap, ◌∙◌}
use mathlib.Core.Bool.{true}
use mathlib.Core.List.{List}
use lib.ListN.{length, get_or}
use Rattle.meaning.specs.Lists.{count}
use Rattle.meaning.specs.Sketch.{per_byte}
use Rattle.meaning.specs.Trie.{nodes}
use Rattle.children.specs.Heap.{Holds}
use Rattle.children.specs.Phys.{Phys, root, tree, cells, Sound}
use Rattle.trie_laws.specs.Sound.{sound_trie}
use Rattle.walk_steps.specs.Given.{Given}
use Rattle.walk_laws.specs.Near.{near, near_nodes, paths_in, path_near}
use Rattle.walk_laws.specs.Trail.{trail_from}
use Rattle.walk_laws.proofs.Fit.{Small, fit}
use Rattle.walk_laws.proofs.Leads.{steps-below}
use Rattle.walk_laws.proofs.Near.{near-count, near_le, near-path, near-zero}
use Rattle.walk_laws.proofs.Through.{steps-nodes}
use Rattle.walk_laws.proofs.Right.{WalkRight, right, right-trail}

-- ---- on tables that hold a sound trie
module _ (w : Given) (base pcap : ℕ) (P : List ℕ) (bytes_of : ℕ → List ℕ) (n : ℕ) (t : Phys) (radius : ℕ) (small : Small w.cap pcap)
    (query : (k : ℕ) → get_or w.bytes k 0 < 2 ^ (w.b * per_byte w.b))
    (h : Holds (cells w.cap base t) w.nodes P) (s : Sound w.cap pcap t)
    (sound : sound_trie bytes_of w.b n (length w.bytes) 0 (tree t) ≡ true) (few : nodes (tree t) ≤ w.cap) where
  pub walk-right : (budget : ℕ) → nodes (tree t) ≤ budget + 1 → WalkRight w base pcap P t radius budget
  walk-right budget lasts =
      right w P pcap base small query t radius h s (fit bytes_of w.b n (length w.bytes) t 0 sound) (omega (arith, steps-below t))
      (omega (arith, steps-nodes t)) budget lasts

  -- ---- the nodes it goes through there
  -- those of `near`, in order
  pub walk-trail : trail_from w (root t) radius ≡ near w.b radius t w.bytes
  walk-trail =
      right-trail w P pcap base small query t radius h s (fit bytes_of w.b n (length w.bytes) t 0 sound) (omega (arith, steps-below t))
      (omega (arith, steps-nodes t))

  pub walk-count : length (trail_from w (root t) radius) ≡ near_nodes w.b radius (tree t) w.bytes
  walk-count = ap length walk-trail ∙ near-count w.b t radius w.bytes

  -- as many as there are paths that differ from the query's symbols on them in at most the radius
  pub walk-paths : length (trail_from w (root t) radius) ≡ count (path_near w.b radius w.bytes) (paths_in (tree t))
  walk-paths = walk-count ∙ near-path bytes_of w.b n (tree t) radius w.bytes sound

  -- no more than the table has
  pub walk-few : length (trail_from w (root t) radius) ≤ w.cap
  walk-few = omega (arith, walk-count, near_le w.b (tree t) radius w.bytes)

  -- at radius 0 at most the packed length and the root
  pub walk-zero : radius ≡ 0 → length (trail_from w (root t) radius) ≤ length w.bytes + 1
  walk-zero z =
      omega (
        arith,
        walk-count,
        ap (λ r. near_nodes w.b r (tree t) w.bytes) z,
        near-zero bytes_of w.b n (length w.bytes) (tree t) 0 w.bytes query sound,
      )
