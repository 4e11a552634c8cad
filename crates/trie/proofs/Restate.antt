-- A node's state word written anew. What this makes of the trie is told by the cells beside that word.
use Prim.Native.Nat.{ℕ, ◌<◌}
use native.Mathlib.Omega.{arith}
use mathlib.Core.List.{List}
use lib.ListN.{set, length-set}
use Rattle.layout.specs.Nodes.{state_at}
use Rattle.children.specs.Heap.{Cells, node, ◌⊕◌}
use Rattle.children.specs.Phys.{Phys, free_cells, cells, Sound, State}
use Rattle.children.proofs.Frame.{Less, less, node-write, nodes-kept}

pub restate : {cap pcap base : ℕ} {N P : List ℕ} {free n v : ℕ} {t u : Phys} {fs : List ℕ} {G H R : Cells} (w : ℕ) → State cap pcap base N P free t fs G → n < cap → Sound cap pcap u →
    Less (cells cap base t ⊕ free_cells cap fs ⊕ G) (node (state_at cap n) v ⊕ R) → Less (node (state_at cap n) w ⊕ R) (cells cap base u ⊕ free_cells cap fs ⊕ H) →
    State cap pcap base (set N (state_at cap n) w) P free u fs H
restate w st l s apart together =
    let t = st.node_table in
    record {
      node_table = nodes-kept (simp length-set) t;
      page_table = st.page_table;
      heap = less together (node-write w (less apart st.heap) (omega (arith, t.long)));
      sound = s;
      chain = st.chain;
      below = st.below;
    }
