-- Exact descents on tables that hold a sound trie: they end at the leaf whose pages are met at radius 0, go through the nodes of `near`, and read
-- each node below the root at most once.
use Prim.Native.Nat.{ℕ, ◌-◌, ◌*◌, ◌^◌, ◌≤◌, ◌<◌}
use native.Mathlib.Omega.{arith}
use mathlib.Core.Path.{◌≡◌, ap, ◌∙◌}
use mathlib.Core.Bool.{true}
use mathlib.Core.List.{List, ◌∷◌}
use lib.ListN.{length, get_or, drop, length-drop}
use Rattle.meaning.specs.Sketch.{per_byte}
use Rattle.meaning.specs.Trie.{met, nodes}
use Rattle.children.specs.Heap.{Holds}
use Rattle.children.specs.Phys.{Phys, root, first, tree, page_cells, cells, Below, Sound}
use Rattle.trie_laws.specs.Sound.{sound_trie}
use Rattle.walk_steps.specs.Given.{Given, exact_from, leaf_from, drawn_from}
use Rattle.walk_laws.specs.Near.{near}
use Rattle.walk_laws.specs.Trail.{exact_after}
use Rattle.walk_laws.proofs.Descent.{led-leaf}
use Rattle.walk_laws.proofs.Fit.{Small, Fit, fit}
use Rattle.walk_laws.proofs.Spelt.{spelt-drop}
use Rattle.walk_laws.proofs.Leads.{Leads, tree-leads, steps_below, steps-below, near_below, near-below}

-- ---- over the query's bytes from level k on
module _ (w : Given) (P : List ℕ) (pcap base : ℕ) (small : Small w.cap pcap) (query : (i : ℕ) → get_or w.bytes i 0 < 2 ^ (w.b * per_byte w.b))
    (t : Phys) (k : ℕ) (h : Holds (cells w.cap base t) w.nodes P) (s : Sound w.cap pcap t) (u : Fit w.b (length w.bytes) t k) where
  abbrev ys : List ℕ
  ys = drop k w.bytes

  -- the pages that are met
  abbrev pages : List ℕ
  pages = met w.b 0 (tree t) ys

  leads : Leads w.nodes P w.cap pcap base w.b (length w.bytes) w.bytes (length w.bytes - 1) small (exact_from w (root t) k) pages
      (near_below w.b t ys) (steps_below t)
  leads =
      tree-leads w.nodes P w.cap pcap base w.b (length w.bytes) w.bytes (length w.bytes - 1) small t ys k k h s u
      (omega (arith, length-drop k w.bytes)) (spelt-drop w.b w.bytes query k)

  -- their links lie in the page table
  pub exact-held : Holds (page_cells base pages) w.nodes P
  exact-held = leads.held

  pub exact_below : Below pcap pages
  exact_below = leads.below

  -- it reads at most as many nodes as there are below the root
  pub exact-drew : drawn_from w (exact_from w (root t) k) ≤ steps_below t
  exact-drew = leads.led.drew w.cap

  module _ (few : steps_below t ≤ w.cap) where
    -- it ends at their leaf
    pub exact-leaf : leaf_from w (exact_from w (root t) k) ≡ first pages
    exact-leaf =
        led-leaf w.nodes w.cap w.bytes (exact_from w (root t) k) (first pages) (steps_below t) (near_below w.b t ys) leads.led w.cap few

    -- it goes through the nodes of `near`
    pub exact-near : root t ∷ exact_after w (exact_from w (root t) k) ≡ near w.b 0 t ys
    exact-near = ap (λ xs. root t ∷ xs) (leads.led.went w.cap few) ∙ near-below w.b t ys

-- ---- from the root of a sound trie: the leaf, its pages, the nodes gone through and the nodes read
pub record ExactRight (w : Given) (base pcap : ℕ) (P : List ℕ) (t : Phys) : Type 0 where
  pub leaf : leaf_from w (exact_from w (root t) 0) ≡ first (met w.b 0 (tree t) w.bytes)
  pub held : Holds (page_cells base (met w.b 0 (tree t) w.bytes)) w.nodes P
  pub below : Below pcap (met w.b 0 (tree t) w.bytes)
  pub trail : root t ∷ exact_after w (exact_from w (root t) 0) ≡ near w.b 0 t w.bytes
  -- the root is not read
  pub few : drawn_from w (exact_from w (root t) 0) < nodes (tree t)

pub exact-right : (w : Given) (base pcap : ℕ) (P : List ℕ) (bytes_of : ℕ → List ℕ) (n : ℕ) (t : Phys) → Small w.cap pcap
    → ((i : ℕ) → get_or w.bytes i 0 < 2 ^ (w.b * per_byte w.b))
    → Holds (cells w.cap base t) w.nodes P → Sound w.cap pcap t
    → sound_trie bytes_of w.b n (length w.bytes) 0 (tree t) ≡ true → nodes (tree t) ≤ w.cap → ExactRight w base pcap P t
exact-right w base pcap P bytes_of n t small query h s sound few =
    let u : Fit w.b (length w.bytes) t 0 = fit bytes_of w.b n (length w.bytes) t 0 sound in
    let enough : steps_below t ≤ w.cap = omega (arith, steps-below t) in
    record {
      leaf = exact-leaf w P pcap base small query t 0 h s u enough;
      held = exact-held w P pcap base small query t 0 h s u;
      below = exact_below w P pcap base small query t 0 h s u;
      trail = exact-near w P pcap base small query t 0 h s u enough;
      few = omega (arith, steps-below t, exact-drew w P pcap base small query t 0 h s u);
    }
