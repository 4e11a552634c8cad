-- On tables that hold a trie, the walk gives exactly the leaves whose pages `met` meets, and goes through the nodes of `near`, both in order. It
-- reads each node behind the root at most once.
use Prim.Native.Nat.{ℕ, ◌+◌, ◌-◌, ◌*◌, ◌^◌, ◌≤◌, ◌<◌}
use native.Mathlib.Omega.{arith}
use native.Mathlib.Decide.{ℕ_discrete}
use mathlib.Core.Path.{◌≡◌, refl, sym, ap, ◌∙◌}
use mathlib.Core.List.{List, [], ◌∷◌, ◌++◌, append-nil, map, flatten}
use lib.ListN.{length, get_or}
use lib.Seq.{drop-cons}
use Rattle.meaning.specs.Sketch.{per_byte}
use Rattle.meaning.specs.Trie.{met, nodes}
use Rattle.layout.specs.Nodes.{steps_for}
use Rattle.layout.specs.declared.nodes.Kind.TheVariants as kind
use Rattle.layout.proofs.States.{inner-kind}
use Rattle.children.proofs.Leaves.{held-kind}
use Rattle.children.specs.Heap.{Holds}
use Rattle.children.specs.Phys.{Phys, Kids, leaf_p, inner_p, root, first, tree, children_of, cells, Sound}
use Rattle.walk_steps.specs.Given.{Given, exact_from, leaf_from, drawn_from}
use Rattle.walk.specs.Leaves.{leaves, before}
use Rattle.walk.specs.Walk.{state, walk_below, walk_from}
use Rattle.walk.proofs.Run.{from-exact, from-by}
use Rattle.walk.proofs.Spend.{spend-paid}
use Rattle.walk_laws.specs.Near.{near, near_k}
use Rattle.walk_laws.specs.Trail.{trail, trail_from}
use Rattle.children.specs.Held.{Held}
use Rattle.walk_laws.proofs.Ran.{step_end, trail-end, trail-leaf, trail-exact, trail-some}
use Rattle.walk_laws.proofs.Fit.{Small, Fit}
use Rattle.walk_laws.proofs.Leads.{steps_below, steps_among, steps-below}
use Rattle.walk_laws.proofs.Exact.{exact-leaf, exact-near, exact-drew}
use Rattle.walk_laws.proofs.Lists.{lists, lists_in, lists-met, lists-none, lists-some}
use Rattle.walk_laws.proofs.Pages.{held-tree}
use Rattle.walk_laws.proofs.Through.{steps, links_k, near_in, root-through}

-- what the walk over a trie gives, and what it leaves of a budget of nodes: it has read no node twice, and the root is not drawn on the budget
pub record WalkRight (w : Given) (base pcap : ℕ) (P : List ℕ) (t : Phys) (radius budget : ℕ) : Type 0 where
  pub left : ℕ
  pub enough : budget + 1 ≤ left + nodes (tree t)
  -- the pages of each leaf that is given
  pub lists : List (List ℕ)
  pub same : walk_from w (root t) radius budget ≡ leaves (map first lists) left
  pub met : flatten lists ≡ met w.b radius (tree t) w.bytes
  pub held : Held base pcap lists w.nodes P

module _ (w : Given) (P : List ℕ) (pcap base : ℕ) (small : Small w.cap pcap) (query : (k : ℕ) → get_or w.bytes k 0 < 2 ^ (w.b * per_byte w.b)) where
  abbrev N : List ℕ
  N = w.nodes

  abbrev len : ℕ
  len = length w.bytes

  -- by equations
  right_by : (t : Phys) (radius budget left : ℕ) → Holds (cells w.cap base t) N P → Sound w.cap pcap t → Fit w.b len t 0
      → budget + 1 ≤ left + nodes (tree t) → walk_from w (root t) radius budget ≡ leaves (map first (lists w.b radius (tree t) w.bytes)) left
      → WalkRight w base pcap P t radius budget
  right_by t radius budget left h s u l e = record {
    left = left;
    enough = l;
    lists = lists w.b radius (tree t) w.bytes;
    same = e;
    met = lists-met w.b (tree t) radius w.bytes;
    held = held-tree w P pcap base small query t 0 radius h s u;
  }

  -- at a radius that is not 0
  right-some : (t : Phys) (radius budget : ℕ) → Holds (cells w.cap base t) N P → Sound w.cap pcap t → Fit w.b len t 0
      → steps_below t ≤ w.cap → steps t ≤ steps_for w.cap → steps_below t ≤ budget → 0 < radius → WalkRight w base pcap P t radius budget
  unfolding lists walk_below
  right-some (leaf_p x ps) radius budget h s u few c k some =
      right_by (leaf_p x ps) radius budget budget h s u (omega (arith, steps-below (leaf_p x ps)))
      (sym (from-by w x radius budget some _ refl (kind.Leaf (first ps)) (held-kind N w.cap x ps h.0 s.1 small.1)))
  right-some (inner_p x ks) radius budget h s u few c k some =
      let under = root-through w P pcap base small query x ks radius budget h s u few c k in
      let ls : List ℕ = links_k w ks radius [] in
      let same : ls ≡ map first (lists w.b radius (tree (inner_p x ks)) w.bytes) =
      sym
      (ap (map first) (lists-some w.b (children_of ks) radius w.bytes (λ y. absurd (omega arith)))
      ∙ ap (λ ys. map first (lists_in w.b radius (children_of ks) ys)) (drop-cons w.bytes 0 0 u.0)) in
      right_by (inner_p x ks) radius budget (under.ran.over - 0) h s u (omega (arith, under.ran.lasts, steps-below (inner_p x ks)))
      (sym (from-by w x radius budget some _ refl kind.Inner (inner-kind N w.cap x h.0))
      ∙ under.ran.same
      ∙ ap (before ls) (step_end w under.ran.rest under.ran.over (omega (arith, under.ran.enough)) under.done under.up)
      ∙ ap (λ ks. leaves ks (under.ran.over - 0)) (append-nil ls ∙ same))

  -- the nodes that it goes through
  trail-inner : (x : ℕ) (ks : Kids) (radius : ℕ) → Holds (cells w.cap base (inner_p x ks)) N P → Sound w.cap pcap (inner_p x ks)
      → Fit w.b len (inner_p x ks) 0 → steps_among ks ≤ w.cap → steps (inner_p x ks) ≤ steps_for w.cap → 0 < radius
      → trail_from w x radius ≡ near w.b radius (inner_p x ks) w.bytes
  unfolding near
  trail-inner x ks radius h s u few c some =
      let under = root-through w P pcap base small query x ks radius (steps_among ks) h s u few c (omega arith) in
      let xs : List ℕ = near_in w ks radius [] in
      let ended : trail w under.ran.rest (state under.done []) ≡ [] =
      trail-end w under.ran.rest under.ran.over (omega (arith, under.ran.enough)) under.done under.up in
      trail-some w x radius (inner-kind N w.cap x h.0) some
      ∙ ap (λ ys. x ∷ ys) (under.ran.nodes ∙ ap (λ ys. xs ++ ys) ended ∙ append-nil xs)
      ∙ ap (λ ys. x ∷ near_k w.b radius ks ys) (sym (drop-cons w.bytes 0 0 u.0))

  -- ---- at any radius
  -- the leaves of the pages that are met, in order
  pub right : (t : Phys) (radius : ℕ) → Holds (cells w.cap base t) N P → Sound w.cap pcap t → Fit w.b len t 0
      → steps_below t ≤ w.cap → steps t ≤ steps_for w.cap → (budget : ℕ) → nodes (tree t) ≤ budget + 1 → WalkRight w base pcap P t radius budget
  right t radius h s u few c budget k = elim (ℕ_discrete radius 0) [
    | yes z ↦
        let at : ℕ = drawn_from w (exact_from w (root t) 0) in
        let drew : at ≤ steps_below t = exact-drew w P pcap base small query t 0 h s u in
        right_by t radius budget (budget - at) h s u (omega (arith, steps-below t))
        (sym (from-exact w (root t) radius budget z)
        ∙ spend-paid budget at (λ n. before (leaf_from w (exact_from w (root t) 0) ∷ []) (leaves [] n)) (omega (arith, steps-below t))
        ∙ ap (λ l. leaves (l ∷ []) (budget - at)) (exact-leaf w P pcap base small query t 0 h s u few)
        ∙ ap (λ ls. leaves (map first ls) (budget - at)) (sym (lists-none w.b (tree t) radius w.bytes z)))
    | no z ↦ right-some t radius budget h s u few c (omega (arith, steps-below t)) (omega arith)
  ]

  -- the nodes that it goes through
  pub right-trail : (t : Phys) (radius : ℕ) → Holds (cells w.cap base t) N P → Sound w.cap pcap t → Fit w.b len t 0
      → steps_below t ≤ w.cap → steps t ≤ steps_for w.cap → trail_from w (root t) radius ≡ near w.b radius t w.bytes
  unfolding near
  right-trail (leaf_p x ps) radius h s u few c = trail-leaf w x radius (first ps) (held-kind N w.cap x ps h.0 s.1 small.1)
  right-trail (inner_p x ks) radius h s u few c = elim (ℕ_discrete radius 0) [
    | yes z ↦
        trail-exact w x radius (inner-kind N w.cap x h.0) z
        ∙ exact-near w P pcap base small query (inner_p x ks) 0 h s u few
        ∙ ap (λ r. near w.b r (inner_p x ks) w.bytes) (sym z)
    | no z ↦ trail-inner x ks radius h s u few c (omega arith)
  ]
