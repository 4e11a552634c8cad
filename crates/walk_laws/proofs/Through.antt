-- On tables that hold a trie, a walk goes through the children of a node one after the other: the leaves it gives there, the nodes it goes to, and the
-- steps and nodes that it costs.
use Prim.Native.Nat.{ℕ, suc, ◌+◌, ◌-◌, ◌*◌, ◌^◌, ◌≤◌, ◌<◌}
use native.Mathlib.Omega.{arith}
use native.Mathlib.Numerals.{add-one}
use native.Mathlib.Decide.{ℕ_discrete}
use mathlib.Core.Path.{◌≡◌, refl, sym, ap, ◌∙◌}
use mathlib.Core.Bool.{Bool, true, false, cond}
use mathlib.Core.List.{List, [], ◌∷◌, append-nil, map, map-append}
use lib.Bits.{bit_xor}
use lib.Dec.{leb}
use lib.ListN.{length, get_or, drop}
use lib.Seq.{drop-cons}
use borrow.Author.Tests.{leb-true, leb-false}
use Rattle.std.specs.Prelude.{Some}
use Rattle.meaning.specs.Sketch.{per_byte, byte_distance}
use Rattle.meaning.specs.Trie.{met, nodes, nodes_in}
use Rattle.layout.specs.Nodes.{steps_for, node_steps}
use Rattle.children.proofs.Leaves.{held-kind}
use Rattle.children.specs.Heap.{Holds}
use Rattle.children.specs.Cursors.{next_of}
use Rattle.children.specs.declared.cursor.Cursor.{Cursor}
use Rattle.children.specs.declared.cursor.Next.TheVariants as next
use Rattle.children.specs.Phys.{Phys, Kids, leaf_p, inner_p, no_kid, kid, root, first, tree, children_of, cells, Sound}
use Rattle.children.proofs.AheadCursor.{AheadC, chains_left, all-ahead, all-chains}
use Rattle.children.proofs.Reach.{reach-kid, reach-end}
use Rattle.descent.specs.Cursor.{ended, leaf_of}
use Rattle.descent.proofs.Steps.{descended-ended, drawn-ended}
use Rattle.walk_steps.specs.declared.frame.Frame.{Frame}
use Rattle.walk_steps.specs.declared.turn.Move.TheVariants as move
use Rattle.walk_steps.specs.Given.{Given, exact_from, leaf_from, drawn_from}
use Rattle.walk_steps.specs.Turn.{entered, at_link, reached, found}
use Rattle.walk.specs.Walk.{state}
use Rattle.walk_laws.specs.Near.{near, near_k}
use Rattle.walk_laws.specs.Trail.{exact_after}
use Rattle.walk_laws.proofs.Found.{found-end, found-far, found-near, to-leaf, to-exact, to_inner}
use Rattle.walk_laws.proofs.Ran.{Ran, ran_then, ran-within, ran-same, placed, ran_over, step_past, step-leaf, step_down, step-up}
use Rattle.walk_laws.proofs.Descent.{ended-none}
use Rattle.walk_laws.proofs.Fit.{Small, Fit, FitK, byte_small}
use Rattle.walk_laws.proofs.Leads.{steps_below, steps_among}
use Rattle.walk_laws.proofs.Exact.{exact-leaf, exact-near, exact-drew}
use Rattle.walk_laws.proofs.Lists.{lists, lists_in, lists-none, lists-some}

-- ---- the steps that a part of a trie can cost: one to each node, and for an inner one seven to other chains and one up
abbrev mutual
  pub steps : Phys → ℕ
  steps (leaf_p n ps) = 1
  steps (inner_p n ks) = 9 + steps_k ks

  pub steps_k : Kids → ℕ
  steps_k no_kid = 0
  steps_k (kid c t ks) = steps t + steps_k ks

steps-some : (t : Phys) → 1 ≤ steps t
steps-some (leaf_p n ps) = omega arith
steps-some (inner_p n ks) = omega arith

-- at most ten a node
mutual
  unfolding nodes nodes_in

  pub steps-nodes : (t : Phys) → steps t ≤ node_steps * nodes (tree t)
  steps-nodes (leaf_p n ps) = omega arith
  steps-nodes (inner_p n ks) = omega (arith, steps-kids ks)

  steps-kids : (ks : Kids) → steps_k ks ≤ node_steps * nodes_in (children_of ks)
  steps-kids no_kid = omega arith
  steps-kids (kid c t ks) = omega (arith, steps-nodes t, steps-kids ks)

-- ---- a leaf alone: a descent that has ended there
module _ (w : Given) (leaf : ℕ) where
  known-leaf : leaf_from w (ended leaf) ≡ leaf
  unfolding leaf_of
  known-leaf = ap leaf_of (descended-ended w.nodes w.cap w.bytes w.cap (ended leaf) refl)

  known-drew : drawn_from w (ended leaf) ≡ 0
  known-drew = drawn-ended w.nodes w.cap w.bytes w.cap (ended leaf) refl

  known-after : exact_after w (ended leaf) ≡ []
  known-after = ended-none w.nodes w.cap w.bytes (ended leaf) refl w.cap

module _ (w : Given) where
  -- the query's byte at the level of a stack, and the bytes behind it
  abbrev pub here : List Frame → ℕ
  here stack = get_or w.bytes (length stack) 0

  abbrev pub behind : List Frame → List ℕ
  behind stack = drop (suc (length stack)) w.bytes

  -- the leaves given below a node and among children, and the nodes gone through there
  abbrev links_t : Phys → ℕ → List Frame → List ℕ
  links_t t r stack = map first (lists w.b r (tree t) (behind stack))

  abbrev pub links_k : Kids → ℕ → List Frame → List ℕ
  links_k ks r stack = map first (lists_in w.b r (children_of ks) (here stack ∷ behind stack))

  abbrev near_t : Phys → ℕ → List Frame → List ℕ
  near_t t r stack = near w.b r t (behind stack)

  abbrev pub near_in : Kids → ℕ → List Frame → List ℕ
  near_in ks r stack = near_k w.b r ks (here stack ∷ behind stack)

  -- the children of a node are exhausted
  pub record Under (f n : ℕ) (frame : Frame) (ks : Kids) (stack : List Frame) (cost : ℕ) : Type 0 where
    pub done : Frame
    pub up : found w (length stack) done ≡ Some move.Up
    pub ran : Ran w f n (state frame stack) (state done stack) cost (steps_among ks) (links_k ks frame.radius stack) (near_in ks frame.radius stack)

  -- a child is passed, with a link after it
  abbrev Passed : (f n : ℕ) → Frame → List Frame → Phys → ℕ → List ℕ → List ℕ → Type 0
  Passed f n frame stack t l ks xs = Ran w f n (state frame stack) (state (at_link frame l) stack) (steps t) (suc (steps_below t)) ks xs

module _ (w : Given) (P : List ℕ) (pcap base : ℕ) (small : Small w.cap pcap) (query : (k : ℕ) → get_or w.bytes k 0 < 2 ^ (w.b * per_byte w.b)) where
  abbrev N : List ℕ
  N = w.nodes

  abbrev len : ℕ
  len = length w.bytes

  -- ---- a child, near or far
  abbrev distance : ℕ → List Frame → ℕ
  distance c stack = byte_distance w.b (bit_xor c (here w stack))

  -- what is given, and gone through, if it is near
  abbrev lists_near : ℕ → Phys → ℕ → List Frame → Bool → List (List ℕ)
  lists_near c t r stack q = cond q (lists w.b (r - distance c stack) (tree t) (behind w stack)) []

  abbrev gone_near : ℕ → Phys → ℕ → List Frame → Bool → List ℕ
  gone_near c t r stack q = cond q (near_t w t (r - distance c stack) stack) []

  child-through : (c : ℕ) (t : Phys) (stack : List Frame) (f n : ℕ) (frame : Frame) (l : ℕ) → next_of N w.cap frame.cursor ≡ Some (next.Child (root t) c l)
      → c < 256 → 0 < f → 0 < n
      → ((r : ℕ) → found w (length stack) frame ≡ reached w (root t) (length stack + 1) r l
      → Passed w f n frame stack t l (links_t w t r stack) (near_t w t r stack))
      → (q : Bool) → leb (distance c stack) frame.radius ≡ q
      → Passed w f n frame stack t l (map first (lists_near c t frame.radius stack q)) (gone_near c t frame.radius stack q)
  child-through c t stack f n frame l e byte z k within true q =
      let r : ℕ = frame.radius in
      within (r - distance c stack) (found-near w (length stack) frame (root t) c l e byte (leb-true (distance c stack) r q))
  child-through c t stack f n frame l e byte z k within false q =
      ran-within (steps-some t) (omega arith)
      (step_past w f n z frame stack l (found-far w (length stack) frame (root t) c l e byte (leb-false (distance c stack) frame.radius q)) k)

  -- to a child in m steps, past it, and through those after it
  then-through : (c : ℕ) (t : Phys) (ks : Kids) (stack : List Frame) (f n : ℕ) (frame : Frame) (m : ℕ) (at : Cursor) (l : ℕ)
      → m + chains_left at ≤ chains_left frame.cursor → (to : Ran w f n (state frame stack) (state (placed frame at) stack) m 0 [] [])
      → (one : Passed w to.rest to.over (placed frame at) stack t l
      (map first (lists_near c t frame.radius stack (leb (distance c stack) frame.radius)))
      (gone_near c t frame.radius stack (leb (distance c stack) frame.radius)))
      → Under w one.rest one.over (at_link (placed frame at) l) ks stack (chains_left at + steps_k ks)
      → Under w f n frame (kid c t ks) stack (chains_left frame.cursor + steps_k (kid c t ks))
  unfolding lists_in near_k
  then-through c t ks stack f n frame m at l few to one rest =
      let r : ℕ = frame.radius in
      let below : List (List ℕ) = lists_near c t r stack (leb (distance c stack) r) in
      record {
        done = rest.done;
        up = rest.up;
        ran = ran-same (sym (map-append first below (lists_in w.b r (children_of ks) (here w stack ∷ behind w stack)))) refl
            (ran-within {c = m + (steps t + (chains_left at + steps_k ks))} {d = 0 + (suc (steps_below t) + steps_among ks)} (omega arith) (omega arith)
            (ran_then to (ran_then one rest.ran)));
      }

  -- ---- an inner child within the radius, of which r is left
  module _ (x : ℕ) (ks : Kids) (stack : List Frame) (h : Holds (cells w.cap base (inner_p x ks)) N P)
      (s : Sound w.cap pcap (inner_p x ks)) (u : Fit w.b len (inner_p x ks) (suc (length stack)))
      (f n : ℕ) (frame : Frame) (r l : ℕ) (i : frame.cursor.link ≡ x + 1) (e : found w (length stack) frame ≡ reached w x (length stack + 1) r l)
      (c : 9 + steps_k ks ≤ f) (k : steps_among ks < n) where
    abbrev t : Phys
    t = inner_p x ks

    abbrev back : Frame
    back = at_link frame l

    -- with nothing of the radius left: by an exact descent
    exact-through : steps_among ks ≤ w.cap → r ≡ 0 → Passed w f n frame stack t l (links_t w t r stack) (near_t w t r stack)
    exact-through few z =
        let level : suc (length stack) ≡ length stack + 1 = sym (add-one (length stack)) in
        let k' : ℕ = suc (length stack) in
        ran-same (ap (map first) (sym (lists-none w.b (tree t) r (behind w stack) z)))
        (exact-near w P pcap base small query t k' h s u few ∙ ap (λ q. near_t w t q stack) (sym z))
        (ran-within {d = 1 + steps_among ks} (omega arith) (omega arith)
        (step-leaf w f n (omega arith) frame stack x (exact_from w x k') l (first (met w.b 0 (tree t) (behind w stack))) (steps_among ks)
        (exact_after w (exact_from w x k')) i
        (e ∙ to-exact w x (length stack + 1) r l h.0 z ∙ ap (λ q. Some (move.Leaf (exact_from w x q) l)) (sym level))
        (exact-leaf w P pcap base small query t k' h s u few) refl (exact-drew w P pcap base small query t k' h s u) (omega arith)))

    -- else through all its children
    down-through : 0 < r
        → ((f' n' : ℕ) → 7 + steps_k ks ≤ f' → steps_among ks ≤ n' → Under w f' n' (entered N w.cap x r) ks (back ∷ stack) (7 + steps_k ks))
        → Passed w f n frame stack t l (links_t w t r stack) (near_t w t r stack)
    unfolding near
    down-through z through =
        let stack' : List Frame = back ∷ stack in
        let down = step_down w f n (omega arith) frame stack x r l i (e ∙ to_inner w x (length stack + 1) r l h.0 z (omega (arith, u.0))) (omega arith) in
        let cons : behind w stack ≡ here w stack' ∷ behind w stack' = drop-cons w.bytes (suc (length stack)) 0 u.0 in
        let ls : List ℕ = links_k w ks r stack' in
        let xs : List ℕ = near_in w ks r stack' in
        let same : ls ≡ links_t w t r stack =
        sym
        (ap (map first) (lists-some w.b (children_of ks) r (behind w stack) (λ y. absurd (omega arith)))
        ∙ ap (λ ys. map first (lists_in w.b r (children_of ks) ys)) cons) in
        let same_nodes : x ∷ xs ≡ near_t w t r stack = sym (ap (λ ys. x ∷ near_k w.b r ks ys) cons) in
        let under = through down.rest down.over (omega (arith, down.enough)) (omega (arith, down.lasts)) in
        let up = step-up w under.ran.rest under.ran.over (omega (arith, under.ran.enough, down.enough)) under.done back stack under.up in
        ran-same (append-nil ls ∙ same) (ap (λ ys. x ∷ ys) (append-nil xs) ∙ same_nodes)
        (ran-within {c = 1 + (7 + steps_k ks + 1)} {d = 1 + (steps_among ks + 0)} (omega arith) (omega arith)
        (ran_then down (ran_then {t = state under.done stack'} under.ran up)))

  -- all children of a node
  all-through : (ks : Kids) (x r : ℕ) (stack : List Frame) (f n : ℕ)
      → Under w f n (entered N w.cap x r) ks stack (chains_left (entered N w.cap x r).cursor + steps_k ks)
      → Under w f n (entered N w.cap x r) ks stack (7 + steps_k ks)
  all-through ks x r stack f n u =
      record { done = u.done; up = u.up; ran = ran-within (omega (arith, all-chains w.cap pcap base small.0 N P x)) (omega arith) u.ran }

  mutual
    unfolding lists lists_in near near_k

    -- a child within the radius, of which r is left
    tree-through : (t : Phys) (stack : List Frame) → Holds (cells w.cap base t) N P → Sound w.cap pcap t → Fit w.b len t (suc (length stack))
        → steps_below t ≤ w.cap
        → (f n : ℕ) (frame : Frame) (r l : ℕ) → frame.cursor.link ≡ root t + 1
        → found w (length stack) frame ≡ reached w (root t) (length stack + 1) r l → steps t ≤ f → steps_below t < n
        → Passed w f n frame stack t l (links_t w t r stack) (near_t w t r stack)
    tree-through (leaf_p x ps) stack h s u few f n frame r l i e c k =
        step-leaf w f n c frame stack x (ended (first ps)) l (first ps) 0 [] i (e ∙ to-leaf w x (length stack + 1) r l (first ps) (held-kind N w.cap x ps h.0 s.1 small.1))
        (known-leaf w (first ps)) (known-after w (first ps)) (omega (arith, known-drew w (first ps))) (omega arith)
    tree-through (inner_p x ks) stack h s u few f n frame r l i e c k = elim (ℕ_discrete r 0) [
      | yes z ↦ exact-through x ks stack h s u f n frame r l i e c k few z
      | no z ↦
          down-through x ks stack h s u f n frame r l i e c k (omega arith)
          (λ f' n' c' k'.
          all-through ks x r (at_link frame l ∷ stack) f' n'
          (kids-through ks (at_link frame l ∷ stack) u.1 few f' n' (entered N w.cap x r)
          (all-ahead w.cap pcap base small.0 N P x ks h.1 s.1) (omega (arith, all-chains w.cap pcap base small.0 N P x)) k'))
    ]

    -- the children that are to come
    kids-through : (ks : Kids) (stack : List Frame) → FitK w.b len ks (length stack) → steps_among ks ≤ w.cap
        → (f n : ℕ) (frame : Frame) → AheadC w.cap pcap base small.0 N P frame.cursor ks → chains_left frame.cursor + steps_k ks ≤ f → steps_among ks ≤ n
        → Under w f n frame ks stack (chains_left frame.cursor + steps_k ks)
    kids-through no_kid stack u few f n frame a c k =
        let o = reach-end w.cap pcap base small.0 N P frame.cursor a in
        record {
          done = placed frame o.here;
          up = found-end w (length stack) (placed frame o.here) o.next;
          ran = ran-within (omega (arith, o.few)) (omega arith) (ran_over w o.steps f n frame stack o.here (omega (arith, o.few)) o.over);
        }
    kids-through (kid b t ks) stack u few f n frame a c k =
        let o = reach-kid w.cap pcap base small.0 N P frame.cursor b t ks a in
        let there : Frame = placed frame o.here in
        let to = ran_over w o.steps f n frame stack o.here (omega (arith, o.few)) o.over in
        let one = child-through b t stack to.rest to.over there o.link o.next (omega (arith, u.0, byte_small w.b))
        (omega (arith, to.enough, o.few, steps-some t)) (omega (arith, to.lasts))
        (λ r e.
        tree-through t stack o.tree o.sound u.1 (omega arith) to.rest to.over there r o.link o.at e (omega (arith, to.enough, o.few))
        (omega (arith, to.lasts)))
        (leb (distance b stack) frame.radius) refl in
        then-through b t ks stack f n frame o.steps o.here o.link o.few to one
        (kids-through ks stack u.2 (omega arith) one.rest one.over (at_link there o.link) o.onward
        (omega (arith, to.enough, one.enough, o.few)) (omega (arith, to.lasts, one.lasts)))

  -- below an inner root, all children are gone through
  pub root-through : (x : ℕ) (ks : Kids) (radius n : ℕ) → Holds (cells w.cap base (inner_p x ks)) N P → Sound w.cap pcap (inner_p x ks)
      → Fit w.b len (inner_p x ks) 0 → steps_among ks ≤ w.cap → steps (inner_p x ks) ≤ steps_for w.cap → steps_among ks ≤ n
      → Under w (steps_for w.cap) n (entered N w.cap x radius) ks [] (7 + steps_k ks)
  root-through x ks radius n h s u few c k =
      all-through ks x radius [] (steps_for w.cap) n
      (kids-through ks [] u.1 few (steps_for w.cap) n (entered N w.cap x radius)
      (all-ahead w.cap pcap base small.0 N P x ks h.1 s.1) (omega (arith, all-chains w.cap pcap base small.0 N P x)) k)
