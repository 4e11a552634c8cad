-- A walk does not see the number of pages in a leaf's state: on any tables, sound or not, it is the same whatever numbers stand there.
use Prim.Native.Nat.{ℕ, zero, suc, ◌+◌, ◌-◌, ◌/◌, ◌%◌, ◌≤◌, ◌<◌}
use native.Mathlib.Omega.{arith}
use native.Mathlib.Decide.{ℕ_discrete}
use mathlib.Core.Path.{◌≡◌, refl, sym, ap, ◌∙◌, subst}
use mathlib.Core.Bool.{Bool, true, false, cond}
use mathlib.Core.Logic.{◌≢◌}
use mathlib.Core.List.{List, [], ◌∷◌}
use borrow.Author.Tests.{ltb-true, ltb-false, eqb-false}
use lib.Dec.{ltb, eqb}
use lib.ListN.{length, get_or, set, length-set}
use lib.Seq.{get_or-set_same, get_or-set_other, set_out}
use Rattle.layout.specs.Nodes.{link_of, byte_of, state_at, heads_at, head_at, count_base, state_with, steps_for}
use Rattle.layout.specs.Pages.{most_pages}
use Rattle.layout.specs.States.{kind_by, kind_of, first_of}
use Rattle.layout.specs.declared.nodes.Kind.{Kind}
use Rattle.layout.specs.declared.nodes.Kind.TheVariants as kind
use Rattle.layout.proofs.States.{by-link, first-most}
use Rattle.children.specs.Cursors.{all_of, seen, look_at, next_by, next_of, first_for}
use Rattle.children.specs.Places.{link_at}
use Rattle.children.specs.declared.cursor.Cursor.{Cursor as Children}
use Rattle.std.specs.Prelude.{Option, Some, None}
use Rattle.children.specs.declared.cursor.Child.{Child}
use Rattle.children.specs.declared.cursor.Next.{Next}
use Rattle.children.specs.declared.cursor.Next.TheVariants as next
use Rattle.descent.specs.declared.Cursor.{Cursor}
use Rattle.descent.specs.Cursor.{ended, ahead, outside, arrive_as, arrive, pass, advance, descended, drawn, leaf_of}
use Rattle.walk_steps.specs.declared.frame.Frame.{Frame}
use Rattle.walk_steps.specs.declared.turn.Move.{Move}
use Rattle.walk_steps.specs.declared.turn.Move.TheVariants.{Chain, Past, Leaf, Down, Up}
use Rattle.walk_steps.specs.Given.{Given, given, exact_from, leaf_from, drawn_from}
use Rattle.walk_steps.specs.Turn.{entered, at_chain, at_link, reached_as, reached, distance_at, found_by, found, reads}
use Rattle.walk.specs.Leaves.{Leaves, leaves, broken, before, spend}
use Rattle.walk.specs.Walk.{state, leaf_then, follow, run, walk_below, walk_as, walk_from}
use Rattle.walk_laws.specs.Numbers.{Renumbered}

-- ---- such tables: another word in the state of a node, for the same kind and first page
module _ (N : List ℕ) (cap x word : ℕ) where
  abbrev rewritten : List ℕ
  rewritten = set N (state_at cap x) word

  pub state-rewritten : x < cap → kind_by word ≡ kind_of N cap x → Renumbered cap N rewritten
  unfolding kind_of
  state-rewritten l e = record {
    long = length-set N (state_at cap x) word;
    chains = λ i h. get_or-set_other N (state_at cap x) i word 0 (λ z. omega arith);
    heads = λ i h. get_or-set_other N (state_at cap x) i word 0 (λ z. omega arith);
    kinds = λ y. kinds y (ℕ_discrete y x) (ltb (state_at cap x) (length N)) refl;
  }
    where
      kinds : (y : ℕ) → Dec (y ≡ x) → (t : Bool) → ltb (state_at cap x) (length N) ≡ t → kind_by (get_or rewritten (state_at cap y) 0) ≡ kind_by (get_or N (state_at cap y) 0)
      kinds y (no z) t q = ap kind_by (get_or-set_other N (state_at cap x) (state_at cap y) word 0 (λ s. z (omega arith)))
      kinds y (yes z) true q = rw z (ap kind_by (get_or-set_same N (state_at cap x) word 0 (ltb-true (state_at cap x) (length N) q)) ∙ e)
      kinds y (yes z) false q =
          ap (λ K. kind_by (get_or K (state_at cap y) 0)) (set_out N (state_at cap x) word (ltb-false (state_at cap x) (length N) q))

-- any number n in a leaf with pages
pub leaf-renumbered : (N : List ℕ) (cap x n link : ℕ) → x < cap → kind_of N cap x ≡ kind.Leaf link → link ≢ 0 → Renumbered cap N (set N (state_at cap x) (state_with n link))
leaf-renumbered N cap x n link l e some =
    let few : link ≤ most_pages = subst (λ k. first_of k ≤ most_pages) e (first-most N cap x) in
    let low : state_with n link % count_base ≡ link = omega arith in
    state-rewritten N cap x (state_with n link) l (by-link (state_with n link) link low some ∙ sym e)

-- ---- walks over them
module _ {cap : ℕ} {N M : List ℕ} (a : Renumbered cap N M) where
  -- ---- children
  first-same : (x byte : ℕ) → first_for M cap x byte ≡ first_for N cap x byte
  unfolding first_for
  first-same x byte = ap link_of (a.heads (head_at cap x (byte / 32)) (omega arith))

  all_same : (x : ℕ) → all_of M cap x ≡ all_of N cap x
  unfolding all_of
  all_same x = ap (λ w. record { at = head_at cap x 0; last = head_at cap x 7; link = link_of w }) (a.heads (head_at cap x 0) (omega arith))

  -- a link that leads to a node leads to a chain word
  look-same : (link : ℕ) → link ≢ 0 → look_at M cap link ≡ look_at N cap link
  unfolding look_at
  look-same link some = go (ltb cap link) refl
    where
      go : (t : Bool) → ltb cap link ≡ t
          → cond t None (seen (link - 1) (byte_of (get_or M (link - 1) 0)) (link_of (get_or M (link - 1) 0)))
          ≡ cond t None (seen (link - 1) (byte_of (get_or N (link - 1) 0)) (link_of (get_or N (link - 1) 0)))
      go true e = refl
      go false e =
          let l : link ≤ cap = ltb-false cap link e in
          ap (λ w. seen (link - 1) (byte_of w) (link_of w)) (a.chains (link - 1) (omega arith))

  -- ---- descents
  module _ (bytes : List ℕ) where
    arrive_same : (x at last : ℕ) → arrive M cap bytes x at last ≡ arrive N cap bytes x at last
    unfolding arrive
    arrive_same x at last = ap (arrive_as M cap bytes x at last) (a.kinds x) ∙ by (kind_of N cap x)
      where
        by : (k : Kind) → arrive_as M cap bytes x at last k ≡ arrive_as N cap bytes x at last k
        by kind.Free = refl
        by kind.Inner = ap (λ link. cond (ltb last at) (ended outside) (ahead link at last)) (first-same x (get_or bytes at 0))
        by (kind.Leaf first) = refl

    pass_same : (at last : ℕ) (s : Option Child) → pass M cap bytes at last s ≡ pass N cap bytes at last s
    pass_same at last (Some s) =
        ap (λ c. cond (ltb s.byte (get_or bytes at 0)) (ahead s.link at last) (cond (ltb (get_or bytes at 0) s.byte) (ended 0) c)) (arrive_same s.node (at + 1) last)
    pass_same at last None = refl

    advance-same : (c : Cursor) → advance M cap bytes c ≡ advance N cap bytes c
    unfolding advance
    advance-same c = go (eqb c.link 0) refl
      where
        go : (t : Bool) → eqb c.link 0 ≡ t
            → cond t c (pass M cap bytes c.at c.last (look_at M cap c.link)) ≡ cond t c (pass N cap bytes c.at c.last (look_at N cap c.link))
        go true e = refl
        go false e = ap (pass M cap bytes c.at c.last) (look-same c.link (eqb-false c.link 0 e)) ∙ pass_same c.at c.last (look_at N cap c.link)

    descended-same : (f : ℕ) (c : Cursor) → descended M cap bytes f c ≡ descended N cap bytes f c
    unfolding descended
    descended-same zero c = refl
    descended-same (suc f) c = ap (descended M cap bytes f) (advance-same c) ∙ descended-same f (advance N cap bytes c)

    drawn-same : (f : ℕ) (c : Cursor) → drawn M cap bytes f c ≡ drawn N cap bytes f c
    unfolding drawn
    drawn-same zero c = refl
    drawn-same (suc f) c =
        ap (λ n. cond (eqb c.link 0) 0 (suc n)) (ap (drawn M cap bytes f) (advance-same c) ∙ drawn-same f (advance N cap bytes c))

  -- ---- walks: the head that a frame is at lies behind the states
  abbrev High : Frame → Type 0
  High f = heads_at cap ≤ f.cursor.at

  abbrev AllHigh : List Frame → Type 0
  AllHigh [] = Unit {0}
  AllHigh (f ∷ fs) = High f × AllHigh fs

  -- and so does the next
  abbrev HighNext : Option Next → Type 0
  HighNext (Some (next.Child x byte link)) = Unit {0}
  HighNext (Some (next.Chain at link)) = heads_at cap ≤ at
  HighNext (Some next.End) = Unit {0}
  HighNext None = Unit {0}

  abbrev HighMove : Option Move → Type 0
  HighMove (Some (Chain at link)) = heads_at cap ≤ at
  HighMove (Some (Past link)) = Unit {0}
  HighMove (Some (Leaf c link)) = Unit {0}
  HighMove (Some (Down x radius link)) = Unit {0}
  HighMove (Some Up) = Unit {0}
  HighMove None = Unit {0}

  all-high : (x radius : ℕ) → High (entered N cap x radius)
  unfolding all_of
  all-high x radius = omega arith

  next-same : (c : Children) → heads_at cap ≤ c.at → next_of M cap c ≡ next_of N cap c
  unfolding next_of
  next-same c h = go (eqb c.link 0) refl
    where
      over : List ℕ → Option Next
      over K = cond (ltb c.at c.last) (Some (next.Chain (c.at + 1) (link_at K (c.at + 1)))) (Some next.End)

      go : (t : Bool) → eqb c.link 0 ≡ t → cond t (over M) (next_by (look_at M cap c.link)) ≡ cond t (over N) (next_by (look_at N cap c.link))
      go true e = ap (λ w. cond (ltb c.at c.last) (Some (next.Chain (c.at + 1) (link_of w))) (Some next.End)) (a.heads (c.at + 1) (omega arith))
      go false e = ap next_by (look-same c.link (eqb-false c.link 0 e))

  next-high : (c : Children) → heads_at cap ≤ c.at → HighNext (next_of N cap c)
  unfolding next_of
  next-high c h = go (eqb c.link 0) (ltb c.at c.last) (look_at N cap c.link)
    where
      go : (t u : Bool) (s : Option Child) → HighNext (cond t (cond u (Some (next.Chain (c.at + 1) (link_at N (c.at + 1)))) (Some next.End)) (next_by s))
      go true true s = omega arith
      go true false s = tt
      go false u (Some s) = tt
      go false u None = tt

  module _ (b : ℕ) (bytes : List ℕ) where
    abbrev w : Given
    w = given N cap b bytes

    abbrev v : Given
    v = given M cap b bytes

    exact_same : (x level : ℕ) → exact_from v x level ≡ exact_from w x level
    exact_same x level = arrive_same bytes x level (length bytes - 1)

    reached-same : (x level radius link : ℕ) → reached v x level radius link ≡ reached w x level radius link
    unfolding reached
    reached-same x level radius link = ap (reached_as v x level radius link) (a.kinds x) ∙ by (kind_of N cap x)
      where
        by : (k : Kind) → reached_as v x level radius link k ≡ reached_as w x level radius link k
        by kind.Free = refl
        by (kind.Leaf first) = refl
        by kind.Inner =
            ap (λ c. cond (eqb radius 0) (Some (Leaf c link)) (cond (ltb level (length bytes)) (Some (Down x radius link)) None)) (exact_same x level)

    found-same : (level : ℕ) (f : Frame) → High f → found v level f ≡ found w level f
    unfolding found
    found-same level f h = ap (found_by v level f.radius) (next-same f.cursor h) ∙ by (next_of N cap f.cursor)
      where
        by : (n : Option Next) → found_by v level f.radius n ≡ found_by w level f.radius n
        by (Some (next.Child x byte link)) =
            ap (cond (ltb f.radius (distance_at w level byte)) (Some (Past link))) (reached-same x (level + 1) (f.radius - distance_at w level byte) link)
        by (Some (next.Chain at link)) = refl
        by (Some next.End) = refl
        by None = refl

    reached-high : (x level radius link : ℕ) → HighMove (reached w x level radius link)
    unfolding reached
    reached-high x level radius link = by (kind_of N cap x)
      where
        inner : (t u : Bool) (c : Cursor) → HighMove (cond t (Some (Leaf c link)) (cond u (Some (Down x radius link)) None))
        inner true u c = tt
        inner false true c = tt
        inner false false c = tt

        by : (k : Kind) → HighMove (reached_as w x level radius link k)
        by kind.Free = tt
        by (kind.Leaf first) = tt
        by kind.Inner = inner (eqb radius 0) (ltb level (length bytes)) (exact_from w x level)

    found-high : (level : ℕ) (f : Frame) → High f → HighMove (found w level f)
    unfolding found
    found-high level f h = by (next_of N cap f.cursor) (next-high f.cursor h)
      where
        either : (t : Bool) (link : ℕ) (m : Option Move) → HighMove m → HighMove (cond t (Some (Past link)) m)
        either true link m g = tt
        either false link m g = g

        by : (n : Option Next) → HighNext n → HighMove (found_by w level f.radius n)
        by (Some (next.Child x byte link)) g =
            either (ltb f.radius (distance_at w level byte)) link (reached w x (level + 1) (f.radius - distance_at w level byte) link)
            (reached-high x (level + 1) (f.radius - distance_at w level byte) link)
        by (Some (next.Chain at link)) g = g
        by (Some next.End) g = tt
        by None g = tt

    leaf-same : (go on : ℕ → Leaves) (nodes : ℕ) (c : Cursor) → ((k : ℕ) → go k ≡ on k) → leaf_then v go nodes c ≡ leaf_then w on nodes c
    leaf-same go on nodes c e =
        ap (λ d. spend nodes d (λ k. before (leaf_from v c ∷ []) (go k))) (drawn-same bytes cap c)
        ∙ ap (λ d. spend nodes (drawn_from w c) (λ k. before (leaf_of d ∷ []) (go k))) (descended-same bytes cap c)
        ∙ ap (λ l. cond (ltb nodes (drawn_from w c)) broken (before (leaf_from w c ∷ []) l)) (e (nodes - drawn_from w c))

    -- so many steps
    abbrev Same : ℕ → Type 0
    Same f = (nodes : ℕ) (frame : Frame) (stack : List Frame) → High frame → AllHigh stack → run v f nodes (state frame stack) ≡ run w f nodes (state frame stack)

    follow-same : (f : ℕ) → Same f → (nodes : ℕ) (frame : Frame) (stack : List Frame) → High frame → AllHigh stack → (m : Option Move) → HighMove m
        → follow v (run v f) nodes frame stack m ≡ follow w (run w f) nodes frame stack m
    follow-same f same nodes frame stack h hs (Some (Chain at link)) g = same nodes (at_chain frame at link) stack g hs
    follow-same f same nodes frame stack h hs (Some (Past link)) g = same nodes (at_link frame link) stack h hs
    follow-same f same nodes frame stack h hs (Some (Leaf c link)) g =
        leaf-same (λ k. run v f k (state (at_link frame link) stack)) (λ k. run w f k (state (at_link frame link) stack)) nodes c
        (λ k. same k (at_link frame link) stack h hs)
    follow-same f same nodes frame stack h hs (Some (Down x radius link)) g =
        ap (λ c. run v f nodes (state (record { cursor = c; radius = radius }) (at_link frame link ∷ stack))) (all_same x)
        ∙ same nodes (entered N cap x radius) (at_link frame link ∷ stack) (all-high x radius) (h, hs)
    follow-same f same nodes frame [] h hs (Some Up) g = refl
    follow-same f same nodes frame (over ∷ stack) h hs (Some Up) g = same nodes over stack hs.0 hs.1
    follow-same f same nodes frame stack h hs None g = refl

    run-same : (f : ℕ) → Same f
    unfolding run
    run-same zero nodes frame stack h hs = refl
    run-same (suc f) nodes frame stack h hs =
        let m : Option Move = found w (length stack) frame in
        ap (λ q. spend nodes (reads q) (λ k. follow v (run v f) k frame stack q)) (found-same (length stack) frame h)
        ∙ ap (cond (ltb nodes (reads m)) broken) (follow-same f (run-same f) (nodes - reads m) frame stack h hs m (found-high (length stack) frame h))

    below-same : (x radius nodes : ℕ) → walk_below v x radius nodes ≡ walk_below w x radius nodes
    unfolding walk_below
    below-same x radius nodes =
        ap (λ c. run v (steps_for cap) nodes (state (record { cursor = c; radius = radius }) [])) (all_same x)
        ∙ run-same (steps_for cap) nodes (entered N cap x radius) [] (all-high x radius) tt

    -- from a root
    pub walk_same : (root radius nodes : ℕ) → walk_from v root radius nodes ≡ walk_from w root radius nodes
    unfolding walk_from
    walk_same root radius nodes =
        ap (λ l. cond (eqb radius 0) l (walk_as v root radius nodes (kind_of M cap root))) exact
        ∙ ap (cond (eqb radius 0) (leaf_then w (leaves []) nodes (exact_from w root 0))) (ap (walk_as v root radius nodes) (a.kinds root) ∙ by (kind_of N cap root))
      where
        exact : leaf_then v (leaves []) nodes (exact_from v root 0) ≡ leaf_then w (leaves []) nodes (exact_from w root 0)
        exact = ap (leaf_then v (leaves []) nodes) (exact_same root 0) ∙ leaf-same (leaves []) (leaves []) nodes (exact_from w root 0) (λ k. refl)

        by : (k : Kind) → walk_as v root radius nodes k ≡ walk_as w root radius nodes k
        by kind.Free = refl
        by (kind.Leaf first) = refl
        by kind.Inner = below-same root radius nodes
