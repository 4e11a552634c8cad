-- The machine of a walk from one state to another: the steps and the nodes that it costs, the leaves it gives, the nodes it goes to; and its single steps.
use Prim.Native.Nat.{ℕ, zero, suc, ◌+◌, ◌-◌, ◌≤◌, ◌<◌}
use native.Mathlib.Omega.{arith}
use mathlib.Core.Path.{◌≡◌, refl, sym, ap, ap₂, ◌∙◌}
use mathlib.Core.List.{List, [], ◌∷◌, ◌++◌, append_assoc}
use lib.ListN.{length}
use borrow.Author.Tests.{eq-eqb, ne_eqb}
use Rattle.std.specs.Prelude.{Option, Some}
use Rattle.meaning.proofs.Stacks.{suc-pred}
use Rattle.layout.specs.Nodes.{steps_for}
use Rattle.layout.specs.States.{kind_of}
use Rattle.layout.specs.declared.nodes.Kind.TheVariants as kind
use Rattle.children.specs.declared.cursor.Cursor.{Cursor as Place}
use Rattle.children.proofs.Reach.{Over}
use Rattle.descent.specs.declared.Cursor.{Cursor}
use Rattle.walk_steps.specs.declared.frame.Frame.{Frame}
use Rattle.walk_steps.specs.declared.turn.Move.{Move}
use Rattle.walk_steps.specs.declared.turn.Move.TheVariants as move
use Rattle.walk_steps.specs.Given.{Given, exact_from, leaf_from, drawn_from}
use Rattle.walk_steps.specs.Turn.{entered, at_chain, at_link, found, reads}
use Rattle.walk.specs.Leaves.{leaves, before}
use Rattle.walk.specs.Walk.{State, state, follow, run}
use Rattle.walk.proofs.Spend.{before-none, before-both, spend-paid}
use Rattle.walk.proofs.Run.{run_by}
use Rattle.walk_laws.proofs.Found.{found-chain}
use Rattle.walk_laws.specs.Trail.{exact_after, goes, trace, trail, trail_below, trail_as, trail_from}

-- ---- from state to state, in f steps and n nodes
pub record Ran (w : Given) (f n : ℕ) (s s' : State) (cost drew : ℕ) (gave went : List ℕ) : Type 0 where
  pub rest : ℕ
  pub enough : f ≤ rest + cost
  pub over : ℕ
  pub lasts : n ≤ over + drew
  pub same : run w f n s ≡ before gave (run w rest over s')
  pub nodes : trail w f s ≡ went ++ trail w rest s'

module _ {w : Given} {f n : ℕ} {s : State} where
  pub ran-none : Ran w f n s s 0 0 [] []
  ran-none = record { rest = f; enough = omega arith; over = n; lasts = omega arith; same = sym (before-none (run w f n s)); nodes = refl }

  pub ran_then : {t u : State} {c c' d d' : ℕ} {ks ls xs ys : List ℕ} (r : Ran w f n s t c d ks xs) → Ran w r.rest r.over t u c' d' ls ys
      → Ran w f n s u (c + c') (d + d') (ks ++ ls) (xs ++ ys)
  ran_then {u = u} {ks = ks} {ls = ls} {xs = xs} {ys = ys} r q = record {
    rest = q.rest;
    enough = omega (arith, r.enough, q.enough);
    over = q.over;
    lasts = omega (arith, r.lasts, q.lasts);
    same = r.same ∙ ap (before ks) q.same ∙ before-both ks ls (run w q.rest q.over u);
    nodes = r.nodes ∙ ap (λ zs. xs ++ zs) q.nodes ∙ sym (append_assoc xs ys (trail w q.rest u));
  }

  pub ran-within : {t : State} {c c' d d' : ℕ} {ks xs : List ℕ} → c ≤ c' → d ≤ d' → Ran w f n s t c d ks xs → Ran w f n s t c' d' ks xs
  ran-within l m r = record {
    rest = r.rest;
    enough = omega (arith, r.enough);
    over = r.over;
    lasts = omega (arith, r.lasts);
    same = r.same;
    nodes = r.nodes;
  }

  -- by equations
  pub ran-same : {t : State} {c d : ℕ} {ks ls xs ys : List ℕ} → ks ≡ ls → xs ≡ ys → Ran w f n s t c d ks xs → Ran w f n s t c d ls ys
  ran-same {t = t} e g r = record {
    rest = r.rest;
    enough = r.enough;
    over = r.over;
    lasts = r.lasts;
    same = r.same ∙ ap (λ zs. before zs (run w r.rest r.over t)) e;
    nodes = r.nodes ∙ ap (λ zs. zs ++ trail w r.rest t) g;
  }

  pub ran_to : {t u : State} {c d : ℕ} {ks xs : List ℕ} → t ≡ u → Ran w f n s t c d ks xs → Ran w f n s u c d ks xs
  ran_to {ks = ks} {xs = xs} e r = record {
    rest = r.rest;
    enough = r.enough;
    over = r.over;
    lasts = r.lasts;
    same = r.same ∙ ap (λ v. before ks (run w r.rest r.over v)) e;
    nodes = r.nodes ∙ ap (λ v. xs ++ trail w r.rest v) e;
  }

-- ---- single steps, by the move that is found
module _ (w : Given) (f n : ℕ) (some : 0 < f) (frame : Frame) (stack : List Frame) where
  trail-by : (m : Option Move) → found w (length stack) frame ≡ m
      → trail w f (state frame stack) ≡ goes w (frame.cursor.link - 1) m ++ trace w (trail w (f - 1)) frame stack m
  unfolding trail
  trail-by m e = ap (λ k. trail w k (state frame stack)) (suc-pred f some) ∙ ap gone e
    where
      gone : Option Move → List ℕ
      gone q = goes w (frame.cursor.link - 1) q ++ trace w (trail w (f - 1)) frame stack q

  run-paid : (m : Option Move) → found w (length stack) frame ≡ m → reads m ≤ n
      → run w f n (state frame stack) ≡ follow w (run w (f - 1)) (n - reads m) frame stack m
  run-paid m e l =
      run_by w f n frame stack some (length stack) refl m e ∙ spend-paid n (reads m) (λ k. follow w (run w (f - 1)) k frame stack m) l

  pub step-chain : (at link : ℕ) → found w (length stack) frame ≡ Some (move.Chain at link)
      → Ran w f n (state frame stack) (state (at_chain frame at link) stack) 1 0 [] []
  step-chain at link e = record {
    rest = f - 1;
    enough = omega arith;
    over = n - 0;
    lasts = omega arith;
    same = run-paid (Some (move.Chain at link)) e (omega arith) ∙ sym (before-none (run w (f - 1) (n - 0) (state (at_chain frame at link) stack)));
    nodes = trail-by (Some (move.Chain at link)) e;
  }

  pub step_past : (link : ℕ) → found w (length stack) frame ≡ Some (move.Past link) → 0 < n
      → Ran w f n (state frame stack) (state (at_link frame link) stack) 1 1 [] []
  step_past link e l = record {
    rest = f - 1;
    enough = omega arith;
    over = n - 1;
    lasts = omega arith;
    same = run-paid (Some (move.Past link)) e l ∙ sym (before-none (run w (f - 1) (n - 1) (state (at_link frame link) stack)));
    nodes = trail-by (Some (move.Past link)) e;
  }

  -- to a leaf by a descent from node x, which reads at most e nodes
  pub step-leaf : (x : ℕ) (c : Cursor) (link leaf e : ℕ) (went : List ℕ) → frame.cursor.link ≡ x + 1 → found w (length stack) frame ≡ Some (move.Leaf c link)
      → leaf_from w c ≡ leaf → exact_after w c ≡ went → drawn_from w c ≤ e → 1 + e ≤ n
      → Ran w f n (state frame stack) (state (at_link frame link) stack) 1 (1 + e) (leaf ∷ []) (x ∷ went)
  step-leaf x c link leaf e went i g h t most paid =
      let back : frame.cursor.link - 1 ≡ x = omega arith in
      record {
        rest = f - 1;
        enough = omega arith;
        over = n - 1 - drawn_from w c;
        lasts = omega arith;
        same = run-paid (Some (move.Leaf c link)) g (omega arith)
            ∙ spend-paid (n - 1) (drawn_from w c) (λ k. before (leaf_from w c ∷ []) (run w (f - 1) k (state (at_link frame link) stack))) (omega arith)
            ∙ ap (λ l. before (l ∷ []) (run w (f - 1) (n - 1 - drawn_from w c) (state (at_link frame link) stack))) h;
        nodes = trail-by (Some (move.Leaf c link)) g ∙ ap₂ (λ y zs. y ∷ (zs ++ trail w (f - 1) (state (at_link frame link) stack))) back t;
      }

  pub step_down : (x radius link : ℕ) → frame.cursor.link ≡ x + 1 → found w (length stack) frame ≡ Some (move.Down x radius link) → 0 < n
      → Ran w f n (state frame stack) (state (entered w.nodes w.cap x radius) (at_link frame link ∷ stack)) 1 1 [] (x ∷ [])
  step_down x radius link i e l =
      let back : frame.cursor.link - 1 ≡ x = omega arith in
      let below : State = state (entered w.nodes w.cap x radius) (at_link frame link ∷ stack) in
      record {
        rest = f - 1;
        enough = omega arith;
        over = n - 1;
        lasts = omega arith;
        same = run-paid (Some (move.Down x radius link)) e l ∙ sym (before-none (run w (f - 1) (n - 1) below));
        nodes = trail-by (Some (move.Down x radius link)) e ∙ ap (λ y. y ∷ trail w (f - 1) below) back;
      }

module _ (w : Given) (f n : ℕ) (some : 0 < f) (frame : Frame) where
  pub step-up : (back : Frame) (stack : List Frame) → found w (length (back ∷ stack)) frame ≡ Some move.Up
      → Ran w f n (state frame (back ∷ stack)) (state back stack) 1 0 [] []
  step-up back stack e = record {
    rest = f - 1;
    enough = omega arith;
    over = n - 0;
    lasts = omega arith;
    same = run-paid w f n some frame (back ∷ stack) (Some move.Up) e (omega arith) ∙ sym (before-none (run w (f - 1) (n - 0) (state back stack)));
    nodes = trail-by w f n some frame (back ∷ stack) (Some move.Up) e;
  }

  pub step_end : found w 0 frame ≡ Some move.Up → run w f n (state frame []) ≡ leaves [] (n - 0)
  step_end e = run-paid w f n some frame [] (Some move.Up) e (omega arith)

  pub trail-end : found w 0 frame ≡ Some move.Up → trail w f (state frame []) ≡ []
  trail-end e = trail-by w f n some frame [] (Some move.Up) e

-- ---- over to where a cursor finds a child, or the end
-- a frame at another cursor
abbrev pub placed : Frame → Place → Frame
placed frame c = record { cursor = c; radius = frame.radius }

pub ran_over : (w : Given) (k f n : ℕ) (frame : Frame) (stack : List Frame) (c : Place) → k ≤ f → Over w.nodes w.cap k frame.cursor c
    → Ran w f n (state frame stack) (state (placed frame c) stack) k 0 [] []
ran_over w zero f n frame stack c l e = ran_to (ap (λ d. state (placed frame d) stack) e) ran-none
ran_over w (suc k) f n frame stack c l o =
    let at : ℕ = frame.cursor.at + 1 in
    let one = step-chain w f n (omega arith) frame stack at o.0 (found-chain w (length stack) frame at o.0 o.1) in
    ran-within {c = 1 + k} {d = 0 + 0} (omega arith) (omega arith)
    (ran_then one (ran_over w k one.rest one.over (at_chain frame at o.0) stack c (omega (arith, one.enough)) o.2))

-- ---- from a root, by what it is
module _ (w : Given) (root radius : ℕ) where
  pub trail-leaf : (first : ℕ) → kind_of w.nodes w.cap root ≡ kind.Leaf first → trail_from w root radius ≡ root ∷ []
  unfolding trail_from
  trail-leaf first e = ap (trail_as w root radius) e

  trail-inner : kind_of w.nodes w.cap root ≡ kind.Inner → trail_from w root radius ≡ root ∷ trail_below w root radius
  unfolding trail_from
  trail-inner e = ap (trail_as w root radius) e

  module _ (e : kind_of w.nodes w.cap root ≡ kind.Inner) where
    pub trail-exact : radius ≡ 0 → trail_from w root radius ≡ root ∷ exact_after w (exact_from w root 0)
    trail-exact z = trail-inner e ∙ rw (eq-eqb radius 0 z) refl

    pub trail-some : 0 < radius → trail_from w root radius ≡ root ∷ trail w (steps_for w.cap) (state (entered w.nodes w.cap root radius) [])
    trail-some z = trail-inner e ∙ rw (ne_eqb radius 0 (λ y. absurd (omega arith))) refl
