-- On tables that hold a sound trie the test says yes, and marks each of its nodes.
use Rattle.std.specs.Prelude.{Option, Some, None}
use Prim.Native.Nat.{ℕ, zero, suc, ◌+◌, ◌-◌, ◌*◌, ◌≤◌, ◌<◌}
use native.Mathlib.Omega.{arith}
use mathlib.Core.Path.{◌≡◌, refl, sym, ap, ap₂, ◌∙◌}
use mathlib.Core.Bool.{true, cond, false≢true}
use mathlib.Core.List.{List, [], ◌∷◌, ◌++◌}
use lib.Dec.{eqb}
use lib.ListN.{length, set, replicate, length-append}
use borrow.Author.Tests.{ne_eqb, lt-ltb}
use Rattle.meaning.specs.Trie.{nodes}
use Rattle.words.specs.Bits.{flag}
use Rattle.layout.specs.Nodes.{steps_for, most_nodes, node_steps}
use Rattle.layout.specs.Pages.{is_live, most_pages}
use Rattle.children.specs.Heap.{Holds, hit}
use Rattle.children.specs.Phys.{Phys, Kids, leaf_p, inner_p, no_kid, kid, root, first, tree, cells, Below, SoundK}
use Rattle.children.specs.Phys.{Sound as SoundNodes}
use Rattle.children.proofs.AheadOrder.{groups_left, AheadF, enter-ahead, StepKid, to_chain, to_kid, step-kid, StepEnd, end_chain, to_up, step_end as End-step}
use Rattle.trie_laws.specs.Sound.{filled}
use Rattle.children.specs.declared.order.Frame.{Frame}
use Rattle.children.specs.declared.order.Step.TheVariants as step
use Rattle.node_check.specs.declared.leaf.Kind.{Kind}
use Rattle.node_check.specs.declared.leaf.Kind.TheVariants as kind
use Rattle.node_check.specs.Mark.{Noted, noted, mark_once}
use Rattle.node_check.specs.Leaf.{kind_of}
use Rattle.children.specs.Order.{entered, past_child, next_chain, next_child}
use Rattle.node_check.specs.Given.{Given, Fitting}
use Rattle.trie_visit.specs.Visit.{leaf_left, past_leaf}
use Rattle.trie_check.specs.Trie.{State, state, Tested, tested, left_if, left_leaf, run, test_below, test_kind, test_trie}
use Rattle.trie_check_laws.specs.Uses.{uses, uses_among}
use Rattle.trie_check_laws.specs.Found.{Reads, Found, Marked, one}
use Rattle.trie_check_laws.proofs.WholeMarks.{Clear, Counted, counted_none, counted-then, clear_first, clear-then, Fresh, mark-once}
use Rattle.trie_check_laws.proofs.WholeLeaf.{leaf-kind, inner-kind, Leads, leads-none, leads-more, leads-less, on-path, leaf-tested}
use Rattle.trie_check_laws.proofs.WholeSteps.{Ran, ran-none, ran_then, ran-within, ran_to, step_at, step-chain, step-up, step_end, step_past, step_down, to-child, to-chain, to-up}
use Rattle.trie_check_laws.proofs.WholeFit.{size, size_among, load, load_among, size-nodes, load-pages, Fit, FitAmong, fit}

-- ---- from one end of a part to the other

-- a state from which u is to be marked, over n nodes with m pages, below the bytes ys
record Ready (w : Given) (s : State) (ys : List ℕ) (u : ℕ → ℕ) (n m : ℕ) : Type 0 where
  level : length s.stack ≡ length ys
  leads : Leads s.path ys
  room : w.window.size ≤ 32 * length s.map
  clear : Clear w.window u s.map
  nodes : n ≤ s.left
  pages : m ≤ s.pages

-- it was marked, and the machine stands at a frame behind
record Went (w : Given) (f : ℕ) (s : State) (ys : List ℕ) (u : ℕ → ℕ) (n m : ℕ) (frame : Frame) (cost : ℕ) : Type 0 where
  map : List ℕ
  path : List ℕ
  counted : Counted w.window u s.map map
  leads : Leads path ys
  ran : Ran w f s (state map path (s.left - n) (s.pages - m) frame s.stack) cost

module _ (w : Given) where
  abbrev behind : (f : ℕ) (s : State) (ys : List ℕ) (u : ℕ → ℕ) (n m : ℕ) (frame : Frame) (cost : ℕ) → Went w f s ys u n m frame cost → State
  behind f s ys u n m frame cost r = state r.map r.path (s.left - n) (s.pages - m) frame s.stack

  -- what is left to be marked
  ready-then : (f : ℕ) (s : State) (ys : List ℕ) (u v : ℕ → ℕ) (n k m l : ℕ) (frame : Frame) (cost : ℕ)
      → Ready w s ys (λ x. u x + v x) (n + k) (m + l) → (r : Went w f s ys u n m frame cost) → Ready w (behind f s ys u n m frame cost r) ys v k l
  ready-then f s ys u v n k m l frame cost c r = record {
    level = c.level;
    leads = r.leads;
    room = omega (arith, c.room, r.counted.long);
    clear = clear-then w.window u v s.map r.map c.clear r.counted;
    nodes = omega (arith, c.nodes);
    pages = omega (arith, c.pages);
  }

  ready-first : (s : State) (ys : List ℕ) (u v : ℕ → ℕ) (n k m l : ℕ) → Ready w s ys (λ x. u x + v x) (n + k) (m + l) → Ready w s ys u n m
  ready-first s ys u v n k m l c = record {
    level = c.level;
    leads = c.leads;
    room = c.room;
    clear = clear_first w.window u v s.map c.clear;
    nodes = omega (arith, c.nodes);
    pages = omega (arith, c.pages);
  }

  went_then : (f : ℕ) (s : State) (ys : List ℕ) (u v : ℕ → ℕ) (n k m l : ℕ) (frame frame' : Frame) (c d : ℕ)
      → (r : Went w f s ys u n m frame c) → Went w r.ran.rest (behind f s ys u n m frame c r) ys v k l frame' d
      → Went w f s ys (λ x. u x + v x) (n + k) (m + l) frame' (c + d)
  went_then f s ys u v n k m l frame frame' c d r q =
      let mid : State = behind f s ys u n m frame c r in
      let last : State = behind r.ran.rest mid ys v k l frame' d q in
      record {
        map = q.map;
        path = q.path;
        counted = counted-then w.window u v s.map r.map q.map r.counted q.counted;
        leads = q.leads;
        ran = ran_to w f s last (state q.map q.path (s.left - (n + k)) (s.pages - (m + l)) frame' s.stack) (c + d)
            (ap₂ (λ a b. state q.map q.path a b frame' s.stack) (omega arith) (omega arith))
            (ran_then w f s mid last c d r.ran q.ran);
      }

  went-within : (f : ℕ) (s : State) (ys : List ℕ) (u : ℕ → ℕ) (n m : ℕ) (frame : Frame) (c d : ℕ) → c ≤ d
      → Went w f s ys u n m frame c → Went w f s ys u n m frame d
  went-within f s ys u n m frame c d l r = record {
    map = r.map;
    path = r.path;
    counted = r.counted;
    leads = r.leads;
    ran = ran-within w f s (behind f s ys u n m frame c r) c d l r.ran;
  }

  -- the end of the children of a node
  record Under (f : ℕ) (s : State) (ys : List ℕ) (u : ℕ → ℕ) (n m cost : ℕ) : Type 0 where
    done : Frame
    up : next_child w.nodes w.block.nodes done ≡ Some step.Up
    went : Went w f s ys u n m done cost

module _ (w : Given) (bytes_of : ℕ → List ℕ) (small : w.block.nodes ≤ most_nodes) (few : w.block.pages ≤ most_pages) (short : w.rows.bytes ≤ 64) (reads : Reads w bytes_of) where
  abbrev N : List ℕ
  N = w.nodes

  abbrev P : List ℕ
  P = w.pages

  abbrev cap : ℕ
  cap = w.block.nodes

  abbrev pcap : ℕ
  pcap = w.block.pages

  abbrev base : ℕ
  base = w.block.base

  abbrev len : ℕ
  len = w.rows.bytes

  abbrev FitsT : Phys → List ℕ → Type 0
  FitsT = Fit bytes_of (is_live P) w.rows.bits w.rows.length len

  abbrev FitsAmong : Kids → List ℕ → Type 0
  FitsAmong = FitAmong bytes_of (is_live P) w.rows.bits w.rows.length len

  abbrev AheadIn : Frame → Kids → Type 0
  AheadIn = AheadF cap pcap base N P

  -- ---- a leaf with a page
  leaf-through : (x p : ℕ) (ps ys : List ℕ) (c l : ℕ) → Holds (cells cap base (leaf_p x (p ∷ ps))) N P → Below pcap (p ∷ ps)
      → FitsT (leaf_p x (p ∷ ps)) (ys ++ c ∷ []) → length ys < len
      → (f : ℕ) (s : State) → step_at w s.frame s.stack ≡ Some (step.Child x c l) → 0 < f → Ready w s ys (λ a. hit x a) 1 (length (p ∷ ps))
      → Went w f s ys (λ a. hit x a) 1 (length (p ∷ ps)) (past_child s.frame c l) 1
  leaf-through x p ps ys c l h b u v f s e n r =
      let k : ℕ = length s.stack in
      let path' : List ℕ = set s.path k c in
      let more : Leads path' (ys ++ c ∷ []) =
      rw r.level (leads-more s.path ys c (omega arith) r.leads) in
      let fresh : Fresh w.window s.map x = mark-once w.window s.map x r.room r.clear in
      let deep : k + 1 ≡ length (ys ++ c ∷ []) = omega (arith, r.level, length-append ys (c ∷ [])) in
      let on = on-path P w.sketches pcap base w.rows path' bytes_of (ys ++ c ∷ []) reads more (omega arith) (p ∷ ps) b u.0 in
      let left : leaf_left w path' (k + 1) x (p + 1) s.pages ≡ Some (s.pages - length (p ∷ ps)) =
      rw deep (leaf-tested P w.sketches pcap base w.rows path' N cap x (length (ys ++ c ∷ [])) (p ∷ ps) s.pages h b few u.1 on r.pages) in
      record {
        map = fresh.after;
        path = path';
        counted = fresh.counted;
        leads = leads-less path' ys c more;
        ran = step_past w f n s.map s.path s.left s.pages s.frame s.stack x c l e (omega (arith, r.nodes)) fresh.after fresh.same
            (Some (kind.Leaf (p + 1))) (leaf-kind N P cap base x (p ∷ ps) h b few) (s.pages - length (p ∷ ps))
            (rw (ne_eqb (p + 1) 0 (omega arith)) (ap (past_leaf c l) left));
      }

  -- ---- to the next child, over the chains before it
  abbrev at : State → Frame → State
  at s frame = state s.map s.path s.left s.pages frame s.stack

  chain-on : (f : ℕ) (s : State) (l : ℕ) → 0 < f → next_child N cap s.frame ≡ Some (step.Chain l) → Ran w f s (at s (next_chain s.frame l)) 1
  chain-on f s l n e =
      step-chain w f n s.map s.path s.left s.pages s.frame s.stack l (to-chain N cap w.rows.bits w.rows.length (length s.stack) s.frame l e)

  record Reached (f : ℕ) (s : State) (c : ℕ) (t : Phys) (ks : Kids) : Type 0 where
    frame : Frame
    link : ℕ
    cost : ℕ
    spent : cost + groups_left frame ≡ groups_left s.frame
    leads : next_child N cap frame ≡ Some (step.Child (root t) c link)
    held : Holds (cells cap base t) N P
    sound : SoundNodes cap pcap t
    ahead : AheadIn (past_child frame c link) ks
    ran : Ran w f s (at s frame) cost

  -- by one step
  reach-by : (f : ℕ) (s : State) (c : ℕ) (t : Phys) (ks : Kids) → StepKid cap pcap base N P s.frame c t ks →
      ((l : ℕ) → s.frame.group < 7 → next_child N cap s.frame ≡ Some (step.Chain l) → AheadIn (next_chain s.frame l) (kid c t ks) → Reached f s c t ks) → Reached f s c t ks
  reach-by f s c t ks (to_chain l m e a) more = more l m e a
  reach-by f s c t ks (to_kid l e h b a) more =
      record { frame = s.frame; link = l; cost = 0; spent = omega arith; leads = e; held = h; sound = b; ahead = a; ran = ran-none w f s }

  reach-on : (f : ℕ) (s s1 : State) (c : ℕ) (t : Phys) (ks : Kids) (l : ℕ) → s.frame.group < 7 → (r : Ran w f s (at s (next_chain s.frame l)) 1) →
      Reached r.rest (at s (next_chain s.frame l)) c t ks → Reached f s c t ks
  reach-on f s s1 c t ks l m r a =
      record {
        frame = a.frame;
        link = a.link;
        cost = 1 + a.cost;
        spent = omega (arith, a.spent);
        leads = a.leads;
        held = a.held;
        sound = a.sound;
        ahead = a.ahead;
        ran = ran_then w f s (at s (next_chain s.frame l)) (at s a.frame) 1 a.cost r a.ran;
      }

  reach : (n f : ℕ) (s : State) (c : ℕ) (t : Phys) (ks : Kids) → groups_left s.frame ≡ n → n ≤ f → AheadIn s.frame (kid c t ks) → Reached f s c t ks
  reach zero f s c t ks e l a = reach-by f s c t ks (step-kid cap pcap base N P s.frame c t ks small a) (λ n m q b. absurd (omega arith))
  reach (suc n) f s c t ks e l a =
      reach-by f s c t ks (step-kid cap pcap base N P s.frame c t ks small a)
      (λ k m q b. let r = chain-on f s k (omega arith) q in reach-on f s s c t ks k m r (reach n r.rest (at s (next_chain s.frame k)) c t ks (omega arith) (omega (arith, r.enough)) b))

  -- where no child is left, to the end
  record Ended (f : ℕ) (s : State) : Type 0 where
    frame : Frame
    up : next_child N cap frame ≡ Some step.Up
    ran : Ran w f s (at s frame) (groups_left s.frame)

  end_by : (f : ℕ) (s : State) → StepEnd cap pcap base N P s.frame →
      ((l : ℕ) → s.frame.group < 7 → next_child N cap s.frame ≡ Some (step.Chain l) → AheadIn (next_chain s.frame l) no_kid → Ended f s) → Ended f s
  end_by f s (end_chain l m e a) more = more l m e a
  end_by f s (to_up e) more = record { frame = s.frame; up = e; ran = ran-within w f s s 0 (groups_left s.frame) (omega arith) (ran-none w f s) }

  end_on : (f : ℕ) (s : State) (l : ℕ) → s.frame.group < 7 → (r : Ran w f s (at s (next_chain s.frame l)) 1) → Ended r.rest (at s (next_chain s.frame l)) → Ended f s
  end_on f s l m r a =
      let left : ℕ = groups_left (next_chain s.frame l) in
      record {
        frame = a.frame;
        up = a.up;
        ran = ran-within w f s (at s a.frame) (1 + left) (groups_left s.frame) (omega arith)
            (ran_then w f s (at s (next_chain s.frame l)) (at s a.frame) 1 left r a.ran);
      }

  to_end : (n f : ℕ) (s : State) → groups_left s.frame ≡ n → n ≤ f → AheadIn s.frame no_kid → Ended f s
  to_end zero f s e l a = end_by f s (End-step cap pcap base N P s.frame a) (λ n m q b. absurd (omega arith))
  to_end (suc n) f s e l a =
      end_by f s (End-step cap pcap base N P s.frame a)
      (λ k m q b. let r = chain-on f s k (omega arith) q in end_on f s k m r (to_end n r.rest (at s (next_chain s.frame k)) (omega arith) (omega (arith, r.enough)) b))

  -- ---- what is gone through
  abbrev Through : Kids → List ℕ → Type 0
  Through ks ys =
      (f : ℕ) (s : State) → AheadIn s.frame ks → Ready w s ys (λ a. uses_among ks a) (size_among ks) (load_among ks) → node_steps * size_among ks + groups_left s.frame ≤ f
      → Under w f s ys (λ a. uses_among ks a) (size_among ks) (load_among ks) (node_steps * size_among ks + groups_left s.frame)

  none-through : (ys : List ℕ) → Through no_kid ys
  none-through ys f s a r n =
      let e = to_end (groups_left s.frame) f s refl (omega arith) a in
      record {
        done = e.frame;
        up = e.up;
        went = record {
          map = s.map;
          path = s.path;
          counted = counted_none w.window s.map;
          leads = r.leads;
          ran = ran_to w f s (at s e.frame) (state s.map s.path (s.left - 0) (s.pages - 0) e.frame s.stack) (node_steps * 0 + groups_left s.frame)
              (ap₂ (λ a b. state s.map s.path a b e.frame s.stack) (omega arith) (omega arith))
              (ran-within w f s (at s e.frame) (groups_left s.frame) (node_steps * 0 + groups_left s.frame) (omega arith) e.ran);
        };
      }

  seven-left : (x : ℕ) → groups_left (entered N cap x) ≡ 7
  unfolding entered
  seven-left x = omega arith

  -- an inner child
  inner-through : (x : ℕ) (ks : Kids) (ys : List ℕ) (c l : ℕ) → Holds (cells cap base (inner_p x ks)) N P → SoundK cap pcap ks 0
      → FitsT (inner_p x ks) (ys ++ c ∷ []) → length ys < len → AheadIn (entered N cap x) ks → Through ks (ys ++ c ∷ [])
      → (f : ℕ) (s : State) → step_at w s.frame s.stack ≡ Some (step.Child x c l) → node_steps * size (inner_p x ks) ≤ f
      → Ready w s ys (λ a. uses (inner_p x ks) a) (size (inner_p x ks)) (load (inner_p x ks))
      → Went w f s ys (λ a. uses (inner_p x ks) a) (size (inner_p x ks)) (load (inner_p x ks)) (past_child s.frame c l) (node_steps * size (inner_p x ks))
  inner-through x ks ys c l h b u v ahead through f s e n r =
      let k : ℕ = length s.stack in
      let seven : groups_left (entered N cap x) ≡ 7 = seven-left x in
      let path' : List ℕ = set s.path k c in
      let more : Leads path' (ys ++ c ∷ []) =
      rw r.level (leads-more s.path ys c (omega arith) r.leads) in
      let hx : ℕ → ℕ = λ a. hit x a in
      let ub : ℕ → ℕ = λ a. uses_among ks a in
      let fresh : Fresh w.window s.map x = mark-once w.window s.map x r.room (clear_first w.window hx ub s.map r.clear) in
      let deep : k + 1 ≡ length (ys ++ c ∷ []) = omega (arith, r.level, length-append ys (c ∷ [])) in
      let back : Frame = past_child s.frame c l in
      let s1 : State = state fresh.after path' (s.left - 1) s.pages (entered N cap x) (back ∷ s.stack) in
      let down : Ran w f s s1 1 =
      step_down w f (omega arith) s.map s.path s.left s.pages s.frame s.stack x c l e (omega (arith, r.nodes)) fresh.after fresh.same
      (Some kind.Inner) (inner-kind N P cap base x ks h) (rw (lt-ltb (k + 1) len (omega (arith, u.0)))) in
      let ready : Ready w s1 (ys ++ c ∷ []) ub (size_among ks) (load_among ks) = record {
        level = omega (arith, deep);
        leads = more;
        room = omega (arith, r.room, fresh.counted.long);
        clear = clear-then w.window hx ub s.map fresh.after r.clear fresh.counted;
        nodes = omega (arith, r.nodes);
        pages = r.pages;
      } in
      let under = through down.rest s1 ahead ready (omega (arith, down.enough, seven)) in
      let went = under.went in
      let s2 : State = behind w down.rest s1 (ys ++ c ∷ []) ub (size_among ks) (load_among ks) under.done (node_steps * size_among ks + groups_left (entered N cap x)) went in
      let less : s.left - 1 - size_among ks ≡ s.left - (1 + size_among ks) = omega arith in
      let s3 : State = state s2.map s2.path s2.left s2.pages back s.stack in
      let up : Ran w went.ran.rest s2 s3 1 =
      step-up w went.ran.rest (omega (arith, went.ran.enough, down.enough)) s2.map s2.path s2.left s2.pages under.done back s.stack
      (to-up N cap w.rows.bits w.rows.length (length (back ∷ s.stack)) under.done under.up) in
      record {
        map = went.map;
        path = went.path;
        counted = counted-then w.window hx ub s.map fresh.after went.map fresh.counted went.counted;
        leads = leads-less went.path ys c went.leads;
        ran = ran_to w f s s3 (state went.map went.path (s.left - (1 + size_among ks)) (s.pages - load_among ks) back s.stack) (node_steps * (1 + size_among ks))
            (ap (λ a. state went.map went.path a (s.pages - load_among ks) back s.stack) less)
            (ran-within w f s s3 (1 + (node_steps * size_among ks + groups_left (entered N cap x) + 1)) (node_steps * (1 + size_among ks)) (omega arith)
            (ran_then w f s s1 s3 1 (node_steps * size_among ks + groups_left (entered N cap x) + 1) down
            (ran_then w down.rest s1 s2 s3 (node_steps * size_among ks + groups_left (entered N cap x)) 1 went.ran up)));
      }

  -- a child, and those after it
  kid-through : (t : Phys) (ks : Kids) (ys : List ℕ) (c : ℕ) → Through ks ys
      → (f : ℕ) (s : State) → Ready w s ys (λ a. uses_among (kid c t ks) a) (size_among (kid c t ks)) (load_among (kid c t ks))
      → node_steps * size_among (kid c t ks) + groups_left s.frame ≤ f → (a : Reached f s c t ks)
      → Went w f s ys (λ x. uses t x) (size t) (load t) (past_child a.frame c a.link) (a.cost + node_steps * size t)
      → Under w f s ys (λ x. uses_among (kid c t ks) x) (size_among (kid c t ks)) (load_among (kid c t ks)) (node_steps * size_among (kid c t ks) + groups_left s.frame)
  kid-through t ks ys c through f s r n a went =
      let u : ℕ → ℕ = λ x. uses t x in
      let v : ℕ → ℕ = λ x. uses_among ks x in
      let frame : Frame = past_child a.frame c a.link in
      let cost : ℕ = a.cost + node_steps * size t in
      let s1 : State = behind w f s ys u (size t) (load t) frame cost went in
      let under = through went.ran.rest s1 a.ahead
      (ready-then w f s ys u v (size t) (size_among ks) (load t) (load_among ks) frame cost r went) (omega (arith, went.ran.enough, a.spent)) in
      record {
        done = under.done;
        up = under.up;
        went = went-within w f s ys (λ x. u x + v x) (size t + size_among ks) (load t + load_among ks) under.done (cost + (node_steps * size_among ks + groups_left frame))
            (node_steps * (size t + size_among ks) + groups_left s.frame) (omega (arith, a.spent))
            (went_then w f s ys u v (size t) (size_among ks) (load t) (load_among ks) frame under.done cost (node_steps * size_among ks + groups_left frame) went under.went);
      }

  -- from where the next child was looked for
  went-from : (f : ℕ) (s : State) (frame : Frame) (ys : List ℕ) (u : ℕ → ℕ) (n m : ℕ) (frame' : Frame) (c d : ℕ) → (r : Ran w f s (at s frame) c)
      → Went w r.rest (at s frame) ys u n m frame' d → Went w f s ys u n m frame' (c + d)
  went-from f s frame ys u n m frame' c d r q =
      record {
        map = q.map;
        path = q.path;
        counted = q.counted;
        leads = q.leads;
        ran = ran_then w f s (at s frame) (behind w r.rest (at s frame) ys u n m frame' d q) c d r q.ran;
      }

  ready_at : (s : State) (frame : Frame) (ys : List ℕ) (u : ℕ → ℕ) (n m : ℕ) → Ready w s ys u n m → Ready w (at s frame) ys u n m
  ready_at s frame ys u n m r = record { level = r.level; leads = r.leads; room = r.room; clear = r.clear; nodes = r.nodes; pages = r.pages }

  -- ---- trees, and the children of a node
  mutual
    unfolding filled

    tree-through : (t : Phys) (ys : List ℕ) (c l : ℕ) → Holds (cells cap base t) N P → SoundNodes cap pcap t → FitsT t (ys ++ c ∷ [])
        → filled (tree t) ≡ true → length ys < len
        → (f : ℕ) (s : State) → step_at w s.frame s.stack ≡ Some (step.Child (root t) c l) → node_steps * size t ≤ f → Ready w s ys (λ a. uses t a) (size t) (load t)
        → Went w f s ys (λ a. uses t a) (size t) (load t) (past_child s.frame c l) (node_steps * size t)
    tree-through (leaf_p x []) ys c l h b u z v f s e n r = absurd (false≢true z)
    tree-through (leaf_p x (p ∷ ps)) ys c l h b u z v f s e n r =
        went-within w f s ys (λ a. hit x a) 1 (length (p ∷ ps)) (past_child s.frame c l) 1 10 (omega arith)
        (leaf-through x p ps ys c l h b.1 u v f s e (omega arith) r)
    tree-through (inner_p x ks) ys c l h b u z v f s e n r =
        inner-through x ks ys c l h b.1 u v (enter-ahead cap pcap base N P x ks h.1 b.1)
        (λ f' s' a' r' n'. kids-through ks (ys ++ c ∷ []) u.1 u.0 f' s' a' r' n') f s e n r

    kids-through : (ks : Kids) (ys : List ℕ) → FitsAmong ks ys → length ys < len → Through ks ys
    kids-through no_kid ys u v f s a r n = none-through ys f s a r n
    kids-through (kid c t ks) ys u v f s a r n =
        let q = reach (groups_left s.frame) f s c t ks refl (omega arith) a in
        let s1 : State = at s q.frame in
        kid-through t ks ys c (λ f' s' a' r' n'. kids-through ks ys u.3 v f' s' a' r' n') f s r n q
        (went-from f s q.frame ys (λ x. uses t x) (size t) (load t) (past_child q.frame c q.link) q.cost (node_steps * size t) q.ran
        (tree-through t ys c q.link q.held q.sound u.2 u.1 v q.ran.rest s1
        (to-child N cap w.rows.bits w.rows.length (length s.stack) q.frame (root t) c q.link q.leads (rw r.level u.0))
        (omega (arith, q.spent, q.ran.enough))
        (ready_at s q.frame ys (λ x. uses t x) (size t) (load t)
        (ready-first w s ys (λ x. uses t x) (λ x. uses_among ks x) (size t) (size_among ks) (load t) (load_among ks) r))))

  -- ---- from the root
  record Answer (t : Phys) (map : List ℕ) (left total : ℕ) : Type 0 where
    after : List ℕ
    same : test_trie w (root t) map left total ≡ tested after (Some (left - size t))
    counted : Counted w.window (λ a. uses t a) map after

  -- past the root's mark
  root-kind : (x : ℕ) (map : List ℕ) (left total : ℕ) → 0 < left → (map' : List ℕ) → mark_once w.window map x ≡ noted map' true
      → (k : Option Kind) → kind_of N cap x ≡ k → test_trie w x map left total ≡ test_kind w x map' (left - 1) total k
  unfolding test_trie
  root-kind x map left total l map' q k e =
      rw (ne_eqb left 0 (omega arith)) (ap marked q ∙ ap (test_kind w x map' (left - 1) total) e)
    where
      marked : Noted → Tested
      marked n = cond n.fresh (test_kind w x n.map (left - 1) total (kind_of N cap x)) (tested n.map None)

  root-leaf : (x : ℕ) (ps map : List ℕ) (left total : ℕ) → Holds (cells cap base (leaf_p x ps)) N P → Below pcap ps → FitsT (leaf_p x ps) []
      → w.window.size ≤ 32 * length map → Clear w.window (λ a. hit x a) map → 1 ≤ left → length ps ≡ total → Answer (leaf_p x ps) map left total
  unfolding left_if
  root-leaf x ps map left total h b u room c l e =
      let fresh : Fresh w.window map x = mark-once w.window map x room c in
      let on = on-path P w.sketches pcap base w.rows (replicate 64 0) bytes_of [] reads leads-none (omega arith) ps b u.0 in
      let none_left : total - length ps ≡ 0 = omega arith in
      let leaf : leaf_left w (replicate 64 0) 0 x (first ps) total ≡ Some 0 =
      leaf-tested P w.sketches pcap base w.rows (replicate 64 0) N cap x 0 ps total h b few u.1 on (omega arith) ∙ ap Some none_left in
      record {
        after = fresh.after;
        same = root-kind x map left total (omega arith) fresh.after fresh.same (Some (kind.Leaf (first ps))) (leaf-kind N P cap base x ps h b few)
            ∙ ap (λ a. tested fresh.after (left_leaf (left - 1) a)) leaf;
        counted = fresh.counted;
      }

  -- no page may be left
  root-end : (ks : Kids) (f : ℕ) (map path : List ℕ) (left total : ℕ) (frame : Frame) → load_among ks ≡ total → node_steps * size_among ks + 7 < f
      → (under : Under w f (state map path (left - 1) total frame []) [] (λ a. uses_among ks a) (size_among ks) (load_among ks) (node_steps * size_among ks + 7))
      → run w f (state map path (left - 1) total frame []) ≡ tested under.went.map (Some (left - (1 + size_among ks)))
  unfolding left_if
  root-end ks f map path left total frame e n under =
      let less : left - 1 - size_among ks ≡ left - (1 + size_among ks) = omega arith in
      let none_left : total - load_among ks ≡ 0 = omega arith in
      under.went.ran.same
      ∙ step_end w under.went.ran.rest (omega (arith, under.went.ran.enough)) under.went.map under.went.path (left - 1 - size_among ks)
      (total - load_among ks) under.done (to-up N cap w.rows.bits w.rows.length 0 under.done under.up)
      ∙ ap₂ (λ a p. tested under.went.map (left_if a (eqb p 0))) less none_left

  root-inner : (x : ℕ) (ks : Kids) (map : List ℕ) (left total : ℕ) → Holds (cells cap base (inner_p x ks)) N P → SoundK cap pcap ks 0
      → FitsT (inner_p x ks) [] → w.window.size ≤ 32 * length map → Clear w.window (λ a. uses (inner_p x ks) a) map → size (inner_p x ks) ≤ left
      → size (inner_p x ks) ≤ cap → load (inner_p x ks) ≡ total → Answer (inner_p x ks) map left total
  unfolding test_below
  root-inner x ks map left total h b u room c l m e =
      let hx : ℕ → ℕ = λ a. hit x a in
      let ub : ℕ → ℕ = λ a. uses_among ks a in
      let fresh : Fresh w.window map x = mark-once w.window map x room (clear_first w.window hx ub map c) in
      let s : State = state fresh.after (replicate 64 0) (left - 1) total (entered N cap x) [] in
      let ready : Ready w s [] ub (size_among ks) (load_among ks) = record {
        level = refl;
        leads = leads-none;
        room = omega (arith, room, fresh.counted.long);
        clear = clear-then w.window hx ub map fresh.after c fresh.counted;
        nodes = omega arith;
        pages = omega arith;
      } in
      let seven : groups_left (entered N cap x) ≡ 7 = seven-left x in
      let under = rw seven at (kids-through ks [] u.1 u.0 (steps_for cap) s (enter-ahead cap pcap base N P x ks h.1 b) ready (omega (arith, seven))) in
      record {
        after = under.went.map;
        same = root-kind x map left total (omega arith) fresh.after fresh.same (Some kind.Inner) (inner-kind N P cap base x ks h)
            ∙ root-end ks (steps_for cap) fresh.after (replicate 64 0) left total (entered N cap x) e (omega arith) under;
        counted = counted-then w.window hx ub map fresh.after under.went.map fresh.counted under.went.counted;
      }

  root-whole : (t : Phys) (map : List ℕ) (left total : ℕ) → Holds (cells cap base t) N P → SoundNodes cap pcap t → FitsT t []
      → w.window.size ≤ 32 * length map → Clear w.window (λ a. uses t a) map → size t ≤ left → size t ≤ cap → load t ≡ total → Answer t map left total
  root-whole (leaf_p x ps) map left total h b u room c l m e = root-leaf x ps map left total h b.1 u room c l e
  root-whole (inner_p x ks) map left total h b u room c l m e = root-inner x ks map left total h b.1 u room c l m e

-- a sound trie, of at most `left` nodes, none of which is marked yet
pub test-whole : (w : Given) (bytes_of : ℕ → List ℕ) (root left total : ℕ) (map : List ℕ) (t : Phys) → Fitting w map → Reads w bytes_of
    → Found w bytes_of root total t → nodes (tree t) ≤ left → nodes (tree t) ≤ w.block.nodes
    → ((n : ℕ) → n < w.window.size → one (flag map 0 n) + uses t (w.window.from + n) ≤ 1)
    → (map' : List ℕ) × (test_trie w root map left total ≡ tested map' (Some (left - nodes (tree t)))) × Marked w t map map'
test-whole w bytes_of root left total map t fits reads found l m c =
    let count : size t ≡ nodes (tree t) = size-nodes t in
    let answer = root-whole w bytes_of fits.readable.nodes.small fits.readable.pages.small fits.readable.rows.short reads t map left total found.holds found.sound
    (fit bytes_of (is_live w.pages) w.rows.bits w.rows.length w.rows.bytes t [] found.walked found.live)
    fits.bitmap c (omega arith) (omega arith) (load-pages t ∙ found.pages) in (
      answer.after,
      ap (λ x. test_trie w x map left total) (sym found.place) ∙ answer.same ∙ ap (λ n. tested answer.after (Some (left - n))) count,
      record { long = answer.counted.long; marks = answer.counted.marks },
    )
