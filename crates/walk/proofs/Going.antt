-- A walk between its turns, behind the leaves that wait.
use Prim.Native.Nat.{ℕ, ◌+◌, ◌-◌, ◌<◌, ◌≤◌}
use native.Mathlib.Omega.{arith}
use native.Mathlib.Nat.{sub-zero}
use mathlib.Core.Path.{◌≡◌, refl, sym, ap, ◌∙◌}
use mathlib.Core.Bool.{Bool, true, false, cond}
use mathlib.Core.List.{List, [], ◌∷◌, ◌++◌}
use lib.Dec.{ltb, eqb}
use lib.ListN.{length, set, take, length-set}
use borrow.Author.Tests.{eqb-true, eqb-false, lt-ltb, le-ltb}
use Rattle.std.specs.Prelude.{Option, Some, None}
use Rattle.descent.specs.declared.Cursor.{Cursor}
use Rattle.descent.specs.Cursor.{AllInside}
use Rattle.walk_steps.specs.declared.frame.Frame.{Frame}
use Rattle.walk_steps.specs.declared.place.Place.{Place}
use Rattle.walk_steps.specs.declared.turn.Move.{Move}
use Rattle.walk_steps.specs.declared.turn.Move.TheVariants.{Chain, Past, Leaf, Down, Up}
use Rattle.walk_steps.specs.Given.{Given, Fitting}
use Rattle.walk_steps.specs.Turn.{entered, at_chain, at_link, found, reads}
use Rattle.walk_steps.specs.Place.{with_nodes, on_chain, on_link, lowered, raised, turned}
use Rattle.walk_steps.specs.Stack.{frame_at, frames, AllWithin}
use Rattle.walk_steps.proofs.Stack.{frames-put, frames-length, frames-none, frames-take, entered-within}
use Rattle.walk_steps.proofs.Turns.{Kept, kept_by}
use Rattle.walk.specs.declared.batch.Rest.TheVariants as rest
use Rattle.walk.specs.declared.batch.Batch.{Batch}
use Rattle.walk.specs.Leaves.{Leaves, leaves, broken, spend}
use Rattle.walk.specs.Walk.{state, above, follow, run}
use Rattle.walk.specs.Batch.{bare, from, Standing, Gives}
use Rattle.walk.specs.Waiting.{Settled}
use Rattle.walk.proofs.Run.{run-spent, run_by}
use Rattle.walk.proofs.Waiting.{past, past-none, past_same, past-draw, past_more, past-broken, settled-gives, settled-ready, take_put, inside-put, inside-none}

module _ (w : Given) where
  -- ---- a turn, by where it leads
  -- what is left of a walk behind leaves that wait, with so many nodes left
  abbrev pub behind : List Cursor → ℕ → ℕ → Frame → List Frame → Leaves
  behind cs nodes steps frame stack = past w (λ k. run w steps k (state frame stack)) nodes cs

  module _ (cs : List Cursor) (p : Place) (stack : List Frame) where
    -- back in the node above; the walk is over at the root
    abbrev pub popped : List Frame → Leaves
    popped [] = past w (leaves []) p.nodes cs
    popped (f ∷ fs) = behind cs p.nodes (p.steps - 1) f fs

    abbrev pub after : Option Move → Leaves
    after (Some (Chain at link)) = behind cs p.nodes (p.steps - 1) (at_chain p.frame at link) stack
    after (Some (Past link)) = behind cs (p.nodes - 1) (p.steps - 1) (at_link p.frame link) stack
    after (Some (Leaf c link)) = behind (cs ++ (c ∷ [])) (p.nodes - 1) (p.steps - 1) (at_link p.frame link) stack
    after (Some (Down x radius link)) =
        behind cs (p.nodes - 1) (p.steps - 1) (entered w.nodes w.cap x radius) (at_link p.frame link ∷ stack)
    after (Some Up) = popped stack
    after None = broken

    abbrev followed : Option Move → ℕ → Leaves
    followed m k = follow w (run w (p.steps - 1)) k p.frame stack m

    ups : (fs : List Frame) → past w (λ k. above w (run w (p.steps - 1)) k p.frame stack fs) (p.nodes - 0) cs ≡ popped fs
    ups [] = ap (λ k. past w (leaves []) k cs) (sub-zero p.nodes)
    ups (f ∷ fs) = ap (λ k. behind cs k (p.steps - 1) f fs) (sub-zero p.nodes)

    moves : (m : Option Move) → past w (followed m) (p.nodes - reads m) cs ≡ after m
    moves (Some (Chain at link)) = ap (λ k. behind cs k (p.steps - 1) (at_chain p.frame at link) stack) (sub-zero p.nodes)
    moves (Some (Past link)) = refl
    moves (Some (Leaf c link)) = past_more w (λ k. run w (p.steps - 1) k (state (at_link p.frame link) stack)) (p.nodes - 1) cs c
    moves (Some (Down x radius link)) = refl
    moves (Some Up) = ups stack
    moves None = past-broken w (p.nodes - 0) cs

    turn-law : length stack ≡ p.depth → behind cs p.nodes p.steps p.frame stack ≡ after (turned w p)
    unfolding turned
    turn-law level = go (eqb p.steps 0) refl
      where
        m : Option Move
        m = found w p.depth p.frame

        by : (q : Bool) → cond q broken (past w (followed m) (p.nodes - reads m) cs) ≡ after (cond q None m)
        by true = refl
        by false = moves m

        go : (q : Bool) → eqb p.steps 0 ≡ q
            → behind cs p.nodes p.steps p.frame stack ≡ after (cond q None (cond (ltb p.nodes (reads m)) None m))
        go true e =
            past_same w (λ k. run w p.steps k (state p.frame stack)) (λ k. broken) p.nodes cs
            (λ k. run-spent w p.steps k p.frame stack (eqb-true p.steps 0 e))
            ∙ past-broken w p.nodes cs
        go false e =
            past_same w (λ k. run w p.steps k (state p.frame stack)) (λ k. spend k (reads m) (followed m)) p.nodes cs
            (λ k. run_by w p.steps k p.frame stack (omega (arith, eqb-false p.steps 0 e)) p.depth level m refl)
            ∙ past-draw w (followed m) (reads m) p.nodes cs
            ∙ by (ltb p.nodes (reads m))

  -- ---- between turns
  module _ (goal : Leaves) (most : ℕ) where
    -- n leaves wait, and each has cost a step at least
    pub record Going (waiting : List Cursor) (n : ℕ) (p : Place) (stack : List Frame) : Type 0 where
      pub walk : behind (take n waiting) p.nodes p.steps p.frame (frames stack p.depth) ≡ goal
      pub stands : Standing w stack p
      pub waits : AllInside w.bytes waiting n
      pub spent : n + p.steps ≤ most

    module _ (fits : Fitting w) {waiting : List Cursor} {n : ℕ} {p : Place} {stack : List Frame} (g : Going waiting n p stack) where
      -- with fewer nodes left it stands as well
      stands-less : (k : ℕ) → k ≤ p.nodes → Standing w stack (with_nodes p k)
      stands-less k l = record {
        here = g.stands.here;
        over = g.stands.over;
        room = g.stands.room;
        level = g.stands.level;
        few = omega (arith, g.stands.few);
      }

      -- all places are taken
      pub going-full : 16 ≤ n → (r : Batch) → Settled w waiting n p r → Gives w stack goal most r
      going-full l r s = record {
        few = omega (arith, s.count, g.waits.few);
        same =
            settled-gives w stack p waiting n g.waits r s
            ∙ past_same w (λ k. cond (ltb n 16) (leaves [] k) (from w stack (with_nodes p k))) (λ k. from w stack (with_nodes p k)) p.nodes (take n waiting)
            (λ k. rw (le-ltb n 16 l) refl)
            ∙ g.walk;
        ready = settled-ready w stack p waiting n g.waits r s most stands-less (λ m. omega (arith, g.spent));
      }

      -- a turn
      module _ (answer : Option Move) (e : answer ≡ turned w p) where
        pub kept : (m : Option Move) → answer ≡ m → Kept w fits.some p m
        kept m q = kept_by w fits.some p answer e m q

        led : (m : Option Move) → answer ≡ m → after (take n waiting) p (frames stack p.depth) m ≡ goal
        led m q =
            sym (turn-law (take n waiting) p (frames stack p.depth) (frames-length stack p.depth) ∙ ap (after (take n waiting) p (frames stack p.depth)) (sym e ∙ q))
            ∙ g.walk

        pub going-chain : (at link : ℕ) → answer ≡ Some (Chain at link) → (q : Place) → q ≡ on_chain p at link → Going waiting n q stack
        going-chain at link h q o = rw o record {
          walk = led (Some (Chain at link)) h;
          stands = record {
            here = g.stands.here;
            over = g.stands.over;
            room = g.stands.room;
            level = g.stands.level;
            few = g.stands.few;
          };
          waits = g.waits;
          spent = omega (arith, g.spent);
        }

        -- past a child the place is in order
        stands-past : (link : ℕ) → Standing w stack (on_link p link)
        stands-past link = record {
          here = g.stands.here;
          over = g.stands.over;
          room = g.stands.room;
          level = g.stands.level;
          few = omega (arith, g.stands.few);
        }

        pub going-past : (link : ℕ) → answer ≡ Some (Past link) → (q : Place) → q ≡ on_link p link → Going waiting n q stack
        going-past link h q o = rw o record { walk = led (Some (Past link)) h; stands = stands-past link; waits = g.waits; spent = omega (arith, g.spent) }

        pub going-leaf : n < 16 → (c : Cursor) (link : ℕ) → answer ≡ Some (Leaf c link) → (q : Place) → q ≡ on_link p link
            → Going (set waiting n c) (n + 1) q stack
        going-leaf l c link h q o =
            let held = kept (Some (Leaf c link)) h in
            rw o record {
              walk =
                  ap (λ cs. behind cs (p.nodes - 1) (p.steps - 1) (at_link p.frame link) (frames stack p.depth))
                  (take_put waiting n c (omega (arith, g.waits.long)))
                  ∙ led (Some (Leaf c link)) h;
              stands = stands-past link;
              waits = inside-put w.bytes waiting n c g.waits l held.2;
              spent = omega (arith, g.spent, held.1);
            }

        pub going-down : (x radius link : ℕ) → answer ≡ Some (Down x radius link) → (q r : Place) → q ≡ on_link p link
            → r ≡ lowered w.nodes w.cap q x radius → Going waiting n r (set stack q.depth q.frame)
        going-down x radius link h q r o f =
            let held = kept (Some (Down x radius link)) h in
            let back : Frame = at_link p.frame link in
            let put : frames (set stack p.depth back) (p.depth + 1) ≡ back ∷ frames stack p.depth =
            frames-put stack p.depth back (omega (arith, g.stands.level, fits.bytes, g.stands.room)) in
            rw (f, o) record {
              walk =
                  ap (behind (take n waiting) (p.nodes - 1) (p.steps - 1) (entered w.nodes w.cap x radius)) put
                  ∙ led (Some (Down x radius link)) h;
              stands = record {
                here = entered-within w.nodes w.cap x radius held.2;
                over = rw put (g.stands.here, g.stands.over);
                room = length-set stack p.depth back ∙ g.stands.room;
                level = held.3;
                few = omega (arith, g.stands.few);
              };
              waits = g.waits;
              spent = omega (arith, g.spent);
            }

        pub going-up : answer ≡ Some Up → 0 < p.depth → (q : Place) → q ≡ raised stack p → Going waiting n q stack
        going-up h l q o =
            let taken = frames-take stack p.depth l in
            let both : AllWithin w.cap (frame_at stack (p.depth - 1) ∷ frames stack (p.depth - 1)) = rw taken at g.stands.over in
            rw o record {
              walk = sym (ap (popped (take n waiting) p (frames stack p.depth)) taken) ∙ led (Some Up) h;
              stands = record {
                here = both.0;
                over = both.1;
                room = g.stands.room;
                level = omega (arith, g.stands.level);
                few = g.stands.few;
              };
              waits = g.waits;
              spent = omega (arith, g.spent);
            }

        -- the walk is over
        pub going-over : answer ≡ Some Up → p.depth ≡ 0 → n < 16 → (r : Batch) → Settled w waiting n p r → Gives w stack goal most r
        going-over h z l r s = record {
          few = omega (arith, s.count);
          same =
              settled-gives w stack p waiting n g.waits r s
              ∙ past_same w (λ k. cond (ltb n 16) (leaves [] k) (from w stack (with_nodes p k))) (leaves []) p.nodes (take n waiting)
              (λ k. rw (lt-ltb n 16 l) refl)
              ∙ sym (ap (popped (take n waiting) p (frames stack p.depth)) (frames-none stack p.depth z))
              ∙ led (Some Up) h;
          ready = settled-ready w stack p waiting n g.waits r s most stands-less (λ m. absurd (omega arith));
        }

        pub going-broken : answer ≡ None → Gives w stack goal most (bare rest.Broken)
        going-broken h = record { few = omega arith; same = led None h; ready = tt }

  -- at the start none waits
  pub going_start : (waiting : List Cursor) (p : Place) (stack : List Frame) → length waiting ≡ 16 → Standing w stack p
      → Going (from w stack p) p.steps waiting 0 p stack
  going_start waiting p stack long stands = record {
    walk = past-none w (λ k. run w p.steps k (state p.frame (frames stack p.depth))) p.nodes;
    stands = stands;
    waits = inside-none w.bytes waiting long;
    spent = omega arith;
  }
