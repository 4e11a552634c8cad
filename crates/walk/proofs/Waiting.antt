-- A walk that goes on behind leaves that wait, and the batch that they become.
use Prim.Native.Nat.{ℕ, zero, suc, ◌+◌, ◌-◌, ◌<◌, ◌≤◌}
use native.Mathlib.Omega.{arith}
use native.Mathlib.Numerals.{add-one}
use mathlib.Core.Path.{◌≡◌, refl, sym, ap, subst, ◌∙◌}
use mathlib.Core.Bool.{Bool, true, false, cond}
use mathlib.Core.List.{List, [], ◌∷◌, ◌++◌, map, map-append}
use lib.Dec.{ltb}
use lib.ListN.{length, get_or, set, take, length-set}
use borrow.Author.Tests.{ltb-false}
use lib.Seq.{take-suc, take-suc-set}
use Rattle.descent.specs.declared.Cursor.{Cursor}
use Rattle.std.specs.Prelude.{Some, None}
use Rattle.walk_steps.specs.declared.frame.Frame.{Frame}
use Rattle.descent.specs.Cursor.{Inside, AllInside, ended, drawn_all, left_of}
use Rattle.meaning.proofs.Each.{each-put}
use Rattle.descent.proofs.Steps.{drawn-one-more}
use Rattle.walk_steps.specs.declared.place.Place.{Place}
use Rattle.walk_steps.specs.Given.{Given, leaf_from, drawn_from}
use Rattle.walk_steps.specs.Place.{with_nodes}
use Rattle.walk.specs.declared.batch.Rest.TheVariants.{More, Done}
use Rattle.walk.specs.declared.batch.Batch.{Batch}
use Rattle.walk.specs.Leaves.{Leaves, leaves, broken, before, spend}
use Rattle.walk.specs.Walk.{leaf_then}
use Rattle.walk.specs.Batch.{links_of, from, still, Standing, Ready}
use Rattle.walk.specs.Waiting.{rest_of, drawn_by, Settled}
use Rattle.walk.proofs.Spend.{before-none, before-both, spend-same, spend-broken, spend-before, spend-none, spend-both, spend-swap}

-- ---- on behind them, when their descents have drawn on the nodes
module _ (w : Given) where
  abbrev pub links_by : List Cursor → List ℕ
  links_by cs = map (leaf_from w) cs

  abbrev pub past : (ℕ → Leaves) → ℕ → List Cursor → Leaves
  past go nodes cs = spend nodes (drawn_by w cs) (λ k. before (links_by cs) (go k))

  module _ (go : ℕ → Leaves) where
    pub past-none : (nodes : ℕ) → past go nodes [] ≡ go nodes
    unfolding drawn_all
    past-none nodes = spend-none nodes (λ k. before [] (go k)) ∙ before-none (go nodes)

    pub past_same : (go' : ℕ → Leaves) (nodes : ℕ) (cs : List Cursor) → ((k : ℕ) → go k ≡ go' k) → past go nodes cs ≡ past go' nodes cs
    past_same go' nodes cs h =
        spend-same nodes (drawn_by w cs) (λ k. before (links_by cs) (go k)) (λ k. before (links_by cs) (go' k)) (λ k. ap (before (links_by cs)) (h k))

    -- d nodes are drawn behind them, or ahead
    pub past-draw : (d nodes : ℕ) (cs : List Cursor) → past (λ k. spend k d go) nodes cs ≡ spend nodes d (λ k. past go k cs)
    past-draw d nodes cs =
        spend-same nodes (drawn_by w cs) (λ k. before (links_by cs) (spend k d go)) (λ k. spend k d (λ j. before (links_by cs) (go j)))
        (λ k. spend-before k d (links_by cs) go)
        ∙ spend-swap nodes (drawn_by w cs) d (λ k. before (links_by cs) (go k))

    -- one more waits
    pub past_more : (nodes : ℕ) (cs : List Cursor) (c : Cursor) → past (λ k. leaf_then w go k c) nodes cs ≡ past go nodes (cs ++ (c ∷ []))
    past_more nodes cs c =
        let one : List ℕ = leaf_from w c ∷ [] in
        let both : ℕ → Leaves = λ k. before (links_by cs) (before one (go k)) in
        let more : ℕ → Leaves = λ k. before (links_by (cs ++ (c ∷ []))) (go k) in
        spend-same nodes (drawn_by w cs) (λ k. before (links_by cs) (leaf_then w go k c)) (λ k. spend k (drawn_from w c) both)
        (λ k. spend-before k (drawn_from w c) (links_by cs) (λ j. before one (go j)))
        ∙ spend-both nodes (drawn_by w cs) (drawn_from w c) both
        ∙ spend-same nodes (drawn_by w cs + drawn_from w c) both more
        (λ k. before-both (links_by cs) one (go k) ∙ ap (λ ls. before ls (go k)) (sym (map-append (leaf_from w) cs (c ∷ []))))
        ∙ ap (λ d. spend nodes d more) (sym (drawn-one-more w.nodes w.cap w.bytes cs c))

  pub past-broken : (nodes : ℕ) (cs : List Cursor) → past (λ k. broken) nodes cs ≡ broken
  past-broken nodes cs = spend-broken nodes (drawn_by w cs)

  -- ---- their batch
  linked : (links : List ℕ) (cs : List Cursor) (n : ℕ) → n ≤ length links → n ≤ length cs
      → ((j : ℕ) → j < n → get_or links j 0 ≡ leaf_from w (get_or cs j (ended 0))) → take n links ≡ links_by (take n cs)
  linked links cs zero l m h = refl
  linked links cs (suc n) l m h =
      take-suc links n 0 (omega arith)
      ∙ ap (λ ls. ls ++ (get_or links n 0 ∷ [])) (linked links cs n (omega arith) (omega arith) (λ j k. h j (omega arith)))
      ∙ ap (λ k. links_by (take n cs) ++ (k ∷ [])) (h n (omega arith))
      ∙ sym (map-append (leaf_from w) (take n cs) (get_or cs n (ended 0) ∷ []))
      ∙ ap links_by (sym (take-suc cs n (ended 0) (omega arith)))

  module _ (stack : List Frame) (p : Place) (cs : List Cursor) (n : ℕ) (inside : AllInside w.bytes cs n) (r : Batch) (s : Settled w cs n p r) where
    -- what follows them
    abbrev pub following : ℕ → Leaves
    following k = cond (ltb n 16) (leaves [] k) (from w stack (with_nodes p k))

    same-still : (k : ℕ) → still w stack (rest_of n p (Some k)) ≡ following k
    same-still k = go (ltb n 16)
      where
        go : (q : Bool) → still w stack (cond q (Done k) (More (with_nodes p k))) ≡ cond q (leaves [] k) (from w stack (with_nodes p k))
        go true = refl
        go false = refl

    pub settled-gives : before (links_of r) (still w stack r.rest) ≡ past following p.nodes (take n cs)
    unfolding left_of
    settled-gives = ap (λ x. before (links_of r) (still w stack x)) s.rest ∙ go (ltb p.nodes (drawn_by w (take n cs))) refl
      where
        spent : ℕ
        spent = drawn_by w (take n cs)

        go : (q : Bool) → ltb p.nodes spent ≡ q
            → before (links_of r) (still w stack (rest_of n p (cond q None (Some (p.nodes - spent)))))
            ≡ cond q broken (before (links_by (take n cs)) (following (p.nodes - spent)))
        go true e = refl
        go false e =
            ap (λ m. before (take m r.links) (still w stack (rest_of n p (Some (p.nodes - spent))))) s.count
            ∙ ap (λ ls. before ls (still w stack (rest_of n p (Some (p.nodes - spent)))))
            (linked r.links cs n (omega (arith, s.long, inside.few)) (omega (arith, inside.long, inside.few))
            (s.each (p.nodes - spent) (rw e refl)))
            ∙ ap (before (links_by (take n cs))) (same-still (p.nodes - spent))

    -- if the place is in order, so is the one where the walk goes on
    pub settled-ready : (steps : ℕ) → ((k : ℕ) → k ≤ p.nodes → Standing w stack (with_nodes p k)) → (16 ≤ n → p.steps < steps)
        → Ready w stack steps r.rest
    unfolding left_of
    settled-ready steps h l = subst (Ready w stack steps) (sym s.rest) (go (ltb p.nodes (drawn_by w (take n cs))))
      where
        spent : ℕ
        spent = drawn_by w (take n cs)

        going : (over : Bool) → ltb n 16 ≡ over → Ready w stack steps (cond over (Done (p.nodes - spent)) (More (with_nodes p (p.nodes - spent))))
        going true e = tt
        going false e = (h (p.nodes - spent) (omega arith), l (ltb-false n 16 e))

        go : (short : Bool) → Ready w stack steps (rest_of n p (cond short None (Some (p.nodes - spent))))
        go true = tt
        go false = going (ltb n 16) refl

-- ---- in an array
pub take_put : (cs : List Cursor) (n : ℕ) (c : Cursor) → n < length cs → take (n + 1) (set cs n c) ≡ take n cs ++ (c ∷ [])
take_put cs n c h = rw add-one (take-suc-set cs n c h)

module _ (bytes : List ℕ) where
  pub inside-put : (cs : List Cursor) (n : ℕ) (c : Cursor) → AllInside bytes cs n → n < 16 → Inside bytes c → AllInside bytes (set cs n c) (n + 1)
  inside-put cs n c h l i = record {
    long = simp length-set h.long;
    few = omega arith;
    each = each-put (λ j. Inside bytes) (ended 0) cs n c (omega (arith, h.long)) i h.each;
  }

  pub inside-none : (cs : List Cursor) → length cs ≡ 16 → AllInside bytes cs 0
  inside-none cs e = record { long = e; few = omega arith; each = λ j h. absurd (omega arith) }
