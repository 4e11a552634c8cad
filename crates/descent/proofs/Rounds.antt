-- Rounds of steps: one step of each of the first n descents, and the nodes that they read.
use Prim.Native.Nat.{ℕ, zero, suc, ◌+◌, ◌-◌, ◌<◌, ◌≤◌}
use native.Mathlib.Omega.{arith}
use native.Mathlib.Numerals.{add-one}
use native.Mathlib.Decide.{ℕ_discrete}
use mathlib.Core.Path.{◌≡◌, refl, sym, ap, ap₂, subst, ◌∙◌}
use mathlib.Core.Bool.{Bool, true, false, not, cond}
use mathlib.Core.List.{List}
use mir.Val.{bool_byte}
use lib.Dec.{eqb}
use borrow.Author.Tests.{eqb-true, lt-ltb, le-ltb}
use lib.ListN.{length, get_or, set, take, length-set}
use lib.Seq.{get_or-set_same, get_or-set_other, take-suc}
use Rattle.descent.specs.declared.Cursor.{Cursor}
use Rattle.std.specs.Prelude.{Some, None}
use Rattle.descent.specs.Cursor.{Inside, AllInside, ended, going, advance, descended, drawn, drawn_all, left_of, Descended}
use Rattle.meaning.proofs.Each.{each-put}
use Rattle.descent.proofs.Steps.{inside-advance, descended-next, descended-done, drawn-ended, drawn-more, drawn-one-more}

abbrev pub at : List Cursor → ℕ → Cursor
at cs i = get_or cs i (ended 0)

-- ---- how many go on

-- a test as a number
abbrev pub goes : Cursor → ℕ
goes c = cond (eqb c.link 0) 0 1

pub goes-byte : (c : Cursor) → bool_byte (not (eqb c.link 0)) ≡ goes c
goes-byte c = go (eqb c.link 0)
  where
    go : (q : Bool) → bool_byte (not q) ≡ cond q 0 1
    go true = refl
    go false = refl

pub goes-most : (c : Cursor) → goes c ≤ 1
goes-most c = go (eqb c.link 0)
  where
    go : (q : Bool) → cond q 0 1 ≤ 1
    go true = omega arith
    go false = omega arith

goes_none : (c : Cursor) → goes c ≡ 0 → c.link ≡ 0
goes_none c = go (eqb c.link 0) refl
  where
    go : (q : Bool) → eqb c.link 0 ≡ q → ◌≡◌ {A = ℕ} (cond q 0 1) 0 → c.link ≡ 0
    go true e z = eqb-true c.link 0 e
    go false e z = absurd (omega arith)

pub going-none : (cs : List Cursor) → going cs 0 ≡ 0
unfolding going
going-none cs = refl

pub going_next : (cs : List Cursor) (n : ℕ) → going cs (n + 1) ≡ going cs n + goes (at cs n)
unfolding going
going_next cs n = rw add-one refl

pub going-most : (cs : List Cursor) (n : ℕ) → going cs n ≤ n
unfolding going
going-most cs zero = omega arith
going-most cs (suc n) = omega (arith, going-most cs n, goes-most (at cs n))

-- none goes on
going-over : (cs : List Cursor) (n : ℕ) → going cs n ≡ 0 → (i : ℕ) → i < n → (at cs i).link ≡ 0
unfolding going
going-over cs zero z i l = absurd (omega arith)
going-over cs (suc n) z i l = go (ℕ_discrete i n) (going-over cs n (omega arith) i)
  where
    go : Dec (i ≡ n) → (i < n → (at cs i).link ≡ 0) → (at cs i).link ≡ 0
    go (yes e) h = rw e (goes_none (at cs n) (omega arith))
    go (no e) h = h (omega arith)

going-set : (cs : List Cursor) (j : ℕ) (c : Cursor) (n : ℕ) → n ≤ j → going (set cs j c) n ≡ going cs n
unfolding going
going-set cs j c zero l = refl
going-set cs j c (suc n) l = ap₂ ◌+◌ (going-set cs j c n (omega arith)) (ap goes (get_or-set_other cs j n c (ended 0) (omega arith)))

pub going-put : (cs : List Cursor) (j : ℕ) (c : Cursor) → j < length cs → going (set cs j c) (j + 1) ≡ going cs j + goes c
going-put cs j c l =
    going_next (set cs j c) j ∙ ap₂ ◌+◌ (going-set cs j c j (omega arith)) (ap goes (get_or-set_same cs j c (ended 0) l))

module _ (nodes : List ℕ) (cap : ℕ) (bytes : List ℕ) (n : ℕ) where
  -- within a round: the first j descents have made their step, of which so many go on
  pub record Round (before now : List Cursor) (j more : ℕ) : Type 0 where
    pub long : length now ≡ length before
    pub made : (i : ℕ) → i < j → at now i ≡ advance nodes cap bytes (at before i)
    pub rest : (i : ℕ) → j ≤ i → at now i ≡ at before i
    pub on : more ≡ going now j

  pub round-start : (cs : List Cursor) → Round cs cs 0 0
  round-start cs = record { long = refl; made = λ i h. absurd (omega arith); rest = λ i h. refl; on = sym (going-none cs) }

  pub round-next : {before now : List Cursor} {j more : ℕ} → Round before now j more → j < length before
      → (c : Cursor) → c ≡ advance nodes cap bytes (at now j) → Round before (set now j c) (j + 1) (more + bool_byte (not (eqb c.link 0)))
  round-next {before} {now} {j} {more} r inside c e =
      record {
        long = length-set now j c ∙ r.long;
        made =
            each-put (λ i d. d ≡ advance nodes cap bytes (at before i)) (ended 0) now j c (omega (arith, r.long))
            (e ∙ ap (advance nodes cap bytes) (r.rest j (omega arith))) r.made;
        rest = λ i h. get_or-set_other now j i c (ended 0) (λ g. absurd (omega arith)) ∙ r.rest i (omega arith);
        on = ap₂ ◌+◌ r.on (goes-byte c) ∙ sym (going-put now j c (omega (arith, r.long)));
      }

  -- between rounds: k steps each
  pub record Rounds (start now : List Cursor) (k : ℕ) : Type 0 where
    pub long : length now ≡ length start
    pub each : (i : ℕ) → i < n → at now i ≡ descended nodes cap bytes k (at start i)
    pub inside : (i : ℕ) → i < n → Inside bytes (at now i)

  rounds-start : (cs : List Cursor) → AllInside bytes cs n → Rounds cs cs 0
  unfolding descended
  rounds-start cs h = record { long = refl; each = λ i l. refl; inside = h.each }

  rounds-next : {start before now : List Cursor} {k j more : ℕ} → Rounds start before k → Round before now j more → n ≤ j → Rounds start now (k + 1)
  rounds-next {start} {before} {now} {k} {j} r s end =
      record {
        long = s.long ∙ r.long;
        each = λ i h.
            s.made i (omega arith) ∙ ap (advance nodes cap bytes) (r.each i h) ∙ sym (descended-next nodes cap bytes k (at start i));
        inside = λ i h. subst (Inside bytes) (sym (s.made i (omega arith))) (inside-advance nodes cap bytes (at before i) (r.inside i h));
      }

  -- ---- the nodes that the first i descents read in f steps each
  unfoldable pub drawn_to : ℕ → List Cursor → ℕ → ℕ
  drawn_to f cs zero = 0
  drawn_to f cs (suc i) = drawn_to f cs i + drawn nodes cap bytes f (at cs i)

  drawn-all : (cs : List Cursor) (i : ℕ) → i ≤ length cs → drawn_all nodes cap bytes (take i cs) ≡ drawn_to cap cs i
  unfolding drawn_to drawn_all
  drawn-all cs zero l = refl
  drawn-all cs (suc i) l =
      ap (drawn_all nodes cap bytes) (take-suc cs i (ended 0) (omega arith))
      ∙ drawn-one-more nodes cap bytes (take i cs) (at cs i)
      ∙ ap (λ s. s + drawn nodes cap bytes cap (at cs i)) (drawn-all cs i (omega arith))

  -- no step, one step, and more
  drawn-none : (cs : List Cursor) (i : ℕ) → drawn_to 0 cs i ≡ 0
  unfolding drawn_to drawn
  drawn-none cs zero = refl
  drawn-none cs (suc i) = omega (arith, drawn-none cs i)

  drawn-one : (cs : List Cursor) (i : ℕ) → drawn_to 1 cs i ≡ going cs i
  unfolding drawn_to drawn going
  drawn-one cs zero = refl
  drawn-one cs (suc i) = ap (λ s. s + goes (at cs i)) (drawn-one cs i)

  drawn-parts : {start now : List Cursor} {k : ℕ} → Rounds start now k → (g i : ℕ) → i ≤ n → drawn_to (k + g) start i ≡ drawn_to k start i + drawn_to g now i
  unfolding drawn_to
  drawn-parts r g zero l = omega arith
  drawn-parts {start} {now} {k} r g (suc i) l =
      omega (
        arith,
        drawn-parts r g i (omega arith),
        drawn-more nodes cap bytes k g (at start i) ∙ ap (λ c. drawn nodes cap bytes k (at start i) + drawn nodes cap bytes g c) (sym (r.each i (omega arith))),
      )

  -- at least one of each that goes on
  goes-least : (g : ℕ) → 0 < g → (c : Cursor) → goes c ≤ drawn nodes cap bytes g c
  unfolding drawn
  goes-least zero some c = absurd (omega arith)
  goes-least (suc g) some c = go (eqb c.link 0)
    where
      go : (q : Bool) → cond q 0 1 ≤ cond q 0 (suc (drawn nodes cap bytes g (advance nodes cap bytes c)))
      go true = omega arith
      go false = omega arith

  drawn-least : (g : ℕ) → 0 < g → (cs : List Cursor) (i : ℕ) → going cs i ≤ drawn_to g cs i
  unfolding drawn_to going
  drawn-least g some cs zero = omega arith
  drawn-least g some cs (suc i) = omega (arith, drawn-least g some cs i, goes-least g some (at cs i))

  -- nothing where none goes on
  drawn-over : (g : ℕ) (cs : List Cursor) (i : ℕ) → ((j : ℕ) → j < i → (at cs j).link ≡ 0) → drawn_to g cs i ≡ 0
  unfolding drawn_to
  drawn-over g cs zero h = refl
  drawn-over g cs (suc i) h = omega (arith, drawn-over g cs i (λ j l. h j (omega arith)), drawn-ended nodes cap bytes g (at cs i) (h i (omega arith)))

  -- ---- within a budget: so many rounds are made, and each has drawn a node at least
  pub record Paid (start now : List Cursor) (budget left more : ℕ) : Type 0 where
    pub count : ℕ
    pub rounds : Rounds start now count
    pub sum : left + drawn_to count start n ≡ budget
    pub few : count + left ≤ budget
    pub on : more ≡ going now n

  pub paid-start : (cs : List Cursor) → AllInside bytes cs n → (budget more : ℕ) → more ≡ going cs n → Paid cs cs budget budget more
  paid-start cs h budget more e =
      record { count = 0; rounds = rounds-start cs h; sum = omega (arith, drawn-none cs n); few = omega arith; on = e }

  module _ {start now : List Cursor} {budget left more : ℕ} (p : Paid start now budget left more) where
    pub paid-next : {after : List Cursor} {j more' : ℕ} → Round now after j more' → j ≡ n → 0 < more → more ≤ left → Paid start after budget (left - more) more'
    paid-next {after} {j} r end some paid =
        record {
          count = p.count + 1;
          rounds = rounds-next p.rounds r (omega arith);
          sum = omega (arith, p.sum, p.on, drawn-parts p.rounds 1 n (omega arith), drawn-one now n);
          few = omega (arith, p.few);
          on = r.on ∙ ap (going after) end;
        }

    -- while it has not made its step, a descent is inside
    pub round-inside : {after : List Cursor} {j more' : ℕ} → Round now after j more' → j < n → Inside bytes (at after j)
    round-inside {j = j} s h = subst (Inside bytes) (sym (s.rest j (omega arith))) (p.rounds.inside j h)

    module _ (inside : AllInside bytes start n) (most : budget < cap) where
      all : drawn_all nodes cap bytes (take n start) ≡ drawn_to p.count start n + drawn_to (cap - p.count) now n
      all =
          let s : cap ≡ p.count + (cap - p.count) = omega (arith, p.few) in
          drawn-all start n (omega (arith, inside.long, inside.few))
          ∙ ap (λ f. drawn_to f start n) s
          ∙ drawn-parts p.rounds (cap - p.count) n (omega arith)

      -- the budget does not last
      pub paid-short : left < more → Descended nodes cap bytes start n budget record { cursors = now; left = None }
      unfolding left_of
      paid-short short = record { left = sym (rw (lt-ltb budget (drawn_all nodes cap bytes (take n start)) over) refl); each = λ k e i l. cc }
        where
          over : budget < drawn_all nodes cap bytes (take n start)
          over = omega (arith, all, p.sum, p.on, p.few, drawn-least (cap - p.count) (omega (arith, p.few)) now n)

      -- none goes on
      pub paid-over : more ≡ 0 → Descended nodes cap bytes start n budget record { cursors = now; left = Some left }
      unfolding left_of
      paid-over none = record { left = is-left; each = λ k e i l. each i l }
        where
          still : (i : ℕ) → i < n → (at now i).link ≡ 0
          still = going-over now n (sym p.on ∙ none)

          drawn-sum : left + drawn_all nodes cap bytes (take n start) ≡ budget
          drawn-sum = omega (arith, all, p.sum, drawn-over (cap - p.count) now n still)

          is-left : Some left ≡ left_of budget (drawn_all nodes cap bytes (take n start))
          is-left =
              let rest : left ≡ budget - drawn_all nodes cap bytes (take n start) = omega (arith, drawn-sum) in
              rw (le-ltb budget (drawn_all nodes cap bytes (take n start)) (omega (arith, drawn-sum))) (ap Some rest)

          each : (i : ℕ) → i < n → at now i ≡ descended nodes cap bytes cap (at start i)
          each i l =
              p.rounds.each i l
              ∙ sym (descended-done nodes cap bytes p.count cap (at start i) (omega (arith, p.few)) (ap (λ c. c.link) (sym (p.rounds.each i l)) ∙ still i l))
