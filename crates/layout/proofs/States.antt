-- A node's state says what it is and, of a leaf, how many pages it has; and these say the state.
use Prim.Native.Nat.{ℕ, zero, suc, ◌+◌, ◌-◌, ◌*◌, ◌/◌, ◌%◌, ◌≤◌, ◌<◌}
use native.Mathlib.Omega.{arith}
use native.Mathlib.Decide.{ℕ_discrete}
use mathlib.Core.Path.{◌≡◌, refl, ap, ◌∙◌, subst}
use mathlib.Core.Bool.{Bool, true, false, cond}
use mathlib.Core.List.{List}
use borrow.Author.Tests.{eqb-true, eqb-false, ne_eqb, lt-ltb}
use lib.Dec.{eqb}
use lib.ListN.{get_or, set}
use Rattle.layout.specs.Nodes.{state_at, free_state, inner_state, empty_state, count_base, state_with, leaf_state}
use Rattle.layout.specs.Pages.{most_pages}
use Rattle.layout.specs.States.{kind_by, kind_of, first_of, count_by, count_of, one_more, one_less, longer, shorter}
use Rattle.layout.specs.declared.nodes.Kind.{Kind}
use Rattle.layout.specs.declared.nodes.Kind.TheVariants.{Free, Inner, Leaf}

-- ---- what a kind says of the state
abbrev Says : ℕ → Kind → Type 0
Says w Free = w ≡ free_state
Says w Inner = w ≡ inner_state
Says w (Leaf link) = (w ≡ free_state → ⊥) × (w ≡ inner_state → ⊥) × (link ≡ w % count_base)

says : (w : ℕ) → Says w (kind_by w)
says w = go (eqb w free_state) refl (eqb w inner_state) refl
  where
    go : (s : Bool) → eqb w free_state ≡ s → (t : Bool) → eqb w inner_state ≡ t → Says w (cond s Free (cond t Inner (Leaf (w % count_base))))
    go true e t f = eqb-true w free_state e
    go false e true f = eqb-true w inner_state f
    go false e false f = (eqb-false w free_state e, eqb-false w inner_state f, refl)

-- a link alone makes it a leaf with this link, whatever stands above
pub by-link : (w link : ℕ) → w % count_base ≡ link → (link ≡ 0 → ⊥) → kind_by w ≡ Leaf link
by-link w link e some = rw (ne_eqb w free_state (λ z. some (omega arith)), ne_eqb w inner_state (λ z. some (omega arith)), e) refl

by-leaf : (w n link : ℕ) → w ≡ leaf_state n link → link ≤ most_pages → (n ≡ 0 → link ≡ 0) → (link ≡ 0 → n ≡ 0) → kind_by w ≡ Leaf link
by-leaf w zero link e l z y = rw (e, z refl) refl
by-leaf w (suc n) link e l z y = by-link w link (omega arith) (λ x. let none : suc n ≡ 0 = y x in omega arith)

count_by_lem : (w n link : ℕ) → w ≡ leaf_state n link → link ≤ most_pages → (link ≡ 0 → n ≡ 0) → count_by w ≡ n
count_by_lem w zero link e l y = rw e refl
count_by_lem w (suc n) link e l y =
    let some : link ≡ 0 → ⊥ = λ x. let none : suc n ≡ 0 = y x in omega arith in
    let high : w / count_base ≡ suc n = omega arith in
    rw (ne_eqb w empty_state (λ x. some (omega arith)), high) refl

-- the two together
counted : (w n link : ℕ) → Says w (Leaf link) → count_by w ≡ n → (n ≡ 0 → link ≡ 0) → w ≡ leaf_state n link
counted w n link s c z = go (ℕ_discrete w empty_state)
  where
    at-empty : (n : ℕ) → count_by w ≡ n → w ≡ empty_state → w ≡ leaf_state n link
    at-empty zero c e = e
    at-empty (suc n) c e = let none : ◌≡◌ {A = ℕ} 0 (suc n) = rw e at c in absurd (omega arith)

    at_other : (n : ℕ) → (n ≡ 0 → link ≡ 0) → w / count_base ≡ n → w ≡ leaf_state n link
    at_other zero z c = absurd (s.0 (omega (arith, s.2, z refl)))
    at_other (suc n) z c = omega (arith, s.2)

    go : Dec (w ≡ empty_state) → w ≡ leaf_state n link
    go (yes e) = at-empty n c e
    go (no e) = at_other n z (rw (ne_eqb w empty_state e) at c)

module _ (N : List ℕ) (cap x : ℕ) where
  abbrev word : ℕ
  word = get_or N (state_at cap x) 0

  -- ---- the kind, and the number of pages, by the state
  pub inner-kind : word ≡ inner_state → kind_of N cap x ≡ Inner
  unfolding kind_of
  inner-kind e = rw e refl

  module _ (n link : ℕ) (e : word ≡ leaf_state n link) (l : link ≤ most_pages) (y : link ≡ 0 → n ≡ 0) where
    pub leaf-kind : (n ≡ 0 → link ≡ 0) → kind_of N cap x ≡ Leaf link
    unfolding kind_of
    leaf-kind z = by-leaf word n link e l z y

    pub leaf-count : count_of N cap x ≡ n
    unfolding count_of
    leaf-count = count_by_lem word n link e l y

  -- ---- the state by these
  pub free-state : kind_of N cap x ≡ Free → word ≡ free_state
  unfolding kind_of
  free-state e = subst (Says word) e (says word)

  pub inner-state : kind_of N cap x ≡ Inner → word ≡ inner_state
  unfolding kind_of
  inner-state e = subst (Says word) e (says word)

  module _ (link : ℕ) (e : kind_of N cap x ≡ Leaf link) where
    said : Says word (Leaf link)
    unfolding kind_of
    said = subst (Says word) e (says word)

    pub leaf-used : word ≡ free_state → ⊥
    leaf-used = said.0

    pub leaf-state : (n : ℕ) → count_of N cap x ≡ n → (n ≡ 0 → link ≡ 0) → word ≡ leaf_state n link
    unfolding count_of
    leaf-state n c z = counted word n link said c z

  -- ---- a page more, and a page less: as they are written
  module _ (count n at link : ℕ) (e : count ≡ count_of N cap x) (w : at ≡ state_at cap x) where
    pub longer-by : n ≡ one_more count → set N at (link + n * count_base) ≡ longer N cap x link
    unfolding longer
    longer-by m = rw w (ap (λ k. set N (state_at cap x) (state_with k link)) (m ∙ ap one_more e))

    pub shorter-by : n ≡ one_less count → set N at (link + n * count_base) ≡ shorter N cap x link
    unfolding shorter
    shorter-by m = rw w (ap (λ k. set N (state_at cap x) (state_with k link)) (m ∙ ap one_less e))

  -- and of a number that is right
  pub longer-is : (n link : ℕ) → count_of N cap x ≡ n → n < most_pages → longer N cap x link ≡ set N (state_at cap x) (leaf_state (suc n) link)
  unfolding longer
  longer-is n link e l = let one : n + 1 ≡ suc n = omega arith in rw (e, lt-ltb n most_pages l, one) refl

  pub shorter-is : (n link : ℕ) → count_of N cap x ≡ suc (suc n) → shorter N cap x link ≡ set N (state_at cap x) (leaf_state (suc n) link)
  unfolding shorter
  shorter-is n link e = let one : suc (suc n) - 1 ≡ suc n = omega arith in rw (e, one) refl

-- at their limits
limits : (one_more most_pages ≡ most_pages) × (one_less 0 ≡ 0) × (one_less 1 ≡ 0)
limits = (refl, refl, refl)

-- ---- the first page
pub first-most : (N : List ℕ) (cap x : ℕ) → first_of (kind_of N cap x) ≤ most_pages
unfolding kind_of
first-most N cap x = go (kind_by w) (says w)
  where
    w : ℕ
    w = word N cap x

    go : (k : Kind) → Says w k → first_of k ≤ most_pages
    go Free s = omega arith
    go Inner s = omega arith
    go (Leaf link) s = omega (arith, s.2)

-- what a match tells of it
module _ (k : Kind) {r : Kind} (e : r ≡ k) where
  pub first-free : r ≡ Free → 0 ≡ first_of k
  first-free q = rw (← e, q) refl

  pub first_inner : r ≡ Inner → 0 ≡ first_of k
  first_inner q = rw (← e, q) refl

  pub first_leaf : (first : ℕ) → r ≡ Leaf first → first ≡ first_of k
  first_leaf first q = rw (← e, q) refl
