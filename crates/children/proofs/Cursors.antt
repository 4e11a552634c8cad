-- The children one after the other, by what the tests of a cursor say.
use Prim.Native.Nat.{ℕ, ◌+◌, ◌-◌, ◌/◌, ◌<◌, ◌≤◌}
use native.Mathlib.Omega.{arith}
use mathlib.Core.Path.{◌≡◌, refl, sym, ap, subst, ◌∙◌}
use mathlib.Core.Bool.{Bool, true, false, cond}
use lib.Dec.{ltb, eqb}
use mathlib.Core.List.{List}
use borrow.Author.Tests.{lt-ltb, le-ltb, ltb-false, eq-eqb, ne_eqb, eqb-false}
use lib.ListN.{get_or}
use Rattle.layout.specs.Nodes.{link_of, byte_of, head_at}
use Rattle.std.specs.Prelude.{Option, Some, None}
use Rattle.children.specs.Cursors.{all_of, seen, look_at, next_by, next_of, first_for}
use Rattle.children.specs.declared.cursor.Cursor.{Cursor}
use Rattle.children.specs.declared.cursor.Child.{Child as Kid}
use Rattle.children.specs.declared.cursor.Next.{Next}
use Rattle.children.specs.declared.cursor.Next.TheVariants.{Child, Chain, End}

pub all-is : (N : List ℕ) (cap x first last link : ℕ) → first ≡ head_at cap x 0 → last ≡ head_at cap x 7 → link ≡ link_of (get_or N first 0) →
    record { at = first; last = last; link = link } ≡ all_of N cap x
unfolding all_of
all-is N cap x first last link e f g = rw (g, e, f) refl

pub first-is : (N : List ℕ) (cap x byte at link : ℕ) → at ≡ head_at cap x (byte / 32) → link ≡ link_of (get_or N at 0) → link ≡ first_for N cap x byte
unfolding first_for
first-is N cap x byte at link e f = rw (f, e) refl

module _ (N : List ℕ) (cap link : ℕ) (some : 0 < link) where
  pub look-outside : cap ≤ link - 1 → None ≡ look_at N cap link
  unfolding look_at
  look-outside l = rw (lt-ltb cap link (omega arith)) refl

  pub look-child : link - 1 < cap → (byte next : ℕ) → byte ≡ byte_of (get_or N (link - 1) 0) → next ≡ link_of (get_or N (link - 1) 0) → seen (link - 1) byte next ≡ look_at N cap link
  unfolding look_at
  look-child l byte next e f = rw (le-ltb cap link (omega arith), e, f) refl

module _ (N : List ℕ) (cap : ℕ) (c : Cursor) where
  pub step-along : (c.link ≡ 0 → ⊥) → (found : Option Kid) → found ≡ look_at N cap c.link → (a : Option Kid) → found ≡ a → next_by a ≡ next_of N cap c
  unfolding next_of
  step-along some found e a q = rw (ne_eqb c.link 0 some) (ap next_by (sym q ∙ e))

  module _ (done : c.link ≡ 0) where
    pub step_end : c.last ≤ c.at → Some End ≡ next_of N cap c
    unfolding next_of
    step_end l = rw (eq-eqb c.link 0 done, le-ltb c.at c.last l) refl

    pub step-chain : c.at < c.last → (link : ℕ) → link ≡ link_of (get_or N (c.at + 1) 0) → Some (Chain (c.at + 1) link) ≡ next_of N cap c
    unfolding next_of
    step-chain l link e = rw (eq-eqb c.link 0 done, lt-ltb c.at c.last l, e) refl

-- ---- what is found lies in the table
abbrev Seated : ℕ → Option Kid → Type 0
Seated cap (Some c) = c.node < cap
Seated cap None = Unit {0}

look-seated : (N : List ℕ) (cap link : ℕ) → 0 < link → Seated cap (look_at N cap link)
unfolding look_at
look-seated N cap link some = go (ltb cap link) refl
  where
    go : (q : Bool) → ltb cap link ≡ q → Seated cap (cond q None (seen (link - 1) (byte_of (get_or N (link - 1) 0)) (link_of (get_or N (link - 1) 0))))
    go true e = tt
    go false e = omega (arith, ltb-false cap link e)

module _ (N : List ℕ) (cap x byte link : ℕ) where
  pub look-below : (at : ℕ) → 0 < at → (found : Option Kid) → found ≡ look_at N cap at → found ≡ seen x byte link → x < cap
  look-below at some found e q = subst (Seated cap) (sym e ∙ q) (look-seated N cap at some)

  abbrev Led : Option Next → Type 0
  Led (Some (Child y u l)) = y < cap
  Led (Some (Chain at l)) = Unit {0}
  Led (Some End) = Unit {0}
  Led None = Unit {0}

  led-by : (a : Option Kid) → Seated cap a → Led (next_by a)
  led-by (Some c) h = h
  led-by None h = tt

  next-led : (c : Cursor) → Led (next_of N cap c)
  unfolding next_of
  next-led c = go (eqb c.link 0) refl (ltb c.at c.last)
    where
      go : (q : Bool) → eqb c.link 0 ≡ q → (r : Bool)
          → Led (cond q (cond r (Some (Chain (c.at + 1) (link_of (get_or N (c.at + 1) 0)))) (Some End)) (next_by (look_at N cap c.link)))
      go true e true = tt
      go true e false = tt
      go false e r = led-by (look_at N cap c.link) (look-seated N cap c.link (omega (arith, eqb-false c.link 0 e)))

  pub next-below : (c : Cursor) (found : Option Next) → found ≡ next_of N cap c → found ≡ Some (Child x byte link) → x < cap
  next-below c found e q = subst Led (sym e ∙ q) (next-led c)
