-- Marks of nodes that were not marked before, each counted once.
use Prim.Native.Nat.{ℕ, ◌+◌, ◌-◌, ◌*◌, ◌≤◌, ◌<◌}
use native.Mathlib.Omega.{arith}
use mathlib.Core.Path.{◌≡◌, refl, ◌∙◌}
use mathlib.Core.Bool.{Bool, true, false, cond}
use mathlib.Core.List.{List}
use lib.Dec.{ltb, eqb}
use lib.ListN.{length}
use borrow.Author.Tests.{ltb-true, ltb-false, eqb-true, eqb-false}
use Rattle.words.specs.Bits.{flag, with_flag}
use Rattle.words.proofs.Flags.{length-with, flag-with}
use Rattle.children.specs.Heap.{hit}
use Rattle.children.proofs.Frame.{hit_same, hit_other}
use Rattle.node_check.specs.declared.mark.Window.{Window}
use Rattle.node_check.specs.Mark.{noted, mark_once}
use Rattle.trie_check_laws.specs.Found.{one}

-- with u marks of each node, none is marked twice
abbrev pub Clear : Window → (ℕ → ℕ) → List ℕ → Type 0
Clear w u map = (n : ℕ) → n < w.size → one (flag map 0 n) + u (w.from + n) ≤ 1

-- each node of the window was marked u times
pub record Counted (w : Window) (u : ℕ → ℕ) (map map' : List ℕ) : Type 0 where
  pub long : length map' ≡ length map
  pub marks : (n : ℕ) → n < w.size → one (flag map' 0 n) ≡ one (flag map 0 n) + u (w.from + n)

module _ (w : Window) where
  pub counted_none : (map : List ℕ) → Counted w (λ x. 0) map map
  counted_none map = record { long = refl; marks = λ n l. omega arith }

  pub counted-then : (u v : ℕ → ℕ) (map map' map'' : List ℕ) → Counted w u map map' → Counted w v map' map'' → Counted w (λ x. u x + v x) map map''
  counted-then u v map map' map'' c d = record { long = d.long ∙ c.long; marks = λ n l. omega (arith, c.marks n l, d.marks n l) }

  -- what is left to mark is clear
  pub clear_first : (u v : ℕ → ℕ) (map : List ℕ) → Clear w (λ x. u x + v x) map → Clear w u map
  clear_first u v map c n l = omega (arith, c n l)

  pub clear-then : (u v : ℕ → ℕ) (map map' : List ℕ) → Clear w (λ x. u x + v x) map → Counted w u map map' → Clear w v map'
  clear-then u v map map' c d n l = omega (arith, c n l, d.marks n l)

-- a node that is not marked yet
pub record Fresh (w : Window) (map : List ℕ) (x : ℕ) : Type 0 where
  pub after : List ℕ
  pub same : mark_once w map x ≡ noted after true
  pub counted : Counted w (hit x) map after

module _ (w : Window) (map : List ℕ) (x : ℕ) where
  outside : ((n : ℕ) → n < w.size → (w.from + n ≡ x → ⊥)) → Counted w (hit x) map map
  outside h = record { long = refl; marks = λ n l. omega (arith, hit_other {a = w.from + n} {b = x} (h n l)) }

  inside : w.size ≤ 32 * length map → Clear w (hit x) map → w.from ≤ x → x - w.from < w.size
      → Counted w (hit x) map (with_flag map 0 (x - w.from) true)
  inside room c l i = record { long = length-with map 0 (x - w.from) true; marks = λ n m. go n m (eqb n (x - w.from)) refl }
    where
      at : (n : ℕ) → flag (with_flag map 0 (x - w.from) true) 0 n ≡ cond (eqb n (x - w.from)) true (flag map 0 n)
      at n = flag-with map 0 (x - w.from) true (omega arith) n

      go : (n : ℕ) → n < w.size → (q : Bool) → eqb n (x - w.from) ≡ q
          → one (flag (with_flag map 0 (x - w.from) true) 0 n) ≡ one (flag map 0 n) + hit x (w.from + n)
      go n m true e = rw (at n, e) (omega (arith, c n m, hit_same {a = w.from + n} {b = x} (omega (arith, eqb-true n (x - w.from) e))))
      go n m false e = rw (at n, e) (omega (arith, hit_other {a = w.from + n} {b = x} (λ q. eqb-false n (x - w.from) e (omega arith))))

  unmarked : Clear w (hit x) map → w.from ≤ x → x - w.from < w.size → flag map 0 (x - w.from) ≡ false
  unmarked c l i = go (flag map 0 (x - w.from)) (omega (arith, c (x - w.from) i, hit_same {a = w.from + (x - w.from)} {b = x} (omega arith)))
    where
      go : (q : Bool) → one q ≡ 0 → q ≡ false
      go true z = absurd (omega arith)
      go false z = refl

  pub mark-once : w.size ≤ 32 * length map → Clear w (hit x) map → Fresh w map x
  unfolding mark_once
  mark-once room c = go (ltb x w.from) refl (ltb (x - w.from) w.size) refl
    where
      go : (a : Bool) → ltb x w.from ≡ a → (b : Bool) → ltb (x - w.from) w.size ≡ b → Fresh w map x
      go true p b q = record {
        after = map;
        same = rw p;
        counted = outside (λ n l e. omega (arith, ltb-true x w.from p));
      }
      go false p true q = record {
        after = with_flag map 0 (x - w.from) true;
        same = rw (p, q, unmarked c (ltb-false x w.from p) (ltb-true (x - w.from) w.size q));
        counted = inside room c (ltb-false x w.from p) (ltb-true (x - w.from) w.size q);
      }
      go false p false q = record {
        after = map;
        same = rw (p, q);
        counted = outside (λ n l e. omega (arith, ltb-false x w.from p, ltb-false (x - w.from) w.size q));
      }
