-- A node that was not marked before is marked where it lies in the window, and nothing else changes.
use Prim.Native.Nat.{ℕ, ◌+◌, ◌*◌, ◌-◌, ◌<◌, ◌≤◌}
use native.Mathlib.Omega.{arith}
use native.Mathlib.Nat.{add-zero}
use mathlib.Core.Path.{◌≡◌, refl, sym, ap, ◌∙◌}
use mathlib.Core.Bool.{Bool, true, false, cond, false≢true}
use mathlib.Core.List.{List}
use lib.Dec.{ltb, eqb}
use lib.ListN.{length}
use borrow.Author.Tests.{eqb-true, eqb-false, ltb-true, ltb-false}
use Rattle.words.specs.Bits.{flag, with_flag}
use Rattle.words.proofs.Flags.{length-with, flag-with}
use Rattle.children.specs.Heap.{hit}
use Rattle.children.proofs.Frame.{hit_other, hit_same}
use Rattle.node_check.specs.declared.mark.Window.{Window}
use Rattle.node_check.specs.Mark.{Noted, noted, mark_once}
use Rattle.trie_check_laws.specs.Found.{one}

-- node x is in map' once more than in map
pub record Once (v : Window) (map map' : List ℕ) (x : ℕ) : Type 0 where
  pub long : length map' ≡ length map
  pub marks : (n : ℕ) → n < v.size → one (flag map' 0 n) ≡ one (flag map 0 n) + hit x (v.from + n)

module _ (v : Window) (map : List ℕ) (x : ℕ) (room : v.size ≤ 32 * length map) where
  -- outside the window
  outside : ((n : ℕ) → n < v.size → v.from + n ≡ x → ⊥) → Once v map map x
  outside away = record {
    long = refl;
    marks = λ n l. sym (ap (λ h. one (flag map 0 n) + h) (hit_other (away n l)) ∙ add-zero (one (flag map 0 n)));
  }

  inside : v.from ≤ x → x - v.from < v.size → flag map 0 (x - v.from) ≡ false → Once v map (with_flag map 0 (x - v.from) true) x
  inside from below clear = record {
    long = length-with map 0 at true;
    marks = λ n l. ap one (flag-with map 0 at true (omega arith) n) ∙ go n (eqb n at) refl;
  }
    where
      at : ℕ
      at = x - v.from

      go : (n : ℕ) (q : Bool) → eqb n at ≡ q → one (cond q true (flag map 0 n)) ≡ one (flag map 0 n) + hit x (v.from + n)
      go n true e =
          let same : n ≡ at = eqb-true n at e in
          let old : flag map 0 n ≡ false = ap (flag map 0) same ∙ clear in
          let there : v.from + n ≡ x = omega arith in
          rw (old, hit_same there) refl
      go n false e =
          let away : n ≡ at → ⊥ = eqb-false n at e in
          let there : v.from + n ≡ x → ⊥ = λ z. away (omega arith) in
          rw (hit_other there) (sym (add-zero (one (flag map 0 n))))

  pub mark-fresh : (mark_once v map x).fresh ≡ true → Once v map (mark_once v map x).map x
  unfolding mark_once
  mark-fresh h = go (ltb x v.from) refl (ltb (x - v.from) v.size) refl (flag map 0 (x - v.from)) refl h
    where
      marked : Bool → Bool → Bool → Noted
      marked p q r =
          cond p (noted map true)
          (cond q (cond r (noted map false) (noted (with_flag map 0 (x - v.from) true) true)) (noted map true))

      go : (p : Bool) → ltb x v.from ≡ p → (q : Bool) → ltb (x - v.from) v.size ≡ q → (r : Bool) → flag map 0 (x - v.from) ≡ r
          → (marked p q r).fresh ≡ true → Once v map (marked p q r).map x
      go true e q f r g h = outside (λ n l z. let u : x < v.from = ltb-true x v.from e in omega arith)
      go false e false f r g h = outside (λ n l z. let u : v.size ≤ x - v.from = ltb-false (x - v.from) v.size f in omega arith)
      go false e true f true g h = absurd (false≢true h)
      go false e true f false g h = inside (ltb-false x v.from e) (ltb-true (x - v.from) v.size f) g
