-- A chain, and the bytes of its pages, one page at a time.
use Rattle.std.specs.Prelude.{Option, Some, None}
use Prim.Native.Nat.{ℕ, zero, suc, ◌+◌, ◌-◌, ◌<◌, ◌≤◌}
use mathlib.Core.Path.{◌≡◌, refl, ap, ◌∙◌, sym, fun_ext}
use mathlib.Core.List.{List, [], map}
use mathlib.Core.Bool.{Bool, true, false, cond, not, ◌||◌}
use native.Mathlib.Omega.{arith}
use borrow.Author.Tests.{le-ltb, lt-ltb, eq-eqb, ne_eqb, eqb-true, eqb-false}
use mir.Val.{bool_byte}
use lib.Dec.{eqb}
use lib.ListN.{length, get_or, set, replicate}
use lib.Seq.{get_or-set_same, get_or-set_other}
use Rattle.children.proofs.Steps.{suc-pred}
use Rattle.trie_laws.specs.Needed.{distinct_from}
use Rattle.leaf_bytes.specs.Chains.{next_link, Chained, whole, broken, ahead, chain_from}
use Rattle.leaf_bytes.specs.Bytes.{bytes_with}

-- `chain_from`
module _ (T : List ℕ) (base cap link : ℕ) where
  pub chain-none : (f : ℕ) → link ≡ 0 → chain_from T base cap link f ≡ whole []
  unfolding chain_from
  chain-none zero e = rw (eq-eqb link 0 e) refl
  chain-none (suc f) e = rw (eq-eqb link 0 e) refl

  module _ (f : ℕ) (e : link ≡ 0 → ⊥) where
    pub chain-long : f ≡ 0 → chain_from T base cap link f ≡ broken
    unfolding chain_from
    chain-long z = rw (z, ne_eqb link 0 e) refl

    module _ (h : f ≡ 0 → ⊥) where
      pub chain-broken : cap < link → chain_from T base cap link f ≡ broken
      unfolding chain_from
      chain-broken l = ap (chain_from T base cap link) (suc-pred f h) ∙ rw (ne_eqb link 0 e, lt-ltb cap link l) refl

      pub chain_next : link ≤ cap → chain_from T base cap link f ≡ ahead (link - 1) (chain_from T base cap (next_link T base link) (f - 1))
      unfolding chain_from
      chain_next l = ap (chain_from T base cap link) (suc-pred f h) ∙ rw (ne_eqb link 0 e, le-ltb cap link l) refl

-- the bytes that a table of 256 flags has
abbrev pub flagged : List Bool → ℕ → Bool
flagged seen y = get_or seen y false

-- n bytes, and those of a chain that have no flag
abbrev pub counted : (ℕ → ℕ) → List Bool → ℕ → Chained → Option ℕ
counted byte_of seen n (whole ps) = Some (n + distinct_from (flagged seen) (map byte_of ps))
counted byte_of seen n broken = None

flag-set : (seen : List Bool) (v : ℕ) → v < length seen → (y : ℕ) → flagged (set seen v true) y ≡ eqb y v || flagged seen y
flag-set seen v h y = go (eqb y v) refl
  where
    go : (q : Bool) → eqb y v ≡ q → flagged (set seen v true) y ≡ q || flagged seen y
    go true e = rw (eqb-true y v e) (get_or-set_same seen v true false h)
    go false e = get_or-set_other seen v y true false (eqb-false y v e)

pub flag-most : (t : Bool) → bool_byte t ≤ 1
flag-most true = omega arith
flag-most false = omega arith

-- one page more
count-ahead : (byte_of : ℕ → ℕ) (seen : List Bool) (n x : ℕ) (c : Chained) → byte_of x < length seen →
    counted byte_of seen n (ahead x c) ≡
    counted byte_of (set seen (byte_of x) true) (n + bool_byte (not (flagged seen (byte_of x)))) c
unfolding distinct_from
count-ahead byte_of seen n x broken h = refl
count-ahead byte_of seen n x (whole ps) h =
    rw (fun_ext (flag-set seen (byte_of x) h)) (ap Some (go (flagged seen (byte_of x))))
  where
    rest : ℕ
    rest = distinct_from (λ y. eqb y (byte_of x) || flagged seen y) (map byte_of ps)

    go : (q : Bool) → n + (cond q 0 1 + rest) ≡ n + bool_byte (not q) + rest
    go true = omega arith
    go false = omega arith

-- only the new byte was seen
pub no-flags : (n y : ℕ) → flagged (replicate n false) y ≡ false
no-flags zero y = refl
no-flags (suc n) zero = refl
no-flags (suc n) (suc y) = no-flags n y

pub count-start : (byte_of : ℕ → ℕ) (byte : ℕ) (seen : List Bool) (c : Chained) → byte < length seen → ((y : ℕ) → flagged seen y ≡ false) →
    counted byte_of (set seen byte true) 1 c ≡ bytes_with byte_of byte c
unfolding distinct_from
count-start byte_of byte seen broken h none = refl
count-start byte_of byte seen (whole ps) h none =
    rw (fun_ext (λ y. flag-set seen byte h y ∙ ap (λ (q : Bool). eqb y byte || q) (none y))) refl

-- `distinct_bytes` at each way out of a turn. R is what the whole comes to
module _ (T : List ℕ) (base cap : ℕ) (byte_of : ℕ → ℕ) (seen : List Bool) (n link f : ℕ) (R : Option ℕ)
    (inv : counted byte_of seen n (chain_from T base cap link f) ≡ R) where
  pub bytes-done : link ≡ 0 → Some n ≡ R
  unfolding distinct_from
  bytes-done e = let z : n ≡ n + 0 = omega arith in ap Some z ∙ (rw (chain-none T base cap link f e) at inv)

  module _ (e : link ≡ 0 → ⊥) where
    pub bytes-long : f ≡ 0 → None ≡ R
    bytes-long z = rw (chain-long T base cap link f e z) at inv

    module _ (h : f ≡ 0 → ⊥) where
      pub bytes-broken : cap < link → None ≡ R
      bytes-broken l = rw (chain-broken T base cap link f e h l) at inv

      pub bytes_next : link ≤ cap → (next g : ℕ) → next ≡ next_link T base link → g ≡ f - 1 → (v : ℕ) → v ≡ byte_of (link - 1) → v < length seen →
          counted byte_of (set seen v true) (n + bool_byte (not (flagged seen v))) (chain_from T base cap next g) ≡ R
      bytes_next l next g w z v q s =
          rw (w, z, q)
          (sym (count-ahead byte_of seen n (link - 1) (chain_from T base cap (next_link T base link) (f - 1)) (omega (arith, q)))
          ∙ ap (counted byte_of seen n) (sym (chain_next T base cap link f e h l))
          ∙ inv)
