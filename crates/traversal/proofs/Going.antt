-- Of the pages of a search some are met, and others are to come.
use Rattle.std.specs.Prelude.{Option, Some, None}
use Prim.Native.Nat.{ℕ}
use native.Mathlib.Omega.{arith}
use mathlib.Core.Path.{◌≡◌, sym, ap, subst, ◌∙◌}
use mathlib.Core.List.{List, [], ◌++◌, append-nil}
use Rattle.hits.specs.Hit.{Test, passes}
use Rattle.meeting.specs.declared.Tally.{Tally}
use Rattle.meeting.specs.Meets.{Meets, met, broken, after}
use Rattle.meeting.specs.Mets.{Met, Tallied, Meeting}
use Rattle.meeting.proofs.Links.{after_none, after-after}
use Rattle.meeting.proofs.Maps.{kept_on, met-none, met-on}

abbrev tally : ℕ → ℕ → Tally
tally left count = record { left = left; count = count }

differ : (t : Tally) → None ≡ Some t → ⊥
differ t q = let z : ◌≡◌ {A = ℕ} 0 1 = cc in omega arith

pub meeting-same : {asked : Test} {words : ℕ} {m p : Meets} {map now counts : List ℕ} {r : Option Tally} → m ≡ p
    → Meeting asked words m map now counts r → Meeting asked words p map now counts r
meeting-same {asked} {words} {map = map} {now = now} {counts = counts} {r = r} e = subst (λ q. Meeting asked words q map now counts r) e

module _ (asked : Test) (words : ℕ) where
  -- of the pages m some are met, and `rest` is to come
  pub record Going (m : Meets) (before map counts : List ℕ) (rest : Meets) (count : ℕ) : Type 0 where
    pub seen : List ℕ
    pub same : after seen rest ≡ m
    pub met : Met (passes asked) words before seen map
    pub tallied : Tallied asked words map counts count

  pub going_start : (map counts : List ℕ) (m : Meets) (count : ℕ) → Tallied asked words map counts count → Going m map map counts m count
  going_start map counts m count e = record { seen = []; same = after_none m; met = met-none (passes asked) words map; tallied = e }

  module _ {m : Meets} {before map counts : List ℕ} {rest : Meets} {count : ℕ} (g : Going m before map counts rest count) where
    pub going-same : (others : Meets) → rest ≡ others → Going m before map counts others count
    going-same others e = record { seen = g.seen; same = ap (after g.seen) (sym e) ∙ g.same; met = g.met; tallied = g.tallied }

    -- ---- the ends
    pub going-broken : rest ≡ broken → Meeting asked words m before map counts None
    going-broken e = record {
      kept = g.met.kept;
      some = λ t q. absurd (differ t q);
      none = λ q. sym g.same ∙ ap (after g.seen) e;
    }

    pub going-over : (left : ℕ) → rest ≡ met [] left → Meeting asked words m before map counts (Some (tally left count))
    going-over left e = record {
      kept = g.met.kept;
      some = λ t q.
          let same : tally left count ≡ t = cc in
          let all : m ≡ met g.seen left = sym g.same ∙ ap (after g.seen) e ∙ ap (λ ps. met ps left) (append-nil g.seen) in
          (g.seen, all ∙ ap (λ s. met g.seen s.left) same, g.met, subst (λ s. Tallied asked words map counts s.count) same g.tallied);
      none = λ q. absurd (differ (tally left count) (sym q));
    }

    -- ---- pages p are met
    module _ {p : Meets} {now counts' : List ℕ} {r : Option Tally} (call : Meeting asked words p map now counts' r) where
      pub going-met : (t : Tally) → r ≡ Some t → (others : Meets) → ((ps : List ℕ) → p ≡ met ps t.left → rest ≡ after ps others)
          → Going m before now counts' others t.count
      going-met t e others on =
          let x = call.some t e in record {
            seen = g.seen ++ x.0;
            same = sym (after-after g.seen x.0 others) ∙ ap (after g.seen) (sym (on x.0 x.1)) ∙ g.same;
            met = met-on (passes asked) words g.met x.2;
            tallied = x.3;
          }

      pub going-stop : r ≡ None → (p ≡ broken → rest ≡ broken) → Meeting asked words m before now counts' None
      going-stop e on = record {
        kept = kept_on g.met.kept call.kept;
        some = λ t q. absurd (differ t q);
        none = λ q. sym g.same ∙ ap (after g.seen) (on (call.none e));
      }
