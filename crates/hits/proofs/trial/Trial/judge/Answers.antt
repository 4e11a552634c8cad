-- `judge` is `verdict`.
use mathlib.Core.Path.{◌≡◌, refl, sym, ap, ◌∙◌}
use mathlib.Core.Logic.{◌≢◌}
use Prim.Native.Nat.{◌-◌}
use native.Mathlib.Omega.{arith}
use lib.ListN.{length, get_or}
use borrow.Author.Rules.{rules}
use Rattle.meaning.proofs.Sums.{distance-le}
use Rattle.layout.specs.Pages.{row_of}
use Rattle.rights.specs.Open.{is_open}
use Rattle.comparison.specs.Shapes.{shape_of}
use Rattle.comparison.proofs.Verdicts.{within}
use Rattle.hits.specs.Trials.{tried}
use Rattle.hits.proofs.Hit.{dead, closed, hidden, judged, page-inside, row_fits, row-long}
use Rattle.hits.proofs.trial.Trial.judge.Goals as goal
use Rattle.hits.proofs.trial.Trial.judge.Goals.{After-is_open}

-- its class is open, as `is_open` says
class-answer : (c : After-is_open) → c.is_open.result ≡ is_open c.args.self.now.probe.classes (get_or c.args.self.now.pages.now c.args.p 0 - 1)
class-answer c = c.is_open.ensures ∙ ap (λ w. is_open c.args.self.now.probe.classes (w - 1)) c.page_word-word.ensures

-- the page is live
alive : (c : After-is_open) → get_or c.args.self.now.pages.now c.args.p 0 ≢ 0
alive c = rw (← c.page_word-word.ensures) c.if-word-eq0.false

pub page_word-word-requires : goal.page_word-word-requires
page_word-word-requires c = omega (arith, page-inside (tried c.args.self.now) _ c.requires c.args.self.now.fitting)

pub returns-then-word-eq0 : goal.returns-then-word-eq0
returns-then-word-eq0 c = dead (tried c.args.self.now) _ c.requires (sym c.page_word-word.ensures ∙ c.if-word-eq0.true)

pub returns-then-not-is_open : goal.returns-then-not-is_open
returns-then-not-is_open c =
    let at = (goal.at.returns-then-not-is_open c).After-is_open in
    closed (tried c.args.self.now) _ c.requires (alive at) (sym (class-answer at) ∙ c.if-not-is_open.true)

pub returns-then-not-is_near : goal.returns-then-not-is_near
returns-then-not-is_near c = hidden (tried c.args.self.now) _ c.requires (sym c.is_near.ensures ∙ c.if-not-is_near.true)

pub returns-then-probe : goal.returns-then-probe
returns-then-probe c =
    let trial = c.args.self.now in
    let at = (goal.at.returns-then-probe c).After-is_open in
    within _ _ _ c.measure.ensures (omega (arith, c.if-probe.true, trial.fitting.query, distance-le (row_of trial.probe.header.m trial.sketches.now c.args.p) trial.query.now))
    ∙ judged (tried trial) _ c.requires (alive at) (sym (class-answer at) ∙ c.if-not-is_open.false) (sym c.is_near.ensures ∙ c.if-not-is_near.false) _ refl

pub measure-requires : goal.measure-requires
measure-requires c = let fit = c.args.self.now.fitting in record { h_in_bounds = fit.sketches; query_len = fit.query; p_lt_pages = c.requires }

pub row-row-requires : goal.row-row-requires
row-row-requires c = row_fits (tried c.args.self.now) _ c.requires c.args.self.now.fitting

pub returns : goal.returns
returns c =
    let at = (goal.at.returns c).After-is_open in
    c.compare.ensures
    ∙ judged (tried c.args.self.now) _ c.requires (alive at) (sym (class-answer at) ∙ c.if-not-is_open.false) (sym c.is_near.ensures ∙ c.if-not-is_near.false) _ c.row-row.ensures.result_value

pub compare-requires-clause-shaped : goal.compare-requires-clause-shaped
compare-requires-clause-shaped c =
    let trial = c.args.self.now in
    let long = ap length c.row-row.ensures.result_value ∙ row-long (tried trial) _ c.requires trial.fitting in
    record {
      b = trial.probe.header.b;
      bits = search rules;
      some = omega (arith, long, trial.fitting.limits.symbols-least);
      same = ap (λ r. r.shape) trial.prepared ∙ ap (shape_of trial.probe.header.b) (sym long);
    }

pub compare-requires-clause-row_len : goal.compare-requires-clause-row_len
compare-requires-clause-row_len c =
    let trial = c.args.self.now in
    ap length c.row-row.ensures.result_value ∙ row-long (tried trial) _ c.requires trial.fitting ∙ sym trial.fitting.query
