-- `open` keeps its promise.
use mathlib.Core.Path.{◌≡◌, sym, ap, ◌∙◌}
use mathlib.Core.Bool.{true}
use lib.ListN.{length}
use Rattle.std.proofs.Common.{rules}
use Rattle.meaning.specs.Lists.{onto}
use Rattle.layout.specs.Header.{with_thresholds}
use Rattle.promises.specs.Answers.{fresh_settings}
use Rattle.layout.specs.Headers.{numbers}
use Rattle.layout.proofs.Limits.{limits_on, header-limits}
use Rattle.promises.specs.Tables.{Tables, tables}
use Rattle.open.proofs.Opens.{all_long, all-long, count-given, open-4, open-5, open_done}
use Rattle.open.proofs.open.Goals as goal
use Rattle.open.proofs.open.Goals.{After-new-h, Else-not-limits, Else-not-long_enough}

-- past 4
within : (c : Else-not-limits) → limits_on c.args.given (length c.args.thresholds.now) ≡ true
within c = sym c.limits.ensures ∙ c.if-not-limits.false

passed : (c : After-new-h) → limits_on (numbers c.new-h.result) (length c.args.thresholds.now) ≡ true
passed c = ap (λ n. limits_on n (length c.args.thresholds.now)) c.new-h.ensures ∙ sym c.limits.ensures ∙ c.if-not-limits.false

-- past 5
long : (c : Else-not-long_enough) → let a = c.args in
    all_long (numbers c.new-h.result) (tables a.index.now.settings.now a.index.now.nodes.now a.index.now.pages.now a.sketches.now a.working.now) ≡ true
long c =
    let a = c.args in
    ap (λ (T : Tables). all_long (numbers c.new-h.result) (tables T.settings T.nodes T.pages T.sketches a.working.now)) (sym c.view.ensures)
    ∙ sym c.long_enough.ensures
    ∙ c.if-not-long_enough.false

pub new-h-requires : goal.new-h-requires
new-h-requires c = header-limits _ _ (within c)

pub returns-then-not-limits-clause-open_promise : goal.returns-then-not-limits-clause-open_promise
returns-then-not-limits-clause-open_promise c =
    open-4 _ _ (λ k. (c.type_inv.thresholds k).fits) _ (sym c.limits.ensures ∙ c.if-not-limits.true)

pub returns-then-not-long_enough-clause-open_promise : goal.returns-then-not-long_enough-clause-open_promise
returns-then-not-long_enough-clause-open_promise c =
    let at = goal.at.returns-then-not-long_enough-clause-open_promise c in
    rw (sym c.new-h.ensures)
    (open-5 _ _ (λ k. (c.type_inv.thresholds k).fits) _ (passed at.After-new-h)
    (ap (λ (T : Tables). all_long (numbers c.new-h.result) (tables T.settings T.nodes T.pages T.sketches c.args.working.now)) (sym c.view.ensures)
    ∙ sym c.long_enough.ensures
    ∙ c.if-not-long_enough.true))

pub unwrap-requires : goal.unwrap-requires
unwrap-requires c =
    let count = count-given _ _ (within (goal.at.unwrap-requires c).Else-not-limits) in
    search rules

pub lay_out-requires-clause-settings_length_in_bounds : goal.lay_out-requires-clause-settings_length_in_bounds
lay_out-requires-clause-settings_length_in_bounds c = (all-long _ _ (long (goal.at.lay_out-requires-clause-settings_length_in_bounds c).Else-not-long_enough)).0

pub lay_out-requires-clause-h_in_bounds : goal.lay_out-requires-clause-h_in_bounds
lay_out-requires-clause-h_in_bounds c = (all-long _ _ (long (goal.at.lay_out-requires-clause-h_in_bounds c).Else-not-long_enough)).1

pub lay_out-requires-clause-h_in_bounds_2 : goal.lay_out-requires-clause-h_in_bounds_2
lay_out-requires-clause-h_in_bounds_2 c = (all-long _ _ (long (goal.at.lay_out-requires-clause-h_in_bounds_2 c).Else-not-long_enough)).2

pub returns-clause-open_promise : goal.returns-clause-open_promise
returns-clause-open_promise c =
    let at = goal.at.returns-clause-open_promise c in
    let same : c.unwrap.result.now ≡ c.args.thresholds.now = search rules in
    rw (sym c.new-h.ensures)
    (open_done _ _ (λ k. (c.type_inv.thresholds k).fits) _ (passed at.After-new-h) (long at.Else-not-long_enough) _ _ _
    (c.lay_out.ensures.settings_after
    ∙ ap (λ ts. onto (fresh_settings (with_thresholds (numbers c.new-h.result) ts)) c.args.index.now.settings.now) same)
    c.lay_out.ensures.nodes_after
    c.lay_out.ensures.pages_after)
