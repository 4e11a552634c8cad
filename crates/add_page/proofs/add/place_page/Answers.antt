-- The function `place_page` is the definition `place_page`.
use native.Mathlib.Omega.{arith}
use mathlib.Core.Path.{◌≡◌, ap, ◌∙◌, subst}
use Rattle.layout.specs.Headers.{numbers}
use Rattle.std.specs.Prelude.{Err}
use Rattle.trie.specs.declared.Stop.TheVariants.{Full, Broken}
use Rattle.meaning.specs.Ledger.{add}
use Rattle.lent.specs.Lists.{held}
use Rattle.promises.specs.Store.{outcome}
use Rattle.promises.specs.Tables.{Tables}
use Rattle.entry.specs.Admission.{admission}
use Rattle.add_laws.specs.Add.{put_page as put_m, place_page as place_m}
use Rattle.add_laws.proofs.Passed.{Passed, told-shown}
use Rattle.add_page.proofs.Puts.{place_short, place-broken, place-enough}
use Rattle.add_page.proofs.add.place_page.Goals as goal
use Rattle.add_page.proofs.add.place_page.Goals.{After-view-view}

-- the tables as the view has them
abbrev seen : After-view-view → Tables
seen s = held s.view-view.result

passed : (s : After-view-view) → Passed (seen s) (numbers s.args.h) s.args.p s.args.sketch.now
passed s =
    let call = add s.args.p s.args.class s.args.sketch.now in
    (told-shown (seen s) s.args.p s.args.class s.args.sketch.now (numbers s.args.h) (ap (λ T. admission T call) s.view-view.ensures ∙ s.requires)).1

pub free_link-free-requires : goal.free_link-free-requires
free_link-free-requires c = (passed (goal.at.free_link-free-requires c).After-view-view).long

pub thresholds-thresholds-requires : goal.thresholds-thresholds-requires
thresholds-thresholds-requires c = (passed (goal.at.thresholds-thresholds-requires c).After-view-view).long

pub returns-in-Ok-clause-model : goal.returns-in-Ok-clause-model
returns-in-Ok-clause-model c =
    let s = (goal.at.returns-in-Ok-clause-model c).After-view-view in
    let a = c.args in
    c.put_page.ensures.model
    ∙ subst (λ T. put_m T a.p a.class a.sketch.now ≡ place_m T a.p a.class a.sketch.now) s.view-view.ensures
    (place-enough (seen s) _ (passed s).header _ _ _ _ c.thresholds-thresholds.ensures _ c.free_link-free.ensures _ c.room.ensures c.in-Ok.is)

pub returns-in-Err-Full-clause-model : goal.returns-in-Err-Full-clause-model
returns-in-Err-Full-clause-model c =
    let s = (goal.at.returns-in-Err-Full-clause-model c).After-view-view in
    let why : c.room.result ≡ Err Full = grind arith in
    let a = c.args in
    subst (λ T. outcome 12 T ≡ place_m T a.p a.class a.sketch.now) s.view-view.ensures
    (place_short (seen s) _ (passed s).header _ _ _ _ c.thresholds-thresholds.ensures _ c.free_link-free.ensures _ c.room.ensures why)

pub returns-in-Err-Broken-clause-model : goal.returns-in-Err-Broken-clause-model
returns-in-Err-Broken-clause-model c =
    let s = (goal.at.returns-in-Err-Broken-clause-model c).After-view-view in
    let why : c.room.result ≡ Err Broken = grind arith in
    let a = c.args in
    subst (λ T. outcome 14 T ≡ place_m T a.p a.class a.sketch.now) s.view-view.ensures
    (place-broken (seen s) _ (passed s).header _ _ _ _ c.thresholds-thresholds.ensures _ c.free_link-free.ensures _ c.room.ensures why)

pub room-requires-clause-lent : goal.room-requires-clause-lent
room-requires-clause-lent c = (passed (goal.at.room-requires-clause-lent c).After-view-view).lent

pub room-requires-clause-fits : goal.room-requires-clause-fits
room-requires-clause-fits c = (passed (goal.at.room-requires-clause-fits c).After-view-view).fits
