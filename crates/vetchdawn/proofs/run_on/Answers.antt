-- A turn more is a run of the journal too, and fewer bytes are left after one that goes on.
use Prim.Native.Nat.{ℕ, ◌-◌, ◌<◌}
use mathlib.Core.Path.{◌≡◌, refl, subst}
use mathlib.Core.Bool.{Bool, true, false}
use mathlib.Core.List.{List, [], ◌++◌}
use native.Mathlib.Omega.{arith}
use lib.ListN.{length}
use Rattle.promises.specs.Tables.{Tables}
use Rattle.meaning.specs.Output.{Output}
use Rattle.journal_turns.specs.Turns.{State, Turned}
use Rattle.journal_turns.specs.Runs.{events, begins, turns, Ran}
use Rattle.journal_turns.proofs.Turns.{turn_inside, turn_on}
use Rattle.vetchdawn.proofs.run_on.Goals as goal

-- a run and one turn more
one_more : {bytes : List ℕ} {T : Tables} {found : Output} {s : State} → Ran bytes T found true s
    → {line : List ℕ} {going : Bool} {s' : State} → Turned bytes s line going s' → {g : Bool} → going ≡ g → Ran bytes T found g s'
one_more {bytes} {T} {found} r {line} {going} {s'} t e =
    subst (λ (b : Bool). Ran bytes T found b s') e (record { calls = events t ++ r.calls; written = r.written ++ line; run = turns r.run line going s' t })

pub loop-out-init : goal.loop-out-init
loop-out-init c = record { ran = record { calls = []; written = []; run = begins }; inside = omega arith }

pub returns-then-not-turn-clause-ended : goal.returns-then-not-turn-clause-ended
returns-then-not-turn-clause-ended c =
    record { symbols = c.take_turn-turn.result.m; ran = one_more c.loop-out.invariant.ran c.take_turn-turn.ensures.turned (grind arith) }

pub loop-out-smaller : goal.loop-out-smaller
loop-out-smaller c =
    let t = c.take_turn-turn.ensures.turned in
    omega (arith, turn_inside t c.loop-out.invariant.inside, turn_on t (grind arith))

pub loop-out-preserved : goal.loop-out-preserved
loop-out-preserved c =
    let t = c.take_turn-turn.ensures.turned in
    let kept = c.loop-out.invariant in
    record { ran = one_more kept.ran t (grind arith); inside = turn_inside t kept.inside }
