-- `admit` asks 5 and 6.
use native.Mathlib.Omega.{arith}
use mathlib.Core.Path.{◌≡◌, sym, ap}
use mathlib.Core.Bool.{not}
use Rattle.std.specs.Prelude.{Err}
use Rattle.layout.proofs.Openings.{shown}
use Rattle.entry.proofs.Questions.{fails, holds}
use Rattle.entry.proofs.Admits.{store-refused, store-short, store_long}
use Rattle.entry.proofs.admit.Goals as goal

pub returns-in_err-h : goal.returns-in_err-h
returns-in_err-h c =
    let up : c.from_residual.result ≡ Err c.in_err-h.field-0.0 = grind arith in
    rw up (store-refused _ _ _ _ _ (sym c.in_err-h.ensures))

pub returns-then-not-long_store : goal.returns-then-not-long_store
returns-then-not-long_store c =
    store-short _ _ _ _ _ (sym c.in_ok-h.ensures) (fails c.long_store.ensures (ap not c.if-not-long_store.true))

pub returns : goal.returns
returns c =
    store_long _ _ _ _ _ (sym c.in_ok-h.ensures) (holds c.long_store.ensures (ap not c.if-not-long_store.false))
