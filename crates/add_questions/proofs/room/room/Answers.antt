-- `room` is `room_of`.
use Rattle.std.specs.Prelude.{Err, Some, None}
use native.Mathlib.Omega.{arith}
use mathlib.Core.Path.{◌≡◌}
use Rattle.trie.specs.declared.Stop.TheVariants.{Broken}
use Rattle.add_laws.proofs.Rooms.{room-counted, room-broken}
use Rattle.add_questions.proofs.room.room.Goals as goal

pub returns-in_err-needed : goal.returns-in_err-needed
returns-in_err-needed c =
    let up : c.from_residual.result ≡ Err Broken = grind arith in
    let none : c.all_needed.result ≡ None = grind arith in
    rw up (room-broken _ _ _ _ _ _ _ c.all_needed.ensures none)

pub returns : goal.returns
returns c =
    let some : c.all_needed.result ≡ Some c.in_ok-needed.needed = grind arith in
    room-counted _ _ _ _ _ _ _ c.all_needed.ensures _ some _ c.enough_free.ensures
