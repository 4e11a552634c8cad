-- The groups that are granted a class, in one word, by which one class is written in the entry of a member.
use Rattle.std.specs.Prelude.{ℕ, zero, suc, ◌+◌, ◌*◌, true, cond, not, List, eqb, get_or}
use Rattle.std.specs.Int.Bits.{bit_and}
use Rattle.words.specs.Bits.{with_bit, with_flag}
use Rattle.layout.specs.Settings.{members_at, entries_at}
use Rattle.rights.specs.Register.{is_member, is_granted}

-- of the groups below n
unfoldable pub holders : List ℕ → ℕ → ℕ → ℕ
holders ws class zero = 0
holders ws class (suc n) = cond (is_granted ws n class) (with_bit (holders ws class n) n true) (holders ws class n)

-- the table with the class in the entry of a member: in the set where he is a member of a holder
unfoldable pub member_renewed : List ℕ → ℕ → ℕ → ℕ → ℕ → List ℕ
member_renewed ws reader group class groups =
    cond (is_member ws reader group)
    (with_flag ws entries_at (reader * 64 + class) (not (eqb (bit_and (get_or ws (members_at + reader) 0) groups) 0)))
    ws
