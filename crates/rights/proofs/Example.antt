-- The calls on a register, one after another.
use Prim.Native.Nat.{ℕ, ◌+◌, ◌*◌}
use mathlib.Core.Path.{◌≡◌, refl}
use mathlib.Core.Bool.{true, false}
use mathlib.Core.List.{List}
use lib.ListN.{replicate}
use Rattle.meaning.specs.Lists.{all, any, from, upto}
use Rattle.meaning.specs.Rights.{join, leave, grant, revoke}
use Rattle.words.specs.Bits.{bit, with_bit, rising, bits_of, flag, with_flag}
use Rattle.layout.specs.Settings.{settings_length, entries_at}
use Rattle.layout.specs.Entries.{with_entry}
use Rattle.rights.specs.Register.{is_member, is_granted, with_member, with_grant, recorded, opens}
use Rattle.rights.specs.Open.{with_group, with_groups, open_classes}
use Rattle.rights.specs.Entries.{renewed, class_renewed, registered, is_current, all_current}

-- reader 7 is in groups 2 and 5, reader 9 in group 2; both groups are granted class 40
granted : List ℕ
granted =
    registered (grant 5 40) (registered (grant 2 40) (registered (join 7 5) (registered (join 9 2) (registered (join 7 2) (replicate settings_length 0)))))

revoked : List ℕ
revoked = registered (revoke 2 40) granted

left : List ℕ
left = registered (leave 7 5) revoked

-- open to the members and to no one else
members : (opens granted 7 40 ≡ true) × (opens granted 9 40 ≡ true) × (opens granted 8 40 ≡ false)
unfolding granted registered renewed with_entry open_classes with_groups with_group class_renewed recorded is_member is_granted opens flag with_flag with_bit bit bits_of rising any upto from
members = (refl, refl, refl)

-- a revoke closes it to reader 9; reader 7 has it by group 5 too, until he leaves that
second_group : (opens revoked 9 40 ≡ false) × (opens revoked 7 40 ≡ true) × (opens left 7 40 ≡ false)
unfolding granted revoked left registered renewed with_entry open_classes with_groups with_group class_renewed recorded is_member is_granted opens flag with_flag with_bit bit bits_of rising any upto from
second_group = (refl, refl, refl)

-- entries are read, not records: class 40 in the entry of reader 7 alone, and in the records alone; both are stale
alone : List ℕ
alone = with_flag (replicate settings_length 0) entries_at (7 * 64 + 40) true

behind : List ℕ
behind = with_grant (with_member (replicate settings_length 0) 7 2 true) 2 40 true

by-entry : (opens alone 7 40 ≡ true) × (recorded alone 7 40 ≡ false) × (opens behind 7 40 ≡ false) × (recorded behind 7 40 ≡ true)
unfolding alone behind recorded is_member is_granted opens flag with_flag with_bit bit any upto from
by-entry = (refl, refl, refl, refl)

stale : (is_current alone 7 ≡ false) × (is_current behind 7 ≡ false) × (is_current alone 8 ≡ true) × (all_current alone ≡ false)
unfolding alone behind recorded is_member is_granted opens flag with_flag with_bit bit any all upto from is_current all_current
stale = (refl, refl, refl, refl)
