-- The rights register in the settings table. Its records: a flag for each reader and group, and for each group and class. Beside them an
-- entry for each reader: a flag for each class.
use Rattle.std.specs.Prelude.{ℕ, ◌+◌, ◌*◌, Bool, ◌&&◌, List, ltb}
use Rattle.meaning.specs.Lists.{any, upto}
use Rattle.words.specs.Bits.{flag, with_flag}
use Rattle.layout.specs.Settings.{members_at, grants_at, entries_at}

unfoldable pub is_member : List ℕ → ℕ → ℕ → Bool
is_member ws reader group = flag ws members_at (reader * 32 + group)

unfoldable pub is_granted : List ℕ → ℕ → ℕ → Bool
is_granted ws group class = flag ws grants_at (group * 64 + class)

-- the table with a membership, or a grant, written or struck
abbrev pub with_member : List ℕ → ℕ → ℕ → Bool → List ℕ
with_member ws reader group v = with_flag ws members_at (reader * 32 + group) v

abbrev pub with_grant : List ℕ → ℕ → ℕ → Bool → List ℕ
with_grant ws group class v = with_flag ws grants_at (group * 64 + class) v

-- do the records open the class to the reader: is there a group that has him as a member and is granted the class?
unfoldable pub recorded : List ℕ → ℕ → ℕ → Bool
recorded ws reader class = any (λ g. is_member ws reader g && is_granted ws g class) (upto 32)

-- is the class open to the reader? His entry says so; a class above 63 is open to no one
unfoldable pub opens : List ℕ → ℕ → ℕ → Bool
opens ws reader class = ltb class 64 && flag ws entries_at (reader * 64 + class)
