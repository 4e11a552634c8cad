-- How the entries are kept as the records have them, and when they are.
use Rattle.std.specs.Prelude.{ℕ, zero, suc, ◌+◌, ◌*◌, Bool, true, false, cond, not, List}
use Rattle.meaning.specs.Lists.{all, upto}
use Rattle.meaning.specs.Rights.{Change, join, leave, grant, revoke}
use Rattle.words.specs.Bits.{with_flag}
use Rattle.layout.specs.Settings.{entries_at}
use Rattle.layout.specs.Entries.{with_entry}
use Rattle.rights.specs.Register.{is_member, with_member, with_grant, recorded, opens}
use Rattle.rights.specs.Open.{open_classes}

-- the table with the reader's entry as the records have it
unfoldable pub renewed : List ℕ → ℕ → List ℕ
renewed ws reader = with_entry ws reader (open_classes ws reader).low (open_classes ws reader).high

-- with the class in the entries of the group's members as the records have it: of the readers below n
unfoldable pub class_renewed : List ℕ → ℕ → ℕ → ℕ → List ℕ
class_renewed ws group class zero = ws
class_renewed ws group class (suc n) =
    cond (is_member ws n group)
    (with_flag (class_renewed ws group class n) entries_at (n * 64 + class) (recorded ws n class))
    (class_renewed ws group class n)

-- the table after a change of the register: a record is written or struck; then the entry of the reader, or the class in those of the
-- members, is written anew
unfoldable pub registered : Change → List ℕ → List ℕ
registered (join r g) ws = renewed (with_member ws r g true) r
registered (leave r g) ws = renewed (with_member ws r g false) r
registered (grant g c) ws = class_renewed (with_grant ws g c true) g c 256
registered (revoke g c) ws = class_renewed (with_grant ws g c false) g c 256

abbrev pub same : Bool → Bool → Bool
same true t = t
same false t = not t

-- the entry has exactly the classes that the records open to its reader; otherwise it is stale
unfoldable pub is_current : List ℕ → ℕ → Bool
is_current ws reader = all (λ c. same (opens ws reader c) (recorded ws reader c)) (upto 64)

-- no entry is stale
unfoldable pub all_current : List ℕ → Bool
all_current ws = all (is_current ws) (upto 256)
