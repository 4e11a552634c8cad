-- Sets of classes, in two words.
use Rattle.std.specs.Prelude.{ℕ, ◌+◌, ◌*◌, ◌%◌, Bool, cond, ◌&&◌, List, [], ◌∷◌, ltb, get_or}
use Rattle.std.specs.Int.Bits.{bit_or}
use Rattle.words.specs.Bits.{bit, bits_of}
use Rattle.layout.specs.Settings.{members_at, grants_at}
use Rattle.layout.specs.Entries.{low_of, high_of}
use Rattle.rights.specs.declared.Classes.{Classes}

-- is the class in the set? A class above 63 is in none
unfoldable pub is_open : Classes → ℕ → Bool
is_open k class = ltb class 64 && bit (cond (ltb class 32) k.low k.high) (class % 32)

-- a set with the classes granted to a group
unfoldable pub with_group : List ℕ → Classes → ℕ → Classes
with_group ws k g = record {
  low = bit_or k.low (get_or ws (grants_at + 2 * g) 0);
  high = bit_or k.high (get_or ws (grants_at + 2 * g + 1) 0);
}

-- a set with the classes granted to each group of a list
unfoldable pub with_groups : List ℕ → Classes → List ℕ → Classes
with_groups ws k [] = k
with_groups ws k (g ∷ gs) = with_groups ws (with_group ws k g) gs

-- the classes that the records open to a reader: those granted to the groups that have him as a member
unfoldable pub open_classes : List ℕ → ℕ → Classes
open_classes ws reader = with_groups ws (record { low = 0; high = 0 }) (bits_of (get_or ws (members_at + reader) 0))

-- the classes in the reader's entry
unfoldable pub entry_of : List ℕ → ℕ → Classes
entry_of ws reader = record { low = low_of ws reader; high = high_of ws reader }
