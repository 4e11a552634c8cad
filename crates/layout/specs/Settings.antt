-- The settings table: a mark, b, m, q, the capacities, 64 thresholds, 256 words of memberships, 64 words of grants, 512 words of entries,
-- the free link.
use Rattle.std.specs.Prelude.{ℕ, Bool, ◌&&◌, List, ◌∷◌, ◌++◌, eqb, get_or, take, drop}
use Rattle.meaning.specs.Ledger.{Settings}
use Rattle.meaning.specs.Questions.{in_limits}

-- the mark of an opening: the letters VD and the number of this layout, which changes with it
abbrev pub mark : ℕ
mark = 0x56440004

-- how many words the table needs
abbrev pub settings_length : ℕ
settings_length = 903

-- where the memberships begin: reader r has word members_at + r, whose bit g stands for group g
abbrev pub members_at : ℕ
members_at = 70

-- where the grants begin: group g has words grants_at + 2 × g and the next, whose bits stand for classes 0 to 63
abbrev pub grants_at : ℕ
grants_at = 326

-- where the entries begin: reader r has words entries_at + 2 × r and the next, whose bits stand for classes 0 to 63
abbrev pub entries_at : ℕ
entries_at = 390

-- how many words the memberships, grants and entries take
abbrev pub register_length : ℕ
register_length = 832

-- the word with the link to the first free node
abbrev pub free_at : ℕ
free_at = 902

-- the first 70 words: what an opening was given, behind the mark
unfoldable pub header : Settings → List ℕ
header s = mark ∷ s.bits ∷ s.symbols ∷ s.blocks ∷ s.pages ∷ s.nodes ∷ s.thresholds

-- the table with another opening in its first 70 words
unfoldable pub with_header : List ℕ → Settings → List ℕ
with_header ws s = header s ++ drop 70 ws

-- what the table says that the opening was given
unfoldable pub settings_of : List ℕ → Settings
settings_of ws = record {
  bits = get_or ws 1 0;
  symbols = get_or ws 2 0;
  blocks = get_or ws 3 0;
  pages = get_or ws 4 0;
  nodes = get_or ws 5 0;
  thresholds = take 64 (drop 6 ws);
}

-- the table shows an opening with settings and capacities that pass 4 and thresholds below 65,536
unfoldable pub shows_opening : List ℕ → Bool
shows_opening ws = eqb (get_or ws 0 0) mark && in_limits (settings_of ws)
