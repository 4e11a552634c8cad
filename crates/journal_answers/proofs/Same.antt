-- What a command writes and the m behind it do not hang on its symbols, and only S writes a list, only I changes m.
use Prim.Native.Nat.{ℕ}
use mathlib.Core.Path.{◌≡◌, refl, ap}
use mathlib.Core.Bool.{cond}
use mathlib.Core.List.{List, [], ◌∷◌}
use lib.Dec.{eqb}
use types.Run.{OneOf, miss}
use denote.Enum.Declared.{tag_of}
use Rattle.meaning.specs.Journal.{call_of, refusal_line}
use Rattle.promises.specs.Relation.{Answer}
use Rattle.journal.specs.Steps.{meant}
use Rattle.journal.specs.declared.commands.Command.{Command}
use Rattle.journal.specs.contracts.commands.Command.{the_type}
use Rattle.journal.specs.declared.commands.Command.TheVariants.{Open, Add, Drop, Register, Search}
use Rattle.journal_answers.specs.Lines.{symbols_after, accepted_line, line_of}

pub same-listing : (m : ℕ) (bytes : List ℕ) (c : Command) (a : Answer) → accepted_line (meant 0 [] c) a ≡ accepted_line (meant m bytes c) a
unfolding meant accepted_line
same-listing m bytes (Open b n q t) a = refl
same-listing m bytes (Add p c s) a = refl
same-listing m bytes (Drop p) a = refl
same-listing m bytes (Register c) a = refl
same-listing m bytes (Search r d s) a = refl

pub same_line : (at m : ℕ) (bytes : List ℕ) (c : Command) (a : Answer) → line_of at (meant 0 [] c) a ≡ line_of at (meant m bytes c) a
unfolding line_of
same_line at m bytes c a = ap (λ (l : List ℕ). cond (eqb a.number 0) l (refusal_line at a.number)) (same-listing m bytes c a)

pub same-symbols : (k m : ℕ) (bytes : List ℕ) (c : Command) → symbols_after (meant 0 [] c) k ≡ symbols_after (meant m bytes c) k
unfolding meant symbols_after call_of
same-symbols k m bytes (Open b n q t) = refl
same-symbols k m bytes (Add p c s) = refl
same-symbols k m bytes (Drop p) = refl
same-symbols k m bytes (Register c) = refl
same-symbols k m bytes (Search r d s) = refl

-- the cases by their places: I is the first, S the last
abbrev pub not_last : List ℕ
not_last = 0 ∷ 1 ∷ 2 ∷ 3 ∷ []

abbrev pub not_first : List ℕ
not_first = 1 ∷ 2 ∷ 3 ∷ 4 ∷ []

pub no-listing : (c : Command) (a : Answer) → OneOf not_last (tag_of the_type c) → accepted_line (meant 0 [] c) a ≡ []
unfolding meant accepted_line
no-listing (Open b n q t) a h = refl
no-listing (Add p c s) a h = refl
no-listing (Drop p) a h = refl
no-listing (Register c) a h = refl
no-listing (Search r d s) a h = absurd (miss not_last 4 tt h)

pub symbols-kept : (c : Command) (m : ℕ) → OneOf not_first (tag_of the_type c) → m ≡ symbols_after (meant 0 [] c) m
unfolding meant symbols_after call_of
symbols-kept (Open b n q t) m h = absurd (miss not_first 0 tt h)
symbols-kept (Add p c s) m h = refl
symbols-kept (Drop p) m h = refl
symbols-kept (Register c) m h = refl
symbols-kept (Search r d s) m h = refl
