-- The function `blank` is the definition `blank`: the test of every symbol.
use mathlib.Core.Path.{refl}
use lib.Dec.{eqb}
use borrow.Author.Rules.{rules}
use Rattle.std.proofs.lemmas.List.Recursion.{and_is}
use Rattle.meaning.specs.Lists.{all}
use Rattle.meaning.specs.Sketch.{blank}
use Rattle.sketch.proofs.symbols.blank.Goals as goal

pub returns : goal.returns
unfolding blank all
returns c = and_is blank (λ x. eqb x 0) refl (λ _ _. refl) c.args.xs.now 0 _ (search rules) (search rules)
