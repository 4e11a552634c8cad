-- `find` walks, then lists.
use Rattle.search.proofs.Finds.{tallied-none, found-listable, answers-found}
use Rattle.search.proofs.search.find.Goals as goal

pub meet_blocks-met-requires-clause-tallied : goal.meet_blocks-met-requires-clause-tallied
meet_blocks-met-requires-clause-tallied c = tallied-none _ _ _ c.requires.words_value

pub list_marks-requires-clause-listable : goal.list_marks-requires-clause-listable
list_marks-requires-clause-listable c = found-listable c.requires.room c.args.quest.now.bits c.meet_blocks-met.ensures _ c.in-Some.is c.requires.words_value c.requires.summarised

pub returns-clause-answered : goal.returns-clause-answered
returns-clause-answered c = answers-found c.meet_blocks-met.ensures _ c.in-Some.is c.requires.words_value c.args.quest.now.bits _ _ _ _ c.list_marks.ensures.lists

pub invariant_of-scope : goal.invariant_of-scope
invariant_of-scope c = let fit = c.args.quest.now.trial.fitting in record { measurable = record { rows = fit.sketches; query = fit.query } }
