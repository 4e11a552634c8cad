use Prim.Native.Nat.{◌+◌, ◌*◌, ◌≤◌}
use mathlib.Core.Path.{◌≡◌}
use lib.ListN.{length}
use lib.Seq.{sets}
use Rattle.meaning.specs.Journal.{hits}
use Rattle.journal_lines.proofs.Hits.{hits_from}
use Rattle.journal_lines.proofs.put_hits.Given as goal

abbrev pub invariant-loop-page : goal.invariant-loop-page
invariant-loop-page l = record {
  stored : sets l.out l.to (hits_from l.pages l.distances (length l.yielded)) ≡ sets l.initial.out l.at (hits l.pages l.distances);
  behind : l.to + length (hits_from l.pages l.distances (length l.yielded)) ≡ l.at + length (hits l.pages l.distances);
  room : l.to ≤ l.at + 22 * length l.yielded;
  same : length l.out ≡ length l.initial.out;
}
