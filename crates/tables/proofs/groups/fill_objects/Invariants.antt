-- `tables::groups::fill_objects` meets its contract: the rows have the events passed. Assumes nothing.
use Rattle.record.specs.Words.{object_in}
use Rattle.tables.proofs.GroupLaws.{KeyRows}
use Rattle.tables.proofs.groups.fill_objects.Given as goal

abbrev pub invariant-loop-e : goal.invariant-loop-e
invariant-loop-e l = KeyRows l.e l.w (object_in l.heads.words.now) l.g
