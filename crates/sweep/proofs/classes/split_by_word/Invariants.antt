-- The signals so far have new classes.
use Rattle.sweep.specs.Classes.{AreSplit}
use Rattle.sweep.proofs.classes.split_by_word.Given as goal

abbrev pub invariant-loop-signal : goal.invariant-loop-signal
invariant-loop-signal l = AreSplit l.signal l.values l.word l.fn.members.items l.members.items l.numbers.entries
