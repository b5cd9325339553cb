-- That many columns of zeros stand there.
use Rattle.std.proofs.Common.{◌≡◌, replicate}
use Rattle.word_sim.proofs.words.Words.new.Given as goal

abbrev pub invariant-loop : goal.invariant-loop
invariant-loop l = l.zeros.items ≡ replicate l.counter (replicate l.words 0)
