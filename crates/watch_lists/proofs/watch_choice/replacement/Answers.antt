-- A binary clause has no literal but its two watched ones.
use Rattle.cnf_core.specs.Clauses.{clause_at}
use Rattle.trail_core.specs.Trails.{literals}
use Rattle.watch_lists.proofs.EffectLemmas.{binary_out}
use Rattle.watch_lists.proofs.watch_choice.replacement.Goals as goal

pub returns-then-is_binary-clause-none : goal.returns-then-is_binary-clause-none
returns-then-is_binary-clause-none c =
    binary_out (literals c.args.trail.now.entries) (clause_at c.args.clauses.now.clauses c.args.id) c.args.other (c.is_binary.ensures c.if-is_binary.true) c.requires.half
