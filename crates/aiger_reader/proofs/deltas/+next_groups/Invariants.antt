-- The call reads one group less.
use Rattle.aiger_reader.proofs.deltas.+next_groups.Given as goal

abbrev pub decreases-next_groups : goal.decreases-next_groups
decreases-next_groups l = l.most
