-- Each group leaves fewer that may follow.
use Rattle.line_codec.proofs.decoding.+next_groups.Given as goal

abbrev pub decreases-next_groups : goal.decreases-next_groups
decreases-next_groups l = l.more
