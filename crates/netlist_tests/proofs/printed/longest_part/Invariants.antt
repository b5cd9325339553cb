use Rattle.netlist_tests.proofs.printed.longest_part.Given as goal

abbrev pub decreases-loop-part : goal.decreases-loop-part
decreases-loop-part g l = g.P.Parts.steps l.rest
