use Rattle.pair_search.proofs.mismatch.made_beside.Given as goal

-- nothing is kept: each pair is looked at by itself
abbrev pub invariant-loop-with : goal.invariant-loop-with
invariant-loop-with l = Unit {0}
