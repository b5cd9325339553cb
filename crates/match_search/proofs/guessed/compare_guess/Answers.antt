-- All outputs of the matching were compared.
use Rattle.match_search.proofs.CompareLemmas.{shown_match}
use Rattle.match_search.proofs.guessed.compare_guess.Goals as goal

pub returns-in-None-clause-guessed : goal.returns-in-None-clause-guessed
returns-in-None-clause-guessed g c =
    let ports = rw c.in-Some.is at c.in_ok-matching.ensures in
    shown_match c.args.graphs.now c.in-Some.matching c.compare_all.new.logs c.first-first.ensures.sound c.second-second.ensures.sound ports (rw c.in-None.is at c.in_ok-compare_all.ensures.same)
