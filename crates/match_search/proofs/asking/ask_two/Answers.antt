use Rattle.match_search.proofs.AskLemmas.{both_pairs}
use Rattle.match_search.proofs.StepLemmas.{goes_by, goes_ok, gone_none}
use Rattle.std.proofs.Common.{refl}
use Rattle.match_search.proofs.asking.ask_two.Goals as goal

pub returns-in_default : goal.returns-in_default
returns-in_default g c = goes_ok (gone_none c.requires.may)

pub mismatch-requires : goal.mismatch-requires
mismatch-requires g c =
    let both = both_pairs refl (rw c.in-Some.is at c.input_and_output.ensures) c.requires.known c.requires.other in
    record { may = c.requires.may; input = both.0; output = both.1 }

pub returns : goal.returns
returns g c = goes_by c.mismatch.ensures.same c.mismatch.ensures.makes refl
