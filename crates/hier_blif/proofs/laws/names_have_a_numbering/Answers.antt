-- Names differ, so that each is found by the line that defines it.
use Rattle.hier_blif.proofs.WellNamedLemmas.{well_named}
use Rattle.hier_blif.proofs.ApartNamedLemmas.{named_apart}
use Rattle.hier_blif.proofs.SignalLemmas.{numbering}
use Rattle.hier_blif.proofs.laws.names_have_a_numbering.Goals as goal

pub returns : goal.returns
returns c models top depth named held deep =
    numbering depth models top (record { well = well_named models named; apart = named_apart models named }) held deep
