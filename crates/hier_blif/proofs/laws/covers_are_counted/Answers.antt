use Rattle.hier_blif.proofs.CountLemmas.{counted}
use Rattle.hier_blif.proofs.laws.covers_are_counted.Goals as goal

pub returns : goal.returns
returns c models model depth = counted depth models model
