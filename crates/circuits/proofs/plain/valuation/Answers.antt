-- What is computed gate by gate fits.
use Rattle.std.proofs.Common.{◌≡◌, rules}
use Rattle.circuits.specs.Netlists.{valuation_of}
use Rattle.circuits.proofs.Valuations.{valuation_of-fits}
use Rattle.circuits.proofs.plain.valuation.Goals as goal

pub returns-clause-fits : goal.returns-clause-fits
returns-clause-fits c =
    let is : c.add_gates.new.values.items ≡ valuation_of c.args.net.now c.args.vector.now = search rules in
    rw is (valuation_of-fits c.args.net.now c.args.vector.now c.requires.ordered c.requires.inputs)
