-- At the end all ports have their names.
use Rattle.std.proofs.Common.{arith}
use Rattle.aiger_reader.proofs.NameLemmas.{all_named}
use Rattle.aiger_reader.proofs.symbols.names_of.Goals as goal

pub returns : goal.returns
returns c =
    let i = c.loop-position in
    all_named c.args.kind c.args.slots.now i.names (omega arith) i.invariant.each
