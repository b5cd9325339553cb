-- The slots at the end of the lines give the names of all ports.
use Rattle.std.proofs.Common.{length}
use Rattle.aiger_reader.proofs.NameLemmas.{names_from}
use Rattle.aiger_reader.proofs.symbols.read_symbols.Goals as goal

pub returns-clause-names : goal.returns-clause-names
returns-clause-names c =
    let before = c.in_ok-ports.ports in
    let after = c.read_lines.new.ports in
    let symbols = c.in_ok-symbols.symbols in
    let lines = c.in_ok-read_lines in
    let end = lines.ensures.symbols in
    names_from c.args.inputs c.args.outputs (length before.inputs.items) (length before.outputs.items) c.args.cursor.now.bytes after.inputs.items after.outputs.items symbols.inputs symbols.outputs end.0 end.1 c.in_ok-ports.ensures.inputs c.in_ok-ports.ensures.outputs lines.ensures.inputs lines.ensures.outputs (c.in_ok-symbols.ensures.inputs end.0 end.2) (c.in_ok-symbols.ensures.outputs end.0 end.2)
