-- The slot has the name, and all others are as they were.
use Rattle.std.proofs.lemmas.Result.{IfOk-weaker}
use Rattle.aiger_reader.proofs.SlotLemmas.{put_input, put_output}
use Rattle.aiger_reader.proofs.symbols.put_symbol.Goals as goal

pub returns-in-Input-clause-put : goal.returns-in-Input-clause-put
returns-in-Input-clause-put c =
    let symbol = c.args.symbol.now in
    let ports = c.args.ports.now in
    IfOk-weaker c.put_name.result _ _ (λ put puts. put_input put symbol.kind symbol.position symbol.name.now ports.inputs.items ports.outputs.items c.put_name.new.slots.items c.in-Input.is puts) c.put_name.ensures.put

pub returns-in-Output-clause-put : goal.returns-in-Output-clause-put
returns-in-Output-clause-put c =
    let symbol = c.args.symbol.now in
    let ports = c.args.ports.now in
    let call = c.put_name-in-Output in
    IfOk-weaker call.result _ _ (λ put puts. put_output put symbol.kind symbol.position symbol.name.now ports.inputs.items ports.outputs.items call.new.slots.items c.in-Output.is puts) call.ensures.put
