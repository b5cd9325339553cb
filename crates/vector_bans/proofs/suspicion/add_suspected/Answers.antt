use Rattle.vector_bans.proofs.suspicion.add_suspected.Goals as goal

pub add_input-requires-clause-part : goal.add_input-requires-clause-part
add_input-requires-clause-part c = c.requires.inputs.part

pub add_input-requires-clause-inputs : goal.add_input-requires-clause-inputs
add_input-requires-clause-inputs c = c.requires.inputs.inputs

pub returns : goal.returns
returns c = record { part = c.in_ok-add_input.ensures.adds.part; inputs = c.in_ok-add_input.ensures.inputs }
