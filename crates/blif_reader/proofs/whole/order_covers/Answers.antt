use Rattle.std.proofs.Common.{◌<◌, length, Err, inl, inr, ap, subst, ◌∙◌}
use Rattle.circuits.specs.Levels.{IsAcyclic, IsFirstLooped, IsOrderOf}
use Rattle.circuits.specs.Expansion.{gates_in}
use Rattle.net_core.specs.Limits.{most_gates}
use Rattle.blif_reader.specs.Blif.{blif_lines}
use Rattle.blif_reader.proofs.BlifLemmas.{same_circuit, closed_made, signals_made, outputs_made, gates_made, place_there, cycle_found, gates_found}
use Rattle.blif_reader.proofs.whole.order_covers.Goals as goal

pub new-net-requires-clause-closed : goal.new-net-requires-clause-closed
new-net-requires-clause-closed c =
    closed_made (blif_lines c.args.input.now) c.args.inputs c.args.covers c.requires.few c.requires.inputs c.requires.built

pub new-net-requires-clause-signals : goal.new-net-requires-clause-signals
new-net-requires-clause-signals c =
    signals_made (blif_lines c.args.input.now) c.args.inputs c.args.covers c.requires.inputs c.requires.built c.requires.signals

pub new-net-requires-clause-outputs : goal.new-net-requires-clause-outputs
new-net-requires-clause-outputs c =
    outputs_made (blif_lines c.args.input.now) c.args.covers c.requires.few c.requires.built

pub returns-in-Ok-clause-acyclic : goal.returns-in-Ok-clause-acyclic
returns-in-Ok-clause-acyclic c =
    let same = c.new-net.ensures ∙ same_circuit (blif_lines c.args.input.now) c.args.inputs c.args.covers c.requires.inputs c.requires.built in
    subst IsAcyclic same c.in-Ok.ensures.acyclic

pub returns-in-Ok-clause-few_gates : goal.returns-in-Ok-clause-few_gates
returns-in-Ok-clause-few_gates c =
    let lines = blif_lines c.args.input.now in
    let same = c.new-net.ensures ∙ same_circuit lines c.args.inputs c.args.covers c.requires.inputs c.requires.built in
    gates_made lines c.in-Ok.graph c.requires.few (subst (λ n. IsOrderOf n c.in-Ok.graph) same c.in-Ok.ensures.graph) c.in-Ok.ensures.few

pub returns-in-Ok-clause-ordered : goal.returns-in-Ok-clause-ordered
returns-in-Ok-clause-ordered c =
    let same = c.new-net.ensures ∙ same_circuit (blif_lines c.args.input.now) c.args.inputs c.args.covers c.requires.inputs c.requires.built in
    subst (λ n. IsOrderOf n c.in-Ok.graph) same c.in-Ok.ensures.graph

pub index-requires : goal.index-requires
index-requires c =
    let lines = blif_lines c.args.input.now in
    let same = c.new-net.ensures ∙ same_circuit lines c.args.inputs c.args.covers c.requires.inputs c.requires.built in
    let looped = c.in-Err-Cycle.ensures.cycle c.in-Err-Cycle.definition (ap Err c.in-Err-Cycle.field-0-is) in
    place_there lines c.args.covers c.in-Err-Cycle.definition c.requires.built (subst (λ n. IsFirstLooped n c.in-Err-Cycle.definition) same looped)

pub returns-in-Err-Cycle-clause-stop : goal.returns-in-Err-Cycle-clause-stop
returns-in-Err-Cycle-clause-stop c =
    let lines = blif_lines c.args.input.now in
    let same = c.new-net.ensures ∙ same_circuit lines c.args.inputs c.args.covers c.requires.inputs c.requires.built in
    let looped = c.in-Err-Cycle.ensures.cycle c.in-Err-Cycle.definition (ap Err c.in-Err-Cycle.field-0-is) in
    let found = cycle_found lines c.args.covers c.in-Err-Cycle.definition c.index.result.now c.requires.few c.requires.built (subst (λ n. IsFirstLooped n c.in-Err-Cycle.definition) same looped) c.index.ensures in
    inr (inr (inr (inr (inr (inr (inr (inl found)))))))

pub returns-in-Err-TooManyGates-clause-stop : goal.returns-in-Err-TooManyGates-clause-stop
returns-in-Err-TooManyGates-clause-stop c =
    let lines = blif_lines c.args.input.now in
    let same = c.new-net.ensures ∙ same_circuit lines c.args.inputs c.args.covers c.requires.inputs c.requires.built in
    let many = c.in-Err-TooManyGates.ensures.too_many (ap Err c.in-Err-TooManyGates.field-0-is) in
    inr (inr (inr (inr (inr (inr (inr (inr (gates_found (length c.args.input.now) lines c.requires.few (subst IsAcyclic same many.0) (subst (λ n. most_gates < gates_in n) same many.1)))))))))
