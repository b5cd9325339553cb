-- The variable of a gate.
use Rattle.std.proofs.Common.{◌-◌, ◌<◌, length, ap, ◌∙◌, arith}
use Rattle.claim_core.specs.Formulas.{plain}
use Rattle.query_core.specs.Variables.{variable_at}
use Rattle.query_core.proofs.VariableLemmas.{stand_in_by}
use Rattle.query_core.proofs.clauses.stand_in.Goals as goal

pub returns : goal.returns
returns c =
    let half = c.args.half.now in
    let s = c.args.signal in
    let after : length half.feed.now < s = omega (arith, c.if-signal-eq0.false, c.if-signal-inputs.false, c.len-inputs.ensures) in
    c.of-3.ensures
    ∙ (ap plain (c.of-2.ensures.value ∙ ap (λ n. variable_at half.variables.now (s - 1 - n)) c.len-inputs.ensures)
    ∙ stand_in_by half.graph.now half.feed.now half.variables.now half.output s c.requires.half after c.requires.there)
