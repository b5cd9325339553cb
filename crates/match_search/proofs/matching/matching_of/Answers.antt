use Rattle.std.proofs.Common.{◌∙◌, sym, refl}
use Rattle.circuits.specs.declared.port.PortKind.TheVariants.{Input, Output}
use Rattle.match_search.proofs.MatchingLemmas.{bijection}
use Rattle.match_search.proofs.matching.matching_of.Goals as goal

pub returns-clause-ports : goal.returns-clause-ports
returns-clause-ports c = record {
  same_inputs = sym c.ports-inputs.ensures.second ∙ c.ports-inputs.ensures.first;
  same_outputs = sym c.ports-outputs.ensures.second ∙ c.ports-outputs.ensures.first;
  inputs = bijection c.args.graphs.now c.args.assigned.now Input c.in_ok-partners.field-0 c.args.graphs.now.first.inputs c.requires.assigned c.requires.whole refl (sym c.ports-inputs.ensures.second ∙ c.ports-inputs.ensures.first) (c.in_ok-partners.ensures.length ∙ c.ports-inputs.ensures.first) c.in_ok-partners.ensures.each;
  outputs = bijection c.args.graphs.now c.args.assigned.now Output c.in_ok-partners-2.field-0 _ c.requires.assigned c.requires.whole refl (sym c.ports-outputs.ensures.second ∙ c.ports-outputs.ensures.first) (c.in_ok-partners-2.ensures.length ∙ c.ports-outputs.ensures.first) c.in_ok-partners-2.ensures.each;
}
