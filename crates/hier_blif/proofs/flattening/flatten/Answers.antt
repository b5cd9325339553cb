use Rattle.std.proofs.Common.{sym, subst, ◌∙◌}
use Rattle.circuits.specs.Literals.{plain_literal}
use Rattle.circuits.specs.Circuits.{IsClosed}
use Rattle.hier_blif.specs.Names.{inputs_of, outputs_of}
use Rattle.hier_blif.specs.Scopes.{model_at}
use Rattle.hier_blif.specs.Frames.{models_in, IsNameOf, own_signal}
use Rattle.hier_blif.proofs.TakeLemmas.{keys_long, all_by_keys, map_by_keys}
use Rattle.hier_blif.proofs.WholeLemmas.{outputs_known, outputs_few, net_is, net_small, net_closed, places_are}
use Rattle.hier_blif.proofs.flattening.flatten.Goals as goal

pub output_literals-requires-clause-frame : goal.output_literals-requires-clause-frame
output_literals-requires-clause-frame c = c.in_ok-top.ensures.frame_is

pub output_literals-requires-clause-names : goal.output_literals-requires-clause-names
output_literals-requires-clause-names c =
    let models = models_in c.args.blocks.now in
    let top = c.in_ok-top.top in
    all_by_keys (IsNameOf models top) c.output_names.result.now.keys (outputs_of (model_at models 0)) c.output_names.ensures (outputs_known models c.args.depth top c.requires.blocks.named c.requires.top c.in_ok-top.ensures)

pub flatten_from-requires-clause-frame : goal.flatten_from-requires-clause-frame
flatten_from-requires-clause-frame c = c.in_ok-top.ensures.frame_is

pub new-requires-clause-closed : goal.new-requires-clause-closed
new-requires-clause-closed c =
    let models = models_in c.args.blocks.now in
    let top = c.in_ok-top.top in
    let inputs = c.len-inputs.ensures.len ∙ keys_long c.input_names.result.now.keys (inputs_of (model_at models 0)) c.input_names.ensures in
    let outputs = c.in_ok-outputs.ensures ∙ map_by_keys (λ name. plain_literal (own_signal models top name)) c.output_names.result.now.keys (outputs_of (model_at models 0)) c.output_names.ensures in
    let is = net_is models c.args.depth _ top _ _ c.in_ok-top.ensures inputs c.in_ok-flattening.ensures.defs outputs in
    subst IsClosed (sym is) (net_closed models c.args.depth c.requires.blocks.named c.requires.wide c.requires.top)

pub new-requires-clause-signals : goal.new-requires-clause-signals
new-requires-clause-signals c =
    let models = models_in c.args.blocks.now in
    let inputs = c.len-inputs.ensures.len ∙ keys_long c.input_names.result.now.keys (inputs_of (model_at models 0)) c.input_names.ensures in
    net_small models c.args.depth _ c.in_ok-top.top _ c.requires.top c.in_ok-top.ensures inputs c.in_ok-flattening.ensures.defs

pub new-requires-clause-outputs : goal.new-requires-clause-outputs
new-requires-clause-outputs c =
    let models = models_in c.args.blocks.now in
    let top = c.in_ok-top.top in
    let outputs = c.in_ok-outputs.ensures ∙ map_by_keys (λ name. plain_literal (own_signal models top name)) c.output_names.result.now.keys (outputs_of (model_at models 0)) c.output_names.ensures in
    outputs_few models c.args.depth top _ c.requires.top outputs

pub returns : goal.returns
returns c =
    let models = models_in c.args.blocks.now in
    let top = c.in_ok-top.top in
    let inputs = c.len-inputs.ensures.len ∙ keys_long c.input_names.result.now.keys (inputs_of (model_at models 0)) c.input_names.ensures in
    let outputs = c.in_ok-outputs.ensures ∙ map_by_keys (λ name. plain_literal (own_signal models top name)) c.output_names.result.now.keys (outputs_of (model_at models 0)) c.output_names.ensures in
    record {
      net = c.new.ensures ∙ net_is models c.args.depth _ top _ _ c.in_ok-top.ensures inputs c.in_ok-flattening.ensures.defs outputs;
      places = places_are models c.args.depth top _ c.in_ok-top.ensures c.in_ok-flattening.ensures.places;
    }
