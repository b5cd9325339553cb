use Rattle.std.proofs.Common.{◌≡◌, ◌&&◌, rules, tests, ap, ◌∙◌}
use Rattle.std.specs.List.{list_any}
use Rattle.std.proofs.lemmas.Iterator.{YieldsList-from_slice}
use Rattle.std.proofs.lemmas.Iterator.Search.{any_from_yields_List}
use Rattle.hier_blif.specs.NameFaults.{is_inputs_line, is_outputs_line}
use Rattle.hier_blif.proofs.names.has_port_lines.Goals as goal

pub returns : goal.returns
returns c =
    let lines = c.args.lines.now in
    let inputs : c.any.result ≡ list_any is_inputs_line lines = any_from_yields_List is_inputs_line _ _ _ c.any.ensures.ran (YieldsList-from_slice lines cc) (λ x b q k. search (rules, tests)) in
    let outputs : c.any-2.result ≡ list_any is_outputs_line lines = any_from_yields_List is_outputs_line _ _ _ c.any-2.ensures.ran (YieldsList-from_slice lines cc) (λ x b q k. search (rules, tests)) in
    ap (λ t. t && c.any-2.result) inputs ∙ ap (λ t. list_any is_inputs_line lines && t) outputs
