use Rattle.std.proofs.Common.{map, ap, sym, subst, ◌∙◌}
use Rattle.std.specs.Prelude.{All}
use Rattle.blif_reader.specs.Covers.{signal_named}
use Rattle.blif_reader.specs.Numbers.{names_of}
use Rattle.blif_reader.specs.Building.{IsKnownIn, IsUnknownFault}
use Rattle.blif_reader.proofs.BuildingLemmas.{operands-but_last, new_cover, no_more, one_place}
use Rattle.net_file.proofs.StopLemmas.{stop_passed}
use Rattle.blif_reader.proofs.covers.Covers.read_names.Goals as goal

pub returns-clause-builds : goal.returns-clause-builds
returns-clause-builds c =
    let names = names_of c.args.names.now in
    let operands = operands-but_last c.args.first _ in
    record {
      defs = c.in_ok-close.ensures.defs;
      current = new_cover c.in_ok-operand_signals.field-0 _ c.new.result (c.in_ok-operand_signals.ensures.signals ∙ ap (map (signal_named names)) (sym operands)) c.new.ensures;
      outputs = no_more _ _ c.in_ok-close.ensures.outputs;
      places = one_place _ _ _ _ _ c.in_ok-push.ensures.ok c.in_ok-close.ensures.places c.at.ensures.value;
      known = subst (All (IsKnownIn names)) (sym operands) c.in_ok-operand_signals.ensures.known;
    }

pub returns-in_err-operand_signals-clause-stop : goal.returns-in_err-operand_signals-clause-stop
returns-in_err-operand_signals-clause-stop c =
    stop_passed c.operand_signals.result _ _ _ _ c.in_err-operand_signals.was c.from_residual-in_err-operand_signals.ensures.1 c.operand_signals.ensures.stop (λ kind at. subst (λ ws. IsUnknownFault (names_of c.args.names.now) ws kind at) (sym (operands-but_last c.args.first _)))
