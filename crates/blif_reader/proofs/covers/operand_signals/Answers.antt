use Rattle.std.proofs.Common.{◌∷◌, [], ap, ◌∙◌}
use Rattle.blif_reader.specs.Covers.{signal_named}
use Rattle.blif_reader.specs.Building.{but_last}
use Rattle.blif_reader.specs.Numbers.{names_of}
use Rattle.blif_reader.proofs.BuildingLemmas.{Continues-more, but_last-cons, read_more, unknown_fault}
use Rattle.net_file.proofs.StopLemmas.{stop_passed}
use Rattle.blif_reader.proofs.covers.operand_signals.Goals as goal

pub returns-in_err-signal-clause-stop : goal.returns-in_err-signal-clause-stop
returns-in_err-signal-clause-stop c =
    let left = ap (λ ws. but_last (c.loop-word.operand ∷ ws)) c.in-Some-next_word.ensures.word ∙ but_last-cons c.loop-word.operand c.in-Some-next_word.word _ in
    stop_passed c.signal_of.result _ _ _ _ c.in_err-signal.was c.from_residual.ensures.1 c.signal_of.ensures.stop (λ kind at. unknown_fault (names_of c.args.names.now) c.loop-word.operand _ _ _ kind at c.loop-word.invariant.0.words left)

pub loop-word-preserved : goal.loop-word-preserved
loop-word-preserved c =
    let names = names_of c.args.names.now in
    let left = ap (λ ws. but_last (c.loop-word.operand ∷ ws)) c.in-Some-next_word.ensures.word ∙ but_last-cons c.loop-word.operand c.in-Some-next_word.word _ in (
      record {
        signals_are = read_more (signal_named names) c.push.new.self c.loop-word.signals [] c.loop-word.operand _ _ _ c.in_ok-signal.signal c.in_ok-push.ensures.ok c.loop-word.invariant.0.signals_are left c.in_ok-signal.ensures.signal;
        words = Continues-more names c.loop-word.operand _ _ _ left c.in_ok-signal.ensures.known c.loop-word.invariant.0.words;
      },
      c.in-Some-next_word.ensures.lines ∙ c.loop-word.invariant.1,
    )
