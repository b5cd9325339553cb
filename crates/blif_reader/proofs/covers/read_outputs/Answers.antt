use Rattle.std.proofs.Common.{◌*◌, ap, ◌∙◌}
use Rattle.circuits.specs.declared.netlist.Lit.{Lit}
use Rattle.blif_reader.specs.Covers.{literal_named}
use Rattle.blif_reader.specs.Numbers.{names_of}
use Rattle.blif_reader.proofs.BuildingLemmas.{Continues-more, read_more, unknown_fault}
use Rattle.net_file.proofs.StopLemmas.{stop_passed}
use Rattle.blif_reader.proofs.covers.read_outputs.Goals as goal

pub returns-in_err-signal-clause-stop : goal.returns-in_err-signal-clause-stop
returns-in_err-signal-clause-stop c =
    stop_passed c.signal_of.result _ _ _ _ c.in_err-signal.was c.from_residual.ensures.1 c.signal_of.ensures.stop (λ kind at. unknown_fault (names_of c.args.names.now) c.in-Some.word _ _ _ kind at c.loop-word.invariant.0.words c.in-Some.ensures.word)

pub loop-word-preserved : goal.loop-word-preserved
loop-word-preserved c =
    let names = names_of c.args.names.now in
    let literal = ap (λ n. let lit : Lit = record { 0 = 2 * n } in lit) c.in_ok-signal.ensures.signal in (
      record {
        outputs = read_more (literal_named names) c.push.new.self c.loop-word.outputs c.args.outputs.now c.in-Some.word _ _ _ _ c.in_ok-push.ensures.ok c.loop-word.invariant.0.outputs c.in-Some.ensures.word literal;
        words = Continues-more names c.in-Some.word _ _ _ c.in-Some.ensures.word c.in_ok-signal.ensures.known c.loop-word.invariant.0.words;
      },
      c.in-Some.ensures.lines ∙ c.loop-word.invariant.1,
    )
