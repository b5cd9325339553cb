use Rattle.std.proofs.Common.{sym, ap, subst}
use Rattle.std.specs.List.{filter}
use Rattle.blif_reader.specs.JoinedLines.{has_words}
use Rattle.blif_reader.specs.Names.{read_words}
use Rattle.blif_reader.specs.Numbers.{names_of}
use Rattle.blif_reader.specs.Blif.{blif_lines}
use Rattle.blif_reader.specs.Building.{IsUnknownFault, IsBuilt, IsBuilding}
use Rattle.blif_reader.proofs.BlifLemmas.{undefined_name}
use Rattle.blif_reader.proofs.BuildingLemmas.{building_more, fault_in_line, built}
use Rattle.net_file.proofs.StopLemmas.{stop_passed}
use Rattle.blif_reader.proofs.covers.Covers.read_all.Goals as goal

pub loop-first-preserved : goal.loop-first-preserved
loop-first-preserved c =
    let names = names_of c.args.names.now in
    let all = blif_lines c.args.input.now in
    let here = subst (λ ls. IsBuilding names all ls c.loop-first.self) c.in-Some.ensures c.loop-first.invariant in
    let more = building_more names all _ _ c.loop-first.self c.read_line.new.self here c.in_ok-read_line.ensures.builds in
    subst (λ ls. IsBuilding names all ls c.read_line.new.self) (ap (filter has_words) (sym c.in_ok-read_line.ensures.lines)) more

pub returns-in_err-read_line-clause-stop : goal.returns-in_err-read_line-clause-stop
returns-in_err-read_line-clause-stop c =
    let lines = blif_lines c.args.input.now in
    let names = names_of c.args.names.now in
    let here = subst (λ ls. IsBuilding names lines ls c.loop-first.self) c.in-Some.ensures c.loop-first.invariant in
    stop_passed c.read_line.result _ _ _ _ c.in_err-read_line.was c.from_residual.ensures.1 c.read_line.ensures.stop (λ kind at found. undefined_name lines kind at c.requires.once (subst (λ ns. IsUnknownFault ns (read_words lines) kind at) c.requires.names (fault_in_line names lines _ _ c.loop-first.self kind at here found)))

pub returns-clause-built : goal.returns-clause-built
returns-clause-built c =
    let lines = blif_lines c.args.input.now in
    subst (λ ns. IsBuilt ns lines c.close.new.self) c.requires.names (built (names_of c.args.names.now) lines _ c.loop-first.self c.close.new.self c.in_default.ensures c.loop-first.invariant c.in_ok-close.ensures.defs c.in_ok-close.ensures.places c.in_ok-close.ensures.outputs)
