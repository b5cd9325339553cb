-- The file was read and flattened, or it isn't there or is too long, or a call failed.
use Rattle.std.proofs.Common.{◌≤◌, length, Some, ap, sym, subst, ◌∙◌, refl}
use Rattle.std.proofs.lemmas.Result.{err_from_is_err_and}
use Rattle.net_core.specs.Limits.{most_bytes}
use Rattle.check_steps.specs.Files.{IsWithin, Tells}
use Rattle.check_steps.specs.Stops.{outcome_of}
use Rattle.check_steps.proofs.ReadLemmas.{stop_is, stop_reading}
use Rattle.run_steps.proofs.CheckLemmas.{stopped}
use Rattle.rewrite_steps.proofs.DecideLemmas.{stop_right}
use Rattle.rewrite_steps.proofs.FlattenLemmas.{flattens_decides, long_file, no_file}
use Rattle.rewrite_steps.proofs.flattening.flatten_files.Goals as goal

pub returns-in_err-read_file : goal.returns-in_err-read_file
returns-in_err-read_file g c =
    let p = err_from_is_err_and c.from_residual.result c.from_residual.ensures.1 in
    let s = c.in_err-read_file.field-0.0 in
    stopped _ _ _ _ _ (outcome_of s) tt (cc (p.1, p.2)) c.read_file.ensures.files
    (λ tells words asks. stop_right _ words s)
    (stop_reading s)
    c.read_file.ensures.last
    (λ e. c.read_file.ensures.failed (cc (stop_is s e, c.in_err-read_file.was)))

pub returns-in-Absent : goal.returns-in-Absent
returns-in-Absent g c =
    let asked = c.args.asked.now in
    let held = (g.S.Shelf.state c.args.shelf.now).held asked.file.now in
    no_file _ asked _ _ c.reported.result c.read_file.ensures.files c.read_file.ensures.last
    (λ tells. (refl, subst (Tells 67108864 held) c.in-Absent.is (c.in_ok-read_file.ensures.found tells)))
    c.reported.ensures.same c.reported.ensures.line c.reported.ensures.memory

pub returns-in-TooLong : goal.returns-in-TooLong
returns-in-TooLong g c =
    let asked = c.args.asked.now in
    let held = (g.S.Shelf.state c.args.shelf.now).held asked.file.now in
    long_file _ asked _ _ c.reported-in-TooLong.result c.read_file.ensures.files c.read_file.ensures.last
    (λ tells. let much = subst (Tells 67108864 held) c.in-TooLong.is (c.in_ok-read_file.ensures.found tells) in (refl, record { bytes = much.0; there = much.1; long = much.2 }))
    c.reported-in-TooLong.ensures.same c.reported-in-TooLong.ensures.line c.reported-in-TooLong.ensures.memory

pub returns-in-Bytes : goal.returns-in-Bytes
returns-in-Bytes g c =
    let asked = c.args.asked.now in
    let held = (g.S.Shelf.state c.args.shelf.now).held asked.file.now in
    flattens_decides _ asked _ c.deref.result.now
    (subst (λ file. length file ≤ most_bytes) (sym c.deref.ensures.value) (subst (IsWithin 67108864) c.in-Bytes.is c.in_ok-read_file.ensures.short))
    (λ tells. (subst (Tells 67108864 held) c.in-Bytes.is (c.in_ok-read_file.ensures.found tells)).0 ∙ ap Some (sym c.deref.ensures.value))
    _ _ c.flatten_to.result c.read_file.ensures.files c.in_ok-read_file.ensures.clean c.flatten_to.ensures
