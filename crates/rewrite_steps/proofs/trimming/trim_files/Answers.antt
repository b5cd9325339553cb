-- The netlists and the account were read, and what is left of it written; or one of them isn't there, or a call failed.
use Rattle.std.proofs.Common.{ℕ, List, Some, inl, arith, ap, sym, subst, ◌∙◌}
use Rattle.std.proofs.lemmas.Result.{err_from_is_err_and}
use Rattle.shelf_core.proofs.FaultLemmas.{none_before, rose_after}
use Rattle.check_steps.specs.Asks.{trim_request}
use Rattle.check_steps.specs.Ends.{EndsAt}
use Rattle.check_steps.specs.Files.{IsContent}
use Rattle.check_steps.specs.Reading.{IsReadFrom, netlist_of}
use Rattle.check_steps.specs.Stops.{outcome_of}
use Rattle.check_steps.specs.Words.{check_words}
use Rattle.check_steps.specs.declared.outcome.Which.TheVariants.{Second}
use Rattle.check_steps.proofs.CheckingLemmas.{at_first, at_second}
use Rattle.check_steps.proofs.ReadLemmas.{stop_is, stop_reading}
use Rattle.run_steps.proofs.CheckLemmas.{right_of_trim, stopped}
use Rattle.run_steps.proofs.FormLemmas.{check_of_trim}
use Rattle.rewrite_steps.proofs.DecideLemmas.{stop_right}
use Rattle.rewrite_steps.proofs.TrimLemmas.{no_old, trims_decides}
use Rattle.rewrite_steps.proofs.trimming.trim_files.Goals as goal

pub returns-in_err-first : goal.returns-in_err-first
returns-in_err-first g c =
    let p = err_from_is_err_and c.from_residual.result c.from_residual.ensures.1 in
    let o = c.in_err-first.field-0.0 in
    let asked = c.args.asked.now in
    let early = c.in_err-first.ensures.reading.early in
    stopped _ _ _ _ _ o tt (cc (p.1, p.2)) c.read_netlist.ensures.files
    (λ tells words asks.
    right_of_trim _ words (trim_request asked) o asks (λ matching e. early.line.unmatched matching (inl e)) early.no_refusal
    (at_first _ (check_words asked.first.now asked.second.now asked.account.now) _ _ _ (inl (check_of_trim words (trim_request asked) asks)) o (c.in_err-first.ensures.ended tells)))
    c.in_err-first.ensures.reading
    c.read_netlist.ensures.last
    (λ e. c.read_netlist.ensures.failed (cc (e, c.in_err-first.was)))

pub returns-in_err-second : goal.returns-in_err-second
returns-in_err-second g c =
    let p = err_from_is_err_and c.from_residual-in_err-second.result c.from_residual-in_err-second.ensures.1 in
    let o = c.in_err-second.field-0.0 in
    let asked = c.args.asked.now in
    let early = c.in_err-second.ensures.reading.early in
    stopped _ _ _ _ _ o tt (cc (p.1, p.2)) (λ n. c.read_netlist-2.ensures.files n ∙ c.read_netlist.ensures.files n)
    (λ tells words asks.
    right_of_trim _ words (trim_request asked) o asks (λ matching e. early.line.unmatched matching (inl e)) early.no_refusal
    (at_second _ (check_words asked.first.now asked.second.now asked.account.now) _ _ _ (netlist_of c.in_ok-first.ensures.found.circuit c.in_ok-first.first) (inl (check_of_trim words (trim_request asked) asks)) (c.in_ok-first.ensures.found.held tells) o
    (subst (λ content. EndsAt Second content o) (c.read_netlist.ensures.files _) (c.in_err-second.ensures.ended tells))))
    c.in_err-second.ensures.reading
    (omega (arith, c.in_ok-first.ensures.clean, c.read_netlist-2.ensures.last))
    (λ e. rose_after _ _ _ c.in_ok-first.ensures.clean (c.read_netlist-2.ensures.failed (cc (e, c.in_err-second.was))))

-- what stood under the account's name after the netlists were read stood there at first
pub returns-in-Some : goal.returns-in-Some
returns-in-Some g c =
    let asked = c.args.asked.now in
    let before = λ (n : List ℕ). c.read_netlist-2.ensures.files n ∙ c.read_netlist.ensures.files n in
    let held = (g.S.Shelf.state c.read_netlist-2.new.shelf).held asked.account.now in
    trims_decides _ asked _ _ _ c.in_ok-first.ensures.found
    (subst (λ content. IsReadFrom g.S.Shelf.tells content c.in_ok-second.second) (c.read_netlist.ensures.files asked.second.now) c.in_ok-second.ensures.found)
    c.deref.result.now
    (λ tells. sym (before asked.account.now) ∙ (subst (λ content. IsContent held content) c.in-Some.is (c.in_ok-account.ensures.found tells) ∙ ap Some (sym c.deref.ensures.value)))
    _ _ c.trim_by.result (λ n. c.read_whole.ensures.files n ∙ before n)
    (c.in_ok-account.ensures.clean ∙ c.in_ok-second.ensures.clean ∙ c.in_ok-first.ensures.clean) c.trim_by.ensures

pub returns : goal.returns
returns g c =
    let asked = c.args.asked.now in
    let before = λ (n : List ℕ). c.read_netlist-2.ensures.files n ∙ c.read_netlist.ensures.files n in
    let now = g.S.Shelf.state c.read_netlist-2.new.shelf in
    let held = now.held asked.account.now in
    no_old _ asked _ _ _ c.in_ok-first.ensures.found
    (subst (λ content. IsReadFrom g.S.Shelf.tells content c.in_ok-second.second) (c.read_netlist.ensures.files asked.second.now) c.in_ok-second.ensures.found)
    _ c.reported.result (λ n. c.read_whole.ensures.files n ∙ before n)
    (none_before (g.S.Shelf.state c.args.shelf.now) now (g.S.Shelf.state c.read_whole.new.shelf) (c.in_ok-second.ensures.clean ∙ c.in_ok-first.ensures.clean) c.read_whole.ensures.last)
    (λ tells. sym (before asked.account.now) ∙ subst (λ content. IsContent held content) c.in-None.is (c.in_ok-account.ensures.found tells))
    c.reported.ensures.same c.reported.ensures.line c.reported.ensures.memory

pub returns-in_err-account : goal.returns-in_err-account
returns-in_err-account g c =
    let p = err_from_is_err_and c.from_residual-in_err-account.result c.from_residual-in_err-account.ensures.1 in
    let s = c.in_err-account.field-0.0 in
    let old = g.S.Shelf.state c.args.shelf.now in
    let now = g.S.Shelf.state c.read_netlist-2.new.shelf in
    let new = g.S.Shelf.state c.read_whole.new.shelf in
    let clean = c.in_ok-second.ensures.clean ∙ c.in_ok-first.ensures.clean in
    stopped _ _ _ _ _ (outcome_of s) tt (cc (p.1, p.2)) (λ n. c.read_whole.ensures.files n ∙ c.read_netlist-2.ensures.files n ∙ c.read_netlist.ensures.files n)
    (λ tells words asks. stop_right _ words s)
    (stop_reading s)
    (none_before old now new clean c.read_whole.ensures.last)
    (λ e. rose_after old.faults now.faults new.faults clean (c.read_whole.ensures.failed (cc (stop_is s e, c.in_err-account.was))))
