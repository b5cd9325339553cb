-- What the files say, one after the other: no call changes what is held.
use Rattle.std.proofs.Common.{inl, ◌∙◌, subst, arith}
use Rattle.std.proofs.lemmas.Result.{err_from_is_err_and}
use Rattle.check_steps.specs.Ends.{EndsAt}
use Rattle.check_steps.specs.Judged.{IsVerdict, graphs_of}
use Rattle.check_steps.specs.Reading.{IsReadFrom, netlist_of}
use Rattle.check_steps.specs.Stops.{outcome_of}
use Rattle.check_steps.specs.declared.outcome.Which.TheVariants.{Second}
use Rattle.check_steps.proofs.CheckingLemmas.{at_first, at_second, judging_stopped, stop_end}
use Rattle.check_steps.proofs.ReadLemmas.{stop_reading, stop_is}
use Rattle.shelf_core.proofs.FaultLemmas.{rose_after}
use Rattle.check_steps.proofs.checking.judge_files.Goals as goal

pub returns-in_err-first : goal.returns-in_err-first
returns-in_err-first g c =
    let p = err_from_is_err_and c.from_residual.result c.from_residual.ensures.1 in
    let o = c.in_err-first.field-0.0 in
    judging_stopped _ _ _ _ _ o (cc (p.1, p.2)) c.read_netlist.ensures.files
    (λ tells words asks. at_first _ words _ _ _ (inl asks) o (c.in_err-first.ensures.ended tells))
    c.in_err-first.ensures.reading
    c.read_netlist.ensures.last
    (λ e. c.read_netlist.ensures.failed (cc (e, c.in_err-first.was)))

pub returns-in_err-second : goal.returns-in_err-second
returns-in_err-second g c =
    let p = err_from_is_err_and c.from_residual-in_err-second.result c.from_residual-in_err-second.ensures.1 in
    let o = c.in_err-second.field-0.0 in
    judging_stopped _ _ _ _ _ o (cc (p.1, p.2)) (λ n. c.read_netlist-2.ensures.files n ∙ c.read_netlist.ensures.files n)
    (λ tells words asks. at_second _ words _ _ _ (netlist_of c.in_ok-first.ensures.found.circuit c.in_ok-first.first) (inl asks) (c.in_ok-first.ensures.found.held tells) o (subst (λ content. EndsAt Second content o) (c.read_netlist.ensures.files _) (c.in_err-second.ensures.ended tells)))
    c.in_err-second.ensures.reading
    (omega (arith, c.in_ok-first.ensures.clean, c.read_netlist-2.ensures.last))
    (λ e. rose_after _ _ _ c.in_ok-first.ensures.clean (c.read_netlist-2.ensures.failed (cc (e, c.in_err-second.was))))

pub returns-in_err-outcome : goal.returns-in_err-outcome
returns-in_err-outcome g c =
    let p = err_from_is_err_and c.from_residual-in_err-outcome.result c.from_residual-in_err-outcome.ensures.1 in
    let s = c.in_err-outcome.field-0.0 in
    judging_stopped _ _ _ _ _ (outcome_of s) (cc (p.1, p.2)) (λ n. c.judge.ensures.judges.files n ∙ c.read_netlist-2.ensures.files n ∙ c.read_netlist.ensures.files n)
    (λ tells words asks. stop_end _ words s)
    (stop_reading s)
    (omega (arith, c.in_ok-first.ensures.clean, c.in_ok-second.ensures.clean, c.judge.ensures.judges.last))
    (λ e. let is = stop_is s e in rose_after _ _ _ (c.in_ok-second.ensures.clean ∙ c.in_ok-first.ensures.clean) (c.judge.ensures.judges.failed (cc (is, c.in_err-outcome.was))))

pub returns : goal.returns
returns g c =
    let there = c.read_netlist-2.ensures.files c.args.check.now.account.now ∙ c.read_netlist.ensures.files c.args.check.now.account.now in
    let judges = c.in_ok-outcome.ensures.judges in
    let clean = judges.clean ∙ c.in_ok-second.ensures.clean ∙ c.in_ok-first.ensures.clean in
    record {
      files = λ n. c.judge.ensures.judges.files n ∙ c.read_netlist-2.ensures.files n ∙ c.read_netlist.ensures.files n;
      closed = c.in_ok-outcome.ensures.closed;
      first = c.in_ok-first.ensures.found;
      second = subst (λ content. IsReadFrom g.S.Shelf.tells content c.in_ok-second.second) (c.read_netlist.ensures.files c.args.check.now.second.now) c.in_ok-second.ensures.found;
      verdict = λ tells. subst (λ content. IsVerdict (graphs_of c.in_ok-first.first c.in_ok-second.second) content c.in_ok-outcome.outcome) there (judges.right tells);
      matches = judges.matches;
      refuses = judges.refuses;
      judged = judges.judged;
      right = λ tells words asks. tt;
      early = tt;
      clean = clean;
      last = omega (arith, c.in_ok-first.ensures.clean, c.in_ok-second.ensures.clean, judges.clean);
      failed = λ e. cc;
    }
