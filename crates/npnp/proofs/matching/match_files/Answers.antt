-- The netlists were read, and a match of them was sought.
use Rattle.std.proofs.Common.{ℕ, List, inr, ◌∙◌, subst, arith}
use Rattle.check_steps.specs.Ends.{EndsAt}
use Rattle.check_steps.specs.Reading.{IsReadFrom, netlist_of}
use Rattle.check_steps.specs.declared.outcome.Which.TheVariants.{Second}
use Rattle.run_steps.proofs.CheckLemmas.{right_at_first, right_at_second, stopped}
use Rattle.shelf_core.proofs.FaultLemmas.{rose_after}
use Rattle.run_steps.proofs.FindLemmas.{finds_from}
use Rattle.run_steps.proofs.MatchLemmas.{finds}
use Rattle.npnp.proofs.ResultLemmas.{err_is}
use Rattle.npnp.proofs.matching.match_files.Goals as goal

pub returns-in_err-first : goal.returns-in_err-first
returns-in_err-first g c =
    let o = c.in_err-first.field-0.0 in
    stopped _ _ _ _ _ o tt (err_is _ c.from_residual.ensures.1) c.read_netlist.ensures.files
    (λ tells words asks. right_at_first _ words _ _ _ (inr (c.args.asked.now.budget, c.args.asked.now.seed, asks)) o (c.in_err-first.ensures.ended tells))
    c.in_err-first.ensures.reading
    c.read_netlist.ensures.last
    (λ e. c.read_netlist.ensures.failed (cc (e, c.in_err-first.was)))

pub returns-in_err-second : goal.returns-in_err-second
returns-in_err-second g c =
    let o = c.in_err-second.field-0.0 in
    stopped _ _ _ _ _ o tt (err_is _ c.from_residual-in_err-second.ensures.1) (λ n. c.read_netlist-2.ensures.files n ∙ c.read_netlist.ensures.files n)
    (λ tells words asks. right_at_second _ words _ _ _ (netlist_of c.in_ok-first.ensures.found.circuit c.in_ok-first.first) (inr (c.args.asked.now.budget, c.args.asked.now.seed, asks)) (c.in_ok-first.ensures.found.held tells) o (subst (λ content. EndsAt Second content o) (c.read_netlist.ensures.files _) (c.in_err-second.ensures.ended tells)))
    c.in_err-second.ensures.reading
    (omega (arith, c.in_ok-first.ensures.clean, c.read_netlist-2.ensures.last))
    (λ e. rose_after _ _ _ c.in_ok-first.ensures.clean (c.read_netlist-2.ensures.failed (cc (e, c.in_err-second.was))))

pub returns : goal.returns
returns g c =
    let files = λ (n : List ℕ). c.read_netlist-2.ensures.files n ∙ c.read_netlist.ensures.files n in
    let found = finds_from _ _ _ _ _ (g.S.Shelf.state c.args.shelf.now) _ _ c.find_of.result files (c.in_ok-second.ensures.clean ∙ c.in_ok-first.ensures.clean) c.find_of.ensures in
    finds _ c.args.asked.now _ _ _ _ c.in_ok-first.ensures.found
    (subst (λ content. IsReadFrom g.S.Shelf.tells content c.in_ok-second.second) (c.read_netlist.ensures.files c.args.asked.now.second.now) c.in_ok-second.ensures.found)
    found.others c.find_of.result found
