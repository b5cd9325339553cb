-- What a command asks for was decided.
use Rattle.std.proofs.Common.{sym, subst}
use Rattle.run_steps.specs.Steps.{Decides}
use Rattle.run_steps.proofs.CheckLemmas.{check_decides}
use Rattle.run_steps.proofs.TryingLemmas.{tries_decides}
use Rattle.npnp.proofs.run.follow.Goals as goal

pub returns-in-Check-clause-decides : goal.returns-in-Check-clause-decides
returns-in-Check-clause-decides g c = check_decides _ _ c.in-Check.check _ _ _ c.in-Check.is c.check_files.ensures

pub returns-in-Restore-clause-decides : goal.returns-in-Restore-clause-decides
returns-in-Restore-clause-decides g c = subst (λ command. Decides g.S.Shelf.tells command (g.S.Shelf.state c.args.shelf.now) (g.S.Shelf.state c.restore_files.new.shelf) c.restore_files.result) (sym c.in-Restore.is) c.restore_files.ensures

pub returns-in-Trim-clause-decides : goal.returns-in-Trim-clause-decides
returns-in-Trim-clause-decides g c = subst (λ command. Decides g.S.Shelf.tells command (g.S.Shelf.state c.args.shelf.now) (g.S.Shelf.state c.trim_files.new.shelf) c.trim_files.result) (sym c.in-Trim.is) c.trim_files.ensures

pub returns-in-Convert-clause-decides : goal.returns-in-Convert-clause-decides
returns-in-Convert-clause-decides g c = subst (λ command. Decides g.S.Shelf.tells command (g.S.Shelf.state c.args.shelf.now) (g.S.Shelf.state c.convert_files.new.shelf) c.convert_files.result) (sym c.in-Convert.is) c.convert_files.ensures

pub returns-in-Flatten-clause-decides : goal.returns-in-Flatten-clause-decides
returns-in-Flatten-clause-decides g c = subst (λ command. Decides g.S.Shelf.tells command (g.S.Shelf.state c.args.shelf.now) (g.S.Shelf.state c.flatten_files.new.shelf) c.flatten_files.result) (sym c.in-Flatten.is) c.flatten_files.ensures

pub returns-in-Sweep-clause-decides : goal.returns-in-Sweep-clause-decides
returns-in-Sweep-clause-decides g c = subst (λ command. Decides g.S.Shelf.tells command (g.S.Shelf.state c.args.shelf.now) (g.S.Shelf.state c.sweep_files.new.shelf) c.sweep_files.result) (sym c.in-Sweep.is) c.sweep_files.ensures

pub returns-in-Match-clause-decides : goal.returns-in-Match-clause-decides
returns-in-Match-clause-decides g c = subst (λ command. Decides g.S.Shelf.tells command (g.S.Shelf.state c.args.shelf.now) (g.S.Shelf.state c.match_files.new.shelf) c.match_files.result) (sym c.in-Match.is) c.match_files.ensures

pub returns-in-Info-clause-decides : goal.returns-in-Info-clause-decides
returns-in-Info-clause-decides g c = subst (λ command. Decides g.S.Shelf.tells command (g.S.Shelf.state c.args.shelf.now) (g.S.Shelf.state c.inform.new.shelf) c.inform.result) (sym c.in-Info.is) c.inform.ensures

pub returns-in-Make-clause-decides : goal.returns-in-Make-clause-decides
returns-in-Make-clause-decides g c = subst (λ command. Decides g.S.Shelf.tells command (g.S.Shelf.state c.args.shelf.now) (g.S.Shelf.state c.make_files.new.shelf) c.make_files.result) (sym c.in-Make.is) c.make_files.ensures

pub returns-in-Trial-clause-decides : goal.returns-in-Trial-clause-decides
returns-in-Trial-clause-decides g c =
    subst (λ command. Decides g.S.Shelf.tells command (g.S.Shelf.state c.args.shelf.now) (g.S.Shelf.state c.args.shelf.now) c.try_pair.result) (sym c.in-Trial.is)
    (tries_decides g.S.Shelf.tells c.in-Trial.trial (g.S.Shelf.state c.args.shelf.now) c.try_pair.result c.try_pair.ensures)
