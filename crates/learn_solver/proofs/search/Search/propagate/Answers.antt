-- What was propagated fits, and where nothing is left all is quiet.
use Rattle.learn_solver.proofs.RunLemmas.{all_quiet_if, fitting_on}
use Rattle.learn_solver.proofs.search.Search.propagate.Goals as goal

pub returns-clause-keeps : goal.returns-clause-keeps
returns-clause-keeps c =
    let done = c.propagate-conflict.ensures in
    record {
      fitting = fitting_on c.args.self.now.watches c.propagate-conflict.new.self c.args.self.now.trail c.propagate-conflict.new.trail c.requires done.rewatched done.fits done.present done.implied done.grown;
      clauses = done.rewatched.clauses;
      variables = done.grown.variables;
      tools = λ formula ids are. are;
    }

pub returns-clause-none : goal.returns-clause-none
returns-clause-none c =
    let done = c.propagate-conflict.ensures in
    let new = c.propagate-conflict.new in
    let fitting = fitting_on c.args.self.now.watches new.self c.args.self.now.trail new.trail c.requires done.rewatched done.fits done.present done.implied done.grown in
    all_quiet_if new.self new.trail c.propagate-conflict.result c.walked-walked.ensures.trail fitting.covered done.quiet
