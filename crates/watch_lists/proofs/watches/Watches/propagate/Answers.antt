-- What fits is walked.
use Rattle.std.proofs.Common.{sym, ap, subst, ◌∙◌}
use Rattle.watch_lists.specs.Watched.{Fits, Watching}
use Rattle.watch_lists.proofs.PassLemmas.{quiet_if, ready_from}
use Rattle.watch_lists.proofs.watches.Watches.propagate.Goals as goal

pub walk_all-conflict-requires : goal.walk_all-conflict-requires
walk_all-conflict-requires c =
    let old = c.self.inside in
    let w : Watching = record { variables = old.variables; clauses = old.clauses.clauses; watches = old.lists.watches.items } in
    let t = c.args.trail.now in
    record { ready = ready_from w old.lists.store t c.self.invariant c.walked-walked.ensures.trail (subst (λ (x : Watching). Fits x t) (sym c.self.view_is) c.requires.fits) c.requires.present }

pub returns-clause-quiet : goal.returns-clause-quiet
returns-clause-quiet c =
    let old = c.self.inside in
    let done = c.walk_all-conflict in
    let variables = sym (done.ensures.grown.variables ∙ (c.requires.fits.variables ∙ ap (λ (w : Watching). w.variables) (sym c.self.view_is))) in
    quiet_if (record { variables = old.variables; clauses = old.clauses.clauses; watches = done.new.lists.watches.items }) done.new.lists.store done.new.trail done.result done.ensures.ready variables done.ensures.walked
