-- What is left of the account was written, or it has a bad line. `trim` speaks of the value of `Graphs::new`.
use Rattle.std.proofs.Common.{refl, rules, subst}
use Rattle.rewrite_steps.specs.Rewriting.{IsBadLine, IsWhatIsLeft, Rewrites}
use Rattle.rewrite_steps.proofs.RewriteLemmas.{no_memory, refused, rewritten}
use Rattle.rewrite_steps.proofs.trimming.trim_by.Goals as goal

pub returns-in-Ok : goal.returns-in-Ok
returns-in-Ok g c =
    let account = c.args.account.now in
    let old = g.S.Shelf.state c.args.shelf.now in
    let new = g.S.Shelf.state c.end_written.new.shelf in
    let accepted = c.in-Ok.ensures.accepted in
    subst (λ graphs. Rewrites (IsWhatIsLeft graphs account) (IsBadLine graphs account) g.S.Shelf.tells c.args.name.now old new c.end_written.result) c.new-graphs.ensures
    (rewritten _ _ _ _ _ _ _ _ c.end_written.result
    (record { told = accepted.0; accepted = accepted.1; trimmed = c.in-Ok.trimmed; is = c.in-Ok.ensures.trimmed; outcome_is = refl; bytes_are = search rules })
    c.end_written.ensures)

pub returns-in-Err-Rejected : goal.returns-in-Err-Rejected
returns-in-Err-Rejected g c =
    let account = c.args.account.now in
    let old = g.S.Shelf.state c.args.shelf.now in
    let line = c.in-Err-Rejected.line in
    let why = c.in-Err-Rejected.why in
    subst (λ graphs. Rewrites (IsWhatIsLeft graphs account) (IsBadLine graphs account) g.S.Shelf.tells c.args.name.now old old c.reported.result) c.new-graphs.ensures
    (refused _ _ _ _ _ _ c.reported.result
    (line, why, refl, (c.trim.ensures.rejected line why (λ e. cc (e, c.in-Err-Rejected.is, c.in-Err-Rejected.field-0-is))).0 (cc (c.in-Err-Rejected.is, c.in-Err-Rejected.field-0-is)))
    c.reported.ensures.same c.reported.ensures.line c.reported.ensures.memory)

pub returns-in-Err-Memory : goal.returns-in-Err-Memory
returns-in-Err-Memory g c = no_memory _ _ _ _ _ _ refl
