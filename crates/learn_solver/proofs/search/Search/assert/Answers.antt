-- A learned clause is attached at the level to go back to.
use Rattle.std.proofs.Common.{◌≡◌, List, length, sym, subst, ap, ◌∙◌, arith}
use Rattle.cnf_core.specs.declared.literal.SatLit.{SatLit}
use Rattle.cnf_core.specs.declared.effect.Effect.TheVariants.{Conflict}
use Rattle.cnf_core.specs.Clauses.{clause_at}
use Rattle.cnf_core.specs.Derivations.{effect_of}
use Rattle.trail_core.specs.Trails.{Trailing, literals}
use Rattle.watch_lists.specs.Attachments.{IsReached}
use Rattle.watch_lists.specs.Propagations.{AreImplied}
use Rattle.watch_lists.specs.Watched.{Fits, IsCovered, IsRewatched, Watching, with_clause}
use Rattle.watch_lists.proofs.AttachLemmas.{fits_added}
use Rattle.watch_lists.proofs.KeepLemmas.{fits_back}
use Rattle.learn_solver.proofs.GoneLemmas.{added_at, back_present, back_reached, freed, gone}
use Rattle.learn_solver.proofs.search.Search.assert.Goals as goal

pub leave-requires-clause-level : goal.leave-requires-clause-level
leave-requires-clause-level c = omega (arith, c.requires.asserting.lower c.requires.above)

pub attach-requires-clause-fits : goal.attach-requires-clause-fits
attach-requires-clause-fits c =
    let w = c.args.self.now.watches in
    let back = c.leave.new.self in
    let added = c.leave.ensures.watches ∙ c.in_ok-id.ensures.added in
    subst (λ (x : Watching). Fits x back.trail) (sym added) (fits_added w c.args.clause.now back.trail (omega (arith, c.in_ok-id.ensures.size)) (fits_back w c.args.self.now.trail back.trail c.args.level c.requires.movable.fitting.fits c.leave.ensures.back))

pub attach-requires-clause-present : goal.attach-requires-clause-present
attach-requires-clause-present c = back_present c.args.self.now.trail c.leave.new.self.trail c.args.level c.leave.ensures.back c.requires.movable.fitting.present (c.requires.asserting.lower c.requires.above)

pub attach-requires-clause-reached : goal.attach-requires-clause-reached
attach-requires-clause-reached c =
    let w = c.args.self.now.watches in
    let added = c.leave.ensures.watches ∙ c.in_ok-id.ensures.added in
    let there = ap (λ (x : Watching). clause_at x.clauses c.in_ok-id.id) added ∙ (ap (clause_at (with_clause c.args.clause.now w).clauses) c.in_ok-id.ensures.number ∙ added_at w c.args.clause.now) in
    subst (λ (cl : List SatLit). IsReached c.leave.new.self.trail cl) (sym there) (back_reached c.args.self.now.trail c.leave.new.self.trail c.args.level c.args.clause.now c.leave.ensures.back c.requires.asserting)

pub unreachable-requires : goal.unreachable-requires
unreachable-requires c =
    let w = c.args.self.now.watches in
    let clause = c.args.clause.now in
    let back = c.leave.new.self.trail in
    let clauses = c.in_default.ensures.attached.clauses ∙ ap (λ (x : Watching). x.clauses) (c.leave.ensures.watches ∙ c.in_ok-id.ensures.added) in
    let there = ap (clause_at c.attach.new.self.clauses) (c.in_default.ensures.named ∙ c.in_ok-id.ensures.number) ∙ (ap (λ (cs : List (List SatLit)). clause_at cs (length w.clauses)) clauses ∙ added_at w clause) in
    let conflict : effect_of (literals back.entries) clause ≡ Conflict = ap (effect_of (literals back.entries)) (sym there) ∙ (ap (λ (x : Trailing). effect_of (literals x.entries) (clause_at c.attach.new.self.clauses c.in_default.field-0)) (sym c.in_default.ensures.same) ∙ c.in_default.ensures.conflict.conflict) in
    freed c.args.self.now.trail back c.args.level clause c.walked-walked.ensures.trail c.leave.ensures.back c.requires.asserting c.requires.above conflict

pub returns-clause-returned : goal.returns-clause-returned
returns-clause-returned c =
    let w = c.args.self.now.watches in
    let clause = c.args.clause.now in
    let after = c.attach.new.self in
    let is = c.leave.ensures.back in
    let rewatched = subst (λ (x : Watching). IsRewatched x after) (c.leave.ensures.watches ∙ c.in_ok-id.ensures.added) c.attach.ensures.attached in
    let sound = c.requires.sound c.leave.new.self.trail is in
    let implied = subst (λ (x : Watching). AreImplied x.clauses c.leave.new.self.trail c.attach.new.trail) (c.leave.ensures.watches ∙ c.in_ok-id.ensures.added) c.attach.ensures.implied in
    let covered = subst (IsCovered after c.attach.new.trail.entries) c.in_ok-id.ensures.number c.in-None.ensures.covered in
    record {
      fitting = gone w after clause c.args.self.now.trail c.leave.new.self.trail c.attach.new.trail c.args.level c.requires.movable.fitting c.in_ok-id.ensures.size is rewatched c.attach.ensures.fits c.attach.ensures.present sound implied c.attach.ensures.grown covered;
      clauses = rewatched.clauses;
      variables = c.attach.ensures.grown.variables ∙ is.variables;
      tools = c.leave.ensures.tools;
    }
