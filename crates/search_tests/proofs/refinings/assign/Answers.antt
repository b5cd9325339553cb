use Rattle.std.proofs.Common.{ap, subst, sym}
use Rattle.pair_domains.specs.declared.entry.Entry.{Entry}
use Rattle.pair_domains.specs.declared.entry.Fate.TheVariants.{Assigned}
use Rattle.pair_domains.specs.declared.entry.Cause.TheVariants.{Choice}
use Rattle.pair_domains.specs.Trails.{Domained}
use Rattle.pair_search.specs.Grounded.{AreGrounded}
use Rattle.pair_search.proofs.GroundedLemmas.{grounded_push}
use Rattle.search_tests.proofs.refinings.assign.Goals as goal

pub returns-clause-shown : goal.returns-clause-shown
returns-clause-shown c = λ facts.
    let d = c.args.domains.now in
    let e : Entry = record { pair = c.args.pair; fate = Assigned Choice } in
    subst (AreGrounded c.args.graphs.now facts) (sym (ap (λ (after : Domained). after.entries) c.in_ok-assign.ensures.assigned)) (grounded_push c.args.graphs.now facts d.entries e (c.requires.shown facts) tt)
