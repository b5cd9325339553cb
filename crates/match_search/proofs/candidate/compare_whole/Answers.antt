use Rattle.std.proofs.Common.{List, sym, subst}
use Rattle.circuits.specs.declared.port.Pair.{Pair}
use Rattle.circuits.specs.Netlists.{Net}
use Rattle.claim_core.specs.Images.{Extends}
use Rattle.sim_patterns.specs.Trials.{AreTrials}
use Rattle.account_core.specs.Assigned.{AreAssignable, IsWhole}
use Rattle.pair_search.proofs.PivotLemmas.{assigned_known}
use Rattle.match_search.proofs.CompareLemmas.{shown_match}
use Rattle.match_search.proofs.SearchLemmas.{may_ask}
use Rattle.match_search.proofs.StepLemmas.{goes_asked, may_go_on, same_asker, steps_cut, steps_fail, steps_ok, steps_stop, steps_unkept, way_bans, way_start}
use Rattle.match_search.proofs.StepLemmas.{way_tried}
use Rattle.match_search.proofs.candidate.compare_whole.Goals as goal

pub matching_of-requires : goal.matching_of-requires
matching_of-requires g c =
    let d = c.args.domains.now in
    record {
      assigned = subst (AreAssignable c.args.graphs.now) (sym c.pairs.ensures.value) (assigned_known c.args.graphs.now d.inputs d.outputs d.entries c.requires.may.trail.trail.fit c.entries-lawful.ensures.lawful);
      whole = subst (IsWhole c.args.graphs.now) (sym c.pairs.ensures.value) c.requires.whole;
    }

pub returns-in_err-matching-clause-steps : goal.returns-in_err-matching-clause-steps
returns-in_err-matching-clause-steps g c = steps_stop c.from_residual.ensures.1 (way_start c.requires.may)

pub compare_all-requires-clause-may : goal.compare_all-requires-clause-may
compare_all-requires-clause-may g c = may_ask c.requires.may.may

pub returns-in_err-compare_all-clause-steps : goal.returns-in_err-compare_all-clause-steps
returns-in_err-compare_all-clause-steps g c =
    steps_fail c.from_residual-in_err-compare_all.ensures.1 (way_start c.requires.may) (goes_asked c.requires.may.may c.in_err-compare_all.ensures.serves)

pub returns-in-None-clause-steps : goal.returns-in-None-clause-steps
returns-in-None-clause-steps g c = steps_ok (way_bans (way_start c.requires.may) (goes_asked c.requires.may.may c.in_ok-compare_all.ensures.serves))

pub returns-in-None-clause-compared : goal.returns-in-None-clause-compared
returns-in-None-clause-compared g c =
    shown_match c.args.graphs.now c.in_ok-matching.matching c.compare_all.new.logs c.first-first.ensures.sound c.second-second.ensures.sound c.in_ok-matching.ensures.ports (rw c.in-None.is at c.in_ok-compare_all.ensures.same)

pub returns-in_err-keep-in-Some-clause-steps : goal.returns-in_err-keep-in-Some-clause-steps
returns-in_err-keep-in-Some-clause-steps g c =
    steps_unkept c.from_residual-in_err-keep-in-Some.ensures.1 (way_bans (way_start c.requires.may) (goes_asked c.requires.may.may c.in_ok-compare_all.ensures.serves))

pub exclude-requires-clause-may : goal.exclude-requires-clause-may
exclude-requires-clause-may g c =
    (may_go_on c.requires.may.may (way_bans (way_start c.requires.may) (goes_asked c.requires.may.may c.in_ok-compare_all.ensures.serves))).may

pub returns-in_err-ban-in-Some-clause-steps : goal.returns-in_err-ban-in-Some-clause-steps
returns-in_err-ban-in-Some-clause-steps g c =
    steps_cut c.from_residual-in_err-ban-in-Some.ensures.1 (way_bans (way_start c.requires.may) (goes_asked c.requires.may.may c.in_ok-compare_all.ensures.serves)) (same_asker c.in_err-ban-in-Some.ensures.same) c.in_err-ban-in-Some.ensures.makes

pub returns-in_ok-ban-in-Some : goal.returns-in_ok-ban-in-Some
returns-in_ok-ban-in-Some g c = record {
  steps = steps_ok (way_tried (way_bans (way_start c.requires.may) (goes_asked c.requires.may.may c.in_ok-compare_all.ensures.serves)) c.in_ok-ban-in-Some.ensures.same c.in_ok-ban-in-Some.ensures.makes (subst (λ (net : Net). AreTrials net c.keep.new.self) c.first.ensures.value c.in_ok-keep-in-Some.ensures.trials));
  compared =
      c.in_ok-ban-in-Some.ensures.covers _ c.requires.whole
      (subst (λ (assigned : List Pair). Extends assigned c.in_ok-matching.matching.inputs c.in_ok-matching.matching.outputs) c.pairs.ensures.value c.in_ok-matching.ensures.extends);
}
