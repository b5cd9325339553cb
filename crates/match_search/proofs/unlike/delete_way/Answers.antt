use Rattle.std.proofs.Common.{arith}
use Rattle.std.proofs.lemmas.List.Elements.{All-contains}
use Rattle.account_core.specs.Ports.{IsKnown}
use Rattle.pair_domains.specs.Trails.{assigned_in}
use Rattle.pair_search.proofs.PivotLemmas.{assigned_known}
use Rattle.match_search.proofs.AskLemmas.{deletes_one, known_of, shown_one}
use Rattle.match_search.proofs.StepLemmas.{steps_fail, steps_ok, steps_stop, way_bans, way_start}
use Rattle.match_search.proofs.unlike.delete_way.Goals as goal

pub returns-then-not-is_open : goal.returns-then-not-is_open
returns-then-not-is_open g c = record {
  steps = steps_ok (way_start c.requires.may);
  deletes = record { assigned = c.requires.assigned; less = omega arith };
}

pub unlike_beside-requires : goal.unlike_beside-requires
unlike_beside-requires g c =
    let d = c.args.domains.now in
    record {
      may = c.requires.may.may;
      known = All-contains (IsKnown c.args.graphs.now) (assigned_in d.entries) c.args.pair (assigned_known c.args.graphs.now d.inputs d.outputs d.entries c.requires.may.trail.trail.fit c.entries-lawful.ensures.lawful).known c.requires.assigned;
      way = known_of c.args.graphs.now d.inputs d.outputs c.args.way c.requires.may.trail.trail.fit (c.is_open.ensures.known c.if-not-is_open.false);
    }

pub returns-in_err-unlike-clause-steps : goal.returns-in_err-unlike-clause-steps
returns-in_err-unlike-clause-steps g c = steps_fail c.from_residual.ensures.1 (way_start c.requires.may) c.in_err-unlike.ensures.goes_on

pub returns-in_default : goal.returns-in_default
returns-in_default g c = record {
  steps = steps_ok (way_bans (way_start c.requires.may) c.in_ok-unlike.ensures.goes_on);
  deletes = record { assigned = c.requires.assigned; less = omega arith };
}

pub returns-in_err-delete-clause-steps : goal.returns-in_err-delete-clause-steps
returns-in_err-delete-clause-steps g c =
    steps_stop c.from_residual-in_err-delete.ensures.1 (way_bans (way_start c.requires.may) c.in_ok-unlike.ensures.goes_on)

pub returns : goal.returns
returns g c =
    let way = way_bans (way_start c.requires.may) c.in_ok-unlike.ensures.goes_on in
    let shown = rw c.in-Some.is at c.in_ok-unlike.ensures.shown in
    record {
      steps = steps_ok (record {
        same = way.same;
        made = way.made;
        trail = shown_one _ _ _ _ _ _ _ _ _ c.in_ok-delete.ensures.deleted way.trail c.requires.assigned shown;
        trials = way.trials;
      });
      deletes = deletes_one _ _ _ _ _ _ c.in_ok-delete.ensures.deleted c.requires.assigned c.entries-lawful.ensures.lawful (c.is_open.ensures.known c.if-not-is_open.false) (c.is_open.ensures.is c.if-not-is_open.false);
    }
