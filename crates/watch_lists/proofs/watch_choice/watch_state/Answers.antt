-- What the other literals are.
use Rattle.std.proofs.Common.{◌≡◌, None, Some, false, sym, ap, ◌∙◌}
use Rattle.cnf_core.specs.Clauses.{clause_at}
use Rattle.trail_core.specs.Trails.{literals, value_in}
use Rattle.trail_core.proofs.TrailLemmas.{not_false, not_true}
use Rattle.watch_lists.proofs.EffectLemmas.{all_but, all_false, conflict_from, known_at, makes_from, value_false}
use Rattle.watch_lists.proofs.watch_choice.watch_state.Goals as goal

pub returns-in-None-replacement : goal.returns-in-None-replacement
returns-in-None-replacement c =
    let made = literals c.args.trail.now.entries in
    let clause = clause_at c.args.clauses.now.clauses c.args.id in
    let value : value_in made c.args.other ≡ Some false = sym c.value.ensures ∙ (c.in-Some-false.is ∙ ap Some c.in-Some-false.field-0-test) in
    conflict_from made clause (all_false made clause c.args.other (value_false made c.args.other value) (all_but made clause c.args.other c.in-None-replacement.ensures.none))

pub returns-in-None-replacement-2 : goal.returns-in-None-replacement-2
returns-in-None-replacement-2 c =
    let made = literals c.args.trail.now.entries in
    let clause = clause_at c.args.clauses.now.clauses c.args.id in
    let value : value_in made c.args.other ≡ None = sym c.value.ensures ∙ c.in-None.is in
    record {
      makes = makes_from made clause c.args.other (record {
        others = all_but made clause c.args.other c.in-None-replacement-2.ensures.none;
        not_true = not_true made c.args.other value;
        not_false = not_false made c.args.other value;
        there = c.requires.half.other_there;
      });
      free = record { known = known_at c.args.trail.now.variables clause c.args.other c.requires.known c.requires.half.other_there; unassigned = value };
    }
