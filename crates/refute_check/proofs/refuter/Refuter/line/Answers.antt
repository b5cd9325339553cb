-- The line is the last, and the refuter is closed where it is empty.
use Rattle.std.proofs.Common.{◌≡◌, [], ◌∷◌, ◌++◌, sym, ap, rules, ◌∙◌, arith}
use Rattle.std.proofs.lemmas.Grind.{common_steps}
use Rattle.refute_check.specs.Refutations.{ends_empty}
use Rattle.refute_check.proofs.RefuterLemmas.{ends_empty_push, length_zero}
use Rattle.refute_check.proofs.refuter.Refuter.line.Goals as goal

pub invariant_of-self-2 : goal.invariant_of-self-2
invariant_of-self-2 g c =
    let clauses : c.put_reserved.new.self.clauses ≡ c.self.inside.taken.clauses ++ c.args.line.now.clause ∷ [] = search rules in
    record {
      variables = search rules;
      none_made = search rules;
      known = grind (arith, common_steps);
      closed_is = grind (arith, common_steps);
      last_is = c.is_empty-self-inside.ensures ∙ (length_zero c.args.line.now.clause ∙ (sym (ends_empty_push c.self.inside.taken.clauses c.args.line.now.clause) ∙ ap ends_empty (sym clauses)));
    }
