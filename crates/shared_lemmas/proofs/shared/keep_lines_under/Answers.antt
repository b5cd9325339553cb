-- The lines of the last query hold under the query's feeds too.
use Rattle.std.proofs.Common.{subst}
use Rattle.shared_lemmas.specs.Shared.{IsUnder}
use Rattle.shared_lemmas.proofs.PaidLemmas.{paid_under}
use Rattle.shared_lemmas.proofs.SharedLaws.{of_one, shared_under}
use Rattle.shared_lemmas.proofs.shared.keep_lines_under.Goals as goal

pub returns-then-is_under-clause-hold : goal.returns-then-is_under-clause-hold
returns-then-is_under-clause-hold c =
    shared_under _ _ _ _ c.requires.shared (subst (IsUnder c.args.query.now) c.deref.ensures.value (c.is_under.ensures c.if-is_under.true))

pub returns-then-is_under-clause-shared : goal.returns-then-is_under-clause-shared
returns-then-is_under-clause-shared c =
    of_one _ _ _ _ c.in_ok-own.ensures (shared_under _ _ _ _ c.requires.shared (subst (IsUnder c.args.query.now) c.deref.ensures.value (c.is_under.ensures c.if-is_under.true)))

pub returns-then-is_under-clause-paid : goal.returns-then-is_under-clause-paid
returns-then-is_under-clause-paid c asked known =
    paid_under _ _ _ asked _ (subst (IsUnder c.args.query.now) c.deref.ensures.value (c.is_under.ensures c.if-is_under.true)) known
