use Rattle.std.proofs.Common.{Contains, subst}
use Rattle.pair_domains.specs.declared.entry.Fate.{Fate}
use Rattle.pair_domains.proofs.EntryLemmas.{assigned_undeleted}
use Rattle.pair_domains.proofs.domains.Domains.reason.Goals as goal

pub returns-in-Some-Assigned-clause-none : goal.returns-in-Some-Assigned-clause-none
returns-in-Some-Assigned-clause-none c =
    let entries = c.args.self.now.entries in
    let assigned = subst (λ (fate : Fate). Contains entries (record { pair = c.args.pair; fate = fate })) c.in-Some-Assigned.field-0-is c.in-Some-Assigned.ensures.found in
    assigned_undeleted entries c.args.pair c.in-Some-Assigned.field-0-0 c.entries-lawful.ensures.lawful.distinct assigned
