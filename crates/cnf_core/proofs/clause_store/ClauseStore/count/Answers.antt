use Rattle.std.proofs.Common.{length, sym, ap, ◌∙◌}
use Rattle.cnf_core.specs.Stores.{Stored}
use Rattle.cnf_core.proofs.StoreLemmas.{pieces_count}
use Rattle.cnf_core.proofs.clause_store.ClauseStore.count.Goals as goal

pub returns : goal.returns
returns c =
    c.len.ensures ∙ (c.self.inside.ends.ok.0 ∙ (sym (pieces_count 0 c.self.inside.ends.items c.self.inside.literals.items) ∙ ap (λ (s : Stored). length s.clauses) c.self.view_is))
