use Rattle.std.proofs.Common.{length, ap, arith}
use Rattle.cnf_core.specs.Stores.{Stored}
use Rattle.cnf_core.proofs.StoreLemmas.{pieces_count}
use Rattle.cnf_core.proofs.clause_store.ClauseStore.get.Goals as goal

pub piece-requires-clause-there : goal.piece-requires-clause-there
piece-requires-clause-there c =
    omega (arith, c.requires, ap (λ (s : Stored). length s.clauses) c.self.view_is, pieces_count 0 c.self.inside.ends.items c.self.inside.literals.items, ap length c.deref-2.ensures.value)
