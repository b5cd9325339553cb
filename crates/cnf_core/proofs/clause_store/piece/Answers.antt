-- The ends ascend, so that the part is there.
use Rattle.std.proofs.Common.{length, take, drop, slice_index_or, ◌-◌, arith, ap, ◌∙◌}
use Rattle.cnf_core.proofs.StoreLemmas.{ends_ascend, piece_at}
use Rattle.cnf_core.proofs.clause_store.piece.Goals as goal

pub part-requires-clause-ascend : goal.part-requires-clause-ascend
part-requires-clause-ascend c =
    omega (arith, c.start_of.ensures, (ends_ascend 0 (length c.args.literals.now) c.args.ends.now c.args.id c.requires.ends c.requires.there).0)

pub part-requires-clause-within : goal.part-requires-clause-within
part-requires-clause-within c =
    (ends_ascend 0 (length c.args.literals.now) c.args.ends.now c.args.id c.requires.ends c.requires.there).1

pub returns : goal.returns
returns c =
    c.part.ensures ∙ (ap (λ start. take (slice_index_or c.args.ends.now c.args.id 0 - start) (drop start c.args.literals.now)) c.start_of.ensures ∙ piece_at 0 c.args.ends.now c.args.literals.now c.args.id c.requires.there)
