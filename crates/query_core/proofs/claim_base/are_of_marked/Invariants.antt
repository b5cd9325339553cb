-- What is left decides.
use Rattle.std.proofs.Common.{◌≡◌, drop}
use Rattle.std.specs.List.{list_all}
use Rattle.query_core.specs.ClaimClauses.{is_of_marked}
use Rattle.query_core.proofs.claim_base.are_of_marked.Given as goal

abbrev pub invariant-loop-id : goal.invariant-loop-id
invariant-loop-id l = list_all (is_of_marked l.gates l.marked) (drop l.id-index l.ids) ≡ list_all (is_of_marked l.gates l.marked) l.ids
