-- Lines are numbered after the formula's clauses.
use Rattle.std.proofs.Common.{◌≡◌, ◌+◌, ◌++◌, length, nat_lt, ap, arith, length-append}
use Rattle.std.proofs.lemmas.List.{length-map}
use Rattle.cnf_core.specs.declared.log.LogLine.{LogLine}
use Rattle.cnf_core.specs.Derivations.{clauses_of}
use Rattle.claim_core.specs.Formulas.{query_clauses}
use Rattle.joint_hash.proofs.hinting.is_there.Goals as goal

pub returns : goal.returns
returns c =
    let front = query_clauses c.args.cones.now.graphs c.args.cones.now.query in
    let lines = c.args.lines.now in
    let count : c.count.result + length lines ≡ length (front ++ clauses_of lines) = omega (arith, c.count.ensures.value, length-append front (clauses_of lines), length-map lines (λ (l : LogLine). l.clause)) in
    ap (nat_lt c.args.id) count
