use Rattle.std.proofs.Common.{length, subst}
use Rattle.net_core.specs.Sides.{Graphs}
use Rattle.net_core.specs.Graph.{IsGraph}
use Rattle.claim_core.specs.Formulas.{query_clauses}
use Rattle.joint_hash.specs.Chains.{clauses_with}
use Rattle.joint_hash.specs.Classes.{twin_of}
use Rattle.claim_core.specs.Formulas.{formula_of}
use Rattle.joint_hash.proofs.ListedLemmas.{twins_late}
use Rattle.joint_hash.proofs.VisitLemmas.{all_joined}
use Rattle.joint_hash.proofs.merging.merge_ids.Goals as goal

pub add_implications-requires-clause-late : goal.add_implications-requires-clause-late
add_implications-requires-clause-late c =
    let cones = c.args.cones.now in
    let merged = c.add_gates.new.merged in
    twins_late (length (query_clauses cones.graphs cones.query)) (clauses_with (formula_of cones.graphs cones.query) merged.lines.items) (twin_of merged.twins.entries) c.in_ok-add_gates.ensures.merged.are_twins

pub add_implications-requires-clause-joining : goal.add_implications-requires-clause-joining
add_implications-requires-clause-joining c =
    let cones = c.args.cones.now in
    let merged = c.add_gates.new.merged in
    let first = subst (λ (g : Graphs). IsGraph g.first) c.graphs-graphs.ensures.value c.first-first.ensures.sound in
    let second = subst (λ (g : Graphs). IsGraph g.second) c.graphs-graphs.ensures.value c.second-second.ensures.sound in
    record {
      lemmas = c.in_ok-add_gates.ensures.lemmas;
      joined = all_joined cones.graphs cones.query merged.lines.items merged.firsts.entries merged.twins.entries first second c.graphs-graphs.ensures.fits c.in_ok-add_gates.ensures;
    }
