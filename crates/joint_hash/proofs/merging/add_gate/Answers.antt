use Rattle.std.proofs.Common.{sym, subst, ◌∙◌}
use Rattle.std.proofs.lemmas.Result.{on_ok_weaker}
use Rattle.net_core.specs.Sides.{Graphs}
use Rattle.net_core.specs.Graph.{IsGraph}
use Rattle.joint_hash.proofs.AddLemmas.{added_after, equated_after, kept_after}
use Rattle.joint_hash.proofs.merging.add_gate.Goals as goal

pub equate-requires-clause-operands : goal.equate-requires-clause-operands
equate-requires-clause-operands c =
    let merged = c.args.merged.now in
    let found = sym c.first_with.ensures ∙ c.in-Some.is in
    sym (c.requires.under_way.merged.kept c.operands_of-operands.result c.in-Some.first found).operands_are ∙ c.operands_of-operands.ensures

pub returns-in-None : goal.returns-in-None
returns-in-None c =
    let cones = c.args.cones.now in
    let merged = c.args.merged.now in
    let first = subst (λ (g : Graphs). IsGraph g.first) c.graphs-graphs.ensures.value c.first-first.ensures.sound in
    let second = subst (λ (g : Graphs). IsGraph g.second) c.graphs-graphs.ensures.value c.second-second.ensures.sound in
    on_ok_weaker c.keep.result (kept_after cones.graphs cones.query c.args.gate.now first second c.graphs-graphs.ensures.fits c.requires.gate merged.lines.items merged.firsts.entries c.keep.new.firsts.entries merged.twins.entries c.operands_of-operands.result c.requires.under_way c.operands_of-operands.ensures (sym c.first_with.ensures ∙ c.in-None.is)) c.keep.ensures

pub returns-in-Some : goal.returns-in-Some
returns-in-Some c =
    let cones = c.args.cones.now in
    let merged = c.args.merged.now in
    let first = subst (λ (g : Graphs). IsGraph g.first) c.graphs-graphs.ensures.value c.first-first.ensures.sound in
    let second = subst (λ (g : Graphs). IsGraph g.second) c.graphs-graphs.ensures.value c.second-second.ensures.sound in
    added_after cones.graphs cones.query c.args.gate.now first second c.graphs-graphs.ensures.fits c.requires.gate merged.lines.items merged.firsts.entries merged.twins.entries c.operands_of-operands.result c.in-Some.first c.requires.under_way c.operands_of-operands.ensures (sym c.first_with.ensures ∙ c.in-Some.is) (sym c.is_joined.ensures ∙ c.if-is_joined.true)

pub returns-in-Some-2 : goal.returns-in-Some-2
returns-in-Some-2 c =
    let cones = c.args.cones.now in
    let merged = c.args.merged.now in
    let first = subst (λ (g : Graphs). IsGraph g.first) c.graphs-graphs.ensures.value c.first-first.ensures.sound in
    let second = subst (λ (g : Graphs). IsGraph g.second) c.graphs-graphs.ensures.value c.second-second.ensures.sound in
    on_ok_weaker c.equate.result (equated_after cones.graphs cones.query c.args.gate.now first second c.graphs-graphs.ensures.fits c.requires.gate merged.lines.items c.equate.new.lines.items merged.firsts.entries merged.twins.entries c.equate.new.twins.entries c.operands_of-operands.result c.in-Some.first c.requires.under_way c.operands_of-operands.ensures (sym c.first_with.ensures ∙ c.in-Some.is) (sym c.is_joined.ensures ∙ c.if-is_joined.false)) c.equate.ensures
