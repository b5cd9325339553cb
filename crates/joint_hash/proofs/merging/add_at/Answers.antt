use Rattle.std.proofs.Common.{◌≡◌, ◌+◌, ◌%◌, ◌==◌, nat_lt, sym, subst, ◌∙◌, arith, ltb-true, eqb-true}
use Rattle.std.proofs.lemmas.Bool.{and_parts}
use Rattle.std.proofs.lemmas.Result.{on_ok_weaker}
use Rattle.joint_hash.specs.Classes.{IsUnderWay}
use Rattle.joint_hash.proofs.VisitLemmas.{passed_other}
use Rattle.joint_hash.proofs.merging.add_at.Goals as goal

pub returns-then-not-is_last : goal.returns-then-not-is_last
returns-then-not-is_last c =
    let cones = c.args.cones.now in
    let merged = c.args.merged.now in
    passed_other cones.graphs cones.query c.args.id merged.lines.items merged.firsts.entries merged.twins.entries c.requires.under_way (sym c.is_last.ensures ∙ c.if-not-is_last.true)

pub gate_of-gate-requires : goal.gate_of-gate-requires
gate_of-gate-requires c =
    let id = c.args.id in
    let parts = and_parts (nat_lt 0 id) (id % 3 == 0) (sym c.is_last.ensures ∙ c.if-not-is_last.false) in
    record {
      there = c.requires.there;
      cone = c.requires.cone;
      some = λ e. omega (arith, e, ltb-true 0 id parts.0);
      third = eqb-true (id % 3) 0 parts.1;
    }

pub add_gate-requires : goal.add_gate-requires
add_gate-requires c =
    let cones = c.args.cones.now in
    let merged = c.args.merged.now in
    record {
      gate = c.gate_of-gate.ensures.gate;
      under_way = subst (λ k. IsUnderWay cones.graphs cones.query k merged.lines.items merged.firsts.entries merged.twins.entries) (sym c.gate_of-gate.ensures.last) c.requires.under_way;
    }

pub returns : goal.returns
returns c =
    let cones = c.args.cones.now in
    let merged = c.add_gate.new.merged in
    let next : c.gate_of-gate.result.id + 3 ≡ c.args.id + 1 = omega (arith, c.gate_of-gate.ensures.last) in
    on_ok_weaker c.add_gate.result (λ way. subst (λ k. IsUnderWay cones.graphs cones.query k merged.lines.items merged.firsts.entries merged.twins.entries) next way) c.add_gate.ensures
