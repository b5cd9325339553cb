-- What was learned over dense variables is charged as the formula's lines.
use Rattle.std.proofs.Common.{◌+◌, ◌<◌, ◌-◌, List, All, length, sym, subst, ap, ◌∙◌, arith}
use Rattle.std.proofs.lemmas.List.{length-map}
use Rattle.cnf_core.specs.declared.log.LogLine.{LogLine}
use Rattle.cnf_core.specs.Derivations.{clauses_of}
use Rattle.ask_core.specs.Renamings.{dense_formula, translated}
use Rattle.ask_core.specs.Solved.{AreLearned, IsHalted}
use Rattle.ask_core.proofs.FullLemmas.{learned_few, learned_known}
use Rattle.ask_core.proofs.solving.search_dense.Goals as goal
use Rattle.cnf_core.specs.Clauses.{AreKnown}

pub charge_translated-requires-clause-known : goal.charge_translated-requires-clause-known
charge_translated-requires-clause-known g c =
    let small = dense_formula c.args.dense.now in
    let n = length c.args.dense.now.names in
    let same = c.deref.ensures.value ∙ c.into_log-found.ensures in
    subst (λ (ls : List LogLine). All (AreKnown n) (clauses_of ls)) (sym same) (learned_known small n c.solve_over_dense.new.solver.lines c.in-Ok.ensures.learned c.requires.renaming.variables)

pub charge_translated-requires-clause-few : goal.charge_translated-requires-clause-few
charge_translated-requires-clause-few g c =
    let small = dense_formula c.args.dense.now in
    let lines = c.deref.result.now in
    let next = c.count.result + length c.args.lemmas.now in
    let learned = subst (AreLearned small) (sym (c.deref.ensures.value ∙ c.into_log-found.ensures)) c.in-Ok.ensures.learned in
    learned_few small lines next learned (omega (arith, c.count.ensures.few, c.requires.few)) (omega (arith, c.count-count.ensures.value, c.count-count.ensures.few)) (omega (arith, c.deref.type_inv.1))

pub charge_translated-requires-in-Err-Spent-clause-known : goal.charge_translated-requires-in-Err-Spent-clause-known
charge_translated-requires-in-Err-Spent-clause-known g c =
    let small = dense_formula c.args.dense.now in
    let n = length c.args.dense.now.names in
    let same = c.deref-in-Err-Spent.ensures.value ∙ c.into_log-found-in-Err-Spent.ensures in
    let spent = subst (IsHalted small c.solve_over_dense.new.solver.lines c.args.tab.now) c.in-Err-Spent.field-0-is c.in-Err-Spent.ensures.stop in
    subst (λ (ls : List LogLine). All (AreKnown n) (clauses_of ls)) (sym same) (learned_known small n c.solve_over_dense.new.solver.lines spent.0 c.requires.renaming.variables)

pub charge_translated-requires-in-Err-Spent-clause-few : goal.charge_translated-requires-in-Err-Spent-clause-few
charge_translated-requires-in-Err-Spent-clause-few g c =
    let small = dense_formula c.args.dense.now in
    let lines = c.deref-in-Err-Spent.result.now in
    let next = c.count.result + length c.args.lemmas.now in
    let spent = subst (IsHalted small c.solve_over_dense.new.solver.lines c.args.tab.now) c.in-Err-Spent.field-0-is c.in-Err-Spent.ensures.stop in
    let learned = subst (AreLearned small) (sym (c.deref-in-Err-Spent.ensures.value ∙ c.into_log-found-in-Err-Spent.ensures)) spent.0 in
    learned_few small lines next learned (omega (arith, c.count.ensures.few, c.requires.few)) (omega (arith, c.count-count.ensures.value, c.count-count.ensures.few)) (omega (arith, c.deref-in-Err-Spent.type_inv.1))

pub unreachable-requires : goal.unreachable-requires
unreachable-requires g c =
    let lines = c.deref-in-Err-Spent.result.now in
    let dense = c.args.dense.now in
    let small = dense_formula dense in
    let spent = (subst (IsHalted small c.solve_over_dense.new.solver.lines c.args.tab.now) c.in-Err-Spent.field-0-is c.in-Err-Spent.ensures.stop).1 in
    let next = c.count.result + length c.args.lemmas.now in
    let size = length-map lines (translated dense.names dense.numbers next) in
    let same = ap length (c.deref-in-Err-Spent.ensures.value ∙ c.into_log-found-in-Err-Spent.ensures) in
    let some : 0 < length lines = omega (arith, spent.used, same, c.requires.same.within) in
    let within = c.in_ok-_lines-in-Err-Spent.ensures.charged.within (length lines - 1) (omega (arith, size, some)) in
    omega (arith, within, spent.used, same, some, c.requires.same.budget, c.requires.same.made)
