use Rattle.std.proofs.Common.{◌∙◌, ◌++◌, ◌∷◌, [], All, map, sym, subst, ap}
use Rattle.std.specs.Prelude.{Contains}
use Rattle.circuits.specs.declared.port.PortKind.TheVariants.{Input, Output}
use Rattle.account_core.specs.Ports.{IsKnown}
use Rattle.ban_book.proofs.BlockListLemmas.{among_more}
use Rattle.vector_bans.specs.Differences.{pair_from, pairs_from}
use Rattle.vector_bans.proofs.DifferLemmas.{pair_known, shown_whole, shown_as, among_assigned}
use Rattle.vector_bans.proofs.ShownLemmas.{shown_made}
use Rattle.word_sim.specs.ThreeValues.{of_bit}
use Rattle.vector_bans.proofs.difference.shown_by.Goals as goal

pub leave_out-requires-clause-known : goal.leave_out-requires-clause-known
leave_out-requires-clause-known c =
    subst (IsKnown c.args.graphs.now) (sym (c.pair_from-pair.ensures ∙ ap (λ e. pair_from Output e c.args.difference.now.output) c.deref.ensures.value)) (pair_known c.args.graphs.now c.args.matching.now c.args.difference.now.output c.requires.ports c.requires.differs.output)

pub leave_out-requires-clause-shown : goal.leave_out-requires-clause-shown
leave_out-requires-clause-shown c =
    shown_as c.args.graphs.now (pairs_from Input c.args.matching.now.inputs) c.in_ok-whole.whole.items c.pair_from-pair.result (pair_from Output c.args.matching.now.outputs c.args.difference.now.output) c.deref-3.result.now (map of_bit c.args.difference.now.vector) (c.pair_from-pair.ensures ∙ ap (λ e. pair_from Output e c.args.difference.now.output) c.deref.ensures.value) (c.deref-3.ensures.value ∙ c.in_ok-values.ensures) c.in_ok-whole.ensures (shown_whole c.args.graphs.now c.args.matching.now c.args.difference.now.output c.requires.ports c.requires.differs.output c.args.difference.now.vector c.requires.differs.vector c.first-first.ensures.sound c.second-second.ensures.sound)

pub returns-clause-shown : goal.returns-clause-shown
returns-clause-shown c =
    shown_made c.args.graphs.now c.in_ok-whole.whole.items c.in_ok-pairs.pairs.items c.from_vec-pairs.result c.pair_from-pair.result c.deref-3.result.now c.in_ok-values.values c.from_vec-pairs.ensures c.deref-3.ensures.value c.in_ok-pairs.ensures

pub returns-clause-assigned : goal.returns-clause-assigned
returns-clause-assigned c = λ assigned all extends.
    let whole_is = c.in_ok-whole.ensures ∙ ap (λ p. pairs_from Input c.args.matching.now.inputs ++ p ∷ []) (c.pair_from-pair.ensures ∙ ap (λ e. pair_from Output e c.args.difference.now.output) c.deref.ensures.value) in
    subst (All (Contains assigned)) (sym c.from_vec-pairs.ensures) (among_more c.in_ok-pairs.pairs.items c.in_ok-whole.whole.items assigned c.in_ok-pairs.ensures.among (subst (All (Contains assigned)) (sym whole_is) (among_assigned c.args.graphs.now c.args.matching.now c.args.difference.now.output c.requires.ports c.requires.differs.output assigned all extends)))
