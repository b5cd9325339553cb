-- Lines that don't rest on the last two clauses hold for other outputs too.
use Rattle.std.proofs.Common.{subst}
use Rattle.shared_lemmas.specs.Parts.{ArePlaced, AreWritten, GoesOn}
use Rattle.shared_lemmas.proofs.SharedLaws.{kept_hold}
use Rattle.shared_lemmas.proofs.keeping.add_kept.Goals as goal

pub take_marked-requires-clause-placed : goal.take_marked-requires-clause-placed
take_marked-requires-clause-placed c =
    subst (λ lines. ArePlaced c.count-count.result c.args.lines.now lines c.note_back.new.numbers.items) c.deref.ensures.value c.note_back.ensures.placed

pub returns-clause-hold : goal.returns-clause-hold
returns-clause-hold c =
    let count = c.count-count.result in
    let goes_on = subst (λ n. GoesOn (record { count = count; same = n }) c.args.lines.now c.args.kept.now.items c.take_marked.new.target.items) c.saturating_sub.ensures c.in_ok-take_marked.ensures.goes_on in
    kept_hold c.args.cones.now.graphs c.args.cones.now.query count c.args.lines.now c.args.kept.now.items c.take_marked.new.target.items c.count-count.ensures.value c.requires.derived c.requires.hold goes_on

pub returns-clause-written : goal.returns-clause-written
returns-clause-written c =
    subst (λ n. AreWritten n c.args.lines.now c.args.kept.now.items c.take_marked.new.target.items) c.count-count.ensures.value c.in_ok-take_marked.ensures.written
