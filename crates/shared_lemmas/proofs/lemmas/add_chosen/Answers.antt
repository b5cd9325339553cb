-- The lines of the stock go on after the lemmas.
use Rattle.std.proofs.Common.{sym, ◌∙◌, subst}
use Rattle.shared_lemmas.specs.Parts.{ArePlaced, AreWritten, MayGoOn}
use Rattle.claim_core.specs.Formulas.{formula_of}
use Rattle.shared_lemmas.proofs.SharedLaws.{own_common}
use Rattle.shared_lemmas.proofs.lemmas.add_chosen.Goals as goal

pub take_marked-requires-clause-placed : goal.take_marked-requires-clause-placed
take_marked-requires-clause-placed c =
    let numbers = c.note_twins.new.numbers.items in
    subst (λ stock. ArePlaced c.count-count.result stock c.args.lines.now.items numbers) (c.deref.ensures.value ∙ sym c.deref-3.ensures.value) (subst (λ lines. ArePlaced c.count-count.result c.deref.result.now lines numbers) c.deref-2.ensures.value c.note_twins.ensures.placed)

pub returns-clause-goes_on : goal.returns-clause-goes_on
returns-clause-goes_on c =
    let formula = formula_of c.args.cones.now.graphs c.args.cones.now.query in
    let have = own_common formula c.count-count.result (sym c.count-count.ensures.value) in
    let stock = subst (MayGoOn formula) (sym c.deref-3.ensures.value) c.requires.stock in
    c.in_ok-take_marked.ensures.goes_on formula formula have stock.derived c.requires.lemmas

pub returns-clause-written : goal.returns-clause-written
returns-clause-written c =
    let old = c.args.lines.now.items in
    let new = c.take_marked.new.target.items in
    subst (λ n. AreWritten n c.args.stock.now.lines.items old new) c.count-count.ensures.value (subst (λ stock. AreWritten c.count-count.result stock old new) c.deref-3.ensures.value c.in_ok-take_marked.ensures.written)
