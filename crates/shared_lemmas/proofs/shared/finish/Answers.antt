-- The lines that are kept are lines of the log.
use Rattle.std.proofs.Common.{length, subst}
use Rattle.claim_core.specs.Formulas.{query_clauses}
use Rattle.shared_lemmas.specs.Parts.{AreWritten}
use Rattle.shared_lemmas.specs.Shared.{AreLogPaid}
use Rattle.shared_lemmas.proofs.PaidLemmas.{all_paid}
use Rattle.shared_lemmas.proofs.shared.finish.Goals as goal

pub returns-in_ok-keep-in-Refuted-clause-paid : goal.returns-in_ok-keep-in-Refuted-clause-paid
returns-in_ok-keep-in-Refuted-clause-paid c asked log old =
    let graphs = c.args.cones.now.graphs in
    let query = c.args.cones.now.query in
    let paid = subst (AreLogPaid graphs query asked) c.in-Refuted.is log in
    let written = subst (λ source. AreWritten (length (query_clauses graphs query)) source c.args.stock.now.lines.items c.keep.new.stock.lines.items) c.deref.ensures.value c.in_ok-keep-in-Refuted.ensures.written in
    all_paid graphs query asked _ c.args.stock.now.lines.items c.keep.new.stock.lines.items written paid old
