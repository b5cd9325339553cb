-- The lines were those of the stock.
use Rattle.std.proofs.Common.{length, sym, ap, subst}
use Rattle.std.specs.Prelude.{Vec}
use Rattle.std.specs.declared.alloc.Global.{Global}
use Rattle.cnf_core.specs.declared.log.LogLine.{LogLine}
use Rattle.claim_core.specs.Formulas.{query_clauses}
use Rattle.shared_lemmas.specs.Parts.{AreWritten}
use Rattle.shared_lemmas.specs.Shared.{HoldUnder}
use Rattle.shared_lemmas.proofs.keeping.keep.Goals as goal

pub add_kept-requires-clause-hold : goal.add_kept-requires-clause-hold
add_kept-requires-clause-hold c =
    subst (HoldUnder c.args.cones.now.graphs c.args.cones.now.query) (ap (λ (v : Vec LogLine Global). v.items) (sym c.replace-kept.ensures.value)) c.requires.hold

pub returns-clause-written : goal.returns-clause-written
returns-clause-written c =
    subst (λ old. AreWritten (length (query_clauses c.args.cones.now.graphs c.args.cones.now.query)) c.args.lines.now old c.add_kept.new.kept.items) (ap (λ (v : Vec LogLine Global). v.items) c.replace-kept.ensures.value) c.in_ok-add_kept.ensures.written
