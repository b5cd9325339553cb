use Rattle.std.proofs.Common.{drop, subst, sym}
use Rattle.account_file.specs.Reading.{HasRead, Reading}
use Rattle.account_file.proofs.StepLemmas.{read_finish}
use Rattle.account_file.proofs.reader.Reader.finish.Goals as goal

pub returns-clause-reads : goal.returns-clause-reads
returns-clause-reads c = λ bytes records has.
    let inside = c.self.inside in
    let old : Reading = record { left = drop inside.start inside.bytes.items; finished = inside.finished; line = inside.line; place = inside.place; binary = inside.binary; fault = inside.fault; total = inside.total } in
    read_finish old bytes records (subst (λ (r : Reading). HasRead r bytes records) (sym c.self.view_is) has)
