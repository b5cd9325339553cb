-- The account was converted and written, or it has a fault of form.
use Rattle.std.proofs.Common.{refl, rules}
use Rattle.rewrite_steps.proofs.RewriteLemmas.{no_memory, refused, rewritten}
use Rattle.rewrite_steps.proofs.converting.convert_to.Goals as goal

pub returns-in-Ok : goal.returns-in-Ok
returns-in-Ok g c =
    rewritten _ _ _ _ _ _ _ _ c.end_written.result
    (record { converted = c.in-Ok.converted; is = c.in-Ok.ensures.converted; outcome_is = refl; bytes_are = search rules })
    c.end_written.ensures

-- the clause `fault` says so of each result but `Memory`
pub returns-in-Err-Fault : goal.returns-in-Err-Fault
returns-in-Err-Fault g c =
    let line = c.in-Err-Fault.record_number in
    let fault = c.in-Err-Fault.fault in
    refused _ _ _ _ _ _ c.reported.result
    (line, fault, refl, (c.convert.ensures.fault line fault (λ e. cc (e, c.in-Err-Fault.is, c.in-Err-Fault.field-0-is))).0 (cc (c.in-Err-Fault.is, c.in-Err-Fault.field-0-is)))
    c.reported.ensures.same c.reported.ensures.line c.reported.ensures.memory

pub returns-in-Err-Memory : goal.returns-in-Err-Memory
returns-in-Err-Memory g c = no_memory _ _ _ _ _ _ refl
