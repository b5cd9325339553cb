-- The file was flattened and written, or it has a fault.
use Rattle.std.proofs.Common.{refl}
use Rattle.rewrite_steps.proofs.RewriteLemmas.{no_memory, refused, rewritten}
use Rattle.rewrite_steps.proofs.flattening.flatten_to.Goals as goal

pub returns-in-Ok : goal.returns-in-Ok
returns-in-Ok g c =
    rewritten _ _ _ _ _ _ _ _ c.end_printed.result
    (record {
      flat = c.in-Ok.hier.net;
      models = c.in-Ok.hier.models;
      instances = c.in-Ok.hier.instances;
      is = c.in-Ok.ensures.netlist;
      outcome_is = cc c.gates.ensures.value;
      bytes_are = refl;
    })
    c.end_printed.ensures

pub returns-in-Err-Fault : goal.returns-in-Err-Fault
returns-in-Err-Fault g c =
    let fault = c.in-Err-Fault.fault in
    refused _ _ _ _ _ _ c.reported.result
    (fault, refl, c.read.ensures.fault fault (cc (c.in-Err-Fault.is, c.in-Err-Fault.field-0-is)))
    c.reported.ensures.same c.reported.ensures.line c.reported.ensures.memory

pub returns-in-Err-Memory : goal.returns-in-Err-Memory
returns-in-Err-Memory g c = no_memory _ _ _ _ _ _ refl
