-- The header's fault stands at the front.
use Rattle.std.proofs.Common.{◌≡◌, refl, inl, subst, sym, rules}
use Rattle.net_file.specs.Stops.{IsStopBy}
use Rattle.net_file.specs.declared.fault.NetStop.TheVariants as stop
use Rattle.aiger_reader.specs.Numbers.{IsHeaderFault}
use Rattle.aiger_reader.specs.Aiger.{IsAigerFault}
use Rattle.aiger_reader.proofs.ResultLemmas.{err_made}
use Rattle.aiger_reader.proofs.whole.read_front.Goals as goal

pub returns-clause-stop : goal.returns-clause-stop
returns-clause-stop c =
    let bytes = c.args.input.now in
    err_made c.read_header.result c.map_err.result _ (IsHeaderFault bytes) (IsStopBy (IsAigerFault bytes)) c.map_err.ensures.cases c.read_header.ensures.fault (λ kind s made why. let e : s ≡ stop.Fault (record { kind = kind; at = 0 }) = search rules in subst (IsStopBy (IsAigerFault bytes)) (sym e) (inl (why, refl)))
