-- An accepted header has no latches, and keeps the limits.
use Rattle.std.proofs.Common.{◌≡◌, ◌≤◌, ◌||◌, Bool, false, nat_lt, None, Some, if◌then◌else◌, refl, arith}
use Rattle.std.specs.List.{list_any}
use Rattle.std.proofs.lemmas.Bool.{ltb-false}
use Rattle.net_core.specs.Limits.{most_gates, most_ports, most_variables}
use Rattle.net_file.specs.declared.fault.NetKind.{NetKind}
use Rattle.aiger_reader.specs.Headers.{AigerHeader, header_fault}

-- where none of six tests passes, four of them fail
none_passes : (a b c d e f : Bool) (p q r s t : NetKind) → (if a then Some p else if b then Some q else if c then Some r else if d then Some s else if e || f then Some t else None) ≡ None → (a ≡ false) × (c ≡ false) × (d ≡ false) × (e ≡ false)
none_passes false false false false false f p q r s t none = (refl, refl, refl, refl)
none_passes a b c d e f p q r s t none = cc

pub record KeepsLimits (h : AigerHeader) : Type 0 where
  pub latches : h.latches ≡ 0
  pub inputs : h.inputs ≤ most_ports
  pub outputs : h.outputs ≤ most_ports
  pub gates : h.gates ≤ most_gates

pub accepted_limits : (h : AigerHeader) → header_fault h ≡ None → KeepsLimits h
accepted_limits h none =
    let fails = none_passes (nat_lt 0 h.latches) (list_any (nat_lt 0) h.properties) (nat_lt most_ports h.inputs) (nat_lt most_ports h.outputs) (nat_lt most_gates h.gates) (nat_lt most_variables h.variables) _ _ _ _ _ none in
    record {
      latches = omega (arith, ltb-false 0 h.latches fails.0);
      inputs = ltb-false most_ports h.inputs fails.1;
      outputs = ltb-false most_ports h.outputs fails.2;
      gates = ltb-false most_gates h.gates fails.3;
    }
