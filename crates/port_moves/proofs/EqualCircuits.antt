-- Circuits whose graphs are equal compute the same.
use Rattle.std.proofs.Common.{◌≡◌, Bool, List, length, sym, ◌∙◌}
use Rattle.circuits.specs.Circuits.{Circuit}
use Rattle.circuits.specs.Functions.{Computes}
use Rattle.circuits.specs.Netlists.{Net}
use Rattle.port_moves.specs.Restored.{AreEqual, ComputeTheSame}

pub equal_circuits : (one other : Circuit) (f g : Net) → Computes f one → Computes g other → AreEqual f g → ComputeTheSame one other
equal_circuits one other f g of_one of_other equal = record {
  inputs = sym of_other.inputs ∙ (equal.inputs ∙ of_one.inputs);
  outputs = sym of_other.outputs ∙ (equal.outputs ∙ of_one.outputs);
  functions = λ x v w long fits fits'.
      let as_long : length x ≡ f.inputs = long ∙ sym of_one.inputs in
      let as_wide : length x ≡ other.inputs = as_long ∙ (sym equal.inputs ∙ of_other.inputs) in
      sym (of_other.function x w as_wide fits') ∙ (equal.functions x as_long ∙ of_one.function x v long fits);
}
