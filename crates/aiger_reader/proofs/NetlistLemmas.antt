-- A file's netlist has the sizes that its header says, and is closed.
use Rattle.std.proofs.Common.{◌≡◌, ℕ, ◌+◌, ◌<◌, Bool, true, false, List, length, take, drop, if◌then◌else◌, refl, sym, ap, subst, ◌∙◌, arith, length-drop, length-take}
use Rattle.std.proofs.lemmas.List.{length-map}
use Rattle.circuits.specs.Circuits.{Circuit, IsClosed}
use Rattle.net_core.specs.PlainNets.{IsPlainNet}
use Rattle.aiger_reader.specs.Headers.{AigerHeader, Begins}
use Rattle.aiger_reader.specs.Bodies.{roles_of, IsBody, IsKnownRow, text_circuit}
use Rattle.aiger_reader.specs.Deltas.{binary_circuit}
use Rattle.aiger_reader.specs.Reading.{input_lines_of, gate_lines_of}
use Rattle.aiger_reader.specs.Aiger.{IsOfForm, IsNetlist}
use Rattle.aiger_reader.proofs.RoleLemmas.{length-roles_of}
use Rattle.aiger_reader.proofs.LimitLemmas.{KeepsLimits}
use Rattle.aiger_reader.proofs.TextNetLemmas.{text_lines, text_closed}
use Rattle.aiger_reader.proofs.BinaryNetLemmas.{rows_closed}

-- A netlist has as many inputs, outputs and definitions as its file's header says.
pub record HasSizes (h : AigerHeader) (circuit : Circuit) : Type 0 where
  pub inputs : circuit.inputs ≡ h.inputs
  pub outputs : length circuit.outputs ≡ h.outputs
  pub defs : length circuit.defs ≡ h.gates

text_sizes : (h : AigerHeader) (rows : List (List ℕ)) (circuit : Circuit) → h.binary ≡ false → length rows ≡ length (roles_of h) → circuit ≡ text_circuit h rows → HasSizes h circuit
text_sizes h rows circuit text whole same =
    let count = text_lines h rows text whole in
    let sizes : HasSizes h (text_circuit h rows) = record {
      inputs = refl;
      outputs = length-map (take h.outputs (drop h.inputs rows)) _ ∙ omega (arith, length-take h.outputs (drop h.inputs rows), length-drop h.inputs rows, count);
      defs = length-map (drop (h.inputs + h.outputs) rows) _ ∙ omega (arith, length-drop (h.inputs + h.outputs) rows, count);
    } in
    subst (HasSizes h) (sym same) sizes

binary_sizes : (h : AigerHeader) (rows : List (List ℕ)) (gates : List (ℕ × ℕ)) (circuit : Circuit) → h.binary ≡ true → length rows ≡ length (roles_of h) → length gates ≡ h.gates → circuit ≡ binary_circuit h rows gates → HasSizes h circuit
binary_sizes h rows gates circuit binary whole many same =
    let i : input_lines_of h ≡ 0 = ap (λ t. if t then 0 else h.inputs) binary in
    let g : gate_lines_of h ≡ 0 = ap (λ t. if t then 0 else h.gates) binary in
    let count : length rows ≡ h.outputs = omega (arith, whole, length-roles_of h, i, g) in
    let sizes : HasSizes h (binary_circuit h rows gates) = record {
      inputs = refl;
      outputs = length-map rows _ ∙ count;
      defs = length-map gates _ ∙ many;
    } in
    subst (HasSizes h) (sym same) sizes

form_sizes : (binary : Bool) (bytes : List ℕ) (h : AigerHeader) (rows : List (List ℕ)) (circuit : Circuit) (rest : List ℕ) → h.binary ≡ binary → length rows ≡ length (roles_of h) → IsOfForm binary bytes h rows circuit rest → HasSizes h circuit
form_sizes false bytes h rows circuit rest is whole form =
    text_sizes h rows circuit is whole form.same
form_sizes true bytes h rows circuit rest is whole form =
    binary_sizes h rows form.gates circuit is whole form.read.count form.same

pub net_sizes : (bytes : List ℕ) (h : AigerHeader) (circuit : Circuit) (rest : List ℕ) → IsNetlist bytes h circuit rest → HasSizes h circuit
net_sizes bytes h circuit rest net =
    form_sizes h.binary bytes h net.rows circuit rest refl net.body.whole net.form

form_closed : (binary : Bool) (bytes : List ℕ) (h : AigerHeader) (rows : List (List ℕ)) (circuit : Circuit) (rest : List ℕ) → h.binary ≡ binary → Begins bytes h → IsBody bytes h rows → IsOfForm binary bytes h rows circuit rest → IsClosed circuit
form_closed false bytes h rows circuit rest is begins body form =
    subst IsClosed (sym form.same) (text_closed h rows is body.whole form.known)
form_closed true bytes h rows circuit rest is begins body form =
    subst IsClosed (sym form.same) (rows_closed bytes h rows form.gates rest is begins body form.read)

-- each signal that the netlist names is there
pub net_closed : (bytes : List ℕ) (h : AigerHeader) (circuit : Circuit) (rest : List ℕ) → IsNetlist bytes h circuit rest → IsClosed circuit
net_closed bytes h circuit rest net =
    form_closed h.binary bytes h net.rows circuit rest refl net.begins net.body net.form

-- the lines' netlist has few signals and outputs where the header keeps the limits
pub text_plain : (h : AigerHeader) (rows : List (List ℕ)) (circuit : Circuit) → h.binary ≡ false → length rows ≡ length (roles_of h) → ((k : ℕ) → k < length rows → IsKnownRow h rows k) → KeepsLimits h → circuit ≡ text_circuit h rows → IsPlainNet circuit
text_plain h rows circuit text whole known few same =
    let sizes = text_sizes h rows circuit text whole same in
    record {
      closed = subst IsClosed (sym same) (text_closed h rows text whole known);
      signals = omega (arith, sizes.inputs, sizes.defs, few.inputs, few.gates);
      outputs = omega (arith, sizes.outputs, few.outputs);
    }
