-- For the law that each list of bytes is a netlist, or has a first fault.
use Rattle.std.proofs.Common.{◌≡◌, ℕ, ◌+◌, ◌-◌, ◌≤◌, ◌⊎◌, Bool, true, false, List, length, length-drop, drop, inl, inr, refl, arith}
use Rattle.circuits.specs.Circuits.{Circuit}
use Rattle.circuits.specs.Levels.{IsAcyclic}
use Rattle.circuits.proofs.Looped.{acyclic_or_looped}
use Rattle.net_file.specs.declared.fault.NetKind.{NetKind}
use Rattle.net_file.specs.declared.fault.NetKind.TheVariants as kind
use Rattle.aiger_reader.specs.Headers.{AigerHeader, Begins}
use Rattle.aiger_reader.specs.Bodies.{IsBody, bare, text_circuit, line_offset}
use Rattle.aiger_reader.specs.Deltas.{binary_circuit}
use Rattle.aiger_reader.specs.Aiger.{IsOfForm, IsNetlist, IsAiger, IsAigerFault}
use Rattle.aiger_reader.proofs.SomeHeader.{begun_or_fault}
use Rattle.aiger_reader.proofs.SomeBody.{body_or_bad, known_or_not}
use Rattle.aiger_reader.proofs.SomeGates.{gates_or_bad}
use Rattle.aiger_reader.proofs.SomeNames.{names_or_bad}

abbrev HasFault : List ℕ → Type 0
HasFault bytes = (fault : NetKind) × (at : ℕ) × IsAigerFault bytes fault at

-- the netlist and what stands after it, which is no longer than the file
abbrev HasForm : Bool → List ℕ → AigerHeader → List (List ℕ) → Type 0
HasForm binary bytes h rows =
    (circuit : Circuit) × (rest : List ℕ) × (length rest ≤ length bytes) × IsOfForm binary bytes h rows circuit rest

form_or_fault : (binary : Bool) (bytes : List ℕ) (h : AigerHeader) (rows : List (List ℕ)) → h.binary ≡ binary → Begins bytes h → IsBody bytes h rows → HasForm binary bytes h rows ⊎ HasFault bytes
form_or_fault false bytes h rows is begins body =
    let rest = drop (line_offset bytes (1 + length rows)) bytes in
    elim (known_or_not bytes h rows) [
      | inl known ↦ inl (text_circuit h rows, rest, omega (arith, length-drop (line_offset bytes (1 + length rows)) bytes), record { known = known; same = refl; after = refl })
      | inr unknown ↦ inr (kind.Undefined, unknown.0, inr (inr (inr (inl (record { h = h; begins = begins; rows = rows; body = body; text = is; is_undefined = refl; why = unknown.1 })))))
    ]
form_or_fault true bytes h rows is begins body =
    elim (gates_or_bad bytes h) [
      | inl gates ↦ inl (binary_circuit h rows gates.0, gates.1, gates.2, record { gates = gates.0; read = gates.3; same = refl })
      | inr bad ↦ inr (kind.Delta, bad.0, inr (inr (inl (record { h = h; begins = begins; rows = rows; body = body; binary = is; is_delta = refl; why = bad.1 }))))
    ]

abbrev HasNet : List ℕ → Type 0
HasNet bytes =
    (h : AigerHeader) × (circuit : Circuit) × (rest : List ℕ) × (length rest ≤ length bytes) × IsNetlist bytes h circuit rest

net_or_fault : (bytes : List ℕ) → HasNet bytes ⊎ HasFault bytes
net_or_fault bytes =
    elim (begun_or_fault bytes) [
      | inr bad ↦ inr (bad.0, 0, inl (bad.1, refl))
      | inl begun ↦ let h = begun.0 in
          elim (body_or_bad bytes (bare h)) [
            | inr bad ↦ inr (bad.0, bad.1, inr (inl (record { h = h; begins = begun.1; why = bad.2 })))
            | inl body ↦ elim (form_or_fault h.binary bytes h body.0 refl begun.1 body.1) [
              | inr bad ↦ inr bad
              | inl form ↦ inl (h, form.0, form.1, form.2, record { begins = begun.1; rows = body.0; body = body.1; form = form.3 })
            ]
          ]
    ]

-- the netlist with its names, if nothing is wrong
abbrev IsSome : List ℕ → Type 0
IsSome bytes = (circuit : Circuit) × (i : List (List ℕ)) × (o : List (List ℕ)) × IsAiger bytes circuit i o

named_or_fault : (bytes : List ℕ) (net : HasNet bytes) → IsAcyclic net.1 → IsSome bytes ⊎ HasFault bytes
named_or_fault bytes net acyclic =
    let h = net.0 in
    let base = length bytes - length net.2 in
    elim (names_or_bad h.inputs h.outputs base net.2) [
      | inl names ↦ inl (net.1, names.0, names.1, record { h = h; rest = net.2; netlist = net.4; acyclic = acyclic; names = names.2 })
      | inr bad ↦ inr (
        kind.BadSymbol,
        bad.0,
        inr (inr (inr (inr (inr (record {
          h = h;
          circuit = net.1;
          rest = net.2;
          base = base;
          netlist = net.4;
          acyclic = acyclic;
          is_symbol = refl;
          after = omega (arith, net.3);
          why = bad.1;
        }))))),
      )
    ]

pub netlist_or_its_fault : (bytes : List ℕ) → IsSome bytes ⊎ HasFault bytes
netlist_or_its_fault bytes =
    elim (net_or_fault bytes) [
      | inr bad ↦ inr bad
      | inl net ↦ elim (acyclic_or_looped net.1) [
        | inl acyclic ↦ named_or_fault bytes net acyclic
        | inr looped ↦ inr (
          kind.Cycle,
          line_offset bytes (1 + net.0.inputs + net.0.outputs + looped.0),
          inr (inr (inr (inr (inl (record {
            h = net.0;
            circuit = net.1;
            rest = net.2;
            netlist = net.4;
            definition = looped.0;
            is_cycle = refl;
            why = looped.1;
            offset = refl;
          }))))),
        )
      ]
    ]
