-- The circuit that a file is: an AIGER file where its first four bytes say so, else a BLIF file.
use Rattle.std.specs.Prelude.{◌≡◌, ℕ, ◌⊎◌, Bool, List, take}
use Rattle.circuits.specs.Circuits.{Circuit}
use Rattle.net_file.specs.declared.fault.NetKind.{NetKind}
use Rattle.aiger_reader.specs.Headers.{keyword}
use Rattle.aiger_reader.specs.Aiger.{IsAiger, IsAigerFault}
use Rattle.blif_reader.specs.Blif.{IsBlif, IsBlifFault}

-- the file begins as one of either AIGER form
abbrev pub BeginsAsAiger : List ℕ → Type 0
BeginsAsAiger bytes = (binary : Bool) × (take 4 bytes ≡ keyword binary)

-- the file is this netlist, with these names of its ports
abbrev pub IsCircuit : List ℕ → Circuit → List (List ℕ) → List (List ℕ) → Type 0
IsCircuit bytes circuit input_names output_names =
    (BeginsAsAiger bytes × IsAiger bytes circuit input_names output_names)
    ⊎ ((BeginsAsAiger bytes → ⊥) × IsBlif bytes circuit input_names output_names)

-- the file has this first fault, at this offset
abbrev pub IsCircuitFault : List ℕ → NetKind → ℕ → Type 0
IsCircuitFault bytes kind at =
    (BeginsAsAiger bytes × IsAigerFault bytes kind at)
    ⊎ ((BeginsAsAiger bytes → ⊥) × IsBlifFault bytes kind at)
