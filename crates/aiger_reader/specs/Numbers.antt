-- The header as it is read: its numbers, and what is kept of it (AIGER 1.9).
use Rattle.std.specs.Prelude.{◌≡◌, ℕ, ◌+◌, ◌≤◌, ◌⊎◌, Bool, IsTrue, List, Some, nat_lt}
use Rattle.std.specs.List.{list_any}
use Rattle.net_file.specs.declared.fault.NetKind.{NetKind}
use Rattle.net_file.specs.declared.fault.NetKind.TheVariants as kind
use Rattle.aiger_reader.specs.declared.limits.Header.{Header}
use Rattle.aiger_reader.specs.declared.header.HeaderNumbers.{HeaderNumbers}
use Rattle.aiger_reader.specs.Headers.{AigerHeader, WritesHeader, HasHeader, header_fault}

-- the whole header of the numbers that are kept of it: it has no latches
abbrev pub header_of : Header → List ℕ → AigerHeader
header_of header properties =
    record {
      binary = header.binary;
      variables = header.variables;
      inputs = header.inputs;
      latches = 0;
      outputs = header.outputs;
      gates = header.gates;
      properties = properties;
    }

-- the whole header of a form and the numbers after its keyword
abbrev pub header_from : Bool → HeaderNumbers → List ℕ → AigerHeader
header_from binary numbers properties =
    record {
      binary = binary;
      variables = numbers.variables;
      inputs = numbers.inputs;
      latches = numbers.latches;
      outputs = numbers.outputs;
      gates = numbers.gates;
      properties = properties;
    }

-- The line writes these numbers, with or without a property.
pub record WritesNumbers (line : List ℕ) (numbers : HeaderNumbers) : Type 0 where
  pub properties : List ℕ
  pub header : (binary : Bool) → WritesHeader line (header_from binary numbers properties)
  pub property : numbers.has_property ≡ list_any (nat_lt 0) properties

-- The file has a header of this form and these numbers, with or without a property.
pub record HasNumbers (bytes : List ℕ) (binary : Bool) (numbers : HeaderNumbers) : Type 0 where
  pub properties : List ℕ
  pub header : HasHeader bytes (header_from binary numbers properties)
  pub property : numbers.has_property ≡ list_any (nat_lt 0) properties

-- the variables are enough for what is defined, and no more in the binary form
pub record IsCounted (binary : Bool) (numbers : HeaderNumbers) : Type 0 where
  pub counted : numbers.inputs + numbers.latches + numbers.gates ≤ numbers.variables
  pub no_gaps : IsTrue binary → numbers.inputs + numbers.latches + numbers.gates ≡ numbers.variables

-- Why a file has no header that is accepted: it has none, or one with this fault.
abbrev pub IsHeaderFault : List ℕ → NetKind → Type 0
IsHeaderFault bytes fault =
    ((fault ≡ kind.Header) × ((h : AigerHeader) → HasHeader bytes h → ⊥))
    ⊎ ((h : AigerHeader) × HasHeader bytes h × (header_fault h ≡ Some fault))
