-- What holds of a format of netlists' files: what a file is, and its first fault, are determined.
use Rattle.std.specs.Prelude.{◌≡◌, ℕ, ◌≤◌, ◌⊎◌, List, length}
use Rattle.circuits.specs.Circuits.{Circuit, IsClosed}
use Rattle.circuits.specs.Levels.{IsAcyclic}
use Rattle.net_core.specs.Limits.{most_ports}
use Rattle.net_file.specs.declared.fault.NetKind.{NetKind}

-- Of a file's bytes: that it is a circuit with these names of its inputs and outputs, and that it has this first fault.
pub record IsFormat (IsFile : List ℕ → Circuit → List (List ℕ) → List (List ℕ) → Type 0)
    (IsFault : List ℕ → NetKind → ℕ → Type 0) : Type 0 where
  -- a file is one circuit at most, with one name for each port
  pub one : (bytes : List ℕ) (a b : Circuit) (i o j p : List (List ℕ))
      → IsFile bytes a i o
      → IsFile bytes b j p
      → (a ≡ b) × (i ≡ j) × (o ≡ p)
  -- a file that is a circuit has no fault
  pub apart : (bytes : List ℕ) (circuit : Circuit) (i o : List (List ℕ)) (fault : NetKind) (at : ℕ)
      → IsFile bytes circuit i o
      → IsFault bytes fault at
      → ⊥
  -- each list of bytes is a circuit, or has a first fault
  pub either : (bytes : List ℕ)
      → ((circuit : Circuit) × (i : List (List ℕ)) × (o : List (List ℕ)) × IsFile bytes circuit i o)
      ⊎ ((fault : NetKind) × (at : ℕ) × IsFault bytes fault at)
  -- a file has one first fault at most, at one place
  pub one_fault : (bytes : List ℕ) (fault other : NetKind) (at place : ℕ)
      → IsFault bytes fault at
      → IsFault bytes other place
      → (fault ≡ other) × (at ≡ place)
  -- the circuit that a file is reads only signals that are there, and has no cycle
  pub closed : (bytes : List ℕ) (circuit : Circuit) (i o : List (List ℕ)) → IsFile bytes circuit i o → IsClosed circuit
  pub acyclic : (bytes : List ℕ) (circuit : Circuit) (i o : List (List ℕ)) → IsFile bytes circuit i o → IsAcyclic circuit
  -- it has no more inputs and outputs than the limit, and names each port
  pub inputs : (bytes : List ℕ) (circuit : Circuit) (i o : List (List ℕ))
      → IsFile bytes circuit i o
      → circuit.inputs ≤ most_ports
  pub outputs : (bytes : List ℕ) (circuit : Circuit) (i o : List (List ℕ))
      → IsFile bytes circuit i o
      → length circuit.outputs ≤ most_ports
  pub names : (bytes : List ℕ) (circuit : Circuit) (i o : List (List ℕ))
      → IsFile bytes circuit i o
      → (length i ≡ circuit.inputs) × (length o ≡ length circuit.outputs)
