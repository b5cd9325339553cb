-- What the program prints.
use Rattle.std.specs.Prelude.{◌≡◌, ◌≢◌, ℕ, ◌⊎◌, Bool, IsTrue, List, Option}
use Rattle.circuits.specs.Circuits.{Circuit}
use Rattle.net_file.specs.declared.named.Named.{Named}
use Rattle.check_steps.specs.Check.{IsAsked}
use Rattle.check_steps.specs.Held.{Netlist, HasNetlist}
use Rattle.run_steps.specs.Match.{IsSought}
use Rattle.run_steps.specs.Info.{IsInfoText}
use Rattle.check_steps.specs.Words.{AsksInfo}
use Rattle.check_steps.specs.declared.outcome.Outcome.{Outcome}
use Rattle.check_steps.specs.declared.outcome.Outcome.TheVariants.{Informed}
use Rattle.check_steps.specs.Lines.{line_of, IsOneLine, report_on, port_names}

-- the words ask for a check or a match of two files that are these netlists
abbrev pub NameNetlists : (List ℕ → Option (List ℕ)) → List (List ℕ) → Netlist → Netlist → Type 0
NameNetlists held words first second =
    ((account_name : List ℕ) × IsAsked held words first second account_name) ⊎ IsSought held words first second

-- The text is the report of an outcome of the two files that the words name, with the names of their ports.
pub record IsNamedReport (tells : Bool) (held : List ℕ → Option (List ℕ)) (words : List (List ℕ)) (outcome : Outcome)
    (text : List ℕ) : Type 0 where
  pub first : Netlist
  pub second : Netlist
  pub no_rows : outcome ≢ Informed
  pub of_files : IsTrue tells → NameNetlists held words first second
  pub same : text ≡ report_on (port_names first) (port_names second) outcome

-- The text is what is known of the file that the words name.
pub record IsInfoReport (tells : Bool) (held : List ℕ → Option (List ℕ)) (words : List (List ℕ)) (text : List ℕ) : Type 0 where
  pub file_name : List ℕ
  pub budget : ℕ
  pub asks : AsksInfo words file_name budget
  pub circuit : Circuit
  pub named : Named
  pub there : IsTrue tells
      → HasNetlist (held file_name)
      (record { circuit = circuit; input_names = named.input_names; output_names = named.output_names })
  pub is : IsInfoText circuit named text

-- The text is the report of an outcome: the line of one that has no more, a report with the names of two files, or what
-- is known of one file.
abbrev pub IsReport : Bool → (List ℕ → Option (List ℕ)) → List (List ℕ) → Outcome → List ℕ → Type 0
IsReport tells held words outcome text =
    (IsOneLine outcome × (text ≡ line_of outcome))
    ⊎ IsNamedReport tells held words outcome text
    ⊎ ((outcome ≡ Informed) × IsInfoReport tells held words text)
