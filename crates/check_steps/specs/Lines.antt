-- What the program prints of an outcome.
use Rattle.std.specs.Prelude.{◌≡◌, ◌≢◌, ℕ, ◌⊎◌, List, [], ◌∷◌, ◌++◌, Option, None, Some, codes}
use Rattle.std.specs.Fmt.{decimal}
use Rattle.net_file.specs.Kinds.{kind_number}
use Rattle.hier_blif.specs.Kinds.{kind_number as hier_number}
use Rattle.net_core.specs.declared.matching.Matching.{Matching}
use Rattle.query_core.specs.Ledgers.{Ledgered, learned_in}
use Rattle.port_report.specs.Reports.{PortNames, table_text, rejected_text}
use Rattle.account_check.specs.Words.{word_of}
use Rattle.check_steps.specs.Held.{Netlist}
use Rattle.check_steps.specs.declared.outcome.Which.{Which}
use Rattle.check_steps.specs.declared.outcome.Which.TheVariants.{First, Second, Account}
use Rattle.check_steps.specs.declared.outcome.Outcome.{Outcome}
use Rattle.check_steps.specs.declared.outcome.Outcome.TheVariants.{AcceptedMatch, AcceptedRefusal, Rejected, Matched, NoMatching, Spent, Usage, Absent}
use Rattle.check_steps.specs.declared.outcome.Outcome.TheVariants.{TooLarge, Malformed, Informed, Made, Restored, Trimmed, Converted}
use Rattle.check_steps.specs.declared.outcome.Outcome.TheVariants.{BadHierarchy, Flattened, Swept, Tried, ReadFault, WriteFault, Memory}

-- the word for a file
abbrev pub file_word : Which → List ℕ
file_word First = codes "first"
file_word Second = codes "second"
file_word Account = codes "account"

-- the line of a pair that was tried: its number, that it is matched and the account accepted, and its numbers of
-- inputs, outputs and gates
abbrev pub tried_line : ℕ → List ℕ
tried_line number = codes "trial " ++ decimal number ++ codes " matched accepted 64 32 2000" ++ 10 ∷ []

-- the line of an account that was trimmed: how many records it had, and how many are left
abbrev pub trimmed_line : ℕ → ℕ → List ℕ
trimmed_line before after = codes "trimmed " ++ decimal before ++ 32 ∷ decimal after ++ 10 ∷ []

-- the line of an account that was converted: the version that it had, the one that it has, and how many records it had
abbrev pub converted_line : ℕ → ℕ → ℕ → List ℕ
converted_line from to records = codes "converted " ++ decimal from ++ 32 ∷ decimal to ++ 32 ∷ decimal records ++ 10 ∷ []

-- the line of a file of models that was flattened: how many models it has, how many instances, and how many gates
abbrev pub flattened_line : ℕ → ℕ → ℕ → List ℕ
flattened_line models instances gates =
    codes "flattened " ++ decimal models ++ 32 ∷ decimal instances ++ 32 ∷ decimal gates ++ 10 ∷ []

-- the line of a file that is malformed: which one it is, the number of its first fault's kind, and where it stands
abbrev pub malformed_line : Which → ℕ → ℕ → List ℕ
malformed_line file number at =
    codes "malformed " ++ file_word file ++ 32 ∷ decimal number ++ 32 ∷ decimal at ++ 10 ∷ []

-- the line of a netlist that was swept: how many gates it had, how many are left, and whether all signals were compared
abbrev pub swept_line : ℕ → ℕ → Option Ledgered → List ℕ
swept_line before after None = codes "swept " ++ decimal before ++ 32 ∷ decimal after ++ codes " whole" ++ 10 ∷ []
swept_line before after (Some ledger) = codes "swept " ++ decimal before ++ 32 ∷ decimal after ++ codes " spent" ++ 10 ∷ []

-- the line that names an outcome; a failed write has none, and what is known of a netlist is more than a line
abbrev pub line_of : Outcome → List ℕ
line_of (AcceptedMatch matching) = codes "accepted match" ++ 10 ∷ []
line_of AcceptedRefusal = codes "accepted refusal" ++ 10 ∷ []
line_of (Rejected line why) = rejected_text line (word_of why)
line_of (Matched matching) = codes "matched" ++ 10 ∷ []
line_of NoMatching = codes "no matching" ++ 10 ∷ []
line_of (Spent ledger) = codes "spent " ++ decimal (learned_in ledger) ++ 10 ∷ []
line_of Informed = []
line_of Made = codes "made 64 32 2000" ++ 10 ∷ []
line_of (Restored gates) = codes "restored " ++ decimal gates ++ 10 ∷ []
line_of (Trimmed before after) = trimmed_line before after
line_of (Converted from to records) = converted_line from to records
line_of (Flattened models instances gates) = flattened_line models instances gates
line_of (Swept before after left) = swept_line before after left
line_of (Tried number account) = tried_line number
line_of Usage = codes "usage" ++ 10 ∷ []
line_of (Absent file) = codes "absent " ++ file_word file ++ 10 ∷ []
line_of (TooLarge file) = codes "too large " ++ file_word file ++ 10 ∷ []
line_of (Malformed file kind at) = malformed_line file (kind_number kind) at
line_of (BadHierarchy fault) = malformed_line First (hier_number fault.kind) fault.at
line_of ReadFault = codes "read fault" ++ 10 ∷ []
line_of WriteFault = []
line_of Memory = codes "out of memory" ++ 10 ∷ []

-- the outcome has this matching
abbrev pub HasMatching : Outcome → Matching → Type 0
HasMatching outcome matching = (outcome ≡ AcceptedMatch matching) ⊎ (outcome ≡ Matched matching)

-- The report of the outcome is its line.
pub record IsOneLine (outcome : Outcome) : Type 0 where
  pub unmatched : (matching : Matching) → HasMatching outcome matching → ⊥
  pub no_rows : outcome ≢ Informed

-- the report of an outcome of two netlists: its line, and after that of a match its port table
abbrev pub report_on : PortNames → PortNames → Outcome → List ℕ
report_on first second (AcceptedMatch matching) = line_of (AcceptedMatch matching) ++ table_text first second matching
report_on first second (Matched matching) = line_of (Matched matching) ++ table_text first second matching
report_on first second other = line_of other

-- the names of a netlist's ports, as reports have them
abbrev pub port_names : Netlist → PortNames
port_names netlist = record { inputs = netlist.input_names; outputs = netlist.output_names }
