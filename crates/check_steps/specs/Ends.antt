-- How a file that isn't there, or is no netlist, ends a run.
use Rattle.std.specs.Prelude.{◌≡◌, ℕ, ◌⊎◌, List, Option, None}
use Rattle.check_steps.specs.Check.{LacksAccount}
use Rattle.check_steps.specs.Held.{Netlist, HasNetlist, HasNetFault, HasTooMuch}
use Rattle.check_steps.specs.Words.{NameOne, NameThree}
use Rattle.check_steps.specs.declared.outcome.Which.{Which}
use Rattle.check_steps.specs.declared.outcome.Which.TheVariants.{First, Second, Account}
use Rattle.check_steps.specs.declared.outcome.Outcome.{Outcome}
use Rattle.check_steps.specs.declared.outcome.Outcome.TheVariants.{Absent, TooLarge, Malformed, ReadFault, Memory}

-- What a file that is no netlist ends the run with, where it stands under a name: `file` says which one it is. Faults
-- of the outside and running out of memory say nothing of it.
abbrev pub EndsAt : Which → Option (List ℕ) → Outcome → Type 0
EndsAt file content (Absent which) = (which ≡ file) × (content ≡ None)
EndsAt file content (TooLarge which) = (which ≡ file) × HasTooMuch content
EndsAt file content (Malformed which kind at) = (which ≡ file) × HasNetFault content kind at
EndsAt file content ReadFault = Unit {0}
EndsAt file content Memory = Unit {0}
EndsAt file content other = ⊥

-- The words ask for a check or a match, and its first file ends it.
pub record EndsAtFirst (held : List ℕ → Option (List ℕ)) (words : List (List ℕ)) (outcome : Outcome) : Type 0 where
  pub first_name : List ℕ
  pub second_name : List ℕ
  pub account_name : List ℕ
  pub asks : NameThree words first_name second_name account_name
  pub ends : EndsAt First (held first_name) outcome

-- The words ask for a check or a match, its first file is a netlist, and its second one ends it.
pub record EndsAtSecond (held : List ℕ → Option (List ℕ)) (words : List (List ℕ)) (outcome : Outcome) : Type 0 where
  pub first_name : List ℕ
  pub second_name : List ℕ
  pub account_name : List ℕ
  pub asks : NameThree words first_name second_name account_name
  pub first : Netlist
  pub first_held : HasNetlist (held first_name) first
  pub ends : EndsAt Second (held second_name) outcome

-- The words ask for what is known of a file, or for a netlist to be swept, and the file ends the run.
pub record EndsAtOnly (held : List ℕ → Option (List ℕ)) (words : List (List ℕ)) (outcome : Outcome) : Type 0 where
  pub file_name : List ℕ
  pub asks : NameOne words file_name
  pub ends : EndsAt First (held file_name) outcome

-- a run ends at one of its netlists' files, which isn't there, or isn't read as a netlist
abbrev pub EndsEarly : (List ℕ → Option (List ℕ)) → List (List ℕ) → Outcome → Type 0
EndsEarly held words outcome = EndsAtFirst held words outcome ⊎ EndsAtSecond held words outcome ⊎ EndsAtOnly held words outcome

-- there is no such file when its turn comes
abbrev pub IsAbsent : (List ℕ → Option (List ℕ)) → List (List ℕ) → Which → Type 0
IsAbsent held words which = EndsEarly held words (Absent which) ⊎ ((which ≡ Account) × LacksAccount held words)
