-- What `convert` says of the words and of the files, and what it leaves: the account in the other version.
use Rattle.std.specs.Prelude.{◌≡◌, ℕ, List, take, Option, None, Some}
use Rattle.account_file.specs.Accounts.{IsAccountOf}
use Rattle.account_file.specs.declared.fault.RecordFault.{RecordFault}
use Rattle.account_file.specs.declared.record.Record.{Record}
use Rattle.account_check.specs.declared.verdict.Why.{Why}
use Rattle.account_check.specs.declared.verdict.Why.TheVariants.{Form}
use Rattle.account_convert.specs.declared.conversion.Converted.{Converted}
use Rattle.account_convert.specs.Conversions.{IsConverted, IsFaultAt}
use Rattle.check_steps.specs.Words.{AsksConvert, ConvertRequest}
use Rattle.check_steps.specs.declared.outcome.Outcome.{Outcome}
use Rattle.check_steps.specs.declared.outcome.Outcome.TheVariants as outcome_of

-- The words ask for an account to be converted, and there is none.
pub record LacksOld (held : List ℕ → Option (List ℕ)) (words : List (List ℕ)) : Type 0 where
  pub request : ConvertRequest
  pub asks : AsksConvert words request
  pub absent : held request.account ≡ None

-- The words ask for an account to be converted, which has a fault of form: its first one is at this line, counted from 1,
-- and is this.
pub record IsIllFormed (held : List ℕ → Option (List ℕ)) (words : List (List ℕ)) (line : ℕ) (why : Why) : Type 0 where
  pub request : ConvertRequest
  pub asks : AsksConvert words request
  pub account : List ℕ
  pub there : held request.account ≡ Some account
  pub fault : RecordFault
  pub why_is : why ≡ Form fault
  pub first : IsFaultAt account line fault

-- The words ask for an account to be converted, which has no fault of form. This is it in the other version.
pub record IsConvertible (held : List ℕ → Option (List ℕ)) (words : List (List ℕ)) (converted : Converted) : Type 0 where
  pub request : ConvertRequest
  pub asks : AsksConvert words request
  pub account : List ℕ
  pub there : held request.account ≡ Some account
  pub is : IsConverted account converted

-- The words ask for an account to be converted, which has no fault of form.
pub record IsAskedToConvert (held : List ℕ → Option (List ℕ)) (words : List (List ℕ)) : Type 0 where
  pub request : ConvertRequest
  pub asks : AsksConvert words request
  pub account : List ℕ
  pub there : held request.account ≡ Some account
  pub records : List Record
  pub formed : IsAccountOf account records

-- the outcome is that an account was converted
abbrev pub IsOfConvert : Outcome → Type 0
IsOfConvert outcome = (from : ℕ) × (to : ℕ) × (records : ℕ) × (outcome ≡ outcome_of.Converted from to records)

-- An account is converted from one version to another, and has so many records.
pub record IsConvertedTo (held : List ℕ → Option (List ℕ)) (words : List (List ℕ)) (from to records : ℕ) : Type 0 where
  pub converted : Converted
  pub is : IsConvertible held words converted
  pub from_is : from ≡ converted.from
  pub to_is : to ≡ converted.to
  pub records_are : records ≡ converted.records

-- The words ask for an account to be converted, and the new file has it in the other version.
pub record HasConverted (before after : List ℕ → Option (List ℕ)) (words : List (List ℕ)) (from to records : ℕ) : Type 0 where
  pub conversion : IsConvertedTo before words from to records
  pub there : after conversion.is.request.converted ≡ Some conversion.converted.bytes

-- The words ask for an account to be converted, and the new file has the first bytes of it in the other version.
pub record HasPartOfConverted (before after : List ℕ → Option (List ℕ)) (words : List (List ℕ)) : Type 0 where
  pub converted : Converted
  pub is : IsConvertible before words converted
  pub count : ℕ
  pub part : after is.request.converted ≡ Some (take count converted.bytes)

-- the words ask for an account to be converted into a file of this name
abbrev pub NamesConverted : List (List ℕ) → List ℕ → Type 0
NamesConverted words name = (request : ConvertRequest) × AsksConvert words request × (name ≡ request.converted)
