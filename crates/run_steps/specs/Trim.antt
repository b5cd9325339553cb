-- What `trim` says of the words and of the files, and what it leaves: the account without what its conclusion doesn't rest
-- on.
use Rattle.std.specs.Prelude.{◌≡◌, ◌⊎◌, ℕ, List, take, Option, Some}
use Rattle.account_check.specs.declared.verdict.Verdict.{Verdict}
use Rattle.account_trim.specs.declared.trimming.Trimmed.{Trimmed}
use Rattle.account_trim.specs.Trims.{IsTrimmed}
use Rattle.check_steps.specs.Check.{IsAccepted}
use Rattle.check_steps.specs.Words.{AsksTrim, TrimRequest, check_words}
use Rattle.check_steps.specs.declared.outcome.Outcome.{Outcome}
use Rattle.check_steps.specs.declared.outcome.Outcome.TheVariants as outcome_of
use Rattle.run_steps.specs.Restore.{AsChecked}

-- this is so of the words, or they ask for a netlist to be restored or for an account to be trimmed and it is so of a check
-- by the first three names
abbrev pub AsRead : (List (List ℕ) → Type 0) → List (List ℕ) → Type 0
AsRead P words =
    AsChecked P words ⊎ ((request : TrimRequest) × AsksTrim words request × P (check_words request.first request.second request.account))

-- The words ask for an account to be trimmed, and a check by the first three names accepts it. This is what is left of it.
pub record IsTrimmable (held : List ℕ → Option (List ℕ)) (words : List (List ℕ)) (trimmed : Trimmed) : Type 0 where
  pub request : TrimRequest
  pub asks : AsksTrim words request
  pub told : Verdict
  pub accepted : IsAccepted held (check_words request.first request.second request.account) told
  pub is : IsTrimmed accepted.graphs accepted.account trimmed

-- The words ask for an account to be trimmed, and a check by the first three names accepts it.
pub record IsAskedToTrim (held : List ℕ → Option (List ℕ)) (words : List (List ℕ)) : Type 0 where
  pub request : TrimRequest
  pub asks : AsksTrim words request
  pub told : Verdict
  pub accepted : IsAccepted held (check_words request.first request.second request.account) told

-- the outcome is that an account was trimmed
abbrev pub IsOfTrim : Outcome → Type 0
IsOfTrim outcome = (before : ℕ) × (after : ℕ) × (outcome ≡ outcome_of.Trimmed before after)

-- So many records were there, and so many are left.
pub record IsTrimmedTo (held : List ℕ → Option (List ℕ)) (words : List (List ℕ)) (before after : ℕ) : Type 0 where
  pub trimmed : Trimmed
  pub is : IsTrimmable held words trimmed
  pub before_is : before ≡ trimmed.before
  pub after_is : after ≡ trimmed.after

-- The words ask for an account to be trimmed, and the new file has what is left of it.
pub record HasTrimmed (held held_now : List ℕ → Option (List ℕ)) (words : List (List ℕ)) (before after : ℕ) : Type 0 where
  pub trim : IsTrimmedTo held words before after
  pub there : held_now trim.is.request.trimmed ≡ Some trim.trimmed.bytes.items

-- The words ask for an account to be trimmed, and the new file has the first bytes of what is left of it.
pub record HasPartOfTrimmed (held held_now : List ℕ → Option (List ℕ)) (words : List (List ℕ)) : Type 0 where
  pub trimmed : Trimmed
  pub is : IsTrimmable held words trimmed
  pub count : ℕ
  pub part : held_now is.request.trimmed ≡ Some (take count trimmed.bytes.items)

-- the words ask for an account to be trimmed into a file of this name
abbrev pub NamesTrimmed : List (List ℕ) → List ℕ → Type 0
NamesTrimmed words name = (request : TrimRequest) × AsksTrim words request × (name ≡ request.trimmed)
