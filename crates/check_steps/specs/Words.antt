-- The words of the command line.
use Rattle.std.specs.Prelude.{◌≡◌, ◌≢◌, ◌⊎◌, ℕ, ◌^◌, ◌<◌, ◌≤◌, List, [], ◌∷◌, length, Some, codes}
use Rattle.text_core.specs.Numbers.{number}

-- `check FIRST SECOND ACCOUNT`, with three names that aren't empty
pub record AsksCheck (words : List (List ℕ)) (first second account : List ℕ) : Type 0 where
  pub form : words ≡ codes "check" ∷ first ∷ second ∷ account ∷ []
  pub first_named : first ≢ []
  pub second_named : second ≢ []
  pub account_named : account ≢ []

-- the words of a check of two netlists by an account
abbrev pub check_words : List ℕ → List ℕ → List ℕ → List (List ℕ)
check_words first second account = codes "check" ∷ first ∷ second ∷ account ∷ []

-- A word of 1 to 20 digits that writes a number of 64 bits.
pub record IsNumber (word : List ℕ) (value : ℕ) : Type 0 where
  pub digits : number word ≡ Some value
  pub short : length word ≤ 20
  pub fits : value < 2 ^ 64

-- What `match` is asked for: a match of two netlists, of which an account is written, with so many learned clauses at
-- most, and by vectors that are drawn from a seed.
pub record MatchRequest : Type 0 where
  pub first : List ℕ
  pub second : List ℕ
  pub account : List ℕ
  pub budget : ℕ
  pub seed : ℕ

-- the budget where the words give none (this project's)
abbrev pub default_budget : ℕ
default_budget = 1000000000

-- the seed where the words give none (this project's)
abbrev pub default_seed : ℕ
default_seed = 1

-- the words are a budget and a seed, or the budget alone, or none
abbrev pub AreBudgetAndSeed : List (List ℕ) → ℕ → ℕ → Type 0
AreBudgetAndSeed [] budget seed = (budget ≡ default_budget) × (seed ≡ default_seed)
AreBudgetAndSeed (word ∷ []) budget seed = IsNumber word budget × (seed ≡ default_seed)
AreBudgetAndSeed (word ∷ other ∷ []) budget seed = IsNumber word budget × IsNumber other seed
AreBudgetAndSeed (word ∷ other ∷ another ∷ words) budget seed = ⊥

-- Names of two netlists and of an account that is written: none is empty, and the account's is neither of the others.
pub record AreNames (first second account : List ℕ) : Type 0 where
  pub first_named : first ≢ []
  pub second_named : second ≢ []
  pub account_named : account ≢ []
  pub not_first : account ≢ first
  pub not_second : account ≢ second

-- Names of two netlists, of an account, and of a file that is written: none is empty, and the last is none of the
-- others.
pub record AreFourNames (first second account restored : List ℕ) : Type 0 where
  pub first_named : first ≢ []
  pub second_named : second ≢ []
  pub account_named : account ≢ []
  pub restored_named : restored ≢ []
  pub not_first : restored ≢ first
  pub not_second : restored ≢ second
  pub not_account : restored ≢ account

-- What `restore` is asked for: the second of two netlists with the first one's ports, by an account of a match of them,
-- in a file that is written.
pub record RestoreRequest : Type 0 where
  pub first : List ℕ
  pub second : List ℕ
  pub account : List ℕ
  pub restored : List ℕ

-- `restore FIRST SECOND ACCOUNT NEW`
pub record AsksRestore (words : List (List ℕ)) (request : RestoreRequest) : Type 0 where
  pub form : words ≡ codes "restore" ∷ request.first ∷ request.second ∷ request.account ∷ request.restored ∷ []
  pub names : AreFourNames request.first request.second request.account request.restored

-- What `trim` is asked for: the account of two netlists without what its conclusion doesn't rest on, in a file that is
-- written.
pub record TrimRequest : Type 0 where
  pub first : List ℕ
  pub second : List ℕ
  pub account : List ℕ
  pub trimmed : List ℕ

-- `trim FIRST SECOND OLD NEW`
pub record AsksTrim (words : List (List ℕ)) (request : TrimRequest) : Type 0 where
  pub form : words ≡ codes "trim" ∷ request.first ∷ request.second ∷ request.account ∷ request.trimmed ∷ []
  pub names : AreFourNames request.first request.second request.account request.trimmed

-- Names of two files, of which one is written, or both are: neither is empty, and they differ.
pub record AreTwoNames (first second : List ℕ) : Type 0 where
  pub first_named : first ≢ []
  pub second_named : second ≢ []
  pub apart : second ≢ first

-- What `convert` is asked for: an account in the other version, in a file that is written.
pub record ConvertRequest : Type 0 where
  pub account : List ℕ
  pub converted : List ℕ

-- `convert OLD NEW`
pub record AsksConvert (words : List (List ℕ)) (request : ConvertRequest) : Type 0 where
  pub form : words ≡ codes "convert" ∷ request.account ∷ request.converted ∷ []
  pub names : AreTwoNames request.account request.converted

-- What `flatten` is asked for: a file of several models as one flat netlist, in a file that is written.
pub record FlattenRequest : Type 0 where
  pub file : List ℕ
  pub flat : List ℕ

-- `flatten FILE NEW`
pub record AsksFlatten (words : List (List ℕ)) (request : FlattenRequest) : Type 0 where
  pub form : words ≡ codes "flatten" ∷ request.file ∷ request.flat ∷ []
  pub names : AreTwoNames request.file request.flat

-- What `sweep` is asked for: a netlist with one signal in place of all that compute the same, in a file that is written,
-- with so many learned clauses at most.
pub record SweepRequest : Type 0 where
  pub file : List ℕ
  pub swept : List ℕ
  pub allowance : ℕ

-- the allowance where the words give none (this project's)
abbrev pub default_allowance : ℕ
default_allowance = 1000000

-- `sweep FILE NEW`, whose allowance is the default one, or `sweep FILE NEW ALLOWANCE`
abbrev pub HaveSweepForm : List (List ℕ) → SweepRequest → Type 0
HaveSweepForm words request =
    ((words ≡ codes "sweep" ∷ request.file ∷ request.swept ∷ []) × (request.allowance ≡ default_allowance))
    ⊎ ((word : List ℕ)
    × (words ≡ codes "sweep" ∷ request.file ∷ request.swept ∷ word ∷ [])
    × IsNumber word request.allowance)

-- `sweep FILE NEW [ALLOWANCE]`
pub record AsksSweep (words : List (List ℕ)) (request : SweepRequest) : Type 0 where
  pub form : HaveSweepForm words request
  pub names : AreTwoNames request.file request.swept

-- `match FIRST SECOND ACCOUNT [BUDGET [SEED]]`
pub record AsksMatch (words : List (List ℕ)) (sought : MatchRequest) : Type 0 where
  pub numbers : List (List ℕ)
  pub form : words ≡ codes "match" ∷ sought.first ∷ sought.second ∷ sought.account ∷ numbers
  pub names : AreNames sought.first sought.second sought.account
  pub numbers_are : AreBudgetAndSeed numbers sought.budget sought.seed

-- `info FILE`, whose budget is the default one, or `info FILE BUDGET`
abbrev pub HaveInfoForm : List (List ℕ) → List ℕ → ℕ → Type 0
HaveInfoForm words file budget =
    ((words ≡ codes "info" ∷ file ∷ []) × (budget ≡ default_budget))
    ⊎ ((word : List ℕ) × (words ≡ codes "info" ∷ file ∷ word ∷ []) × IsNumber word budget)

-- `info FILE [BUDGET]`, with a name that isn't empty
pub record AsksInfo (words : List (List ℕ)) (file : List ℕ) (budget : ℕ) : Type 0 where
  pub form : HaveInfoForm words file budget
  pub named : file ≢ []

-- What `make` is asked for: the pair of a number, in two files.
pub record MakeRequest : Type 0 where
  pub number : ℕ
  pub first : List ℕ
  pub second : List ℕ

-- `make NUMBER FIRST SECOND`
pub record AsksMake (words : List (List ℕ)) (request : MakeRequest) : Type 0 where
  pub word : List ℕ
  pub form : words ≡ codes "make" ∷ word ∷ request.first ∷ request.second ∷ []
  pub number_is : IsNumber word request.number
  pub names : AreTwoNames request.first request.second

-- `trial NUMBER`
pub record AsksTrial (words : List (List ℕ)) (number : ℕ) : Type 0 where
  pub word : List ℕ
  pub form : words ≡ codes "trial" ∷ word ∷ []
  pub number_is : IsNumber word number

-- the words ask for a pair
abbrev pub AskForPair : List (List ℕ) → Type 0
AskForPair words = (request : MakeRequest) × AsksMake words request

-- the words name two netlists and an account, for a check or for a match
abbrev pub NameThree : List (List ℕ) → List ℕ → List ℕ → List ℕ → Type 0
NameThree words first second account =
    AsksCheck words first second account
    ⊎ ((budget seed : ℕ)
    × AsksMatch words (record { first = first; second = second; account = account; budget = budget; seed = seed }))

-- the words name one netlist, of which they ask what is known, or which is to be swept
abbrev pub NameOne : List (List ℕ) → List ℕ → Type 0
NameOne words file =
    ((budget : ℕ) × AsksInfo words file budget)
    ⊎ ((request : SweepRequest) × AsksSweep words request × (file ≡ request.file))

-- the words name files that are read
abbrev pub ReadFiles : List (List ℕ) → Type 0
ReadFiles words =
    ((first second account : List ℕ) × NameThree words first second account)
    ⊎ ((file : List ℕ) × NameOne words file)
    ⊎ ((request : RestoreRequest) × AsksRestore words request)
    ⊎ ((request : TrimRequest) × AsksTrim words request)
    ⊎ ((request : ConvertRequest) × AsksConvert words request)
    ⊎ ((request : FlattenRequest) × AsksFlatten words request)

-- words of no form that is known
pub record AskNothing (words : List (List ℕ)) : Type 0 where
  pub no_check : (first second account : List ℕ) → AsksCheck words first second account → ⊥
  pub no_restore : (request : RestoreRequest) → AsksRestore words request → ⊥
  pub no_trim : (request : TrimRequest) → AsksTrim words request → ⊥
  pub no_convert : (request : ConvertRequest) → AsksConvert words request → ⊥
  pub no_flatten : (request : FlattenRequest) → AsksFlatten words request → ⊥
  pub no_sweep : (request : SweepRequest) → AsksSweep words request → ⊥
  pub no_match : (sought : MatchRequest) → AsksMatch words sought → ⊥
  pub no_info : (file : List ℕ) (budget : ℕ) → AsksInfo words file budget → ⊥
  pub no_make : (request : MakeRequest) → AsksMake words request → ⊥
  pub no_trial : (number : ℕ) → AsksTrial words number → ⊥
