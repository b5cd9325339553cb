-- Words have one form, and one reading in it.
use Rattle.std.proofs.Common.{◌≡◌, ℕ, ◌<◌, ◌⊎◌, inl, inr, List, [], length, get_or, refl, sym, ◌∙◌, ap, arith}
use Rattle.check_steps.specs.Words.{AskForPair, AsksCheck, AsksConvert, AsksFlatten, AsksInfo, AsksMatch, AsksRestore, AsksSweep, AsksTrial, AsksTrim, AskNothing, ReadFiles}
use Rattle.check_steps.specs.Words.{ConvertRequest, FlattenRequest, MatchRequest, RestoreRequest, SweepRequest, TrimRequest, check_words}
use Rattle.check_steps.specs.Asks.{Ask, convert_request, flatten_request, match_request, make_request, restore_request, sweep_request, trim_request}
use Rattle.run_steps.specs.Commands.{IsReadingCommand, IsTrialCommand}
use Rattle.check_steps.specs.declared.words.Command.{Command}
use Rattle.check_steps.specs.declared.words.Command.TheVariants.{Check, Restore, Trim, Convert, Flatten, Sweep, Match, Info, Make, Trial}

pub names_one : (words : List (List ℕ)) (f g t f' g' t' : List ℕ) → AsksCheck words f g t → AsksCheck words f' g' t' → (f' ≡ f) × (g' ≡ g) × (t' ≡ t)
names_one words f g t f' g' t' one other = let e = one.form in let e' = other.form in (cc, cc, cc)

-- the second word is the file's name
pub file_named : (words : List (List ℕ)) (file : List ℕ) (budget : ℕ) → AsksInfo words file budget → get_or words 1 [] ≡ file
file_named words file budget asks =
    elim asks.form [
      | inl (form, is) ↦ ap (λ (words : List (List ℕ)). get_or words 1 []) form
      | inr (word, form, is) ↦ ap (λ (words : List (List ℕ)). get_or words 1 []) form
    ]

-- and of a netlist that is to be swept
pub swept_named : (words : List (List ℕ)) (request : SweepRequest) → AsksSweep words request → get_or words 1 [] ≡ request.file
swept_named words request asks =
    elim asks.form [
      | inl (form, is) ↦ ap (λ (words : List (List ℕ)). get_or words 1 []) form
      | inr (word, form, is) ↦ ap (λ (words : List (List ℕ)). get_or words 1 []) form
    ]

-- a match is sought of the netlists of the second and the third word
pub sought_named : (words : List (List ℕ)) (sought : MatchRequest) → AsksMatch words sought → (get_or words 1 [] ≡ sought.first) × (get_or words 2 [] ≡ sought.second)
sought_named words sought asks = (ap (λ (words : List (List ℕ)). get_or words 1 []) asks.form, ap (λ (words : List (List ℕ)). get_or words 2 []) asks.form)

pub sought_one : (words : List (List ℕ)) (a b : MatchRequest) → AsksMatch words a → AsksMatch words b → (b.first ≡ a.first) × (b.second ≡ a.second)
sought_one words a b one other =
    let e = sought_named words a one in
    let e' = sought_named words b other in
    (sym e'.0 ∙ e.0, sym e'.1 ∙ e.1)

-- words of two forms have two lengths, or two first letters
pub check_or_info : (words : List (List ℕ)) (f g t file : List ℕ) (budget : ℕ) → AsksCheck words f g t → AsksInfo words file budget → ⊥
check_or_info words f g t file budget check info =
    elim info.form [
      | inl (form, is) ↦ omega (arith, ap length check.form, ap length form)
      | inr (word, form, is) ↦ omega (arith, ap length check.form, ap length form)
    ]

pub match_or_info : (words : List (List ℕ)) (sought : MatchRequest) (file : List ℕ) (budget : ℕ) → AsksMatch words sought → AsksInfo words file budget → ⊥
match_or_info words sought file budget asks info =
    elim info.form [
      | inl (form, is) ↦ omega (arith, ap length asks.form, ap length form)
      | inr (word, form, is) ↦ omega (arith, ap length asks.form, ap length form)
    ]

pub check_or_match : (words : List (List ℕ)) (f g t : List ℕ) (sought : MatchRequest) → AsksCheck words f g t → AsksMatch words sought → ⊥
check_or_match words f g t sought check asks =
    let letter = λ (words : List (List ℕ)). get_or (get_or words 0 []) 0 0 in
    let is : 99 ≡ 109 = sym (ap letter check.form) ∙ ap letter asks.form in
    omega (arith, is)

pub restore_or_check : (words : List (List ℕ)) (request : RestoreRequest) (f g t : List ℕ) → AsksRestore words request → AsksCheck words f g t → ⊥
restore_or_check words request f g t restore check = omega (arith, ap length restore.form, ap length check.form)

pub restore_or_info : (words : List (List ℕ)) (request : RestoreRequest) (file : List ℕ) (budget : ℕ) → AsksRestore words request → AsksInfo words file budget → ⊥
restore_or_info words request file budget restore info =
    elim info.form [
      | inl (form, is) ↦ omega (arith, ap length restore.form, ap length form)
      | inr (word, form, is) ↦ omega (arith, ap length restore.form, ap length form)
    ]

pub restore_or_match : (words : List (List ℕ)) (request : RestoreRequest) (sought : MatchRequest) → AsksRestore words request → AsksMatch words sought → ⊥
restore_or_match words request sought restore asks =
    let letter = λ (words : List (List ℕ)). get_or (get_or words 0 []) 0 0 in
    let is : 114 ≡ 109 = sym (ap letter restore.form) ∙ ap letter asks.form in
    omega (arith, is)

pub trim_or_check : (words : List (List ℕ)) (request : TrimRequest) (f g t : List ℕ) → AsksTrim words request → AsksCheck words f g t → ⊥
trim_or_check words request f g t trim check = omega (arith, ap length trim.form, ap length check.form)

pub trim_or_info : (words : List (List ℕ)) (request : TrimRequest) (file : List ℕ) (budget : ℕ) → AsksTrim words request → AsksInfo words file budget → ⊥
trim_or_info words request file budget trim info =
    elim info.form [
      | inl (form, is) ↦ omega (arith, ap length trim.form, ap length form)
      | inr (word, form, is) ↦ omega (arith, ap length trim.form, ap length form)
    ]

pub convert_or_check : (words : List (List ℕ)) (request : ConvertRequest) (f g t : List ℕ) → AsksConvert words request → AsksCheck words f g t → ⊥
convert_or_check words request f g t convert check = omega (arith, ap length convert.form, ap length check.form)

pub convert_or_restore : (words : List (List ℕ)) (request : ConvertRequest) (restored : RestoreRequest) → AsksConvert words request → AsksRestore words restored → ⊥
convert_or_restore words request restored convert restore = omega (arith, ap length convert.form, ap length restore.form)

pub convert_or_trim : (words : List (List ℕ)) (request : ConvertRequest) (trimmed : TrimRequest) → AsksConvert words request → AsksTrim words trimmed → ⊥
convert_or_trim words request trimmed convert trim = omega (arith, ap length convert.form, ap length trim.form)

pub flatten_or_check : (words : List (List ℕ)) (request : FlattenRequest) (f g t : List ℕ) → AsksFlatten words request → AsksCheck words f g t → ⊥
flatten_or_check words request f g t flatten check = omega (arith, ap length flatten.form, ap length check.form)

pub flatten_or_restore : (words : List (List ℕ)) (request : FlattenRequest) (restored : RestoreRequest) → AsksFlatten words request → AsksRestore words restored → ⊥
flatten_or_restore words request restored flatten restore = omega (arith, ap length flatten.form, ap length restore.form)

pub flatten_or_trim : (words : List (List ℕ)) (request : FlattenRequest) (trimmed : TrimRequest) → AsksFlatten words request → AsksTrim words trimmed → ⊥
flatten_or_trim words request trimmed flatten trim = omega (arith, ap length flatten.form, ap length trim.form)

-- commands by the fourth letter of the first word: `check` and `match` have the same, and so have `restore` and `flatten`

abbrev fourth : List (List ℕ) → ℕ
fourth words = get_or (get_or words 0 []) 3 0

fourth_of_info : (words : List (List ℕ)) (file : List ℕ) (budget : ℕ) → AsksInfo words file budget → fourth words ≡ 111
fourth_of_info words file budget info = elim info.form [ inl (form, is) ↦ ap fourth form | inr (word, form, is) ↦ ap fourth form ]

pub trim_or_restore : (words : List (List ℕ)) (request : TrimRequest) (restored : RestoreRequest) → AsksTrim words request → AsksRestore words restored → ⊥
trim_or_restore words request restored trim restore =
    let is : 109 ≡ 116 = sym (ap fourth trim.form) ∙ ap fourth restore.form in
    omega (arith, is)

pub trim_or_match : (words : List (List ℕ)) (request : TrimRequest) (sought : MatchRequest) → AsksTrim words request → AsksMatch words sought → ⊥
trim_or_match words request sought trim asks =
    let is : 109 ≡ 99 = sym (ap fourth trim.form) ∙ ap fourth asks.form in
    omega (arith, is)

pub convert_or_match : (words : List (List ℕ)) (request : ConvertRequest) (sought : MatchRequest) → AsksConvert words request → AsksMatch words sought → ⊥
convert_or_match words request sought convert asks =
    let is : 118 ≡ 99 = sym (ap fourth convert.form) ∙ ap fourth asks.form in
    omega (arith, is)

pub convert_or_info : (words : List (List ℕ)) (request : ConvertRequest) (file : List ℕ) (budget : ℕ) → AsksConvert words request → AsksInfo words file budget → ⊥
convert_or_info words request file budget convert info =
    let is : 118 ≡ 111 = sym (ap fourth convert.form) ∙ fourth_of_info words file budget info in
    omega (arith, is)

pub flatten_or_match : (words : List (List ℕ)) (request : FlattenRequest) (sought : MatchRequest) → AsksFlatten words request → AsksMatch words sought → ⊥
flatten_or_match words request sought flatten asks =
    let is : 116 ≡ 99 = sym (ap fourth flatten.form) ∙ ap fourth asks.form in
    omega (arith, is)

pub flatten_or_info : (words : List (List ℕ)) (request : FlattenRequest) (file : List ℕ) (budget : ℕ) → AsksFlatten words request → AsksInfo words file budget → ⊥
flatten_or_info words request file budget flatten info =
    let is : 116 ≡ 111 = sym (ap fourth flatten.form) ∙ fourth_of_info words file budget info in
    omega (arith, is)

pub flatten_or_convert : (words : List (List ℕ)) (request : FlattenRequest) (converted : ConvertRequest) → AsksFlatten words request → AsksConvert words converted → ⊥
flatten_or_convert words request converted flatten convert =
    let is : 116 ≡ 118 = sym (ap fourth flatten.form) ∙ ap fourth convert.form in
    omega (arith, is)

-- words that ask for a netlist to be swept begin with a letter that no others begin with

abbrev first_letter : List (List ℕ) → ℕ
first_letter words = get_or (get_or words 0 []) 0 0

letter_of_sweep : (words : List (List ℕ)) (request : SweepRequest) → AsksSweep words request → first_letter words ≡ 115
letter_of_sweep words request sweep = elim sweep.form [ inl (form, is) ↦ ap first_letter form | inr (word, form, is) ↦ ap first_letter form ]

other_than_sweep : (words : List (List ℕ)) (request : SweepRequest) (letter : ℕ) → AsksSweep words request → first_letter words ≡ letter → (letter < 115) ⊎ (115 < letter) → ⊥
other_than_sweep words request letter sweep is apart =
    let same : 115 ≡ letter = sym (letter_of_sweep words request sweep) ∙ is in
    elim apart [ inl low ↦ omega (arith, same, low) | inr high ↦ omega (arith, same, high) ]

pub sweep_or_check : (words : List (List ℕ)) (request : SweepRequest) (f g t : List ℕ) → AsksSweep words request → AsksCheck words f g t → ⊥
sweep_or_check words request f g t sweep check = other_than_sweep words request 99 sweep (ap first_letter check.form) (inl (omega arith))

pub sweep_or_restore : (words : List (List ℕ)) (request : SweepRequest) (restored : RestoreRequest) → AsksSweep words request → AsksRestore words restored → ⊥
sweep_or_restore words request restored sweep restore = other_than_sweep words request 114 sweep (ap first_letter restore.form) (inl (omega arith))

pub sweep_or_trim : (words : List (List ℕ)) (request : SweepRequest) (trimmed : TrimRequest) → AsksSweep words request → AsksTrim words trimmed → ⊥
sweep_or_trim words request trimmed sweep trim = other_than_sweep words request 116 sweep (ap first_letter trim.form) (inr (omega arith))

pub sweep_or_convert : (words : List (List ℕ)) (request : SweepRequest) (converted : ConvertRequest) → AsksSweep words request → AsksConvert words converted → ⊥
sweep_or_convert words request converted sweep convert = other_than_sweep words request 99 sweep (ap first_letter convert.form) (inl (omega arith))

pub sweep_or_flatten : (words : List (List ℕ)) (request : SweepRequest) (flattened : FlattenRequest) → AsksSweep words request → AsksFlatten words flattened → ⊥
sweep_or_flatten words request flattened sweep flatten = other_than_sweep words request 102 sweep (ap first_letter flatten.form) (inl (omega arith))

pub sweep_or_match : (words : List (List ℕ)) (request : SweepRequest) (sought : MatchRequest) → AsksSweep words request → AsksMatch words sought → ⊥
sweep_or_match words request sought sweep asks = other_than_sweep words request 109 sweep (ap first_letter asks.form) (inl (omega arith))

pub sweep_or_info : (words : List (List ℕ)) (request : SweepRequest) (file : List ℕ) (budget : ℕ) → AsksSweep words request → AsksInfo words file budget → ⊥
sweep_or_info words request file budget sweep info =
    elim info.form [
      | inl (form, is) ↦ other_than_sweep words request 105 sweep (ap first_letter form) (inl (omega arith))
      | inr (word, form, is) ↦ other_than_sweep words request 105 sweep (ap first_letter form) (inl (omega arith))
    ]

sweep_or_make : (words : List (List ℕ)) (request : SweepRequest) → AsksSweep words request → AskForPair words → ⊥
sweep_or_make words request sweep (made, make) = other_than_sweep words request 109 sweep (ap first_letter make.form) (inl (omega arith))

sweep_or_trial : (words : List (List ℕ)) (request : SweepRequest) (number : ℕ) → AsksSweep words request → AsksTrial words number → ⊥
sweep_or_trial words request number sweep trial = other_than_sweep words request 116 sweep (ap first_letter trial.form) (inr (omega arith))

-- words that ask for a pair or for a trial name no file that is read

abbrev IsFourthOfRead : ℕ → Type 0
IsFourthOfRead letter = (letter ≡ 99) ⊎ (letter ≡ 111) ⊎ (letter ≡ 116) ⊎ (letter ≡ 109) ⊎ (letter ≡ 118)

fourth_of_read : (words : List (List ℕ)) → ((request : SweepRequest) → AsksSweep words request → ⊥) → ReadFiles words → IsFourthOfRead (fourth words)
fourth_of_read words unswept reads =
    elim reads [
      | inl (first, second, account, inl asks) ↦ inl (ap fourth asks.form)
      | inl (first, second, account, inr (budget, seed, asks)) ↦ inl (ap fourth asks.form)
      | inr (inl (file, inl (budget, asks))) ↦ inr (inl (fourth_of_info words file budget asks))
      | inr (inl (file, inr (request, asks, is))) ↦ absurd (unswept request asks)
      | inr (inr (inl (request, asks))) ↦ inr (inr (inl (ap fourth asks.form)))
      | inr (inr (inr (inl (request, asks)))) ↦ inr (inr (inr (inl (ap fourth asks.form))))
      | inr (inr (inr (inr (inl (request, asks))))) ↦ inr (inr (inr (inr (ap fourth asks.form))))
      | inr (inr (inr (inr (inr (request, asks))))) ↦ inr (inr (inl (ap fourth asks.form)))
    ]

-- a letter of no such command
other_letter : (letter other : ℕ) → IsFourthOfRead letter → letter ≡ other → (other < 99) ⊎ ((99 < other) × (other < 109)) → ⊥
other_letter letter other read is apart =
    elim apart [
      | inl low ↦ elim read [
        | inl e ↦ omega (arith, e, is, low)
        | inr (inl e) ↦ omega (arith, e, is, low)
        | inr (inr (inl e)) ↦ omega (arith, e, is, low)
        | inr (inr (inr (inl e))) ↦ omega (arith, e, is, low)
        | inr (inr (inr (inr e))) ↦ omega (arith, e, is, low)
      ]
      | inr (over, under) ↦ elim read [
        | inl e ↦ omega (arith, e, is, over)
        | inr (inl e) ↦ omega (arith, e, is, under)
        | inr (inr (inl e)) ↦ omega (arith, e, is, under)
        | inr (inr (inr (inl e))) ↦ omega (arith, e, is, under)
        | inr (inr (inr (inr e))) ↦ omega (arith, e, is, under)
      ]
    ]

pub read_or_make : (words : List (List ℕ)) → ReadFiles words → AskForPair words → ⊥
read_or_make words reads (request, make) =
    other_letter (fourth words) 101 (fourth_of_read words (λ swept sweep. sweep_or_make words swept sweep (request, make)) reads) (ap fourth make.form) (inr (omega arith, omega arith))

pub read_or_trial : (words : List (List ℕ)) (number : ℕ) → ReadFiles words → AsksTrial words number → ⊥
read_or_trial words number reads trial =
    other_letter (fourth words) 97 (fourth_of_read words (λ swept sweep. sweep_or_trial words swept number sweep trial) reads) (ap fourth trial.form) (inl (omega arith))

pub make_or_trial : (words : List (List ℕ)) (number : ℕ) → AskForPair words → AsksTrial words number → ⊥
make_or_trial words number (request, make) trial =
    let is : 101 ≡ 97 = sym (ap fourth make.form) ∙ ap fourth trial.form in
    omega (arith, is)

-- a command that reads names files
pub reads_of : (words : List (List ℕ)) (command : Command) → IsReadingCommand command → Ask words command → ReadFiles words
reads_of words (Check check) is asks = inl (check.first.now, check.second.now, check.account.now, inl asks)
reads_of words (Match sought) is asks = inl (sought.first.now, sought.second.now, sought.account.now, inr (sought.budget, sought.seed, asks))
reads_of words (Info info) is asks = inr (inl (info.file.now, inl (info.budget, asks)))
reads_of words (Restore asked) is asks = inr (inr (inl (restore_request asked, asks)))
reads_of words (Trim asked) is asks = inr (inr (inr (inl (trim_request asked, asks))))
reads_of words (Convert asked) is asks = inr (inr (inr (inr (inl (convert_request asked, asks)))))
reads_of words (Flatten asked) is asks = inr (inr (inr (inr (inr (flatten_request asked, asks)))))
reads_of words (Sweep asked) is asks = inr (inl (asked.file.now, inr (sweep_request asked, asks, refl)))
reads_of words (Make asked) is asks = absurd is
reads_of words (Trial trial) is asks = absurd is

-- the words of a trial are of no other command
pub trial_command : (words : List (List ℕ)) (command : Command) (number : ℕ) → Ask words command → AsksTrial words number → IsTrialCommand command
trial_command words (Check check) number asks trial = absurd (read_or_trial words number (reads_of words (Check check) tt asks) trial)
trial_command words (Match sought) number asks trial = absurd (read_or_trial words number (reads_of words (Match sought) tt asks) trial)
trial_command words (Restore asked) number asks trial = absurd (read_or_trial words number (reads_of words (Restore asked) tt asks) trial)
trial_command words (Trim asked) number asks trial = absurd (read_or_trial words number (reads_of words (Trim asked) tt asks) trial)
trial_command words (Convert asked) number asks trial = absurd (read_or_trial words number (reads_of words (Convert asked) tt asks) trial)
trial_command words (Flatten asked) number asks trial = absurd (read_or_trial words number (reads_of words (Flatten asked) tt asks) trial)
trial_command words (Sweep asked) number asks trial = absurd (read_or_trial words number (reads_of words (Sweep asked) tt asks) trial)
trial_command words (Info info) number asks trial = absurd (read_or_trial words number (reads_of words (Info info) tt asks) trial)
trial_command words (Make asked) number asks trial = absurd (make_or_trial words number (make_request asked, asks) trial)
trial_command words (Trial tried) number asks trial = tt

-- words that ask for a command are of a known form
pub known_form : (words : List (List ℕ)) (command : Command) → Ask words command → AskNothing words → ⊥
known_form words (Check check) asks nothing = nothing.no_check check.first.now check.second.now check.account.now asks
known_form words (Restore asked) asks nothing = nothing.no_restore (restore_request asked) asks
known_form words (Trim asked) asks nothing = nothing.no_trim (trim_request asked) asks
known_form words (Convert asked) asks nothing = nothing.no_convert (convert_request asked) asks
known_form words (Flatten asked) asks nothing = nothing.no_flatten (flatten_request asked) asks
known_form words (Sweep asked) asks nothing = nothing.no_sweep (sweep_request asked) asks
known_form words (Match sought) asks nothing = nothing.no_match (match_request sought) asks
known_form words (Info info) asks nothing = nothing.no_info info.file.now info.budget asks
known_form words (Make asked) asks nothing = nothing.no_make (make_request asked) asks
known_form words (Trial trial) asks nothing = nothing.no_trial trial.number asks

-- the words of the check of what a match named
pub check_of : (words : List (List ℕ)) (sought : MatchRequest) → AsksMatch words sought → AsksCheck (check_words sought.first sought.second sought.account) sought.first sought.second sought.account
check_of words sought asks = record {
  form = refl;
  first_named = asks.names.first_named;
  second_named = asks.names.second_named;
  account_named = asks.names.account_named;
}

-- and of what names a netlist to be restored
pub check_of_restore : (words : List (List ℕ)) (request : RestoreRequest) → AsksRestore words request → AsksCheck (check_words request.first request.second request.account) request.first request.second request.account
check_of_restore words request asks = record {
  form = refl;
  first_named = asks.names.first_named;
  second_named = asks.names.second_named;
  account_named = asks.names.account_named;
}

-- and of what names an account to be trimmed
pub check_of_trim : (words : List (List ℕ)) (request : TrimRequest) → AsksTrim words request → AsksCheck (check_words request.first request.second request.account) request.first request.second request.account
check_of_trim words request asks = record {
  form = refl;
  first_named = asks.names.first_named;
  second_named = asks.names.second_named;
  account_named = asks.names.account_named;
}
