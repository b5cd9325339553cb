-- What the words of the command line ask for, as a command.
use Rattle.std.specs.Prelude.{ℕ, List}
use Rattle.check_steps.specs.Words.{AsksCheck, AsksConvert, AsksFlatten, AsksInfo, AsksMake, AsksMatch, AsksRestore, AsksSweep, AsksTrial, AsksTrim}
use Rattle.check_steps.specs.Words.{ConvertRequest, FlattenRequest, MatchRequest, MakeRequest, RestoreRequest, SweepRequest, TrimRequest}
use Rattle.check_steps.specs.declared.words.Convert.{Convert as ConvertWords}
use Rattle.check_steps.specs.declared.words.Flatten.{Flatten as FlattenWords}
use Rattle.check_steps.specs.declared.words.Match.{Match as MatchWords}
use Rattle.check_steps.specs.declared.words.Make.{Make as MakeWords}
use Rattle.check_steps.specs.declared.words.Restore.{Restore as RestoreWords}
use Rattle.check_steps.specs.declared.words.Sweep.{Sweep as SweepWords}
use Rattle.check_steps.specs.declared.words.Trim.{Trim as TrimWords}
use Rattle.check_steps.specs.declared.words.Command.{Command}
use Rattle.check_steps.specs.declared.words.Command.TheVariants.{Check, Restore, Trim, Convert, Flatten, Sweep, Match, Info, Make, Trial}

-- what the words of a match ask for
abbrev pub match_request : MatchWords → MatchRequest
match_request words = record {
  first = words.first.now;
  second = words.second.now;
  account = words.account.now;
  budget = words.budget;
  seed = words.seed;
}

-- what the words of a restore ask for
abbrev pub restore_request : RestoreWords → RestoreRequest
restore_request words = record {
  first = words.first.now;
  second = words.second.now;
  account = words.account.now;
  restored = words.restored.now;
}

-- what the words of a trim ask for
abbrev pub trim_request : TrimWords → TrimRequest
trim_request words = record {
  first = words.first.now;
  second = words.second.now;
  account = words.account.now;
  trimmed = words.trimmed.now;
}

-- what the words of a convert ask for
abbrev pub convert_request : ConvertWords → ConvertRequest
convert_request words = record { account = words.account.now; converted = words.converted.now }

-- what the words of a flatten ask for
abbrev pub flatten_request : FlattenWords → FlattenRequest
flatten_request words = record { file = words.file.now; flat = words.flat.now }

-- what the words of a sweep ask for
abbrev pub sweep_request : SweepWords → SweepRequest
sweep_request words = record { file = words.file.now; swept = words.swept.now; allowance = words.allowance }

-- what the words of a make ask for
abbrev pub make_request : MakeWords → MakeRequest
make_request words = record { number = words.number; first = words.first.now; second = words.second.now }

-- the words ask for what a command says
abbrev pub Ask : List (List ℕ) → Command → Type 0
Ask words (Check check) = AsksCheck words check.first.now check.second.now check.account.now
Ask words (Restore restore_words) = AsksRestore words (restore_request restore_words)
Ask words (Trim trim_words) = AsksTrim words (trim_request trim_words)
Ask words (Convert convert_words) = AsksConvert words (convert_request convert_words)
Ask words (Flatten flatten_words) = AsksFlatten words (flatten_request flatten_words)
Ask words (Sweep sweep_words) = AsksSweep words (sweep_request sweep_words)
Ask words (Match match_words) = AsksMatch words (match_request match_words)
Ask words (Info info) = AsksInfo words info.file.now info.budget
Ask words (Make make_words) = AsksMake words (make_request make_words)
Ask words (Trial trial) = AsksTrial words trial.number
