-- What the words of the command line ask for, as a command, and what a command does with files.
use Rattle.std.specs.Prelude.{◌≢◌, ℕ, List}
use Rattle.check_steps.specs.declared.words.Check.{Check as CheckWords}
use Rattle.check_steps.specs.declared.words.Convert.{Convert as ConvertWords}
use Rattle.check_steps.specs.declared.words.Flatten.{Flatten as FlattenWords}
use Rattle.check_steps.specs.declared.words.Info.{Info as InfoWords}
use Rattle.check_steps.specs.declared.words.Match.{Match as MatchWords}
use Rattle.check_steps.specs.declared.words.Make.{Make as MakeWords}
use Rattle.check_steps.specs.declared.words.Restore.{Restore as RestoreWords}
use Rattle.check_steps.specs.declared.words.Sweep.{Sweep as SweepWords}
use Rattle.check_steps.specs.declared.words.Trial.{Trial as TrialWords}
use Rattle.check_steps.specs.declared.words.Trim.{Trim as TrimWords}
use Rattle.check_steps.specs.declared.words.Command.{Command}
use Rattle.check_steps.specs.declared.words.Command.TheVariants.{Check, Restore, Trim, Convert, Flatten, Sweep, Match, Info, Make, Trial}

-- to check an account of two netlists
abbrev pub asked_check : CheckWords → Command
asked_check check = Check check

-- to write the second of two netlists with the first one's ports
abbrev pub asked_restore : RestoreWords → Command
asked_restore restore_words = Restore restore_words

-- to write an account without the records that its conclusion doesn't rest on
abbrev pub asked_trim : TrimWords → Command
asked_trim trim_words = Trim trim_words

-- to write an account in the other version
abbrev pub asked_convert : ConvertWords → Command
asked_convert convert_words = Convert convert_words

-- to write a file of several models as one flat netlist
abbrev pub asked_flatten : FlattenWords → Command
asked_flatten flatten_words = Flatten flatten_words

-- to write a netlist with one signal in place of all that compute the same
abbrev pub asked_sweep : SweepWords → Command
asked_sweep sweep_words = Sweep sweep_words

-- to seek a match of two netlists, and to write its account
abbrev pub asked_match : MatchWords → Command
asked_match match_words = Match match_words

-- to tell of a netlist which inputs its outputs depend on, and how
abbrev pub asked_info : InfoWords → Command
asked_info info = Info info

-- to write a pair of netlists that a number gives
abbrev pub asked_make : MakeWords → Command
asked_make make_words = Make make_words

-- to match a pair that a number gives, and to check the account
abbrev pub asked_trial : TrialWords → Command
asked_trial trial = Trial trial

-- a command writes no file of this name
abbrev pub IsNotWritten : Command → List ℕ → Type 0
IsNotWritten (Restore restore_words) name = name ≢ restore_words.restored.now
IsNotWritten (Trim trim_words) name = name ≢ trim_words.trimmed.now
IsNotWritten (Convert convert_words) name = name ≢ convert_words.converted.now
IsNotWritten (Flatten flatten_words) name = name ≢ flatten_words.flat.now
IsNotWritten (Sweep sweep_words) name = name ≢ sweep_words.swept.now
IsNotWritten (Match match_words) name = name ≢ match_words.account.now
IsNotWritten (Make make_words) name = (name ≢ make_words.first.now) × (name ≢ make_words.second.now)
IsNotWritten other name = Unit {0}

-- a command writes a file
abbrev pub IsWritingCommand : Command → Type 0
IsWritingCommand (Restore restore_words) = Unit {0}
IsWritingCommand (Trim trim_words) = Unit {0}
IsWritingCommand (Convert convert_words) = Unit {0}
IsWritingCommand (Flatten flatten_words) = Unit {0}
IsWritingCommand (Sweep sweep_words) = Unit {0}
IsWritingCommand (Match match_words) = Unit {0}
IsWritingCommand (Make make_words) = Unit {0}
IsWritingCommand other = ⊥

-- a command reads files
abbrev pub IsReadingCommand : Command → Type 0
IsReadingCommand (Check check) = Unit {0}
IsReadingCommand (Restore restore_words) = Unit {0}
IsReadingCommand (Trim trim_words) = Unit {0}
IsReadingCommand (Convert convert_words) = Unit {0}
IsReadingCommand (Flatten flatten_words) = Unit {0}
IsReadingCommand (Sweep sweep_words) = Unit {0}
IsReadingCommand (Match match_words) = Unit {0}
IsReadingCommand (Info info) = Unit {0}
IsReadingCommand (Make make_words) = ⊥
IsReadingCommand (Trial trial) = ⊥

-- a command makes no call of the shelf
abbrev pub IsTrialCommand : Command → Type 0
IsTrialCommand (Trial trial) = Unit {0}
IsTrialCommand other = ⊥
