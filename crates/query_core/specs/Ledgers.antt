-- What was asked in a run, and the budget of learned lines.
use Rattle.std.specs.Prelude.{◌≡◌, ℕ, ◌+◌, ◌-◌, ◌^◌, ◌<◌, ◌≤◌, ◌==◌, Bool, true, List, [], ◌∷◌, ◌++◌, length, take, drop, All, nat_lt, sum_by, slice_index_or}
use Rattle.std.specs.Prelude.{slice_set}
use Rattle.std.specs.Prelude.{if◌then◌else◌}
use Rattle.std.specs.List.{flat_map}
use Rattle.cnf_core.specs.declared.log.LogLine.{LogLine}
use Rattle.cnf_core.specs.declared.stop.Stop.{Stop}
use Rattle.cnf_core.specs.declared.stop.Stop.TheVariants.{Spent, Memory}
use Rattle.cnf_core.specs.Charges.{Charging}
use Rattle.net_core.specs.declared.graphs.Side.TheVariants.{First}
use Rattle.claim_core.specs.declared.query.Cone.{Cone}
use Rattle.claim_core.specs.declared.query.Query.{Query}
use Rattle.query_core.specs.declared.ledger.Asked.{Asked}
use Rattle.line_codec.specs.LineBytes.{IsOfWords, lines_bytes}

-- The budget, what was asked in order, and whether the last line was refused.
pub record Ledgered : Type 0 where
  pub budget : ℕ
  pub asked : List Asked
  pub spent : Bool

-- the entry of a query whose lines are its lemmas
abbrev pub entry_of : Query → List LogLine → Asked
entry_of query lemmas = record { query = query; lemmas = length lemmas; lines = lemmas }

-- stands for the last entry of a ledger that has none yet
abbrev pub nothing_asked : Asked
nothing_asked =
    let cone : Cone = record { side = First; output = 0; feed = [] } in
    entry_of (record { left = cone; left_value = true; right = cone; right_value = true }) []

-- the last entry
abbrev pub last_asked : List Asked → Asked
last_asked asked = slice_index_or asked (length asked - 1) nothing_asked

-- the last entry has these lines in place of its own
abbrev pub with_lines : List LogLine → List Asked → List Asked
with_lines lines asked = slice_set asked (length asked - 1) (record (last_asked asked) { lines = lines })

-- the last entry has one line more
abbrev pub with_line : LogLine → List Asked → List Asked
with_line line asked = with_lines ((last_asked asked).lines ++ line ∷ []) asked

-- the lines that were charged for an entry, after its lemmas
abbrev pub charged_of : Asked → List LogLine
charged_of entry = drop entry.lemmas entry.lines

-- those of all entries, one entry's after the other's
abbrev pub charged_lines : List Asked → List LogLine
charged_lines asked = flat_map charged_of asked

-- how many lines were learned for an entry
abbrev pub charged_in : Asked → ℕ
charged_in entry = length entry.lines - entry.lemmas

-- how many lines were refused: the one at which the budget was spent, or none
abbrev pub one_if : Bool → ℕ
one_if spent = if spent then 1 else 0

-- how many lines were made for the entries, beside their lemmas
abbrev pub lines_in : Ledgered → ℕ
lines_in ledger = sum_by charged_in ledger.asked

-- how many lines were learned, without a refused one
abbrev pub learned_in : Ledgered → ℕ
learned_in ledger = lines_in ledger - one_if ledger.spent

-- the entries without a last one for which nothing was learned
abbrev pub charged_front : List Asked → List Asked
charged_front asked =
    if length (last_asked asked).lines == (last_asked asked).lemmas then take (length asked - 1) asked else asked

-- a query is added with its lemmas
abbrev pub opened : Query → List LogLine → List Asked → List Asked
opened query lemmas asked = charged_front asked ++ entry_of query lemmas ∷ []

-- a ledger as what lines are charged to: the last entry is the one that is open, and no charge changes the entries but
-- for its lines
abbrev pub charging_of : Ledgered → Charging (List Asked)
charging_of ledger = record {
  budget = ledger.budget;
  made = lines_in ledger;
  opened = nat_lt 0 (length ledger.asked);
  lines = (last_asked ledger.asked).lines;
  spent = ledger.spent;
  others = with_lines [] ledger.asked;
}

-- The budget is spent, and the line is kept as the refused one.
pub record IsSpent (old : Ledgered) (line : LogLine) (new : Ledgered) (learned : ℕ) : Type 0 where
  pub learned_is : learned ≡ old.budget
  pub budget : learned_in old ≡ old.budget
  pub counted : learned_in new ≡ old.budget
  pub made : lines_in new ≡ old.budget + 1
  pub refused : new ≡ record old { asked = with_line line old.asked; spent = true }

-- a line isn't charged: the budget is spent, or memory ran out, and then nothing changes
abbrev pub IsRefused : Ledgered → LogLine → Ledgered → Stop → Type 0
IsRefused old line new (Spent learned) = IsSpent old line new learned
IsRefused old line new Memory = new ≡ old

-- What each ledger keeps: how many lines were learned, which is within the budget, and the bytes of those that were
-- charged.
pub record IsLedger (ledger : Ledgered) (learned : ℕ) (bytes : List ℕ) : Type 0 where
  pub counted : learned + one_if ledger.spent ≡ sum_by charged_in ledger.asked
  pub within : learned ≤ ledger.budget
  pub lemmas : All (λ entry. entry.lemmas ≤ length entry.lines) ledger.asked
  pub coded : bytes ≡ lines_bytes (charged_lines ledger.asked)
  pub words : All IsOfWords (charged_lines ledger.asked)

-- These lines are left of those whose bytes are read, after some.
pub record AreLeft (lines : List LogLine) (bytes : List ℕ) (read : ℕ) : Type 0 where
  pub coded : bytes ≡ lines_bytes lines
  pub words : All IsOfWords lines
  pub few : read + length bytes < 2 ^ 64
