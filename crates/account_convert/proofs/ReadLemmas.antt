-- How the records of a whole account are read one after another.
use Rattle.std.proofs.Common.{◌≡◌, ◌≢◌, ℕ, ◌+◌, true, false, cond, List, [], ◌∷◌, ◌++◌, length, Option, None, Some, Result, Ok, Err, IfErr, IfOk, IsErrAnd, refl, sym, ap, subst, ◌∙◌, arith, append-nil, length-append}
use Rattle.std.specs.Prelude.{is_some}
use Rattle.account_file.specs.declared.record.Record.{Record}
use Rattle.account_file.specs.declared.fault.RecordFault.{RecordFault}
use Rattle.account_file.specs.Accounts.{SaysNext}
use Rattle.account_file.specs.Reading.{HasRead, Reading}
use Rattle.account_file.proofs.VersionLemmas.{account_or_fault, account_said, fault_said, one_fault}
use Rattle.account_convert.specs.declared.conversion.Converted.{Converted}
use Rattle.account_convert.specs.declared.stop.ConvertStop.{ConvertStop}
use Rattle.account_convert.specs.declared.stop.ConvertStop.TheVariants.{Fault, Memory}
use Rattle.account_convert.specs.Conversions.{IsConverted, IsFaultAt}
use Rattle.account_convert.specs.Reading.{HasLed, IsReading, IsStop, Leading}

-- before the first record
pub begun : {State : Type 0} (leads : Leading State) (account left : List ℕ) (total : ℕ) (new fed done : Reading) (state : State)
    → HasRead new [] []
    → new.finished ≡ false
    → new.fault ≡ None
    → HasRead fed account []
    → fed ≡ record new { left = left; total = total }
    → HasRead done account []
    → done ≡ record fed { finished = true }
    → leads state [] state
    → IsReading leads account state done state
begun {State} leads account left total new fed done state first open' none read fed_is read_done done_is led = record {
  records = [];
  read = read_done;
  finished = ap (λ (r : Reading). r.finished) done_is;
  no_fault = ap (λ (r : Reading). r.fault) done_is ∙ (ap (λ (r : Reading). r.fault) fed_is ∙ none);
  led = led;
}

-- the number of a record that was read, and of one that has a fault
line_read : (records : List Record) (account : List ℕ) (reading : Reading) → reading.fault ≡ None → HasRead reading account records → reading.line ≡ length records
line_read records account reading none read = omega (arith, read.line, ap {B = ℕ} (λ (given : Option RecordFault). cond (is_some given) 1 0) none)

line_refused : (records : List Record) (account : List ℕ) (reading : Reading) (fault : RecordFault) → reading.fault ≡ Some fault → HasRead reading account records → reading.line ≡ length records + 1
line_refused records account reading fault is read = omega (arith, read.line, ap {B = ℕ} (λ (given : Option RecordFault). cond (is_some given) 1 0) is)

pub line_next : (before : List Record) (entry : Record) (account : List ℕ) (reading : Reading) → reading.fault ≡ None → HasRead reading account (before ++ entry ∷ []) → reading.line ≡ length before + 1
line_next before entry account reading none read = omega (arith, line_read (before ++ entry ∷ []) account reading none read, length-append before (entry ∷ []))

-- one record more
pub goes_on : {State : Type 0} (leads : Leading State) (account : List ℕ) (first : State) (old new : Reading) (state then : State) (entry : Record)
    → (so_far : IsReading leads account first old state)
    → HasRead new account (so_far.records ++ entry ∷ [])
    → new.finished ≡ old.finished
    → new.fault ≡ None
    → leads first (so_far.records ++ entry ∷ []) then
    → IsReading leads account first new then
goes_on {State} leads account first old new state then entry so_far read finished none led = record {
  records = so_far.records ++ entry ∷ [];
  read = read;
  finished = finished ∙ so_far.finished;
  no_fault = none;
  led = led;
}

-- no record more
pub goes_out : {State : Type 0} (leads : Leading State) (account : List ℕ) (first : State) (old new : Reading) (state : State)
    → (so_far : IsReading leads account first old state)
    → SaysNext account old.finished so_far.records (Ok None)
    → HasRead new account (so_far.records ++ [])
    → new.fault ≡ None
    → HasLed leads account first state new.line
goes_out {State} leads account first old new state so_far says read none =
    let records = so_far.records in
    record {
      records = records;
      are = account_said account records (subst (λ b. SaysNext account b records (Ok None)) so_far.finished says);
      counted = line_read records account new none (subst (HasRead new account) (append-nil records) read);
      led = so_far.led;
    }

-- a fault
pub goes_wrong : {State : Type 0} (leads : Leading State) (account : List ℕ) (first : State) (old new : Reading) (state : State) (fault : RecordFault) (record_number : ℕ)
    → (so_far : IsReading leads account first old state)
    → SaysNext account old.finished so_far.records (Err fault)
    → HasRead new account (so_far.records ++ [])
    → new.fault ≡ Some fault
    → record_number ≡ new.line
    → IsFaultAt account record_number fault
goes_wrong {State} leads account first old new state fault record_number so_far says read is number_is =
    let records = so_far.records in
    record {
      before = records;
      number_is = number_is ∙ line_refused records account new fault is (subst (HasRead new account) (append-nil records) read);
      has = fault_said account old.finished records fault says;
    }

-- what an error says it says where it is handed on
pub handed : {X : Type 0} (P : Result X ConvertStop → Type 0) (stop : ConvertStop) (result : Result X ConvertStop) → P (Err stop) → IsErrAnd result (λ other. other ≡ stop) → P result
handed {X} P stop (Err other) says is = subst (λ (s : ConvertStop). P (Err s)) (sym is) says
handed {X} P stop (Ok x) says is = absurd is

-- A fault is answered exactly where the account has it.
pub fault_answered : (account : List ℕ) (result : Result Converted ConvertStop) (record_number : ℕ) (fault : RecordFault)
    → IfOk result (IsConverted account)
    → IfErr result (IsStop account)
    → result ≢ Err Memory
    → IsFaultAt account record_number fault
    → result ≡ Err (Fault record_number fault)
fault_answered account (Ok converted) record_number fault is stop no_memory has = absurd (account_or_fault account is.records has.before fault is.account has.has)
fault_answered account (Err Memory) record_number fault is stop no_memory has = absurd (no_memory refl)
fault_answered account (Err (Fault at other)) record_number fault is stop no_memory has =
    let one = one_fault account stop.before has.before other fault stop.has has.has in
    let same : at ≡ record_number = stop.number_is ∙ (ap (λ (before : List Record). length before + 1) one.0 ∙ sym has.number_is) in
    ap (λ n. Err (Fault n other)) same ∙ ap (λ (f : RecordFault). Err (Fault record_number f)) one.1

pub fault_had : (account : List ℕ) (result : Result Converted ConvertStop) (record_number : ℕ) (fault : RecordFault) → IfErr result (IsStop account) → result ≡ Err (Fault record_number fault) → IsFaultAt account record_number fault
fault_had account result record_number fault stop is = subst (λ (r : Result Converted ConvertStop). IfErr r (IsStop account)) is stop
