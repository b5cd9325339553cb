-- How far an account of either version was read after a step, and what its answer says of all bytes.
use Rattle.std.proofs.Common.{◌≡◌, ◌≢◌, ℕ, ◌+◌, ◌<◌, Bool, true, false, cond, List, [], ◌∷◌, ◌++◌, length, fold, drop, All, Option, Some, None, IsSome, IfSome, is_some, Result, Ok, Err, refl, sym, ap, subst, ◌∙◌, arith, append_assoc, append-nil, length-append}
use Rattle.std.specs.List.{flat_map}
use Rattle.std.proofs.lemmas.List.Elements.{All-nil, All-push}
use Rattle.std.proofs.lemmas.Option.{IfSome_then}
use Rattle.std.proofs.lemmas.Grind.{flat_map-append}
use Rattle.account_file.specs.declared.record.Record.{Record}
use Rattle.account_file.specs.declared.record.Record.TheVariants as record_of
use Rattle.account_file.specs.declared.fault.RecordFault.{RecordFault}
use Rattle.account_file.specs.declared.fault.FileStop.{FileStop}
use Rattle.account_file.specs.declared.fault.FileStop.TheVariants.{Fault, Memory}
use Rattle.account_file.specs.declared.place.Place.{Place}
use Rattle.account_file.specs.declared.place.Place.TheVariants.{Start, Headed, FactLog, Logs, Ended}
use Rattle.account_file.specs.declared.next_record.NextRecord.{NextRecord}
use Rattle.account_file.specs.declared.next_record.NextRecord.TheVariants.{Wait, Read, Refuse}
use Rattle.account_file.specs.Lines.{whole_lines}
use Rattle.account_file.specs.Order.{next_place, place_after, place_after_one}
use Rattle.account_file.specs.TextAccounts.{SaysLine}
use Rattle.account_file.specs.Binary.{is_binary}
use Rattle.account_file.specs.Accounts.{SaysBy, SaysNext, may_be_binary, version_by, version_of}
use Rattle.account_file.specs.Reading.{Reading, HasRead, IsSpelled, given_by, spelled}
use Rattle.account_file.specs.Spelling.{record_line}
use Rattle.account_file.specs.NextRecords.{IsNext, StepsFrom, StepsOn, answer_by, form_at, form_of, reading_after, known_version}
use Rattle.account_file.specs.Texts.{Says}
use Rattle.account_file.proofs.BinaryReadingLemmas.{binary_fault_stays, entry_says}
use Rattle.account_file.proofs.BinaryLemmas.{binary_longer, text_longer}
use Rattle.account_file.proofs.OrderLemmas.{at_start, none_stays, place_after_last}
use Rattle.account_file.proofs.ReadingLemmas.{Leaves, next_leaves, next_of_says, text_fault_stays}

-- the first record is the header
no_place : (more : List Record) (place : Place) → fold place_after_one None more ≡ Some place → ⊥
no_place more place e = let no : None ≡ Some place = sym (none_stays more) ∙ e in cc

header_first : (entry : Record) (more : List Record) (place : Place) → place_after (entry ∷ more) ≡ Some place → entry ≡ record_of.Header
header_first record_of.Header more place e = refl
header_first (record_of.Fact head) more place e = absurd (no_place more place e)
header_first (record_of.Line line) more place e = absurd (no_place more place e)
header_first (record_of.Ban ban) more place e = absurd (no_place more place e)
header_first (record_of.Conclusion conclusion) more place e = absurd (no_place more place e)
header_first (record_of.DropFact fact) more place e = absurd (no_place more place e)
header_first (record_of.DropBan ban) more place e = absurd (no_place more place e)
header_first record_of.End more place e = absurd (no_place more place e)

-- the version of bytes that begin with a header
headed : (b : Bool) (rest : List ℕ) → is_binary (spelled b record_of.Header ++ rest) ≡ b
headed false rest = refl
headed true rest = refl

text_begun : (rest : List ℕ) → may_be_binary (spelled false record_of.Header ++ rest) ≡ false
text_begun rest = refl

-- bytes that are spelled so begin with a header, where they have a record
begins_so : (b : Bool) (bytes left : List ℕ) (records : List Record) (place : Place) → bytes ≡ flat_map (spelled b) records ++ left → place_after records ≡ Some place → place ≢ Start → (rest : List ℕ) × (bytes ≡ spelled b record_of.Header ++ rest)
begins_so b bytes left [] place text at' later = absurd (later (let e : Some Start ≡ Some place = at' in cc))
begins_so b bytes left (entry ∷ records) place text at' later =
    let first = header_first entry records place at' in
    let rest = flat_map (spelled b) records in
    (rest ++ left, text ∙ (append_assoc (spelled b entry) rest left ∙ ap (λ e. spelled b e ++ (rest ++ left)) first))

form_is : (b : Bool) (bytes left : List ℕ) (records : List Record) (place : Place) → bytes ≡ flat_map (spelled b) records ++ left → place_after records ≡ Some place → place ≢ Start → is_binary bytes ≡ b
form_is b bytes left records place text at' later =
    let begins = begins_so b bytes left records place text at' later in
    ap is_binary begins.1 ∙ headed b begins.0

-- records that are written as text
pub text_form : (records : List Record) (place : Place) → place_after records ≡ Some place → place ≢ Start → is_binary (flat_map record_line records) ≡ false
text_form records place at' later =
    form_is false (flat_map record_line records) [] records place (sym (append-nil (flat_map record_line records))) at' later

-- Bytes are spelled so, in their version, and these are left.
record IsSpelledSo (b : Bool) (bytes : List ℕ) (records : List Record) (left : List ℕ) : Type 0 where
  pub form : is_binary bytes ≡ b
  pub text : bytes ≡ flat_map (spelled b) records ++ left
  pub fit : All (IsSpelled b) records

module _ (reading : Reading) (bytes : List ℕ) (records : List Record) (has : HasRead reading bytes records) where
  at_first : place_after records ≡ Some Start → IsSpelledSo (is_binary reading.left) bytes records reading.left
  at_first at' =
      let none = at_start records at' in
      let same : bytes ≡ reading.left = has.text ∙ ap (λ l. flat_map (spelled reading.binary) l ++ reading.left) none in
      record {
        form = ap is_binary same;
        text = same ∙ sym (ap (λ l. flat_map (spelled (is_binary reading.left)) l ++ reading.left) none);
        fit = subst (All (IsSpelled (is_binary reading.left))) (sym none) (All-nil (IsSpelled (is_binary reading.left)));
      }

  later : (place : Place) → place_after records ≡ Some place → place ≢ Start → IsSpelledSo reading.binary bytes records reading.left
  later place at' open' = record { form = form_is reading.binary bytes reading.left records place has.text at' open'; text = has.text; fit = has.writable }

  spelled_at : (place : Place) → place_after records ≡ Some place → IsSpelledSo (form_at place reading.left reading.binary) bytes records reading.left
  spelled_at Start at' = at_first at'
  spelled_at Headed at' = later Headed at' (λ e. cc)
  spelled_at FactLog at' = later FactLog at' (λ e. cc)
  spelled_at (Logs logs) at' = later (Logs logs) at' (λ e. cc)
  spelled_at Ended at' = later Ended at' (λ e. cc)

  spelled_so : IsSpelledSo (form_of reading) bytes records reading.left
  spelled_so = spelled_at reading.place has.place

  -- the version that a reader answers
  pub version_at_first : place_after records ≡ Some Start → version_of reading.left reading.finished ≡ version_of bytes reading.finished
  version_at_first at' =
      let none = at_start records at' in
      ap (λ l. version_of l reading.finished) (sym (has.text ∙ ap (λ l. flat_map (spelled reading.binary) l ++ reading.left) none))

  pub version_later : (place : Place) → place_after records ≡ Some place → place ≢ Start → known_version reading.binary ≡ version_of bytes reading.finished
  version_later place at' open' = by reading.binary has.text
    where
      either : (f : Bool) → version_by false (cond f false false) ≡ Some 1
      either true = refl
      either false = refl

      by : (b : Bool) → bytes ≡ flat_map (spelled b) records ++ reading.left → known_version b ≡ version_of bytes reading.finished
      by true text =
          sym (ap (λ b. version_by b (cond reading.finished false (may_be_binary bytes))) (form_is true bytes reading.left records place text at' open'))
      by false text =
          let begins = begins_so false bytes reading.left records place text at' open' in
          sym (ap (λ b. version_by b (cond reading.finished false (may_be_binary bytes))) (form_is false bytes reading.left records place text at' open')
          ∙ (ap (λ m. version_by false (cond reading.finished false m)) (ap may_be_binary begins.1 ∙ text_begun begins.0) ∙ either reading.finished))

-- what is done in either version says what the bytes say
next_says : (b finished : Bool) (bytes left : List ℕ) (records : List Record) (place : Place) (next : NextRecord) → bytes ≡ flat_map (spelled b) records ++ left → All (IsSpelled b) records → place_after records ≡ Some place
    → IsNext b left finished place next → SaysBy b bytes finished records (answer_by next)
next_says false finished bytes left records place next text fit at' is =
    subst (λ n. SaysLine bytes finished records (answer_by n)) (sym is) (next_of_says bytes left records place finished text fit at')
next_says true finished bytes left records place next text fit at' is =
    entry_says bytes left records place (record { items = record { each = fit; text_is = text }; order = subst IsSome (sym at') refl }) at' finished next is

-- what is left after a record
record NextLeaves (b : Bool) (place : Place) (left : List ℕ) (entry : Record) (after : Place) (used : ℕ) : Type 0 where
  pub fits : IsSpelled b entry
  pub text : left ≡ spelled b entry ++ drop used left
  pub place_is : next_place place entry ≡ Some after

next_leaves_so : (b finished : Bool) (place : Place) (left : List ℕ) (entry : Record) (after : Place) (used : ℕ) → IsNext b left finished place (Read entry after used) → NextLeaves b place left entry after used
next_leaves_so false finished place left entry after used is =
    let leaves = subst (Leaves place left) (sym is) (next_leaves place left finished) in
    record { fits = leaves.writable; text = leaves.text; place_is = leaves.place_is }
next_leaves_so true finished place left entry after used is = record { fits = is.fits; text = is.text_is; place_is = is.place_is }

-- as the record's number counts a fault
abbrev faults_given : Option RecordFault → ℕ
faults_given given = cond (is_some given) 1 0

without_fault : (given : Option RecordFault) → given ≡ None → faults_given given ≡ 0
without_fault given none = ap faults_given none

module _ (reading : Reading) (bytes : List ℕ) (records : List Record) (has : HasRead reading bytes records) where
  reads_nothing : HasRead reading bytes (records ++ [])
  reads_nothing = subst (λ l. HasRead reading bytes l) (sym (append-nil records)) has

  step_says : (next : NextRecord) → IsNext (form_of reading) reading.left reading.finished reading.place next → SaysNext bytes reading.finished records (answer_by next)
  step_says next is =
      let so = spelled_so reading bytes records has in
      subst (λ b. SaysBy b bytes reading.finished records (answer_by next)) (sym so.form)
      (next_says (form_of reading) reading.finished bytes reading.left records reading.place next so.text so.fit has.place is)

  step_reads : (next : NextRecord) → reading.fault ≡ None → IsNext (form_of reading) reading.left reading.finished reading.place next → HasRead (reading_after reading (form_of reading) next) bytes (records ++ given_by (answer_by next))
  step_reads Wait none is = reads_nothing
  step_reads (Read entry after used) none is =
      let b = form_of reading in
      let so = spelled_so reading bytes records has in
      let leaves = next_leaves_so b reading.finished reading.place reading.left entry after used is in
      let spell = spelled b in
      record {
        text = so.text ∙ (ap (λ l. flat_map spell records ++ l) leaves.text ∙ (sym (append_assoc (flat_map spell records) (spell entry) (drop used reading.left))
            ∙ ap (λ l. l ++ drop used reading.left) (ap (λ l. flat_map spell records ++ l) (sym (append-nil (spell entry))) ∙ sym (flat_map-append spell records (entry ∷ [])))));
        writable = All-push (IsSpelled b) records entry so.fit leaves.fits;
        place = place_after_last records entry reading.place has.place ∙ leaves.place_is;
        line = let given = without_fault reading.fault none in omega (arith, given, has.line, length-append records (entry ∷ []));
        total = has.total;
        fault = subst (λ o. IfSome o (λ wrong. SaysNext bytes reading.finished (records ++ entry ∷ []) (Err wrong))) (sym none) tt;
      }
  step_reads (Refuse wrong) none is = record {
    text = has.text ∙ ap (λ l. flat_map (spelled reading.binary) l ++ reading.left) (sym (append-nil records));
    writable = subst (All (IsSpelled reading.binary)) (sym (append-nil records)) has.writable;
    place = ap place_after (append-nil records) ∙ has.place;
    line = let given = without_fault reading.fault none in omega (arith, given, has.line, length-append records []);
    total = has.total;
    fault = subst (λ l. SaysNext bytes reading.finished l (Err wrong)) (sym (append-nil records)) (step_says (Refuse wrong) is);
  }

-- what an answer says, and how far the account is read after it
fault_said : (given : Option RecordFault) (wrong : RecordFault) (P : RecordFault → Type 0) → given ≡ Some wrong → IfSome given P → P wrong
fault_said (Some other) wrong P e h = let same : other ≡ wrong = cc in subst P same h
fault_said None wrong P e h = cc

module _ (old new : Reading) (bytes : List ℕ) (records : List Record) (has : HasRead old bytes records) where
  pub steps_say : (given : Option RecordFault) (result : Result (Option Record) FileStop) → old.fault ≡ given → StepsFrom given old result new → Says result (SaysNext bytes old.finished records)
  steps_say (Some wrong) result e steps =
      subst (λ r. Says r (SaysNext bytes old.finished records)) (sym steps.0) (fault_said old.fault wrong (λ w. SaysNext bytes old.finished records (Err w)) e has.fault)
  steps_say None (Ok found) e steps =
      subst (SaysNext bytes old.finished records) (sym steps.answer_is) (step_says old bytes records has steps.next steps.next_is)
  steps_say None (Err (Fault wrong)) e steps =
      subst (SaysNext bytes old.finished records) (sym steps.answer_is) (step_says old bytes records has steps.next steps.next_is)
  steps_say None (Err Memory) e steps = tt

  stays : new ≡ old → HasRead new bytes (records ++ [])
  stays same = subst (λ r. HasRead r bytes (records ++ [])) (sym same) (reads_nothing old bytes records has)

  one_step : (answer : Result (Option Record) RecordFault) → old.fault ≡ None → StepsOn old answer new → HasRead new bytes (records ++ given_by answer)
  one_step answer e steps =
      subst (λ a. HasRead new bytes (records ++ given_by a)) (sym steps.answer_is)
      (subst (λ r. HasRead r bytes (records ++ given_by (answer_by steps.next))) (sym steps.new_is) (step_reads old bytes records has steps.next e steps.next_is))

  pub steps_read : (given : Option RecordFault) (result : Result (Option Record) FileStop) → old.fault ≡ given → StepsFrom given old result new → HasRead new bytes (records ++ given_by result)
  steps_read (Some wrong) result e steps =
      subst (λ (r : Result (Option Record) FileStop). HasRead new bytes (records ++ given_by r)) (sym steps.0) (stays steps.1)
  steps_read None (Ok found) e steps = by found (one_step (Ok found) e steps)
    where
      by : (f : Option Record) → HasRead new bytes (records ++ given_by {E = RecordFault} (Ok f)) → HasRead new bytes (records ++ given_by {E = FileStop} (Ok f))
      by (Some entry) h = h
      by None h = h
  steps_read None (Err (Fault wrong)) e steps = one_step (Err wrong) e steps
  steps_read None (Err Memory) e steps = stays steps

-- what a reader's answer comes to

no_fault_given : (given : Option RecordFault) → ((wrong : RecordFault) → given ≡ Some wrong → ⊥) → given ≡ None
no_fault_given None other = refl
no_fault_given (Some wrong) other = absurd (other wrong refl)

pub step_given : (old new : Reading) (found : Option Record) (next : NextRecord) → ((wrong : RecordFault) → old.fault ≡ Some wrong → ⊥) → IsNext (form_of old) old.left old.finished old.place next → Ok found ≡ answer_by next → new ≡ reading_after old (form_of old) next
    → StepsFrom old.fault old (Ok found) new
step_given old new found next other is answer now =
    subst (λ f. StepsFrom f old (Ok found) new) (sym (no_fault_given old.fault other)) (record { next = next; next_is = is; answer_is = answer; new_is = now })

pub step_refused : (old new : Reading) (wrong : RecordFault) (next : NextRecord) → ((other : RecordFault) → old.fault ≡ Some other → ⊥) → IsNext (form_of old) old.left old.finished old.place next → Err wrong ≡ answer_by next → new ≡ reading_after old (form_of old) next
    → StepsFrom old.fault old (Err (Fault wrong)) new
step_refused old new wrong next other is answer now =
    subst (λ f. StepsFrom f old (Err (Fault wrong)) new) (sym (no_fault_given old.fault other)) (record { next = next; next_is = is; answer_is = answer; new_is = now })

pub step_again : (old : Reading) (wrong : RecordFault) → old.fault ≡ Some wrong → StepsFrom old.fault old (Err (Fault wrong)) old
step_again old wrong e = subst (λ f. StepsFrom f old (Err (Fault wrong)) old) (sym e) (refl, refl)

-- the fault of an account stays where it goes on
stays_by : (b : Bool) (bytes piece : List ℕ) (records : List Record) (wrong : RecordFault) → is_binary bytes ≡ b → SaysBy b bytes false records (Err wrong) → SaysNext (bytes ++ piece) false records (Err wrong)
stays_by false bytes piece records wrong e said =
    let some : 0 < length (whole_lines bytes) = omega (arith, said.1) in
    subst (λ b. SaysBy b (bytes ++ piece) false records (Err wrong)) (sym (text_longer bytes piece e some)) (text_fault_stays bytes piece records wrong said)
stays_by true bytes piece records wrong e said =
    subst (λ b. SaysBy b (bytes ++ piece) false records (Err wrong)) (sym (binary_longer bytes piece e)) (binary_fault_stays bytes piece records wrong said)

pub fault_stays : (bytes piece : List ℕ) (records : List Record) (wrong : RecordFault) → SaysNext bytes false records (Err wrong) → SaysNext (bytes ++ piece) false records (Err wrong)
fault_stays bytes piece records wrong said = stays_by (is_binary bytes) bytes piece records wrong refl said

pub read_feed : (reading : Reading) (bytes piece : List ℕ) (records : List Record) → reading.finished ≡ false → HasRead reading bytes records
    → HasRead (record reading { left = reading.left ++ piece; total = reading.total + length piece }) (bytes ++ piece) records
read_feed reading bytes piece records more has = record {
  text = ap (λ l. l ++ piece) has.text ∙ append_assoc (flat_map (spelled reading.binary) records) reading.left piece;
  writable = has.writable;
  place = has.place;
  line = has.line;
  total = omega (arith, has.total, length-append bytes piece);
  fault = IfSome_then reading.fault has.fault
      (λ wrong said. subst (λ f. SaysNext (bytes ++ piece) f records (Err wrong)) (sym more) (fault_stays bytes piece records wrong (subst (λ f. SaysNext bytes f records (Err wrong)) more said)));
}

-- and where no more bytes come
finished_by : (b finished : Bool) (bytes : List ℕ) (records : List Record) (wrong : RecordFault) → SaysBy b bytes finished records (Err wrong) → SaysBy b bytes true records (Err wrong)
finished_by false true bytes records wrong said = said
finished_by false false bytes records wrong said = said.0
finished_by true true bytes records wrong said = said
finished_by true false bytes records wrong said = said.0

pub read_finish : (reading : Reading) (bytes : List ℕ) (records : List Record) → HasRead reading bytes records → HasRead (record reading { finished = true }) bytes records
read_finish reading bytes records has = record {
  text = has.text;
  writable = has.writable;
  place = has.place;
  line = has.line;
  total = has.total;
  fault = IfSome_then reading.fault has.fault (λ wrong said. finished_by (is_binary bytes) reading.finished bytes records wrong said);
}
