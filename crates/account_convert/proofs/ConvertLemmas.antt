-- What was read and written is the account in the other version.
use Rattle.std.proofs.Common.{◌≡◌, ℕ, Bool, true, false, not, List, [], ◌++◌, length, All, sym, ap, subst, ◌∙◌}
use Rattle.std.specs.List.{flat_map}
use Rattle.account_file.specs.declared.record.Record.{Record}
use Rattle.account_file.specs.Accounts.{IsAccountOf}
use Rattle.account_file.specs.Binary.{HasBytes, is_binary, record_bytes}
use Rattle.account_file.specs.Spelling.{record_line}
use Rattle.account_file.proofs.VersionLemmas.{account_ended, one_account}
use Rattle.account_convert.specs.declared.conversion.Converted.{Converted}
use Rattle.account_convert.specs.declared.binary_writer.BinaryWriter.{BinaryWriter}
use Rattle.account_convert.specs.declared.dues.Dues.{Dues}
use Rattle.account_convert.specs.declared.mentions.Mentions.{Mentions}
use Rattle.account_convert.specs.declared.text_writer.TextWriter.{TextWriter}
use Rattle.account_convert.specs.AccountDues.{AreDuesOf, AreMentionsOf}
use Rattle.account_convert.specs.Conversions.{IsConverted, in_other_version, version_number, with_drops, without_drops}
use Rattle.account_convert.specs.Reading.{HasLed}
use Rattle.account_convert.specs.Tables.{AreDues}
use Rattle.account_convert.specs.Writing.{LeadToBytes, LeadToText, queue_of, written_from}
use Rattle.account_convert.proofs.PlaceLemmas.{with_drops_ended, without_drops_ended}
use Rattle.account_convert.proofs.SpelledLemmas.{IsAccountIn, binary_account, text_account}
use Rattle.account_convert.proofs.WrittenLemmas.{due_first, written_with_drops}

becomes_in : (old bytes : List ℕ) (records : List Record) (b : Bool) (new : Converted) (count : ℕ) → is_binary old ≡ b → IsAccountOf old records → count ≡ length records
    → new.from ≡ version_number b → new.to ≡ version_number (not b) → new.records ≡ count → new.bytes ≡ bytes
    → IsAccountIn (not b) bytes (in_other_version b records) → IsConverted old new
becomes_in old bytes records b new count e account counted from to records_are bytes_are becomes = record {
  records = records;
  account = account;
  from = from ∙ ap version_number (sym e);
  to = to ∙ ap (λ c. version_number (not c)) (sym e);
  counted = records_are ∙ counted;
  version = ap is_binary bytes_are ∙ (becomes.version ∙ ap not (sym e));
  becomes = subst (λ c. IsAccountOf new.bytes (in_other_version c records)) (sym e) (subst (λ l. IsAccountOf l (in_other_version b records)) (sym bytes_are) becomes.account);
}

pub to_text_is : (old : List ℕ) (first last : TextWriter) (new : Converted) (count : ℕ) → is_binary old ≡ true → first.bytes.items ≡ [] → HasLed LeadToText old first last count
    → new.from ≡ 2 → new.to ≡ 1 → new.records ≡ count → new.bytes ≡ last.bytes.items → IsConverted old new
to_text_is old first last new count e none led from to records_are bytes_are =
    let written : last.bytes.items ≡ flat_map record_line (without_drops led.records) = led.led.bytes ∙ ap (λ l. l ++ flat_map record_line (without_drops led.records)) none in
    becomes_in old (flat_map record_line (without_drops led.records)) led.records true new count e led.are led.counted from to records_are (bytes_are ∙ written)
    (text_account (without_drops led.records) led.led.writable (without_drops_ended led.records (account_ended old led.records led.are)))

pub to_bytes_is : (old : List ℕ) (dues : Dues) (first last : BinaryWriter) (new : Converted) (count : ℕ) → is_binary old ≡ false → AreDuesOf old dues
    → first.bytes.items ≡ [] → queue_of first ≡ due_first dues.facts.items dues.bans.items → HasLed LeadToBytes old first last count
    → new.from ≡ 1 → new.to ≡ 2 → new.records ≡ count → new.bytes ≡ last.bytes.items → IsConverted old new
to_bytes_is old dues first last new count e are none queue led from to records_are bytes_are =
    let records = led.records in
    let same = one_account old are.records records are.are led.are in
    let all : written_from (queue_of first) 1 records ≡ with_drops records =
    ap (λ q. written_from q 1 records) queue
    ∙ (ap (written_from (due_first dues.facts.items dues.bans.items) 1) (sym same)
    ∙ (written_with_drops are.records dues.facts.items dues.bans.items are.facts are.bans
    ∙ ap with_drops same)) in
    let written : last.bytes.items ≡ flat_map record_bytes (with_drops records) =
    led.led.bytes ∙ (ap (λ l. l ++ flat_map record_bytes (written_from (queue_of first) 1 records)) none ∙ ap (flat_map record_bytes) all) in
    becomes_in old (flat_map record_bytes (with_drops records)) records false new count e led.are led.counted from to records_are (bytes_are ∙ written)
    (binary_account (with_drops records) (subst (All HasBytes) all led.led.fit) (with_drops_ended records (account_ended old records led.are)))

pub dues_are : (account : List ℕ) (mentions : Mentions) (dues : Dues) → AreMentionsOf account mentions → AreDues mentions.facts dues.facts.items → AreDues mentions.bans dues.bans.items → AreDuesOf account dues
dues_are account mentions dues are facts bans = record {
  records = are.records;
  are = are.are;
  facts = subst (λ t. AreDues t dues.facts.items) are.facts facts;
  bans = subst (λ t. AreDues t dues.bans.items) are.bans bans;
}
