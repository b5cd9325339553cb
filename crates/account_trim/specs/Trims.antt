-- An account without the records that its conclusion doesn't rest on.
use Rattle.std.specs.Prelude.{◌≡◌, ℕ, Bool, true, false, List, length, All}
use Rattle.std.specs.List.{flat_map}
use Rattle.net_core.specs.Sides.{Graphs}
use Rattle.account_file.specs.declared.record.Record.{Record}
use Rattle.account_file.specs.Accounts.{IsAccountOf}
use Rattle.account_file.specs.Binary.{is_binary}
use Rattle.account_file.specs.Spelling.{IsWritable, record_line}
use Rattle.account_check.specs.declared.verdict.Verdict.{Verdict}
use Rattle.account_check.specs.Verdicts.{IsAccepted}
use Rattle.account_trim.specs.declared.trimming.Trimmed.{Trimmed}
use Rattle.account_trim.specs.declared.links.Linked.{Linked}
use Rattle.account_trim.specs.Places.{places_of}
use Rattle.account_trim.specs.Links.{links_of}
use Rattle.account_trim.specs.Lowered.{left_by, lower_by, marked}
use Rattle.account_trim.specs.Reached.{IsReached}

-- what is left of records where these are marked
abbrev pub left_of : Graphs → List Record → List Bool → List Record
left_of graphs records marks = left_by (lower_by (places_of graphs records) marks) marks (links_of graphs records) records

-- Marked records were written, in order and numbered again, each on its line; how many records there were, and how many are left.
pub record IsWrittenBy (linked : Linked) (marks : List Bool) (records left : List Record) (trimmed : Trimmed) : Type 0 where
  pub left_is : left ≡ left_by (lower_by linked.places marks) marks linked.links records
  pub text : trimmed.bytes.items ≡ flat_map record_line left
  pub writable : All IsWritable left
  pub before_is : trimmed.before ≡ length records
  pub after_is : trimmed.after ≡ length left

-- The records that are reached, in order and numbered again, each on its line; how many records there were, and how many are left.
pub record IsLeft (graphs : Graphs) (records : List Record) (trimmed : Trimmed) : Type 0 where
  pub marks : List Bool
  pub reached : IsReached (links_of graphs records) marks
  pub text : trimmed.bytes.items ≡ flat_map record_line (left_of graphs records marks)
  pub writable : All IsWritable (left_of graphs records marks)
  pub before_is : trimmed.before ≡ length records
  pub after_is : trimmed.after ≡ length (left_of graphs records marks)
  pub as_many : trimmed.after ≡ marked marks

-- each record of an account is reached
abbrev pub AreReached : Graphs → List Record → Type 0
AreReached graphs records =
    (marks : List Bool) → IsReached (links_of graphs records) marks → All (λ mark. mark ≡ true) marks

-- What trimming leaves of an account, of whichever version: a text. Each of its records is reached there too, and what
-- the account proves is proved by them.
pub record IsTrimmed (graphs : Graphs) (bytes : List ℕ) (trimmed : Trimmed) : Type 0 where
  pub records : List Record
  pub account : IsAccountOf bytes records
  pub left : IsLeft graphs records trimmed
  pub is_text : is_binary trimmed.bytes.items ≡ false
  pub left_account : IsAccountOf trimmed.bytes.items (left_of graphs records left.marks)
  pub verdict : (told : Verdict) → IsAccepted graphs bytes told → IsAccepted graphs trimmed.bytes.items told
  pub reached : AreReached graphs (left_of graphs records left.marks)
