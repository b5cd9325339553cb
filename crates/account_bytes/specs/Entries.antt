-- What stands in an account after its header, in bytes (this project's binary format): entries, each a tag, how many
-- bytes its body has, and the body.
use Rattle.std.specs.Prelude.{◌≡◌, ℕ, ◌<◌, ◌^◌, List, [], ◌∷◌, ◌++◌, length, Result, Ok, Err}
use Rattle.account_core.specs.declared.conclusion.Conclusion.TheVariants.{NonePorts, NoneBan, Match}
use Rattle.account_core.specs.declared.fact.FactHead.TheVariants.{Fails, Holds}
use Rattle.byte_form.specs.Codes.{BeginsNone, BeginsWith, ListFits, list_bytes, number_bytes}
use Rattle.account_bytes.specs.declared.entry.Entry.{Entry}
use Rattle.account_bytes.specs.declared.entry.Entry.TheVariants as entry_of
use Rattle.account_bytes.specs.declared.form.FormStop.{FormStop}
use Rattle.account_bytes.specs.declared.form.FormStop.TheVariants as form
use Rattle.account_bytes.specs.declared.reading.EntryStop.{EntryStop}
use Rattle.account_bytes.specs.declared.reading.EntryStop.TheVariants as stop
use Rattle.account_bytes.specs.Bodies.{Always, BanFits, ClaimHasPorts, HasPorts, IsNumber, LineFits}
use Rattle.account_bytes.specs.Bodies.{ban_bytes, bit_bytes, claim_bytes, line_bytes, pair_bytes}

-- the byte that says which kind of record an entry has
abbrev pub entry_tag : Entry → ℕ
entry_tag (entry_of.Fact (Fails claim bits)) = 1
entry_tag (entry_of.Fact (Holds claim)) = 2
entry_tag (entry_of.Line line) = 3
entry_tag (entry_of.Ban ban) = 4
entry_tag (entry_of.Conclusion NonePorts) = 5
entry_tag (entry_of.Conclusion (NoneBan ban)) = 6
entry_tag (entry_of.Conclusion (Match pairs)) = 7
entry_tag entry_of.End = 8
entry_tag (entry_of.DropFact fact) = 9
entry_tag (entry_of.DropBan ban) = 10

-- what an entry says: a fact's claim, a line of a log, a ban, a conclusion, or a number that is dropped
abbrev pub entry_body : Entry → List ℕ
entry_body (entry_of.Fact (Fails claim bits)) = claim_bytes claim ++ list_bytes bit_bytes bits
entry_body (entry_of.Fact (Holds claim)) = claim_bytes claim
entry_body (entry_of.Line line) = line_bytes line
entry_body (entry_of.Ban ban) = ban_bytes ban
entry_body (entry_of.Conclusion NonePorts) = []
entry_body (entry_of.Conclusion (NoneBan ban)) = number_bytes 8 ban
entry_body (entry_of.Conclusion (Match pairs)) = list_bytes pair_bytes pairs
entry_body entry_of.End = []
entry_body (entry_of.DropFact fact) = number_bytes 8 fact
entry_body (entry_of.DropBan ban) = number_bytes 8 ban

-- a tag, how many bytes a body has, and these
abbrev pub frame_bytes : ℕ × List ℕ → List ℕ
frame_bytes frame = frame.0 ∷ (number_bytes 8 (length frame.1) ++ frame.1)

-- the length of a body has 64 bits
abbrev pub FrameFits : ℕ × List ℕ → Type 0
FrameFits frame = length frame.1 < 2 ^ 64

-- an entry, as it stands in an account
abbrev pub entry_bytes : Entry → List ℕ
entry_bytes entry = frame_bytes (entry_tag entry, entry_body entry)

-- ports have 32 bits, and all other numbers 64
abbrev pub BodyFits : Entry → Type 0
BodyFits (entry_of.Fact (Fails claim bits)) = ClaimHasPorts claim × ListFits Always bits
BodyFits (entry_of.Fact (Holds claim)) = ClaimHasPorts claim
BodyFits (entry_of.Line line) = LineFits line
BodyFits (entry_of.Ban ban) = BanFits ban
BodyFits (entry_of.Conclusion NonePorts) = Unit {0}
BodyFits (entry_of.Conclusion (NoneBan ban)) = IsNumber ban
BodyFits (entry_of.Conclusion (Match pairs)) = ListFits HasPorts pairs
BodyFits entry_of.End = Unit {0}
BodyFits (entry_of.DropFact fact) = IsNumber fact
BodyFits (entry_of.DropBan ban) = IsNumber ban

-- and so has the length of the body
pub record EntryFits (entry : Entry) : Type 0 where
  pub body : BodyFits entry
  pub length_fits : FrameFits (entry_tag entry, entry_body entry)

-- the entry of a tag and a whole body, or that there is none, or memory ran out
abbrev pub ReadsBody : ℕ → List ℕ → Result Entry FormStop → Type 0
ReadsBody tag body (Ok entry) = (entry_tag entry ≡ tag) × BodyFits entry × (entry_body entry ≡ body)
ReadsBody tag body (Err form.Malformed) =
    (entry : Entry) → entry_tag entry ≡ tag → BodyFits entry → entry_body entry ≡ body → ⊥
ReadsBody tag body (Err form.Memory) = Unit {0}

-- the same, with the reason
abbrev pub GivesEntry : ℕ → List ℕ → Result Entry EntryStop → Type 0
GivesEntry tag body (Ok entry) = ReadsBody tag body (Ok entry)
GivesEntry tag body (Err stop.Cut) = ⊥
GivesEntry tag body (Err stop.Malformed) = ReadsBody tag body (Err form.Malformed)
GivesEntry tag body (Err stop.Memory) = Unit {0}

-- Bytes begin with a whole frame, which is that of no entry.
pub record IsMalformed (text : List ℕ) : Type 0 where
  pub frame : ℕ × List ℕ
  pub left : List ℕ
  pub whole : BeginsWith frame_bytes FrameFits text frame left
  pub none : BeginsNone entry_bytes EntryFits text

-- The entry that the bytes begin with, and what is left; or that they end before the last byte of any frame; or that
-- the frame that they begin with is no entry's; or memory ran out.
abbrev pub ReadsEntry : List ℕ → Result Entry EntryStop → List ℕ → Type 0
ReadsEntry old (Ok entry) new = BeginsWith entry_bytes EntryFits old entry new
ReadsEntry old (Err stop.Cut) new = BeginsNone frame_bytes FrameFits old
ReadsEntry old (Err stop.Malformed) new = IsMalformed old
ReadsEntry old (Err stop.Memory) new = Unit {0}
