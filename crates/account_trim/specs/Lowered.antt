-- Records whose facts, bans and lines of logs have the numbers that are theirs where others are left out.
use Rattle.std.specs.Prelude.{◌≡◌, ℕ, zero, suc, ◌+◌, ◌-◌, Bool, true, false, List, [], ◌∷◌, length, map, nat_lt, slice_index_or, if◌then◌else◌}
use Rattle.std.specs.List.{range_with_len}
use Rattle.circuits.specs.Literals.{EachAt, bit}
use Rattle.account_core.specs.declared.conclusion.Conclusion.{Conclusion}
use Rattle.account_core.specs.declared.conclusion.Conclusion.TheVariants.{NonePorts, NoneBan, Match}
use Rattle.account_file.specs.declared.record.Record.{Record}
use Rattle.account_file.specs.declared.record.Record.TheVariants as record_of
use Rattle.account_file.specs.Spelling.{HasLine}
use Rattle.refusal_core.specs.Numbered.{step_by}
use Rattle.account_trim.specs.declared.places.Places.{Places}
use Rattle.account_trim.specs.declared.links.Links.{Links}
use Rattle.account_trim.specs.declared.lowering.Lower.{Lower}

-- how many before place k aren't marked
abbrev pub left_out : List Bool → ℕ → ℕ
left_out [] k = 0
left_out (mark ∷ marks) zero = 0
left_out (true ∷ marks) (suc k) = left_out marks k
left_out (false ∷ marks) (suc k) = suc (left_out marks k)

-- how many are marked
abbrev pub marked : List Bool → ℕ
marked [] = 0
marked (true ∷ marks) = suc (marked marks)
marked (false ∷ marks) = marked marks

-- how many are left out before each place
abbrev pub all_left_out : List Bool → List ℕ
all_left_out marks = map (left_out marks) (range_with_len 0 (length marks))

-- the marks at places: what isn't there isn't left out
abbrev pub marks_at : List Bool → List ℕ → List Bool
marks_at marks places = map (λ place. slice_index_or marks place true) places

-- how many records, facts and bans before each are left out
abbrev pub lower_by : Places → List Bool → Lower
lower_by places marks = record {
  records = all_left_out marks;
  facts = all_left_out (marks_at marks places.facts);
  bans = all_left_out (marks_at marks places.bans);
}

-- a number, less what is left out before it
abbrev pub lowered : List ℕ → ℕ → ℕ
lowered counts number = number - slice_index_or counts number 0

-- a hint that names a line of the log, less what is left out of the log before that line
abbrev pub lowered_hint : List ℕ → Links → ℕ → ℕ
lowered_hint counts link hint =
    if nat_lt hint link.base then hint
    else if nat_lt (hint - link.base) (length counts - link.start) then
    hint - (slice_index_or counts (link.start + (hint - link.base)) 0 - slice_index_or counts link.start 0)
    else hint

-- a conclusion that names its ban by the number that the ban has now
abbrev pub lowered_conclusion : Lower → Conclusion → Conclusion
lowered_conclusion lower (NoneBan ban) = NoneBan (lowered lower.bans ban)
lowered_conclusion lower NonePorts = NonePorts
lowered_conclusion lower (Match pairs) = Match pairs

-- a record with the new numbers
abbrev pub lowered_record : Lower → Links → Record → Record
lowered_record lower link record_of.Header = record_of.Header
lowered_record lower link (record_of.Fact head) = record_of.Fact head
lowered_record lower link (record_of.Line line) =
    record_of.Line (record { clause = line.clause; hints = map (lowered_hint lower.records link) line.hints })
lowered_record lower link (record_of.Ban ban) =
    record_of.Ban (record { pairs = ban.pairs; step = step_by (lowered lower.facts) (lowered lower.bans) ban.step })
lowered_record lower link (record_of.Conclusion conclusion) =
    record_of.Conclusion (lowered_conclusion lower conclusion)
lowered_record lower link (record_of.DropFact fact) = record_of.DropFact fact
lowered_record lower link (record_of.DropBan ban) = record_of.DropBan ban
lowered_record lower link record_of.End = record_of.End

-- each record that is marked has a line: it is no drop
abbrev pub HaveLines : List Bool → List Record → Type 0
HaveLines marks records = EachAt (λ k entry. bit marks k ≡ true → HasLine entry) records

-- the records that are marked, in order, with their new numbers
abbrev pub left_by : Lower → List Bool → List Links → List Record → List Record
left_by lower [] links records = []
left_by lower (mark ∷ marks) [] records = []
left_by lower (mark ∷ marks) (link ∷ links) [] = []
left_by lower (true ∷ marks) (link ∷ links) (entry ∷ records) =
    lowered_record lower link entry ∷ left_by lower marks links records
left_by lower (false ∷ marks) (link ∷ links) (entry ∷ records) = left_by lower marks links records
