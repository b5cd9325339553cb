-- The records of an account that each record rests on, by their places.
use Rattle.std.specs.Prelude.{ℕ, ◌+◌, ◌-◌, ◌&&◌, Bool, true, false, List, [], ◌∷◌, ◌++◌, option_to_list, Option, is_none, nat_lt, slice_index_or, if◌then◌else◌}
use Rattle.std.specs.List.{flat_map}
use Rattle.net_core.specs.Sides.{Graphs}
use Rattle.cnf_core.specs.declared.log.LogLine.{LogLine}
use Rattle.cnf_core.specs.Derivations.{is_empty}
use Rattle.account_core.specs.declared.conclusion.Conclusion.{Conclusion}
use Rattle.account_core.specs.declared.conclusion.Conclusion.TheVariants.{NonePorts, NoneBan, Match}
use Rattle.account_core.specs.declared.step.Step.{Step}
use Rattle.account_file.specs.declared.record.Record.{Record}
use Rattle.account_file.specs.declared.record.Record.TheVariants as record_of
use Rattle.refusal_core.specs.Names.{bans_named, facts_named}
use Rattle.account_trim.specs.declared.places.Places.{Places}
use Rattle.account_trim.specs.declared.links.Links.{Links}
use Rattle.account_trim.specs.Places.{no_places, with_one}

-- a place, where it is before place k
abbrev pub earlier : ℕ → ℕ → List ℕ
earlier k place = if nat_lt place k then place ∷ [] else []

-- where number n of a list stands, before place k
abbrev pub listed : ℕ → List ℕ → ℕ → List ℕ
listed k places n = earlier k (slice_index_or places n k)

-- the line of its log that a hint of the line at place k names: none where it names a clause of the query
abbrev pub hinted : Places → ℕ → ℕ → List ℕ
hinted places k hint =
    if nat_lt hint places.base then []
    else if nat_lt (hint - places.base) (k - places.start) then (places.start + (hint - places.base)) ∷ []
    else []

-- a line of a log names the lines in its hints, and the fact whose log it is
abbrev pub line_names : Places → ℕ → LogLine → List ℕ
line_names places k line = flat_map (hinted places k) line.hints ++ option_to_list places.owner

-- where the facts and bans stand that a ban's step names
abbrev pub step_names : Places → ℕ → Step → List ℕ
step_names places k step =
    flat_map (listed k places.facts) (facts_named step) ++ flat_map (listed k places.bans) (bans_named step)

-- where the ban without pairs stands by which an account concludes that there is no match
abbrev pub conclusion_names : Places → ℕ → Conclusion → List ℕ
conclusion_names places k (NoneBan ban) = listed k places.bans ban
conclusion_names places k NonePorts = []
conclusion_names places k (Match pairs) = []

-- the places of what the record at place k names
abbrev pub names : Places → ℕ → Record → List ℕ
names places k record_of.Header = []
names places k (record_of.Fact head) = []
names places k (record_of.Line line) = line_names places k line
names places k (record_of.Ban ban) = step_names places k ban.step
names places k (record_of.Conclusion conclusion) = conclusion_names places k conclusion
names places k (record_of.DropFact fact) = []
names places k (record_of.DropBan ban) = []
names places k record_of.End = []

-- The header, the conclusion and the end are roots, and the last line of each log of a match. No record names a drop.
abbrev pub is_root : Option ℕ → Record → Bool
is_root owner record_of.Header = true
is_root owner (record_of.Fact head) = false
is_root owner (record_of.Line line) = is_empty line.clause && is_none owner
is_root owner (record_of.Ban ban) = false
is_root owner (record_of.Conclusion conclusion) = true
is_root owner (record_of.DropFact fact) = false
is_root owner (record_of.DropBan ban) = false
is_root owner record_of.End = true

-- whether a record is kept in any case, and which records it rests on
abbrev pub link : Places → ℕ → Record → Links
link places k entry = record {
  is_root = is_root places.owner entry;
  names = names places k entry;
  start = places.start;
  base = places.base;
}

-- those of records of which the first stands at place k
abbrev pub links_from : Graphs → Places → ℕ → List Record → List Links
links_from graphs places k [] = []
links_from graphs places k (entry ∷ records) =
    link places k entry ∷ links_from graphs (with_one graphs places k entry) (k + 1) records

-- on which records each record of an account rests
abbrev pub links_of : Graphs → List Record → List Links
links_of graphs records = links_from graphs no_places 0 records
