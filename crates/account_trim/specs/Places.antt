-- Where the facts, the bans and the lines of a log stand that a record of an account may name.
use Rattle.std.specs.Prelude.{ℕ, ◌+◌, ◌*◌, List, [], ◌∷◌, ◌++◌, length, Option, None, Some, if◌then◌else◌}
use Rattle.net_core.specs.Sides.{Graphs, graph_of}
use Rattle.cnf_core.specs.declared.log.LogLine.{LogLine}
use Rattle.cnf_core.specs.Derivations.{is_empty}
use Rattle.claim_core.specs.declared.claims.Claim.{Claim}
use Rattle.account_core.specs.declared.conclusion.Conclusion.{Conclusion}
use Rattle.account_core.specs.declared.conclusion.Conclusion.TheVariants.{NonePorts, NoneBan, Match}
use Rattle.account_core.specs.declared.fact.FactHead.{FactHead}
use Rattle.account_core.specs.declared.fact.FactHead.TheVariants.{Fails, Holds}
use Rattle.account_file.specs.declared.record.Record.{Record}
use Rattle.account_file.specs.declared.record.Record.TheVariants as record_of
use Rattle.account_trim.specs.declared.places.Places.{Places}

-- before the first record
abbrev pub no_places : Places
no_places = record { facts = []; bans = []; owner = None; start = 0; base = 0 }

-- how many clauses the query of a claim has, and each query of a match: its log's lines are numbered from there
abbrev pub claim_base : Graphs → Claim → ℕ
claim_base graphs claim =
    3 + 3 * (length (graph_of graphs claim.side).gates + length (graph_of graphs claim.side).gates)

-- how many clauses a query has that asks whether an output and its partner can differ
abbrev pub match_base : Graphs → ℕ
match_base graphs = 3 + 3 * (length graphs.first.gates + length graphs.second.gates)

-- A fact is given by its line where it fails, and by the last line of its log where it holds.
abbrev pub with_fact : Graphs → Places → ℕ → FactHead → Places
with_fact graphs places k (Fails claim bits) = record places { facts = places.facts ++ k ∷ [] }
with_fact graphs places k (Holds claim) =
    record places { owner = Some k; start = k + 1; base = claim_base graphs claim }

-- the fact that the last line of a log gives: none where the log is a match's
abbrev pub given_at : Option ℕ → ℕ → List ℕ
given_at None k = []
given_at (Some owner) k = k ∷ []

-- after the last line of a log, the next log of a match may follow
abbrev pub with_line : Places → ℕ → LogLine → Places
with_line places k line =
    if is_empty line.clause
    then record places { facts = places.facts ++ given_at places.owner k; owner = None; start = k + 1 }
    else places

-- the logs of a match follow its conclusion
abbrev pub with_conclusion : Graphs → Places → ℕ → Conclusion → Places
with_conclusion graphs places k (Match pairs) = record places { start = k + 1; base = match_base graphs }
with_conclusion graphs places k NonePorts = places
with_conclusion graphs places k (NoneBan ban) = places

-- After one record more, at place k. No log goes on over a drop.
abbrev pub with_one : Graphs → Places → ℕ → Record → Places
with_one graphs places k record_of.Header = places
with_one graphs places k (record_of.Fact head) = with_fact graphs places k head
with_one graphs places k (record_of.Line line) = with_line places k line
with_one graphs places k (record_of.Ban ban) = record places { bans = places.bans ++ k ∷ [] }
with_one graphs places k (record_of.Conclusion conclusion) = with_conclusion graphs places k conclusion
with_one graphs places k (record_of.DropFact fact) = record places { start = k + 1 }
with_one graphs places k (record_of.DropBan ban) = record places { start = k + 1 }
with_one graphs places k record_of.End = places

-- after records of which the first stands at place k
abbrev pub with_all : Graphs → Places → ℕ → List Record → Places
with_all graphs places k [] = places
with_all graphs places k (entry ∷ records) = with_all graphs (with_one graphs places k entry) (k + 1) records

-- where facts, bans and lines of logs stand, after all records of an account
abbrev pub places_of : Graphs → List Record → Places
places_of graphs records = with_all graphs no_places 0 records
