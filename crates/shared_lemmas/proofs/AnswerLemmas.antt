-- A query that was asked by its own lemmas, or by these, was asked by some.
use Rattle.std.proofs.Common.{◌≡◌, List, [], ◌∷◌, All, Result, Ok, Err, OnOk, inl, sym, subst, arith}
use Rattle.std.proofs.lemmas.List.Elements.{All-push}
use Rattle.cnf_core.specs.declared.stop.Stop.{Stop}
use Rattle.cnf_core.specs.declared.log.LogLine.{LogLine}
use Rattle.net_core.specs.Sides.{Graphs}
use Rattle.claim_core.specs.declared.query.Query.{Query}
use Rattle.query_core.specs.declared.ledger.Asked.{Asked}
use Rattle.query_core.specs.Ledgers.{Ledgered}
use Rattle.ask_core.specs.declared.question.Answer.{Answer}
use Rattle.ask_core.specs.Answers.{Asks, IsAskedIn, IsAskedWith, IsBounded}
use Rattle.ask_core.proofs.BoundLemmas.{bounded_with}
use Rattle.shared_lemmas.specs.Shared.{ArePaidIn, IsAskedBy, IsPaid}
use Rattle.shared_lemmas.proofs.PaidLemmas.{all_after}

pub by_own : (Known : List Asked → Type 0) (graphs : Graphs) (query : Query) (old new : Ledgered) → IsAskedIn graphs query old new → IsAskedBy Known graphs query old new
by_own Known graphs query old new is = record { lemmas = is.lemmas; paid = λ known k d within. inl (is.are.implications k d within); with_them = is.with_them }

pub by_these : (Known : List Asked → Type 0) (graphs : Graphs) (query : Query) (lemmas : List LogLine) (old new : Ledgered) → (Known old.asked → All (IsPaid graphs query old.asked) lemmas) → IsAskedWith lemmas graphs query old new → IsAskedBy Known graphs query old new
by_these Known graphs query lemmas old new paid is = record { lemmas = lemmas; paid = paid; with_them = is }

-- the same where this is known
pub by_known : (Known More : List Asked → Type 0) (graphs : Graphs) (query : Query) (old new : Ledgered) → ((asked : List Asked) → More asked → Known asked) → IsAskedBy Known graphs query old new → IsAskedBy More graphs query old new
by_known Known More graphs query old new known is = record { lemmas = is.lemmas; paid = λ more. is.paid (known old.asked more); with_them = is.with_them }

-- so few lines were learned for it as there can be
pub bounded_by : (Known : List Asked → Type 0) (graphs : Graphs) (query : Query) (old new : Ledgered) → IsAskedBy Known graphs query old new → IsBounded graphs query new
bounded_by Known graphs query old new is = bounded_with graphs query is.lemmas old new is.with_them

-- what was paid for before a question that is asked by its own lemmas still is
pub paid_alone : (graphs : Graphs) (query : Query) (lines : List LogLine) (old new : Ledgered) (r : Result Answer Stop) → Asks IsAskedIn graphs query old new r → All (IsPaid graphs query old.asked) lines → OnOk r (All (IsPaid graphs query new.asked) lines)
paid_alone graphs query lines old new (Ok answer) is paid = all_after graphs graphs query query is.asked.lemmas lines old new is.asked.with_them paid
paid_alone graphs query lines old new (Err stop) is paid = tt

-- lines that were paid for under the feeds of one query
pub paid_one : (graphs : Graphs) (query : Query) (last_query : List Query) (lines : List LogLine) (asked : List Asked) → last_query ≡ query ∷ [] → All (IsPaid graphs query asked) lines → ArePaidIn (record { graphs = graphs; last_query = last_query; lines = lines }) asked
paid_one graphs query last_query lines asked is paid =
    subst (All (λ q. All (IsPaid graphs q asked) lines)) (sym is) (All-push (λ q. All (IsPaid graphs q asked) lines) [] query (λ k d within. absurd (omega (arith, within))) paid)
