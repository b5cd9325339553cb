-- The search under way.
use Rattle.std.proofs.Common.{◌≡◌, ℕ, ◌<◌, List, [], map, Result, Ok, Err, IfErr, refl, sym, subst, arith}
use Rattle.std.specs.Prelude.{IsErrAnd}
use Rattle.cnf_core.specs.declared.stop.Stop.{Stop}
use Rattle.cnf_core.specs.declared.stop.Stop.TheVariants.{Memory, Spent}
use Rattle.net_core.specs.Sides.{Graphs}
use Rattle.query_core.specs.Ledgers.{Ledgered}
use Rattle.account_core.specs.declared.step.Ban.{Ban}
use Rattle.account_core.specs.Facts.{AreFacts}
use Rattle.account_core.specs.Given.{decided_by}
use Rattle.account_core.specs.Ports.{HaveAsMany}
use Rattle.ban_book.proofs.VectorLemmas.{last_resorts_none}
use Rattle.oracle_core.specs.Enough.{enough}
use Rattle.oracle_core.specs.Oracles.{IsSpentWork, IsStopped, Known, Serves}
use Rattle.fact_bans.specs.Serving.{MakesBans, MayMakeBans}
use Rattle.fact_bans.proofs.MakingLemmas.{made_one, made_same, makes_err, makes_last, makes_no_more, makes_ok, makes_stop, may_later}
use Rattle.fact_bans.proofs.ServeLemmas.{served_one, served_then, serves_err, serves_last, serves_memory, serves_ok, valid_grows}
use Rattle.pair_domains.specs.Trails.{Domained}
use Rattle.sim_patterns.specs.Trials.{AreTrials}
use Rattle.match_search.specs.declared.found.Found.{Found}
use Rattle.match_search.specs.Founds.{IsFound}
use Rattle.match_search.specs.States.{AreSameLoans, AreValid, Explores, HasServed, Lent, MayCompare, MayBegin, MaySearch, Searches, SearchesBy, Steps}
use Rattle.match_search.proofs.StepLemmas.{never_if, never_ok, same_loans, same_then}

pub none_valid : (graphs : Graphs) (known : Known) (bans : List Ban) → graphs ≡ known.graphs → bans ≡ [] → AreValid graphs known bans
none_valid graphs known bans are none =
    subst (AreValid graphs known) (sym none) (record {
      graphs_are = are;
      each = λ k d below. absurd (omega (arith, below));
      last_resorts = last_resorts_none graphs (map decided_by known.facts);
    })

-- nothing was asked yet
pub may_start : {graphs : Graphs} {known : Known} {ledger : Ledgered} {bans : List Ban} → MayBegin graphs known ledger bans → AreFacts known.graphs known.facts → MayMakeBans graphs known ledger bans
may_start {graphs} {known} {ledger} {bans} may lawful = record {
  graphs_are = may.graphs_are;
  lawful = subst (λ (g : Graphs). AreFacts g known.facts) (sym may.graphs_are) lawful;
  suits = may.suits;
  valid = none_valid graphs known bans may.graphs_are may.none;
}

-- bans may be made, and so claims may be asked
pub may_ask : {graphs : Graphs} {known : Known} {ledger : Ledgered} {bans : List Ban} → MayMakeBans graphs known ledger bans → MayCompare graphs known ledger
may_ask may = record { graphs_are = may.graphs_are; lawful = may.lawful; suits = may.suits }

-- a search that found a match, or a ban without pairs
pub searches_ok : {graphs : Graphs} {old new : Known} {a b : Ledgered} {bans : List Ban} {x : Found} → HasServed old new a b → AreValid graphs new bans → IsFound graphs bans x → Searches graphs old new a b bans (Ok x)
searches_ok served valid found = record {
  serves = serves_ok _ _ _ _ _ _ refl served;
  valid = valid;
  found = found;
}

-- that ended without an answer
pub searches_err : {X : Type 0} {graphs : Graphs} {old mid new : Known} {a b c : Ledgered} {bans more : List Ban} {result : Result Found Stop} {stop : Stop} → IsErrAnd result (λ e. e ≡ stop) → HasServed old mid a b → MakesBans {X = X} graphs mid new b c bans more (Err stop) → Searches graphs old new a c more result
searches_err is served makes = record {
  serves = serves_err _ _ _ _ _ _ _ _ is served makes.serves;
  valid = makes.valid;
  found = never_if _ _ _ is;
}

-- without memory
pub searches_stop : {graphs : Graphs} {old new : Known} {a b : Ledgered} {bans : List Ban} {result : Result Found Stop} → IsErrAnd result (λ e. e ≡ Memory) → HasServed old new a b → AreValid graphs new bans → Searches graphs old new a b bans result
searches_stop is served valid = record {
  serves = serves_memory _ _ _ _ _ is served;
  valid = valid;
  found = never_if _ _ _ is;
}

-- and that went on after other calls
pub searches_last : {graphs : Graphs} {old mid new : Known} {a b c : Ledgered} {bans : List Ban} {result : Result Found Stop} → HasServed old mid a b → Searches graphs mid new b c bans result → Searches graphs old new a c bans result
searches_last served searches = record {
  serves = serves_last _ _ _ _ _ _ _ served searches.serves;
  valid = searches.valid;
  found = searches.found;
}

-- a budget that a search spent wasn't enough
pub spent_below : {graphs : Graphs} {old new : Known} {a b : Ledgered} {bans : List Ban} {result : Result Found Stop} → graphs ≡ old.graphs → HaveAsMany graphs.first graphs.second → Searches graphs old new a b bans result → (learned : ℕ) → result ≡ Err (Spent learned) → a.budget < enough graphs
spent_below {old = old} {a = a} {b = b} are many searches learned is =
    let spent : IsSpentWork old a b learned = subst (λ (r : Result Found Stop). IfErr r (IsStopped old a b)) is searches.serves.stopped in
    subst (λ graphs. a.budget < enough graphs) (sym are) (spent.below (subst (λ (graphs : Graphs). HaveAsMany graphs.first graphs.second) are many))

-- Bans were kept and let go, again and again.
pub record IsSearching (graphs : Graphs) (old now : Lent) : Type 0 where
  pub same : AreSameLoans old now
  pub served : HasServed old.known now.known old.ledger now.ledger
  pub valid : AreValid graphs now.known now.bans
  pub trials : AreTrials graphs.first now.vectors

pub searching_start : {graphs : Graphs} {s : Lent} → MaySearch graphs s → IsSearching graphs s s
searching_start may = record {
  same = same_loans;
  served = (made_same _ _ _ _ may.may).served;
  valid = may.may.valid;
  trials = may.trials;
}

-- some rounds more
pub searching_more : {X : Type 0} {graphs : Graphs} {old mid new : Lent} {x : X} → IsSearching graphs old mid → Explores graphs mid new (Ok x) → IsSearching graphs old new
searching_more is explores = record {
  same = same_then is.same explores.same;
  served = served_then _ _ _ _ _ _ is.served (served_one _ _ _ _ _ explores.makes.serves);
  valid = explores.makes.valid;
  trials = explores.trials;
}

-- claims were asked, and no ban made
pub searching_asked : {X : Type 0} {graphs : Graphs} {old mid : Lent} {known : Known} {ledger : Ledgered} {x : X} → IsSearching graphs old mid → Serves mid.known known mid.ledger ledger (Ok x) → IsSearching graphs old (record mid { known = known; ledger = ledger })
searching_asked is serves = record {
  same = same_then is.same same_loans;
  served = served_then _ _ _ _ _ _ is.served (served_one _ _ _ _ _ serves);
  valid = valid_grows _ _ _ _ serves.grows is.valid;
  trials = is.trials;
}

-- and the search may begin again
pub may_search_on : {graphs : Graphs} {old now : Lent} → IsSearching graphs old now → MaySearch graphs now
may_search_on {graphs} {old} {now} is = record {
  may = record {
    graphs_are = is.valid.graphs_are;
    lawful = subst (λ (g : Graphs). AreFacts g now.known.facts) (sym is.valid.graphs_are) is.served.grows.lawful;
    suits = is.served.suits;
    valid = is.valid;
  };
  trials = is.trials;
}

-- and found a match, or a ban without pairs
pub search_found : {graphs : Graphs} {old now : Lent} {x : Found} → IsSearching graphs old now → IsFound graphs now.bans x → SearchesBy graphs old now (Ok x)
search_found is found = record { same = is.same; searches = searches_ok is.served is.valid found }

pub search_failed : {X : Type 0} {graphs : Graphs} {old mid new : Lent} {result : Result Found Stop} {stop : Stop} → IsErrAnd result (λ e. e ≡ stop) → IsSearching graphs old mid → Explores {X = X} graphs mid new (Err stop) → SearchesBy graphs old new result
search_failed is searching explores = record {
  same = same_then searching.same explores.same;
  searches = searches_err is searching.served explores.makes;
}

-- and ended while claims were asked
pub search_ended : {X : Type 0} {graphs : Graphs} {old mid : Lent} {known : Known} {ledger : Ledgered} {result : Result Found Stop} {stop : Stop} → IsErrAnd result (λ e. e ≡ stop) → IsSearching graphs old mid → Serves {X = X} mid.known known mid.ledger ledger (Err stop) → SearchesBy graphs old (record mid { known = known; ledger = ledger }) result
search_ended is searching serves = record {
  same = same_then searching.same same_loans;
  searches = searches_err is searching.served (makes_no_more _ _ _ _ _ _ _ searching.valid serves);
}

-- and went on to its end
pub search_last : {graphs : Graphs} {old mid new : Lent} {result : Result Found Stop} → IsSearching graphs old mid → SearchesBy graphs mid new result → SearchesBy graphs old new result
search_last is searches = record {
  same = same_then is.same searches.same;
  searches = searches_last is.served searches.searches;
}

-- steps of which no trail is left
pub explores_steps : {X : Type 0} {graphs : Graphs} {old new : Lent} {d : Domained} {result : Result X Stop} → Steps graphs old new d result → Explores graphs old new result
explores_steps steps = record { same = steps.same; makes = steps.makes; trials = steps.trials }

-- nothing was done
pub explores_none : {X : Type 0} {graphs : Graphs} {s : Lent} {x : X} → MaySearch graphs s → Explores graphs s s (Ok x)
explores_none may = record {
  same = same_loans;
  makes = makes_ok _ _ _ _ _ _ _ _ _ refl (made_same _ _ _ _ may.may);
  trials = may.trials;
}

-- and memory ran out
pub explores_stop : {X : Type 0} {graphs : Graphs} {s : Lent} {result : Result X Stop} → IsErrAnd result (λ e. e ≡ Memory) → MaySearch graphs s → Explores graphs s s result
explores_stop is may = record {
  same = same_loans;
  makes = makes_stop _ _ _ _ _ _ _ _ is (made_same _ _ _ _ may.may);
  trials = never_ok _ _ _ is;
}

-- another value is answered
pub explores_ok : {X Y : Type 0} {graphs : Graphs} {old new : Lent} {x : X} {y : Y} → Explores graphs old new (Ok x) → Explores graphs old new (Ok y)
explores_ok explores = record {
  same = explores.same;
  makes = makes_ok _ _ _ _ _ _ _ _ _ refl (made_one _ _ _ _ _ _ _ _ explores.makes);
  trials = explores.trials;
}

-- the same stop
pub explores_err : {X Y : Type 0} {graphs : Graphs} {old new : Lent} {result : Result Y Stop} {stop : Stop} → IsErrAnd result (λ e. e ≡ stop) → MaySearch graphs old → Explores {X = X} graphs old new (Err stop) → Explores graphs old new result
explores_err is may explores = record {
  same = explores.same;
  makes = makes_err _ _ _ _ _ _ _ _ _ _ _ _ is (made_same _ _ _ _ may.may) explores.makes;
  trials = never_ok _ _ _ is;
}

-- and one search after another
pub explores_last : {X Y : Type 0} {graphs : Graphs} {old mid new : Lent} {x : X} {result : Result Y Stop} → Explores graphs old mid (Ok x) → Explores graphs mid new result → Explores graphs old new result
explores_last first explores = record {
  same = same_then first.same explores.same;
  makes = makes_last _ _ _ _ _ _ _ _ _ _ _ (made_one _ _ _ _ _ _ _ _ first.makes) explores.makes;
  trials = explores.trials;
}

pub explored_may : {X : Type 0} {graphs : Graphs} {old new : Lent} {x : X} → MaySearch graphs old → Explores graphs old new (Ok x) → MaySearch graphs new
explored_may may explores = record {
  may = may_later _ _ _ _ _ _ _ may.may (made_one _ _ _ _ _ _ _ _ explores.makes);
  trials = explores.trials;
}
