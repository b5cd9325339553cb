-- Steps of the search, one after the other.
use Rattle.std.proofs.Common.{◌≡◌, List, [], Result, Ok, Err, refl, sym, subst, ◌∙◌}
use Rattle.std.specs.Prelude.{IfOk, IsErrAnd, OnOk}
use Rattle.std.specs.Borrow.{GName}
use Rattle.cnf_core.specs.declared.stop.Stop.{Stop}
use Rattle.cnf_core.specs.declared.stop.Stop.TheVariants.{Memory}
use Rattle.net_core.specs.Sides.{Graphs}
use Rattle.query_core.specs.Ledgers.{Ledgered}
use Rattle.account_core.specs.declared.step.Ban.{Ban}
use Rattle.oracle_core.specs.Oracles.{Known, Serves}
use Rattle.sim_patterns.specs.declared.trials.Trials.{Trials}
use Rattle.sim_patterns.specs.Trials.{AreTrials}
use Rattle.pair_domains.specs.Trails.{Domained}
use Rattle.fact_bans.specs.Asking.{AreSame, Loans}
use Rattle.fact_bans.specs.Serving.{MakesBans}
use Rattle.fact_bans.proofs.MakingLemmas.{HasMadeBans, made_kept, made_one, made_same, made_then, makes_err, makes_last, makes_no_more, makes_ok, makes_stop, may_later}
use Rattle.pair_search.specs.Grounded.{LearnsMore, StayGrounded}
use Rattle.pair_search.proofs.GroundedLemmas.{grounded_none}
use Rattle.pair_search.specs.Progress.{IsTrail, Propagates, StaysJustified}
use Rattle.match_search.specs.States.{AreSameLoans, GoesOn, Lent, MayGoOn, MayStep, Steps}
use Rattle.match_search.proofs.AskLemmas.{IsUnderWay, made_learned, shown_adds, shown_follows, shown_stays}
use Rattle.fact_bans.proofs.ServeLemmas.{served_one}

-- what holds is so where there is an answer, and where there is none nothing is asked
pub on_any : {X : Type 0} (P : Type 0) (result : Result X Stop) → P → OnOk result P
on_any P (Ok x) p = p
on_any P (Err e) p = tt

pub never_ok : {X : Type 0} (P : Type 0) (result : Result X Stop) (stop : Stop) → IsErrAnd result (λ e. e ≡ stop) → OnOk result P
never_ok P (Ok x) stop is = absurd is
never_ok P (Err e) stop is = tt

pub never_if : {X : Type 0} (P : X → Type 0) (result : Result X Stop) (stop : Stop) → IsErrAnd result (λ e. e ≡ stop) → IfOk result P
never_if P (Ok x) stop is = absurd is
never_if P (Err e) stop is = tt

-- one more call that keeps bans, after others that were answered
pub made_on : {X : Type 0} {graphs : Graphs} {old mid new : Known} {a b c : Ledgered} {first second third : List Ban} {x : X} → HasMadeBans graphs old mid a b first second → MakesBans graphs mid new b c second third (Ok x) → HasMadeBans graphs old new a c first third
made_on made makes = made_then _ _ _ _ _ _ _ _ _ _ made (made_one _ _ _ _ _ _ _ _ makes)

-- and one that keeps none
pub made_asked : {X : Type 0} {graphs : Graphs} {old mid new : Known} {a b c : Ledgered} {first second : List Ban} {x : X} → HasMadeBans graphs old mid a b first second → Serves mid new b c (Ok x) → HasMadeBans graphs old new a c first second
made_asked made serves = made_then _ _ _ _ _ _ _ _ _ _ made (made_kept _ _ _ _ _ _ _ made.valid (served_one _ _ _ _ _ serves) refl)

-- what is lent may change, and the loans stay the same
pub same_loans : {s : Lent} {known : Known} {ledger : Ledgered} {bans : List Ban} {vectors : Trials} → AreSameLoans s (record s { known = known; ledger = ledger; bans = bans; vectors = vectors })
same_loans = record { oracle = refl; broken = refl; heuristics = refl; book = refl; ledger = refl }

pub same_then : {old mid new : Lent} → AreSameLoans old mid → AreSameLoans mid new → AreSameLoans old new
same_then one other = record {
  oracle = other.oracle ∙ one.oracle;
  broken = other.broken ∙ one.broken;
  heuristics = other.heuristics ∙ one.heuristics;
  book = other.book ∙ one.book;
  ledger = other.ledger ∙ one.ledger;
}

-- what the asker is lent
abbrev pub asker_of : Lent → Loans
asker_of s = record { known = s.known; ledger = s.ledger; oracle_name = s.oracle_name; broken_name = s.broken_name; ledger_name = s.ledger_name }

-- the asker was lent to a call
pub same_asker : {s : Lent} {known : Known} {ledger : Ledgered} {oracle broken book : GName} {bans : List Ban} {vectors : Trials} → AreSame (asker_of s) (record { known = known; ledger = ledger; oracle_name = oracle; broken_name = broken; ledger_name = book }) → AreSameLoans s (record s { known = known; ledger = ledger; oracle_name = oracle; broken_name = broken; ledger_name = book; bans = bans; vectors = vectors })
same_asker same = record { oracle = same.oracle; broken = same.broken; heuristics = refl; book = refl; ledger = same.ledger }

-- all pairs are open
pub may_anew : {graphs : Graphs} {s : Lent} {d : Domained} → MayGoOn graphs s → AreTrials graphs.first s.vectors → IsTrail graphs s.bans d → d.entries ≡ [] → MayStep graphs s d
may_anew may trials trail none = record {
  may = may;
  trail = record { trail = trail; shown = grounded_none _ _ _ none };
  trials = trials;
}

-- nothing was done yet
pub way_start : {graphs : Graphs} {s : Lent} {d : Domained} → MayStep graphs s d → IsUnderWay graphs s s d
way_start may = record {
  same = same_loans;
  made = made_same _ _ _ _ may.may;
  trail = may.trail;
  trials = may.trials;
}

-- a step that was answered
pub way_one : {X : Type 0} {graphs : Graphs} {old new : Lent} {d : Domained} {x : X} → Steps graphs old new d (Ok x) → IsUnderWay graphs old new d
way_one steps = record {
  same = steps.same;
  made = made_one _ _ _ _ _ _ _ _ steps.makes;
  trail = steps.trail;
  trials = steps.trials;
}

-- one more step after others
pub way_more : {X : Type 0} {graphs : Graphs} {old mid new : Lent} {d e : Domained} {x : X} → IsUnderWay graphs old mid d → Steps graphs mid new e (Ok x) → IsUnderWay graphs old new e
way_more way steps = record {
  same = same_then way.same steps.same;
  made = made_on way.made steps.makes;
  trail = steps.trail;
  trials = steps.trials;
}

-- bans were kept, and no pair assigned
pub way_bans : {X : Type 0} {graphs : Graphs} {old mid new : Lent} {d : Domained} {x : X} → IsUnderWay graphs old mid d → GoesOn graphs mid new (Ok x) → IsUnderWay graphs old new d
way_bans {X} {graphs} way goes = record {
  same = same_then way.same goes.same;
  made = made_on way.made goes.makes;
  trail = shown_adds _ _ _ _ _ _ goes.makes.serves.grows goes.makes.adds way.trail;
  trials = subst (AreTrials graphs.first) (sym goes.trials) way.trials;
}

-- and a vector was kept
pub way_tried : {X : Type 0} {graphs : Graphs} {old mid : Lent} {d : Domained} {known : Known} {ledger : Ledgered} {oracle broken book : GName} {bans : List Ban} {vectors : Trials} {x : X} → IsUnderWay graphs old mid d → AreSame (asker_of mid) (record { known = known; ledger = ledger; oracle_name = oracle; broken_name = broken; ledger_name = book }) → MakesBans graphs mid.known known mid.ledger ledger mid.bans bans (Ok x) → AreTrials graphs.first vectors → IsUnderWay graphs old (record mid { known = known; ledger = ledger; oracle_name = oracle; broken_name = broken; ledger_name = book; bans = bans; vectors = vectors }) d
way_tried way same makes trials = record {
  same = same_then way.same (same_asker same);
  made = made_on way.made makes;
  trail = shown_adds _ _ _ _ _ _ makes.serves.grows makes.adds way.trail;
  trials = trials;
}

-- what follows was assigned and deleted, in view of the bans as they were lent
pub way_follows : {graphs : Graphs} {old now : Lent} {lent : List Ban} {d e : Domained} → lent ≡ now.bans → IsUnderWay graphs old now d → Propagates lent d e → IsUnderWay graphs old now e
way_follows same way follows = record {
  same = way.same;
  made = way.made;
  trail = shown_follows _ _ _ _ _ _ same way.trail follows;
  trials = way.trials;
}

-- and a pair was chosen or deleted, or the search went back
pub way_stays : {graphs : Graphs} {old now : Lent} {lent : List Ban} {d e : Domained} → lent ≡ now.bans → IsUnderWay graphs old now d → StaysJustified lent d e → IsUnderWay graphs old now e
way_stays same way stays = record {
  same = way.same;
  made = way.made;
  trail = shown_stays _ _ _ _ _ _ same way.trail stays;
  trials = way.trials;
}

-- and bans came that are learned from the pairs
pub way_back : {graphs : Graphs} {old mid : Lent} {d e : Domained} {learned : List Ban} → IsUnderWay graphs old mid d → LearnsMore graphs d.entries mid.bans learned → IsTrail graphs learned e → StayGrounded d.entries e.entries → IsUnderWay graphs old (record mid { bans = learned }) e
way_back way more trail stay = record {
  same = same_then way.same same_loans;
  made = made_learned _ _ _ _ _ _ _ _ _ way.made way.trail.shown more;
  trail = record { trail = trail; shown = stay.stay _ _ way.trail.shown };
  trials = way.trials;
}

-- after steps that were answered the next one may be made
pub may_go_on : {graphs : Graphs} {old now : Lent} {d : Domained} → MayGoOn graphs old → IsUnderWay graphs old now d → MayStep graphs now d
may_go_on may way = record {
  may = may_later _ _ _ _ _ _ _ may way.made;
  trail = way.trail;
  trials = way.trials;
}

pub steps_ok : {X : Type 0} {graphs : Graphs} {old now : Lent} {d : Domained} {x : X} → IsUnderWay graphs old now d → Steps graphs old now d (Ok x)
steps_ok way = record {
  same = way.same;
  makes = makes_ok _ _ _ _ _ _ _ _ _ refl way.made;
  trail = way.trail;
  trials = way.trials;
}

-- a call that ends the others without an answer
pub steps_cut : {X Y : Type 0} {graphs : Graphs} {old mid new : Lent} {c e : Domained} {result : Result Y Stop} {stop : Stop} → IsErrAnd result (λ e. e ≡ stop) → IsUnderWay graphs old mid c → AreSameLoans mid new → MakesBans {X = X} graphs mid.known new.known mid.ledger new.ledger mid.bans new.bans (Err stop) → Steps graphs old new e result
steps_cut is way same makes = record {
  same = same_then way.same same;
  makes = makes_err _ _ _ _ _ _ _ _ _ _ _ _ is way.made makes;
  trail = never_ok _ _ _ is;
  trials = never_ok _ _ _ is;
}

-- a step that does
pub steps_err : {X Y : Type 0} {graphs : Graphs} {old mid new : Lent} {c d e : Domained} {result : Result Y Stop} {stop : Stop} → IsErrAnd result (λ e. e ≡ stop) → IsUnderWay graphs old mid c → Steps {X = X} graphs mid new d (Err stop) → Steps graphs old new e result
steps_err is way steps = steps_cut is way steps.same steps.makes

-- and a call that assigns and deletes no pair
pub steps_fail : {X Y : Type 0} {graphs : Graphs} {old mid new : Lent} {c e : Domained} {result : Result Y Stop} {stop : Stop} → IsErrAnd result (λ e. e ≡ stop) → IsUnderWay graphs old mid c → GoesOn {X = X} graphs mid new (Err stop) → Steps graphs old new e result
steps_fail is way goes = steps_cut is way goes.same goes.makes

-- memory ran out after calls that were answered
pub steps_stop : {Y : Type 0} {graphs : Graphs} {old now : Lent} {c d : Domained} {result : Result Y Stop} → IsErrAnd result (λ e. e ≡ Memory) → IsUnderWay graphs old now c → Steps graphs old now d result
steps_stop is way = record {
  same = way.same;
  makes = makes_stop _ _ _ _ _ _ _ _ is way.made;
  trail = never_ok _ _ _ is;
  trials = never_ok _ _ _ is;
}

-- also while a vector was kept
pub steps_unkept : {Y : Type 0} {graphs : Graphs} {old mid : Lent} {c d : Domained} {vectors : Trials} {result : Result Y Stop} → IsErrAnd result (λ e. e ≡ Memory) → IsUnderWay graphs old mid c → Steps graphs old (record mid { vectors = vectors }) d result
steps_unkept is way = record {
  same = same_then way.same same_loans;
  makes = makes_stop _ _ _ _ _ _ _ _ is way.made;
  trail = never_ok _ _ _ is;
  trials = never_ok _ _ _ is;
}

-- also while a ban is learned from the pairs
pub steps_unlearned : {Y : Type 0} {graphs : Graphs} {old mid : Lent} {c d : Domained} {learned : List Ban} {result : Result Y Stop} → IsErrAnd result (λ e. e ≡ Memory) → IsUnderWay graphs old mid c → LearnsMore graphs c.entries mid.bans learned → Steps graphs old (record mid { bans = learned }) d result
steps_unlearned is way more = record {
  same = same_then way.same same_loans;
  makes = makes_stop _ _ _ _ _ _ _ _ is (made_learned _ _ _ _ _ _ _ _ _ way.made way.trail.shown more);
  trail = never_ok _ _ _ is;
  trials = never_ok _ _ _ is;
}

-- a step that is the last one
pub steps_last : {X : Type 0} {graphs : Graphs} {old mid new : Lent} {c d : Domained} {result : Result X Stop} → IsUnderWay graphs old mid c → Steps graphs mid new d result → Steps graphs old new d result
steps_last way steps = record {
  same = same_then way.same steps.same;
  makes = makes_last _ _ _ _ _ _ _ _ _ _ _ way.made steps.makes;
  trail = steps.trail;
  trials = steps.trials;
}

-- a call that is lent the asker and the book
pub goes_by : {X : Type 0} {graphs : Graphs} {old : Lent} {known : Known} {ledger : Ledgered} {oracle broken book : GName} {bans : List Ban} {vectors : Trials} {result : Result X Stop} → AreSame (asker_of old) (record { known = known; ledger = ledger; oracle_name = oracle; broken_name = broken; ledger_name = book }) → MakesBans graphs old.known known old.ledger ledger old.bans bans result → vectors ≡ old.vectors → GoesOn graphs old (record old { known = known; ledger = ledger; oracle_name = oracle; broken_name = broken; ledger_name = book; bans = bans; vectors = vectors }) result
goes_by same makes trials = record {
  same = same_asker same;
  makes = makes;
  trials = trials;
}

-- one that is lent the asker alone
pub goes_told : {X : Type 0} {graphs : Graphs} {old : Lent} {known : Known} {ledger : Ledgered} {oracle broken book : GName} {result : Result X Stop} → MayGoOn graphs old → AreSame (asker_of old) (record { known = known; ledger = ledger; oracle_name = oracle; broken_name = broken; ledger_name = book }) → Serves old.known known old.ledger ledger result → GoesOn graphs old (record old { known = known; ledger = ledger; oracle_name = oracle; broken_name = broken; ledger_name = book }) result
goes_told may same serves = goes_by same (makes_no_more _ _ _ _ _ _ _ may.valid serves) refl

-- and one that is lent the oracle and the ledger
pub goes_asked : {X : Type 0} {graphs : Graphs} {old : Lent} {known : Known} {ledger : Ledgered} {result : Result X Stop} → MayGoOn graphs old → Serves old.known known old.ledger ledger result → GoesOn graphs old (record old { known = known; ledger = ledger }) result
goes_asked may serves = goes_told may (record { oracle = refl; broken = refl; ledger = refl }) serves

-- Calls that keep bans and assign no pair, one after the other.
pub record HasGoneOn (graphs : Graphs) (old now : Lent) : Type 0 where
  pub same : AreSameLoans old now
  pub made : HasMadeBans graphs old.known now.known old.ledger now.ledger old.bans now.bans
  pub trials : now.vectors ≡ old.vectors

pub gone_none : {graphs : Graphs} {s : Lent} → MayGoOn graphs s → HasGoneOn graphs s s
gone_none may = record {
  same = same_loans;
  made = made_same _ _ _ _ may;
  trials = refl;
}

pub gone_more : {X : Type 0} {graphs : Graphs} {old mid new : Lent} {x : X} → HasGoneOn graphs old mid → GoesOn graphs mid new (Ok x) → HasGoneOn graphs old new
gone_more gone goes = record {
  same = same_then gone.same goes.same;
  made = made_on gone.made goes.makes;
  trials = goes.trials ∙ gone.trials;
}

pub may_ask_on : {graphs : Graphs} {old now : Lent} → MayGoOn graphs old → HasGoneOn graphs old now → MayGoOn graphs now
may_ask_on may gone = may_later _ _ _ _ _ _ _ may gone.made

pub goes_ok : {X : Type 0} {graphs : Graphs} {old now : Lent} {x : X} → HasGoneOn graphs old now → GoesOn graphs old now (Ok x)
goes_ok gone = record {
  same = gone.same;
  makes = makes_ok _ _ _ _ _ _ _ _ _ refl gone.made;
  trials = gone.trials;
}

pub goes_err : {X Y : Type 0} {graphs : Graphs} {old mid new : Lent} {result : Result Y Stop} {stop : Stop} → IsErrAnd result (λ e. e ≡ stop) → HasGoneOn graphs old mid → GoesOn {X = X} graphs mid new (Err stop) → GoesOn graphs old new result
goes_err is gone goes = record {
  same = same_then gone.same goes.same;
  makes = makes_err _ _ _ _ _ _ _ _ _ _ _ _ is gone.made goes.makes;
  trials = goes.trials ∙ gone.trials;
}
