-- Rows of claims of one input show a ban, or the vector's is a last resort.
use Rattle.std.proofs.Common.{◌≡◌, ◌<◌, All, List, length, map, Option, None, Some, refl, sym, subst}
use Rattle.std.specs.Prelude.{IfNone, IfSome}
use Rattle.std.proofs.lemmas.List.Elements.{All-contains, All-contains_itself}
use Rattle.circuits.specs.declared.port.Pair.{Pair}
use Rattle.net_core.specs.Sides.{Graphs}
use Rattle.net_core.specs.declared.graphs.Side.TheVariants.{First, Second}
use Rattle.word_sim.specs.declared.tri.Tri.{Tri}
use Rattle.account_core.specs.declared.step.Ban.{Ban}
use Rattle.account_core.specs.declared.step.Step.TheVariants as step
use Rattle.account_core.specs.Facts.{AreFacts}
use Rattle.account_core.specs.Given.{Decided, decided_by, given_of}
use Rattle.account_core.specs.Ports.{ports_in, IsKnown}
use Rattle.oracle_core.specs.Oracles.{Grows, Known}
use Rattle.ban_book.specs.Vectors.{AreEndsDecided}
use Rattle.ban_book.specs.declared.input_claims.InputClaims.{InputClaims}
use Rattle.ban_book.specs.Rows.{AreRows, HasOneOutput, IsRow}
use Rattle.ban_book.specs.Shown.{HaveNothing, IsShownBan, IsShownByRows}
use Rattle.ban_book.proofs.VectorLemmas.{facts_decided}
use Rattle.ban_book.proofs.RowLemmas.{ends_decided}
use Rattle.fact_bans.proofs.FactLemmas.{row_grows}
use Rattle.vector_bans.specs.Differences.{IsShown}
use Rattle.vector_bans.specs.Resorts.{IsBanWithin, IsVectorBan, ShowNothing}
use Rattle.vector_bans.proofs.DifferLemmas.{vector_valid}

-- the outputs of a pair of some that are known
pub known_output : (graphs : Graphs) (pairs : List Pair) (pair : Pair) → All (IsKnown graphs) pairs → HasOneOutput pairs pair → IsKnown graphs pair
known_output graphs pairs pair known output = All-contains (IsKnown graphs) pairs pair known output.has

pub first_there : (graphs : Graphs) (pairs : List Pair) (pair : Pair) → All (IsKnown graphs) pairs → HasOneOutput pairs pair → pair.from < length graphs.first.outputs
first_there graphs pairs pair known output =
    subst (λ k. pair.from < ports_in graphs.first k) output.of_output (known_output graphs pairs pair known output).from

pub second_there : (graphs : Graphs) (pairs : List Pair) (pair : Pair) → All (IsKnown graphs) pairs → HasOneOutput pairs pair → pair.to < length graphs.second.outputs
second_there graphs pairs pair known output =
    subst (λ k. pair.to < ports_in graphs.second k) output.of_output (known_output graphs pairs pair known output).to

-- the rows of both outputs, the second asked after the first
pub both_rows : (mid new : Known) (pair : Pair) (one other : List InputClaims) → Grows mid new → IsRow (map decided_by mid.facts) First pair.from one → IsRow (map decided_by new.facts) Second pair.to other → AreRows (map decided_by new.facts) pair one other
both_rows mid new pair one other grows first second = record { first = row_grows mid new First pair.from one grows first; second = second }

pub shown_by_rows : (graphs : Graphs) (facts : List Decided) (pairs : List Pair) (pair : Pair) (one other : List InputClaims) (found : Option Ban) → AreRows facts pair one other → IfSome found (IsShownByRows graphs pairs pair one other) → IfSome found (IsShownBan graphs facts pairs)
shown_by_rows graphs facts pairs pair one other None rows is = is
shown_by_rows graphs facts pairs pair one other (Some ban) rows is = is.each facts rows

pub nothing_by_rows : (graphs : Graphs) (known : Known) (pairs : List Pair) (pair : Pair) (one other : List InputClaims) (found : Option Ban) → AreFacts graphs known.facts → length one ≡ graphs.first.inputs → length other ≡ graphs.second.inputs → AreRows (map decided_by known.facts) pair one other → IfNone found (HaveNothing graphs pairs pair one other) → IfNone found (ShowNothing graphs (map decided_by known.facts) pair pairs)
nothing_by_rows graphs known pairs pair one other None lawful first second rows is = record {
  decided = ends_decided graphs (map decided_by known.facts) pair one other first second rows;
  no_facts = is.each (map decided_by known.facts) rows (facts_decided graphs known.facts lawful);
}
nothing_by_rows graphs known pairs pair one other (Some ban) lawful first second rows is = is

-- a ban that facts show
pub within_by_facts : (graphs : Graphs) (facts : List Decided) (pairs : List Pair) (ban : Ban) → IsShownBan graphs facts pairs ban → IsBanWithin graphs facts pairs ban
within_by_facts graphs facts pairs ban shown = record { within = shown.within; valid = shown.valid; last_resort = λ vector. absurd (shown.no_vector vector) }

-- the ban that a vector shows where they show none
vector_within : (graphs : Graphs) (facts : List Decided) (pairs : List Pair) (pair : Pair) (values : List Tri) → IsShown graphs pairs pair values pairs → ShowNothing graphs facts pair pairs → IsBanWithin graphs facts pairs (record { pairs = pairs; step = step.Vector pair.from values })
vector_within graphs facts pairs pair values shown nothing = record {
  within = record { among = All-contains_itself pairs };
  valid = λ bans. vector_valid graphs (given_of facts bans) pairs pairs pair values (first_there graphs pairs pair shown.known shown.output) shown;
  last_resort = λ vector. record {
    decided = λ k d below kind. subst (AreEndsDecided graphs facts) (sym (shown.output.only k d below kind)) nothing.decided;
    no_facts = nothing.no_facts;
  };
}

pub within_by_vector : (graphs : Graphs) (facts : List Decided) (pairs lent : List Pair) (pair : Pair) (values : List Tri) (ban : Ban) → lent ≡ pairs → ban ≡ record { pairs = lent; step = step.Vector pair.from values } → IsShown graphs pairs pair values pairs → ShowNothing graphs facts pair lent → IsBanWithin graphs facts pairs ban
within_by_vector graphs facts pairs lent pair values ban lent_is ban_is shown nothing =
    subst (IsBanWithin graphs facts pairs) (sym ban_is) (subst (λ (l : List Pair). IsBanWithin graphs facts pairs (record { pairs = l; step = step.Vector pair.from values })) (sym lent_is) (vector_within graphs facts pairs pair values shown (subst (ShowNothing graphs facts pair) lent_is nothing)))

-- if it is found
pub within_by_found : (graphs : Graphs) (facts : List Decided) (pairs : List Pair) (pair : Pair) (found : Option Ban) → IfSome found (IsVectorBan graphs pair pairs) → ShowNothing graphs facts pair pairs → IfSome found (IsBanWithin graphs facts pairs)
within_by_found graphs facts pairs pair None is nothing = tt
within_by_found graphs facts pairs pair (Some ban) is nothing = within_by_vector graphs facts pairs pairs pair is.values ban refl is.ban_is is.shown nothing
