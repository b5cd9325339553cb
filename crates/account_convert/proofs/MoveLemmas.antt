-- A record that is valid is so, too, where other bans than those that it names have other pairs, and what it names was
-- kept.
use Rattle.std.proofs.Common.{◌≡◌, ℕ, suc, ◌<◌, Bool, true, false, cond, List, [], ◌∷◌, ◌++◌, length, get_or, All, Contains, Option, None, Some, refl, sym, ap, subst, ◌∙◌, inr, arith}
use Rattle.std.specs.Prelude.{unwrap_or}
use Rattle.std.specs.List.{AllZip}
use Rattle.circuits.specs.declared.port.Pair.{Pair}
use Rattle.cnf_core.specs.declared.log.LogLine.{LogLine}
use Rattle.cnf_core.specs.Derivations.{is_empty}
use Rattle.net_core.specs.Sides.{Graphs}
use Rattle.account_core.specs.declared.conclusion.Conclusion.{Conclusion}
use Rattle.account_core.specs.declared.conclusion.Conclusion.TheVariants as conclusion
use Rattle.account_core.specs.declared.fact.FactHead.TheVariants as head
use Rattle.account_core.specs.declared.step.Ban.{Ban}
use Rattle.account_core.specs.declared.step.Step.{Step}
use Rattle.account_core.specs.declared.step.Step.TheVariants as step
use Rattle.account_core.specs.Covers.{IsReference}
use Rattle.account_core.specs.Given.{Decided, Given}
use Rattle.account_core.specs.Steps.{AreNamesKnown, IsValidBan, KeepsRule}
use Rattle.account_core.specs.Tallies.{SayOf}
use Rattle.account_file.specs.declared.record.Record.{Record}
use Rattle.account_file.specs.declared.record.Record.TheVariants as entry_of
use Rattle.account_file.specs.Order.{next_place}
use Rattle.account_check.specs.Accounts.{Account, HasFault, after, rest_after_line}
use Rattle.account_check.specs.Drops.{AreNamesKept, Dropped, IsReferenceUnmarked, IsUnmarked, nothing_dropped}
use Rattle.account_check.specs.Logs.{OpenFact}
use Rattle.account_check.proofs.RightLemmas.{ban_passed}
use Rattle.account_check.proofs.TestLemmas.{through}
use Rattle.ban_check.specs.More.{with_fact}
use Rattle.account_convert.specs.Conversions.{is_drop}

-- facts, and bans by their pairs
abbrev pub given_by : List Decided → List (List Pair) → Given
given_by facts bans = record { facts = facts; bans = bans }

-- a reference is to a ban with the same pairs
abbrev pub IsSameAt : List (List Pair) → List (List Pair) → Option ℕ → Type 0
IsSameAt bans others None = Unit {0}
IsSameAt bans others (Some ban) = get_or bans ban [] ≡ get_or others ban []

abbrev pub IsSameAtStep : List (List Pair) → List (List Pair) → Step → Type 0
IsSameAtStep bans others (step.Vector output values) = Unit {0}
IsSameAtStep bans others (step.Mismatch fails holds) = Unit {0}
IsSameAtStep bans others (step.Tally kind have lack) = Unit {0}
IsSameAtStep bans others (step.Cover kind from to refs) = All (IsSameAt bans others) refs

module _ (graphs : Graphs) (facts : List Decided) (bans others : List (List Pair)) (as_many : length others ≡ length bans) where
  say_moves : (numbers : List ℕ) (holds : Bool) (side : _) (output : ℕ) → SayOf (given_by facts bans) numbers holds side output → SayOf (given_by facts others) numbers holds side output
  say_moves numbers holds side output say = record { says = say.says; of_side = say.of_side; of_output = say.of_output }

  reference_moves : (pairs : List Pair) (pair : Pair) (reference : Option ℕ) → IsSameAt bans others reference → IsReference (given_by facts bans) pairs pair reference → IsReference (given_by facts others) pairs pair reference
  reference_moves pairs pair None same is = is
  reference_moves pairs pair (Some ban) same is = (is.0, subst (λ l. All (Contains (pair ∷ pairs)) l) same is.1)

  references_move : (pairs ways : List Pair) (refs : List (Option ℕ)) → ((k : ℕ) (d : Option ℕ) → k < length refs → IsSameAt bans others (get_or refs k d)) → AllZip (IsReference (given_by facts bans) pairs) ways refs → AllZip (IsReference (given_by facts others) pairs) ways refs
  references_move pairs [] [] same are = tt
  references_move pairs [] (reference ∷ refs) same are = absurd are
  references_move pairs (way ∷ ways) [] same are = absurd are
  references_move pairs (way ∷ ways) (reference ∷ refs) same are = (
    reference_moves pairs way reference (same 0 None (omega arith)) are.0,
    references_move pairs ways refs (λ k d below. same (suc k) d (omega (arith, below))) are.1,
  )

  names_move : (named : Step) → AreNamesKnown graphs (given_by facts bans) named → AreNamesKnown graphs (given_by facts others) named
  names_move (step.Vector output values) known = known
  names_move (step.Mismatch fails holds) known = known
  names_move (step.Tally kind have lack) known = known
  names_move (step.Cover kind from to refs) known = record {
    first_ports = known.first_ports;
    second_ports = known.second_ports;
    given_bans = λ ban among. omega (arith, as_many, known.given_bans ban among);
  }

  rule_moves : (pairs : List Pair) (kept : Step) → IsSameAtStep bans others kept → KeepsRule graphs (given_by facts bans) pairs kept → KeepsRule graphs (given_by facts others) pairs kept
  rule_moves pairs (step.Vector output values) same rule = rule
  rule_moves pairs (step.Mismatch fails holds) same rule = record { one_fails = rule.one_fails; other_holds = rule.other_holds; image = rule.image }
  rule_moves pairs (step.Tally kind have lack) same rule = record {
    side = rule.side;
    pair = rule.pair;
    having = rule.having;
    lacking = rule.lacking;
    paired = rule.paired;
    of_outputs = rule.of_outputs;
    fail = say_moves have false _ _ rule.fail;
    hold = say_moves lack true _ _ rule.hold;
    have_shapes = rule.have_shapes;
    lack_shapes = rule.lack_shapes;
    having_ascends = rule.having_ascends;
    lacking_ascends = rule.lacking_ascends;
    some_have = rule.some_have;
    some_lack = rule.some_lack;
    too_many = rule.too_many;
  }
  rule_moves pairs (step.Cover kind from to refs) same rule = record {
    from_ascends = rule.from_ascends;
    to_ascends = rule.to_ascends;
    too_many = rule.too_many;
    referred = references_move pairs _ refs same rule.referred;
  }

  ban_moves : (ban : Ban) → IsSameAtStep bans others ban.step → IsValidBan graphs (given_by facts bans) ban → IsValidBan graphs (given_by facts others) ban
  ban_moves ban same valid = record {
    known = valid.known;
    ordered = valid.ordered;
    names = names_move ban.step valid.names;
    rule = rule_moves ban.pairs ban.step same valid.rule;
    shown = valid.shown;
  }

-- an account with other bans, of which others were dropped
abbrev pub but : Account → List (List Pair) → Dropped → Account
but account bans dropped = record {
  graphs = account.graphs;
  place = account.place;
  given = given_by account.given.facts bans;
  dropped = dropped;
  fact = account.fact;
  proof = account.proof;
  concluded = account.concluded;
}

-- what a record names has the same pairs, and was kept

abbrev pub IsSameAtEnd : List (List Pair) → List (List Pair) → Conclusion → Type 0
IsSameAtEnd bans others conclusion.NonePorts = Unit {0}
IsSameAtEnd bans others (conclusion.NoneBan ban) = IsSameAt bans others (Some ban)
IsSameAtEnd bans others (conclusion.Match pairs) = Unit {0}

abbrev pub IsSameFor : List (List Pair) → List (List Pair) → Record → Type 0
IsSameFor bans others (entry_of.Ban ban) = IsSameAtStep bans others ban.step
IsSameFor bans others (entry_of.Conclusion concluded) = IsSameAtEnd bans others concluded
IsSameFor bans others other = Unit {0}

abbrev pub IsKeptAtEnd : Dropped → Conclusion → Type 0
IsKeptAtEnd dropped conclusion.NonePorts = Unit {0}
IsKeptAtEnd dropped (conclusion.NoneBan ban) = IsUnmarked dropped.bans ban
IsKeptAtEnd dropped (conclusion.Match pairs) = Unit {0}

abbrev pub IsKeptFor : Dropped → Record → Type 0
IsKeptFor dropped (entry_of.Ban ban) = AreNamesKept dropped ban.step
IsKeptFor dropped (entry_of.Conclusion concluded) = IsKeptAtEnd dropped concluded
IsKeptFor dropped other = Unit {0}

pub fine_moves : (account : Account) (bans others : List (List Pair)) (dropped next : Dropped) (entry : Record)
    → length others ≡ length bans → is_drop entry ≡ false → IsSameFor bans others entry → IsKeptFor next entry
    → HasFault (but account bans dropped) entry None → HasFault (but account others next) entry None
fine_moves account bans others dropped next entry_of.Header as_many none same kept fine = fine
fine_moves account bans others dropped next (entry_of.Fact given) as_many none same kept fine = fine
fine_moves account bans others dropped next (entry_of.Line line) as_many none same kept fine = fine
fine_moves account bans others dropped next entry_of.End as_many none same kept fine = fine
fine_moves account bans others dropped next (entry_of.DropFact fact) as_many none same kept fine = absurd (let no : true ≡ false = none in let never : ⊥ = cc in never)
fine_moves account bans others dropped next (entry_of.DropBan ban) as_many none same kept fine = absurd (let no : true ≡ false = none in let never : ⊥ = cc in never)
fine_moves account bans others dropped next (entry_of.Ban ban) as_many none same kept fine =
    let ports = through fine in
    let valid = ban_moves account.graphs account.given.facts bans others as_many ban same (ban_passed account.graphs (given_by account.given.facts bans) dropped ban ports.1) in
    inr (ports.0, inr (valid.known, inr (valid.ordered, inr ((valid.names, kept), inr (valid.rule, inr (valid.shown, refl))))))
fine_moves account bans others dropped next (entry_of.Conclusion conclusion.NonePorts) as_many none same kept fine = fine
fine_moves account bans others dropped next (entry_of.Conclusion (conclusion.Match pairs)) as_many none same kept fine = fine
fine_moves account bans others dropped next (entry_of.Conclusion (conclusion.NoneBan ban)) as_many none same kept fine =
    let ports = through fine in
    let there = through ports.1 in
    let empty = through there.1 in
    inr (ports.0, inr ((omega (arith, as_many, there.0.0), kept), inr (sym same ∙ empty.0, refl)))

-- what a valid record names was kept
pub fine_kept : (account : Account) (bans : List (List Pair)) (dropped : Dropped) (entry : Record) → HasFault (but account bans dropped) entry None → IsKeptFor dropped entry
fine_kept account bans dropped (entry_of.Ban ban) fine =
    let ports = through fine in
    let known = through ports.1 in
    let ordered = through known.1 in
    let names = through ordered.1 in
    names.0.1
fine_kept account bans dropped (entry_of.Conclusion conclusion.NonePorts) fine = tt
fine_kept account bans dropped (entry_of.Conclusion (conclusion.Match pairs)) fine = tt
fine_kept account bans dropped (entry_of.Conclusion (conclusion.NoneBan ban)) fine =
    let ports = through fine in
    let there = through ports.1 in
    there.0.1
fine_kept account bans dropped entry_of.Header fine = tt
fine_kept account bans dropped (entry_of.Fact given) fine = tt
fine_kept account bans dropped (entry_of.Line line) fine = tt
fine_kept account bans dropped entry_of.End fine = tt
fine_kept account bans dropped (entry_of.DropFact fact) fine = tt
fine_kept account bans dropped (entry_of.DropBan ban) fine = tt

-- where nothing was dropped all is kept

step_kept : (named : Step) → AreNamesKept nothing_dropped named
step_kept (step.Vector output values) = tt
step_kept (step.Mismatch fails holds) = (refl, refl)
step_kept (step.Tally kind have lack) = ((λ k d below. refl), (λ k d below. refl))
step_kept (step.Cover kind from to refs) = λ k d below. reference_kept (get_or refs k d)
  where
    reference_kept : (reference : Option ℕ) → IsReferenceUnmarked [] reference
    reference_kept None = tt
    reference_kept (Some ban) = refl

pub nothing_kept : (entry : Record) → IsKeptFor nothing_dropped entry
nothing_kept (entry_of.Ban ban) = step_kept ban.step
nothing_kept (entry_of.Conclusion conclusion.NonePorts) = tt
nothing_kept (entry_of.Conclusion (conclusion.NoneBan ban)) = refl
nothing_kept (entry_of.Conclusion (conclusion.Match pairs)) = tt
nothing_kept entry_of.Header = tt
nothing_kept (entry_of.Fact given) = tt
nothing_kept (entry_of.Line line) = tt
nothing_kept entry_of.End = tt
nothing_kept (entry_of.DropFact fact) = tt
nothing_kept (entry_of.DropBan ban) = tt

-- Others are the same bans, but for those that were dropped.
pub record AreKept (bans others : List (List Pair)) (marks : List Bool) : Type 0 where
  pub as_many : length others ≡ length bans
  pub same : (ban : ℕ) → IsUnmarked marks ban → get_or bans ban [] ≡ get_or others ban []

pub same_for : (bans others : List (List Pair)) (dropped : Dropped) (entry : Record) → AreKept bans others dropped.bans → IsKeptFor dropped entry → IsSameFor bans others entry
same_for bans others dropped (entry_of.Ban ban) are kept = at_step ban.step kept
  where
    at_reference : (reference : Option ℕ) → IsReferenceUnmarked dropped.bans reference → IsSameAt bans others reference
    at_reference None unmarked = tt
    at_reference (Some number) unmarked = are.same number unmarked

    at_step : (named : Step) → AreNamesKept dropped named → IsSameAtStep bans others named
    at_step (step.Vector output values) unmarked = tt
    at_step (step.Mismatch fails holds) unmarked = tt
    at_step (step.Tally kind have lack) unmarked = tt
    at_step (step.Cover kind from to refs) unmarked = λ k d below. at_reference (get_or refs k d) (unmarked k d below)
same_for bans others dropped (entry_of.Conclusion conclusion.NonePorts) are kept = tt
same_for bans others dropped (entry_of.Conclusion (conclusion.NoneBan ban)) are kept = are.same ban kept
same_for bans others dropped (entry_of.Conclusion (conclusion.Match pairs)) are kept = tt
same_for bans others dropped entry_of.Header are kept = tt
same_for bans others dropped (entry_of.Fact given) are kept = tt
same_for bans others dropped (entry_of.Line line) are kept = tt
same_for bans others dropped entry_of.End are kept = tt
same_for bans others dropped (entry_of.DropFact fact) are kept = tt
same_for bans others dropped (entry_of.DropBan ban) are kept = tt

back_for : (bans others : List (List Pair)) (dropped : Dropped) (entry : Record) → AreKept bans others dropped.bans → IsKeptFor dropped entry → IsSameFor others bans entry
back_for bans others dropped entry are kept =
    same_for others bans dropped entry (record { as_many = sym are.as_many; same = λ ban unmarked. sym (are.same ban unmarked) }) kept

-- a valid record, with what was dropped and without
pub fine_with : (account : Account) (bans others : List (List Pair)) (dropped : Dropped) (entry : Record) → AreKept bans others dropped.bans → is_drop entry ≡ false → IsKeptFor dropped entry
    → HasFault (but account bans nothing_dropped) entry None → HasFault (but account others dropped) entry None
fine_with account bans others dropped entry are none kept fine = fine_moves account bans others nothing_dropped dropped entry are.as_many none (same_for bans others dropped entry are kept) kept fine

pub fine_without : (account : Account) (bans others : List (List Pair)) (dropped : Dropped) (entry : Record) → AreKept bans others dropped.bans → is_drop entry ≡ false
    → HasFault (but account others dropped) entry None → HasFault (but account bans nothing_dropped) entry None
fine_without account bans others dropped entry are none fine =
    fine_moves account others bans dropped nothing_dropped entry (sym are.as_many) none (back_for bans others dropped entry are (fine_kept account others dropped entry fine)) (nothing_kept entry) fine

-- where a record leads

abbrev pub bans_with : List (List Pair) → Record → List (List Pair)
bans_with bans (entry_of.Ban ban) = bans ++ ban.pairs ∷ []
bans_with bans other = bans

-- after a line of an open log: the empty one closes it
abbrev pub closed : Account → OpenFact → Account
closed account fact = record account { given = with_fact account.given fact.claim true; fact = None }

abbrev pub opened : Account → OpenFact → LogLine → Account
opened account fact line = record account { fact = Some (record { claim = fact.claim; taken = fact.taken ++ line.clause ∷ [] }) }

line_after : (account : Account) (bans : List (List Pair)) (dropped : Dropped) (fact : Option OpenFact) (line : LogLine) → rest_after_line (but account bans dropped) fact line ≡ but (rest_after_line account fact line) bans dropped
line_after account bans dropped None line = refl
line_after account bans dropped (Some fact) line = by (is_empty line.clause)
  where
    by : (b : Bool) → cond b (closed (but account bans dropped) fact) (opened (but account bans dropped) fact line) ≡ but (cond b (closed account fact) (opened account fact line)) bans dropped
    by true = refl
    by false = refl

pub after_but : (account : Account) (bans : List (List Pair)) (dropped : Dropped) (entry : Record) → is_drop entry ≡ false → after (but account bans dropped) entry ≡ but (after account entry) (bans_with bans entry) dropped
after_but account bans dropped entry_of.Header none = refl
after_but account bans dropped (entry_of.Fact (head.Fails claim bits)) none = refl
after_but account bans dropped (entry_of.Fact (head.Holds claim)) none = refl
after_but account bans dropped (entry_of.Line line) none =
    ap (λ (a : Account). record a { place = unwrap_or (next_place account.place (entry_of.Line line)) account.place }) (line_after account bans dropped account.fact line)
after_but account bans dropped (entry_of.Ban ban) none = refl
after_but account bans dropped (entry_of.Conclusion conclusion.NonePorts) none = refl
after_but account bans dropped (entry_of.Conclusion (conclusion.NoneBan ban)) none = refl
after_but account bans dropped (entry_of.Conclusion (conclusion.Match pairs)) none = refl
after_but account bans dropped entry_of.End none = refl
after_but account bans dropped (entry_of.DropFact fact) none = absurd (let no : true ≡ false = none in let never : ⊥ = cc in never)
after_but account bans dropped (entry_of.DropBan ban) none = absurd (let no : true ≡ false = none in let never : ⊥ = cc in never)
