-- That valid bans exclude their pairs, one after another.
use Rattle.std.proofs.Common.{◌≡◌, ℕ, zero, suc, ◌≤◌, List, [], ◌∷◌, ◌++◌, length, take, get_or, All, sym, ap, subst, ◌∙◌, arith}
use Rattle.std.proofs.Math.Seq.{take-suc, take-length}
use Rattle.std.proofs.lemmas.List.{map-append}
use Rattle.std.proofs.lemmas.List.Elements.{All-nil, All-push}
use Rattle.circuits.specs.declared.port.Pair.{Pair}
use Rattle.circuits.specs.Netlists.{Net}
use Rattle.circuits.specs.Matches.{HaveNpnpEqualFunctions}
use Rattle.net_core.specs.Sides.{Graphs}
use Rattle.net_core.specs.Graph.{IsGraph}
use Rattle.account_core.specs.declared.step.Step.{Step}
use Rattle.account_core.specs.declared.step.Step.TheVariants as step
use Rattle.account_core.specs.declared.step.Ban.{Ban}
use Rattle.account_core.specs.Ports.{HaveAsMany}
use Rattle.account_core.specs.Given.{Decided, Given, IsTrueFact, given_of, pairs_of}
use Rattle.account_core.specs.Exclusions.{Excludes, AreRight}
use Rattle.account_core.specs.Steps.{AreNamesKnown, KeepsRule, HasShown, IsValidBan, AreValidBans}
use Rattle.account_core.proofs.CoverLemmas.{cover_contradicts}
use Rattle.account_core.proofs.ImageLemmas.{correspond, mismatch_contradicts}
use Rattle.account_core.proofs.SentValues.{vector_contradicts}
use Rattle.account_core.proofs.TallyLemmas.{tally_contradicts}

-- whatever the step is
step_contradicts : (graphs : Graphs) (given : Given) (pairs : List Pair) (taken : Step) → IsGraph graphs.first → IsGraph graphs.second → AreRight graphs given → AreNamesKnown graphs given taken → KeepsRule graphs given pairs taken → HasShown graphs pairs taken → Excludes graphs pairs
step_contradicts graphs given pairs (step.Vector output values) first second right names rule shown =
    vector_contradicts graphs pairs output values first second shown
step_contradicts graphs given pairs (step.Mismatch fails holds) first second right names rule shown =
    mismatch_contradicts graphs given pairs fails holds right.facts names.0 names.1 rule
step_contradicts graphs given pairs (step.Tally kind have lack) first second right names rule shown =
    tally_contradicts graphs given pairs kind have lack (correspond graphs) right.facts names.0 names.1 rule
step_contradicts graphs given pairs (step.Cover kind from to refs) first second right names rule shown =
    cover_contradicts graphs given pairs kind from to refs right.bans names rule

pub ban_contradicts : (graphs : Graphs) (given : Given) (ban : Ban) → IsGraph graphs.first → IsGraph graphs.second → AreRight graphs given → IsValidBan graphs given ban → Excludes graphs ban.pairs
ban_contradicts graphs given ban first second right valid =
    step_contradicts graphs given ban.pairs ban.step first second right valid.names valid.rule valid.shown

-- the first n bans, each by those before it
first_bans : (graphs : Graphs) (facts : List Decided) (bans : List Ban) (count : ℕ) → IsGraph graphs.first → IsGraph graphs.second → All (IsTrueFact graphs) facts → AreValidBans graphs facts bans → count ≤ length bans → All (Excludes graphs) (pairs_of (take count bans))
first_bans graphs facts bans zero first second right valid within = All-nil (Excludes graphs)
first_bans graphs facts bans (suc count) first second right valid within =
    let before = first_bans graphs facts bans count first second right valid (omega arith) in
    let none : Ban = record { pairs = []; step = step.Mismatch 0 0 } in
    let ban = get_or bans count none in
    let here : Excludes graphs ban.pairs = ban_contradicts graphs (given_of facts (take count bans)) ban first second (record { facts = right; bans = before }) (valid count none within) in
    let more : pairs_of (take (suc count) bans) ≡ pairs_of (take count bans) ++ ban.pairs ∷ [] = ap pairs_of (take-suc bans count none within) ∙ map-append (λ (b : Ban). b.pairs) (take count bans) (ban ∷ []) in
    subst (All (Excludes graphs)) (sym more) (All-push (Excludes graphs) (pairs_of (take count bans)) ban.pairs before here)

pub bans_contradict : (graphs : Graphs) (facts : List Decided) (bans : List Ban) → IsGraph graphs.first → IsGraph graphs.second → All (IsTrueFact graphs) facts → AreValidBans graphs facts bans → All (Excludes graphs) (pairs_of bans)
bans_contradict graphs facts bans first second right valid =
    subst (λ l. All (Excludes graphs) (pairs_of l)) (take-length bans) (first_bans graphs facts bans (length bans) first second right valid (omega arith))

-- each match extends no pairs
pub no_pairs : (graphs : Graphs) → Excludes graphs [] → HaveNpnpEqualFunctions graphs.first graphs.second → ⊥
no_pairs graphs excluded equal = excluded equal.0 equal.1 equal.2 (λ k d below. absurd (omega arith))

-- a match is of circuits with the same numbers of ports
pub other_counts : (first second : Net) → (HaveAsMany first second → ⊥) → HaveNpnpEqualFunctions first second → ⊥
other_counts first second never equal =
    never (record { inputs = sym equal.2.same_inputs; outputs = sym equal.2.same_outputs })
