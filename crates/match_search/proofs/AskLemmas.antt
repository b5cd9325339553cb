-- Calls that have claims decided and keep bans while pairs are assigned and deleted.
use Rattle.std.proofs.Common.{◌≡◌, ◌≤◌, ℕ, List, [], ◌∷◌, ◌++◌, map, Option, None, Some, Result, Ok, Err, refl, sym, ap, subst, ◌∙◌, inl, inr, arith}
use Rattle.std.specs.Prelude.{Contains, IfOk, IfSome}
use Rattle.std.proofs.lemmas.List.Elements.{Contains-append_left}
use Rattle.std.proofs.lemmas.Result.{IfOk-weaker}
use Rattle.cnf_core.specs.declared.stop.Stop.{Stop}
use Rattle.circuits.specs.declared.port.Pair.{Pair}
use Rattle.circuits.specs.declared.port.PortKind.{PortKind}
use Rattle.circuits.specs.declared.port.PortKind.TheVariants.{Input, Output}
use Rattle.account_core.specs.Ports.{IsKnown}
use Rattle.net_core.specs.Sides.{Graphs}
use Rattle.query_core.specs.Ledgers.{Ledgered}
use Rattle.account_core.specs.declared.step.Ban.{Ban}
use Rattle.account_core.specs.Given.{Decided, decided_by, given_of}
use Rattle.account_core.specs.Steps.{IsValidBan}
use Rattle.account_core.specs.declared.step.Step.TheVariants as step
use Rattle.ban_book.specs.declared.mismatched.Unlike.{Unlike}
use Rattle.ban_book.specs.Mismatched.{IsBanBy, mismatch_of}
use Rattle.oracle_core.specs.Oracles.{Known}
use Rattle.sim_patterns.specs.Trials.{AreTrials}
use Rattle.ban_book.specs.Vectors.{AreLastResorts}
use Rattle.ban_book.proofs.VectorLemmas.{last_resorts_push_other}
use Rattle.fact_bans.specs.declared.exchanges.SwapPairs.{SwapPairs}
use Rattle.fact_bans.specs.Carrying.{IsPairOf as IsOfKind}
use Rattle.fact_bans.proofs.MakingLemmas.{HasMadeBans, adds_then}
use Rattle.pair_domains.specs.declared.entry.Entry.{Entry}
use Rattle.pair_domains.specs.declared.entry.Fate.TheVariants.{Deleted}
use Rattle.pair_domains.specs.declared.entry.Reason.TheVariants.{Mismatch}
use Rattle.pair_domains.specs.Trails.{AreEntries, Domained, IsOpen, IsPairOf, assigned_in}
use Rattle.pair_search.specs.Grounded.{AreGrounded, IsGrounded, LearnsMore, StayGrounded, in_order}
use Rattle.pair_search.specs.Named.{deleted}
use Rattle.pair_search.proofs.GroundedLemmas.{grounded_push}
use Rattle.pair_search.specs.Justified.{AreJustified}
use Rattle.pair_search.proofs.JustifiedLemmas.{assigned_append}
use Rattle.pair_search.specs.Progress.{IsTrail, Propagates, StaysJustified, left}
use Rattle.pair_search.proofs.StepLemmas.{HasOneMore, justified_one, less_one, one_more_of, trail_on}
pub use Rattle.class_refine.proofs.TrailLemmas.{known_of, shown_adds, trail_adds}
use Rattle.match_search.specs.declared.ahead.Ahead.{Ahead}
use Rattle.match_search.specs.declared.ahead.Ahead.TheVariants as ahead
use Rattle.match_search.specs.States.{AreInputsAndOutput, AreOfBothKinds, AreSameLoans, Deletes, IsAhead, IsShownTrail, Lent}

-- the trail after pairs were assigned and deleted in view of the bans as they were lent
pub trail_beside : (graphs : Graphs) (bans lent : List Ban) (before after : Domained) → lent ≡ bans → IsTrail graphs bans before → after.inputs ≡ before.inputs → after.outputs ≡ before.outputs → AreJustified after.inputs after.outputs lent after.entries → IsTrail graphs bans after
trail_beside graphs bans lent before after same is inputs outputs are =
    trail_on graphs bans before after is inputs outputs (subst (λ (l : List Ban). AreJustified after.inputs after.outputs l after.entries) same are)

-- after pairs were assigned and deleted in view of the bans as they were lent
pub shown_beside : (graphs : Graphs) (known : Known) (bans lent : List Ban) (before after : Domained) → lent ≡ bans → IsShownTrail graphs known bans before → after.inputs ≡ before.inputs → after.outputs ≡ before.outputs → AreJustified after.inputs after.outputs lent after.entries → StayGrounded before.entries after.entries → IsShownTrail graphs known bans after
shown_beside graphs known bans lent before after same is inputs outputs are stay = record {
  trail = trail_beside graphs bans lent before after same is.trail inputs outputs are;
  shown = stay.stay graphs (map decided_by known.facts) is.shown;
}

pub shown_follows : (graphs : Graphs) (known : Known) (bans lent : List Ban) (before after : Domained) → lent ≡ bans → IsShownTrail graphs known bans before → Propagates lent before after → IsShownTrail graphs known bans after
shown_follows graphs known bans lent before after same is follows = shown_beside graphs known bans lent before after same is follows.inputs follows.outputs follows.justified follows.grounded

pub shown_stays : (graphs : Graphs) (known : Known) (bans lent : List Ban) (before after : Domained) → lent ≡ bans → IsShownTrail graphs known bans before → StaysJustified lent before after → IsShownTrail graphs known bans after
shown_stays graphs known bans lent before after same is stays = shown_beside graphs known bans lent before after same is stays.inputs stays.outputs stays.justified stays.grounded

-- bans come that are learned from a trail that is shown
pub made_learned : (graphs : Graphs) (old new : Known) (a b : Ledgered) (first second third : List Ban) (es : List Entry) → HasMadeBans graphs old new a b first second → AreGrounded graphs (map decided_by new.facts) es → LearnsMore graphs es second third → HasMadeBans graphs old new a b first third
made_learned graphs old new a b first second third es made shown more = record {
  served = made.served;
  valid = record {
    graphs_are = made.valid.graphs_are;
    each = more.valid (map decided_by new.facts) shown made.valid.each;
    last_resorts = subst (AreLastResorts graphs (map decided_by new.facts)) (sym more.more) (last_resorts_push_other graphs (map decided_by new.facts) second more.added more.no_vector made.valid.last_resorts);
  };
  adds = adds_then first second third made.adds (record { added = more.added; more = more.more });
}

-- one more way is deleted, by a mismatch with an assigned pair
pub shown_one : (graphs : Graphs) (known : Known) (bans : List Ban) (before after : Domained) (pair way : Pair) (fails holds : ℕ) → after ≡ record before { entries = before.entries ++ deleted way (Mismatch pair fails holds) ∷ [] } → IsShownTrail graphs known bans before → Contains (assigned_in before.entries) pair → IsGrounded graphs (map decided_by known.facts) way (Deleted (Mismatch pair fails holds)) → IsShownTrail graphs known bans after
shown_one graphs known bans before after pair way fails holds after_is is there shown =
    let e : Entry = deleted way (Mismatch pair fails holds) in
    let more : HasOneMore before after e = one_more_of before after e after_is in
    record {
      trail = trail_on graphs bans before after is.trail more.inputs more.outputs (justified_one bans before after e more is.trail.justified there);
      shown = subst (AreGrounded graphs (map decided_by known.facts)) (sym more.entries) (grounded_push graphs (map decided_by known.facts) before.entries e is.shown shown);
    }

pub deletes_one : (before after : Domained) (pair way : Pair) (fails holds : ℕ) → after ≡ record before { entries = before.entries ++ deleted way (Mismatch pair fails holds) ∷ [] } → Contains (assigned_in before.entries) pair → AreEntries before.inputs before.outputs before.entries → IsPairOf before.inputs before.outputs way → IsOpen before.entries way → Deletes pair before after
deletes_one before after pair way fails holds after_is there lawful known open' =
    let e : Entry = deleted way (Mismatch pair fails holds) in
    let more : HasOneMore before after e = one_more_of before after e after_is in
    let less = less_one before after e more lawful known open' refl in
    record {
      assigned = subst (λ (l : List Pair). Contains l pair) (sym (ap assigned_in more.entries ∙ assigned_append before.entries (e ∷ []))) (Contains-append_left (assigned_in before.entries) (assigned_in (e ∷ [])) pair there);
      less = omega (arith, less);
    }

-- two pairs that are known, the input's first
both_known : {graphs : Graphs} {pair other : Pair} {both : Pair × Pair} → AreOfBothKinds pair other both → IsKnown graphs pair → IsKnown graphs other → IsKnown graphs both.0 × IsKnown graphs both.1
both_known {graphs} {pair} {other} {both} are one two = elim are.are [
  | inl e ↦ (subst (λ (b : Pair × Pair). IsKnown graphs b.0 × IsKnown graphs b.1) (sym e) (one, two))
  | inr e ↦ (subst (λ (b : Pair × Pair). IsKnown graphs b.0 × IsKnown graphs b.1) (sym e) (two, one))
]

-- the input's and the output's, of circuits that an oracle knows
pub both_pairs : {graphs other : Graphs} {pair way : Pair} {both : Pair × Pair} → graphs ≡ other → AreOfBothKinds pair way both → IsKnown graphs pair → IsKnown graphs way → IsOfKind other Input both.0 × IsOfKind other Output both.1
both_pairs {graphs} {other} {pair} {way} {both} same are one two =
    let known = both_known are one two in
    subst (λ (g : Graphs). IsOfKind g Input both.0 × IsOfKind g Output both.1) same (record { kind_is = are.input; known = known.0 }, record { kind_is = are.output; known = known.1 })

-- what is so of three pairs, of the inputs' first
pub each_of_three : (P : Pair → Type 0) {one other third : Pair} {pairs : SwapPairs} → AreInputsAndOutput one other third pairs → P one → P other → P third → P pairs.one × P pairs.other × P pairs.output
each_of_three P are a b c = elim are.are [
  | inl e ↦ (subst (λ (s : SwapPairs). P s.one × P s.other × P s.output) (sym e) (a, b, c))
  | inr e ↦ (subst (λ (s : SwapPairs). P s.one × P s.other × P s.output) (sym e) (b, c, a))
]

-- a pair and a way in the order that their ban has
pub in_order_of : {pair way : Pair} {both : Pair × Pair} → AreOfBothKinds pair way both → in_order way.kind way pair ≡ both.0 ∷ both.1 ∷ []
in_order_of {pair} {way} {both} are = elim are.are [
  | inl e ↦ ap (λ (kind : PortKind). in_order kind way pair) (sym (ap (λ (b : Pair × Pair). b.1.kind) e) ∙ are.output) ∙ sym (ap (λ (b : Pair × Pair). b.0 ∷ b.1 ∷ []) e)
  | inr e ↦ ap (λ (kind : PortKind). in_order kind way pair) (sym (ap (λ (b : Pair × Pair). b.0.kind) e) ∙ are.input) ∙ sym (ap (λ (b : Pair × Pair). b.0 ∷ b.1 ∷ []) e)
]

-- facts that tell a pair and a way apart
pub shown_of : (graphs : Graphs) (facts : List Decided) (pair way : Pair) (pairs : List Pair) (result : Result (Option Unlike) Stop) → in_order way.kind way pair ≡ pairs → IfOk result (λ found. IfSome found (λ unlike. IsBanBy graphs facts pairs (mismatch_of pairs unlike))) → IfOk result (λ found. IfSome found (λ unlike. IsGrounded graphs facts way (Deleted (Mismatch pair unlike.fails unlike.holds))))
shown_of graphs facts pair way pairs (Ok None) order is = is
shown_of graphs facts pair way pairs (Ok (Some unlike)) order is = λ bans.
    subst (λ (ps : List Pair). IsValidBan graphs (given_of facts bans) (record { pairs = ps; step = step.Mismatch unlike.fails unlike.holds })) (sym order) (is.valid bans)
shown_of graphs facts pair way pairs (Err stop) order is = is

-- Bans were kept, while pairs were assigned and deleted as it follows.
pub record IsUnderWay (graphs : Graphs) (old now : Lent) (domains : Domained) : Type 0 where
  pub same : AreSameLoans old now
  pub made : HasMadeBans graphs old.known now.known old.ledger now.ledger old.bans now.bans
  pub trail : IsShownTrail graphs now.known now.bans domains
  pub trials : AreTrials graphs.first now.vectors

-- and no more is left than at first
pub record IsSettling (graphs : Graphs) (old now : Lent) (start domains : Domained) : Type 0 where
  pub way : IsUnderWay graphs old now domains
  pub less : left domains ≤ left start

-- Ways are deleted one after the other, beside an assigned pair.
pub record IsDeleting (graphs : Graphs) (old now : Lent) (pair : Pair) (start domains : Domained) : Type 0 where
  pub way : IsUnderWay graphs old now domains
  pub deletes : Deletes pair start domains

step_later : (graphs : Graphs) (lent : Lent) (start before after : Domained) (step : Ahead) → left before ≤ left start → IsAhead graphs lent before after step → IsAhead graphs lent start after step
step_later graphs lent start before after ahead.Deeper less is = omega (arith, less, is)
step_later graphs lent start before after (ahead.Match matching logs) less is = is
step_later graphs lent start before after (ahead.Conflict conflict) less is = record { conflict_is = is.conflict_is; less = omega (arith, less, is.less) }

-- a step after others after which no more is left
pub ahead_later : (graphs : Graphs) (lent : Lent) (start before after : Domained) (result : Result Ahead Stop) → left before ≤ left start → IfOk result (IsAhead graphs lent before after) → IfOk result (IsAhead graphs lent start after)
ahead_later graphs lent start before after result less is =
    IfOk-weaker result (IsAhead graphs lent before after) (IsAhead graphs lent start after) (λ step. step_later graphs lent start before after step less) is
