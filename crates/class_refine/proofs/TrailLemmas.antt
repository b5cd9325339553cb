-- Trails and bans while pairs are deleted and bans are kept.
use Rattle.std.proofs.Common.{◌≡◌, ℕ, ◌<◌, List, [], ◌∷◌, ◌++◌, map, refl, sym, ap, subst, ◌∙◌, arith}
use Rattle.std.proofs.lemmas.List.{append-nil, append_assoc, map-append}
use Rattle.circuits.specs.declared.port.Pair.{Pair}
use Rattle.circuits.specs.declared.port.PortKind.{PortKind}
use Rattle.net_core.specs.Sides.{Graphs}
use Rattle.query_core.specs.Ledgers.{Ledgered}
use Rattle.account_core.specs.declared.fact.Fact.{Fact}
use Rattle.account_core.specs.declared.step.Ban.{Ban}
use Rattle.account_core.specs.Given.{Decided, decided_by}
use Rattle.account_core.specs.Steps.{AreValidBans}
use Rattle.ban_book.specs.Vectors.{AreLastResorts}
use Rattle.ban_book.proofs.BookLemmas.{valid_push}
use Rattle.ban_book.proofs.VectorLemmas.{last_resorts_push_other, no_vector_more, no_vector_none, no_vector_one}
use Rattle.oracle_core.specs.Oracles.{Grows, Known}
use Rattle.fact_bans.specs.Serving.{AreValid, HasServed, OnlyAdds}
use Rattle.fact_bans.proofs.MakingLemmas.{HasMadeBans}
use Rattle.fact_bans.proofs.ServeLemmas.{valid_grows}
use Rattle.ban_book.specs.Shown.{IsShownBan}
use Rattle.pair_domains.specs.declared.entry.Entry.{Entry}
use Rattle.pair_domains.specs.declared.entry.Fate.TheVariants.{Deleted}
use Rattle.pair_domains.specs.declared.entry.Reason.{Reason}
use Rattle.pair_domains.specs.Trails.{AreDomains, Domained, IsOpen, IsPairOf, assigned_in, ports_of}
use Rattle.pair_search.specs.Grounded.{AreGrounded, IsGrounded, LearnsMore}
use Rattle.pair_search.specs.Justified.{IsTrail}
use Rattle.pair_search.specs.Named.{AreNamed, deleted}
use Rattle.pair_search.proofs.GroundedLemmas.{grounded_later, grounded_push}
use Rattle.pair_search.proofs.JustifiedLemmas.{assigned_append, justified_later}
use Rattle.pair_search.proofs.StepLemmas.{HasOneMore, justified_one, less_one, one_more_of, trail_on}
use Rattle.class_refine.specs.Refining.{AddsShown, IsShownTrail, OnlyDeletes, Refines}
pub use Rattle.pair_search.proofs.ConflictLemmas.{known_of}

-- bans that come change nothing of what follows
trail_after : (graphs : Graphs) (before added after : List Ban) (d : Domained) → after ≡ before ++ added → IsTrail graphs before d → IsTrail graphs after d
trail_after graphs before added after d more is = record {
  fit = is.fit;
  justified = justified_later d.inputs d.outputs before added after d.entries more is.justified;
}

pub trail_adds : (graphs : Graphs) (before after : List Ban) (d : Domained) → OnlyAdds before after → IsTrail graphs before d → IsTrail graphs after d
trail_adds graphs before after d adds is = trail_after graphs before adds.added after d adds.more is

-- facts that come after show what was shown
pub shown_grows : (graphs : Graphs) (old new : Known) (es : List Entry) → Grows old new → AreGrounded graphs (map decided_by old.facts) es → AreGrounded graphs (map decided_by new.facts) es
shown_grows graphs old new es grows is =
    grounded_later graphs (map decided_by old.facts) (map decided_by grows.added) (map decided_by new.facts) es (ap (map decided_by) grows.facts ∙ map-append decided_by old.facts grows.added) is

-- a trail that is shown, after facts and bans came
pub shown_adds : (graphs : Graphs) (old new : Known) (before after : List Ban) (d : Domained) → Grows old new → OnlyAdds before after → IsShownTrail graphs old before d → IsShownTrail graphs new after d
shown_adds graphs old new before after d grows adds is = record {
  trail = trail_adds graphs before after d adds is.trail;
  shown = shown_grows graphs old new d.entries grows is.shown;
}

pub shown_none : (graphs : Graphs) (facts : List Decided) (bans : List Ban) → AddsShown graphs facts bans bans
shown_none graphs facts bans = record {
  added = [];
  more = sym (append-nil bans);
  no_vector = no_vector_none;
  valid = λ are. are;
}

pub shown_then : (graphs : Graphs) (facts : List Decided) (first second third : List Ban) → AddsShown graphs facts first second → AddsShown graphs facts second third → AddsShown graphs facts first third
shown_then graphs facts first second third one other = record {
  added = one.added ++ other.added;
  more = other.more ∙ (ap (λ l. l ++ other.added) one.more ∙ append_assoc first one.added other.added);
  no_vector = no_vector_more one.added other.added one.no_vector other.no_vector;
  valid = λ are. other.valid (one.valid are);
}

-- a ban that facts show is kept
pub shown_one : (graphs : Graphs) (facts : List Decided) (pairs : List Pair) (bans after : List Ban) (ban : Ban) → after ≡ bans ++ ban ∷ [] → IsShownBan graphs facts pairs ban → AddsShown graphs facts bans after
shown_one graphs facts pairs bans after ban more shown = record {
  added = ban ∷ [];
  more = more;
  no_vector = no_vector_one ban shown.no_vector;
  valid = λ are. subst (AreValidBans graphs facts) (sym more) (valid_push graphs facts bans ban are (shown.valid bans));
}

-- bans that are learned from a trail that is shown
pub shown_learned : (graphs : Graphs) (facts : List Decided) (es : List Entry) (before after : List Ban) → AreGrounded graphs facts es → LearnsMore graphs es before after → AddsShown graphs facts before after
shown_learned graphs facts es before after shown learns = record {
  added = learns.added;
  more = learns.more;
  no_vector = learns.no_vector;
  valid = λ are. learns.valid facts shown are;
}

pub deletes_none : (d : Domained) → OnlyDeletes d d
deletes_none d = record { inputs = refl; outputs = refl; added = []; more = sym (append-nil d.entries); assigned = refl; less = omega arith }

deletes_then : (first second third : Domained) → OnlyDeletes first second → OnlyDeletes second third → OnlyDeletes first third
deletes_then first second third one other = record {
  inputs = other.inputs ∙ one.inputs;
  outputs = other.outputs ∙ one.outputs;
  added = one.added ++ other.added;
  more = other.more ∙ (ap (λ l. l ++ other.added) one.more ∙ append_assoc first.entries one.added other.added);
  assigned = other.assigned ∙ one.assigned;
  less = omega (arith, one.less, other.less);
}

pub refines_none : (graphs : Graphs) (facts : List Decided) (bans : List Ban) (d : Domained) → Refines graphs facts bans bans d d
refines_none graphs facts bans d = record { adds = shown_none graphs facts bans; deletes = deletes_none d; trail = λ is. is; shown = λ are. are }

pub refines_then : (graphs : Graphs) (facts : List Decided) (bans mid more : List Ban) (one two three : Domained) → Refines graphs facts bans mid one two → Refines graphs facts mid more two three → Refines graphs facts bans more one three
refines_then graphs facts bans mid more one two three first second = record {
  adds = shown_then graphs facts bans mid more first.adds second.adds;
  deletes = deletes_then one two three first.deletes second.deletes;
  trail = λ is. second.trail (first.trail is);
  shown = λ are. second.shown (first.shown are);
}

-- bans are kept, and no pair is deleted
pub refines_bans : (graphs : Graphs) (facts : List Decided) (bans more : List Ban) (d : Domained) → AddsShown graphs facts bans more → Refines graphs facts bans more d d
refines_bans graphs facts bans more d adds = record {
  adds = adds;
  deletes = deletes_none d;
  trail = λ is. trail_after graphs bans adds.added more d adds.more is;
  shown = λ are. are;
}

pub refines_assigned : (graphs : Graphs) (facts : List Decided) (pairs : List Pair) (bans after : List Ban) (ban : Ban) (d : Domained) → after ≡ bans ++ ban ∷ [] → IsShownBan graphs facts pairs ban → Refines graphs facts bans after d d
refines_assigned graphs facts pairs bans after ban d more shown = refines_bans graphs facts bans after d (shown_one graphs facts pairs bans after ban more shown)

-- a pair is deleted, for what assigned pairs show
pub refines_one : (graphs : Graphs) (facts : List Decided) (bans : List Ban) (before after : Domained) (way : Pair) (why : Reason) → after ≡ record before { entries = before.entries ++ deleted way why ∷ [] } → AreDomains before → IsPairOf before.inputs before.outputs way → IsOpen before.entries way → AreNamed bans (assigned_in before.entries) way why → IsGrounded graphs facts way (Deleted why) → Refines graphs facts bans bans before after
refines_one graphs facts bans before after way why after_is lawful known open' named grounded =
    let e : Entry = deleted way why in
    let more : HasOneMore before after e = one_more_of before after e after_is in
    let fewer = less_one before after e more lawful known open' refl in
    record {
      adds = shown_none graphs facts bans;
      deletes = record {
        inputs = more.inputs;
        outputs = more.outputs;
        added = e ∷ [];
        more = more.entries;
        assigned = ap assigned_in more.entries ∙ (assigned_append before.entries (e ∷ []) ∙ append-nil (assigned_in before.entries));
        less = omega (arith, fewer);
      };
      trail = λ is. trail_on graphs bans before after is more.inputs more.outputs (justified_one bans before after e more is.justified named);
      shown = λ are. subst (AreGrounded graphs facts) (sym more.entries) (grounded_push graphs facts before.entries e are grounded);
    }

-- a call that refines in view of the facts that an oracle has come to know, which it lends
pub assigned_refined : (graphs : Graphs) (old new : Known) (lent : List Fact) (a b : Ledgered) (bans more : List Ban) (before after : Domained) → AreValid graphs old bans → HasServed old new a b → lent ≡ new.facts → Refines graphs (map decided_by lent) bans more before after → HasMadeBans graphs old new a b bans more
assigned_refined graphs old new lent a b bans more before after valid served same refines_lent =
    let refines = subst (λ (l : List Fact). Refines graphs (map decided_by l) bans more before after) same refines_lent in
    let grown = valid_grows old new graphs bans served.grows valid in
    record {
      served = served;
      valid = record {
        graphs_are = grown.graphs_are;
        each = refines.adds.valid grown.each;
        last_resorts = subst (AreLastResorts graphs (map decided_by new.facts)) (sym refines.adds.more) (last_resorts_push_other graphs (map decided_by new.facts) bans refines.adds.added refines.adds.no_vector grown.last_resorts);
      };
      adds = record { added = refines.adds.added; more = refines.adds.more };
    }

pub pair_of_same : (before after : Domained) (pair : Pair) → OnlyDeletes before after → IsPairOf after.inputs after.outputs pair → IsPairOf before.inputs before.outputs pair
pair_of_same before after pair deletes known =
    subst (λ n. IsPairOf n before.outputs pair) deletes.inputs (subst (λ m. IsPairOf after.inputs m pair) deletes.outputs known)

pub pair_of_later : (before after : Domained) (pair : Pair) → OnlyDeletes before after → IsPairOf before.inputs before.outputs pair → IsPairOf after.inputs after.outputs pair
pair_of_later before after pair deletes known =
    subst (λ n. IsPairOf n after.outputs pair) (sym deletes.inputs) (subst (λ m. IsPairOf before.inputs m pair) (sym deletes.outputs) known)

pub to_below : (n m : ℕ) (kind : PortKind) (pair : Pair) → pair.kind ≡ kind → IsPairOf n m pair → pair.to < ports_of n m kind
to_below n m kind pair is known = subst (λ k. pair.to < ports_of n m k) is known.to

-- a trail that facts show stays one as pairs are refined in view of more facts
pub shown_refined : (graphs : Graphs) (old new : Known) (lent : List Fact) (bans more : List Ban) (before after : Domained) → Grows old new → IsShownTrail graphs old bans before → lent ≡ new.facts → Refines graphs (map decided_by lent) bans more before after → IsShownTrail graphs new more after
shown_refined graphs old new lent bans more before after grows is same refines_lent =
    let refines = subst (λ (l : List Fact). Refines graphs (map decided_by l) bans more before after) same refines_lent in
    record { trail = refines.trail is.trail; shown = refines.shown (shown_grows graphs old new before.entries grows is.shown) }
