-- Bans are marked from the last to the first.
use Rattle.std.proofs.Common.{◌≡◌, ℕ, ◌+◌, ◌<◌, ◌≤◌, inl, inr, Bool, true, List, length, slice_index_or, sym, ap, subst, ◌∙◌, arith}
use Rattle.std.proofs.lemmas.Bool.{cases_lt}
use Rattle.std.proofs.lemmas.List.{get_or_default}
use Rattle.std.proofs.lemmas.List.Elements.{All-contains}
use Rattle.circuits.specs.Literals.{bit}
use Rattle.account_core.specs.declared.step.Ban.{Ban}
use Rattle.account_core.specs.declared.step.Step.{Step}
use Rattle.refusal_core.specs.declared.marking.CoreMarks.{CoreMarks}
use Rattle.refusal_core.specs.Marks.{MarksNamed}
use Rattle.refusal_core.specs.Names.{AreAmong, HasMarked, IsClosed, IsNeeded, ReferBack, bans_named, facts_named}

-- The bans from a place on have had their turn.
pub record IsMarking (all : List Ban) (count number left : ℕ) (marks : CoreMarks) : Type 0 where
  pub as_many_facts : length marks.facts.items ≡ count
  pub as_many_bans : length marks.bans.items ≡ length all
  pub concluded : bit marks.bans.items number ≡ true
  pub named : (k : ℕ) (d : Ban) → left ≤ k → k < length all → bit marks.bans.items k ≡ true → HasMarked marks.facts.items marks.bans.items (slice_index_or all k d).step
  pub least_facts : (of_facts of_bans : List Bool) → IsClosed all number of_facts of_bans → AreAmong marks.facts.items of_facts
  pub least_bans : (of_facts of_bans : List Bool) → IsClosed all number of_facts of_bans → AreAmong marks.bans.items of_bans

grown : (facts more_facts bans more_bans : List Bool) (step : Step) → AreAmong facts more_facts → AreAmong bans more_bans → HasMarked facts bans step → HasMarked more_facts more_bans step
grown facts more_facts bans more_bans step of_facts of_bans has = record {
  facts_are = λ k d below. of_facts (slice_index_or (facts_named step) k d) (has.facts_are k d below);
  bans_are = λ k d below. of_bans (slice_index_or (bans_named step) k d) (has.bans_are k d below);
}

-- the ban before had its turn
pub marking_more : (all : List Ban) (count number left : ℕ) (e : Ban) (old new : CoreMarks)
    → ReferBack count all
    → left < length all
    → IsMarking all count number (left + 1) old
    → MarksNamed left (slice_index_or all left e).step old new
    → IsMarking all count number left new
marking_more all count number left e old new refer below was adds = record {
  as_many_facts = adds.as_many_facts ∙ was.as_many_facts;
  as_many_bans = adds.as_many_bans ∙ was.as_many_bans;
  concluded = adds.bans_stay number was.concluded;
  named = named;
  least_facts = λ of_facts of_bans closed k is. elim (adds.only_facts k is) [
    | inl before ↦ was.least_facts of_facts of_bans closed k before
    | inr (marked, in_named) ↦ All-contains (λ j. bit of_facts j ≡ true) (facts_named step) k (closed.named left e below (was.least_bans of_facts of_bans closed left marked)).facts_are in_named
  ];
  least_bans = λ of_facts of_bans closed k is. elim (adds.only_bans k is) [
    | inl before ↦ was.least_bans of_facts of_bans closed k before
    | inr (marked, in_named) ↦ All-contains (λ j. bit of_bans j ≡ true) (bans_named step) k (closed.named left e below (was.least_bans of_facts of_bans closed left marked)).bans_are in_named
  ];
}
  where
    step : Step
    step = (slice_index_or all left e).step

    -- bans from the place on have the marks that they had
    had : (k : ℕ) → left ≤ k → bit new.bans.items k ≡ true → bit old.bans.items k ≡ true
    had k later is = elim (adds.only_bans k is) [
      | inl before ↦ before
      | inr (marked, in_named) ↦ absurd (omega (arith, later, All-contains (λ j. j < left) (bans_named step) k (refer left e below).bans in_named))
    ]

    here : (k : ℕ) (d : Ban) → k ≡ left → bit new.bans.items k ≡ true → HasMarked new.facts.items new.bans.items (slice_index_or all k d).step
    here k d same is =
        subst (λ (ban : Ban). HasMarked new.facts.items new.bans.items ban.step) (get_or_default all left e d below ∙ ap (λ n. slice_index_or all n d) (sym same))
        (adds.marked (subst (λ n. bit old.bans.items n ≡ true) same (had k (omega (arith, same)) is)))

    named : (k : ℕ) (d : Ban) → left ≤ k → k < length all → bit new.bans.items k ≡ true → HasMarked new.facts.items new.bans.items (slice_index_or all k d).step
    named k d later under is = elim (cases_lt left k) [
      | inl after ↦ grown old.facts.items new.facts.items old.bans.items new.bans.items (slice_index_or all k d).step adds.facts_stay adds.bans_stay (was.named k d (omega (arith, after)) under (had k later is))
      | inr le ↦ here k d (omega (arith, le, later)) is
    ]

-- all had their turn
pub marking_all : (all : List Ban) (count number left : ℕ) (marks : CoreMarks) → left ≡ 0 → IsMarking all count number left marks → IsNeeded all number marks.facts.items marks.bans.items
marking_all all count number left marks none was = record {
  closed = record { concluded = was.concluded; named = λ k d below is. was.named k d (omega (arith, none)) below is };
  least_facts = was.least_facts;
  least_bans = was.least_bans;
}
