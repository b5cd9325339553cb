-- What is left of facts and bans for a conclusion.
use Rattle.std.proofs.Common.{◌≡◌, ℕ, ◌<◌, Bool, List, length, map, All, slice_index_or, sym, ap, subst, ◌∙◌, arith}
use Rattle.std.proofs.lemmas.List.FromFn.{get_or-map-range_with_len, length-map-range_with_len}
use Rattle.std.proofs.lemmas.List.Elements.{All-weaker}
use Rattle.account_core.specs.declared.fact.Fact.{Fact}
use Rattle.account_core.specs.declared.step.Ban.{Ban}
use Rattle.refusal_core.specs.declared.trimming.Core.{Core}
use Rattle.refusal_core.specs.Names.{IsNeeded, ReferBack, bans_named, facts_named}
use Rattle.refusal_core.specs.Numbered.{at, numbered_ban}
use Rattle.refusal_core.specs.Trims.{IsTrimmed, kept, new_numbers, number_of}
use Rattle.refusal_core.proofs.KeptLemmas.{All-kept}
use Rattle.refusal_core.proofs.NumberLemmas.{map_numbered_new}

pub new_count : (marks : List Bool) (numbers : List ℕ) → numbers ≡ new_numbers marks → length numbers ≡ length marks
new_count marks numbers is = ap length is ∙ length-map-range_with_len (number_of marks) 0 (length marks)

-- each ban names facts that there are, and bans that there are
pub facts_there : (count n : ℕ) (bans : List Ban) → ReferBack count bans → n ≡ count → All (λ (ban : Ban). All (λ k. k < n) (facts_named ban.step)) bans
facts_there count n bans refer is k d below = subst (λ m. All (λ j. j < m) (facts_named (slice_index_or bans k d).step)) (sym is) (refer k d below).facts

pub bans_there : (count n : ℕ) (bans : List Ban) → ReferBack count bans → n ≡ length bans → All (λ (ban : Ban). All (λ k. k < n) (bans_named ban.step)) bans
bans_there count n bans refer is k d below =
    All-weaker (λ j. j < k) (λ j. j < n) (λ j less. omega (arith, less, below, is)) (bans_named (slice_index_or bans k d).step) (refer k d below).bans

pub trimmed : (facts : List Fact) (bans : List Ban) (number : ℕ) (core : Core) (fact_marks ban_marks : List Bool) (fact_numbers ban_numbers : List ℕ)
    → length fact_marks ≡ length facts
    → length ban_marks ≡ length bans
    → IsNeeded bans number fact_marks ban_marks
    → ReferBack (length facts) bans
    → number < length bans
    → fact_numbers ≡ new_numbers fact_marks
    → ban_numbers ≡ new_numbers ban_marks
    → core.facts ≡ kept fact_marks facts
    → core.bans ≡ map (numbered_ban fact_numbers ban_numbers) (kept ban_marks bans)
    → core.number ≡ at ban_numbers number
    → IsTrimmed facts bans number core
trimmed facts bans number core fact_marks ban_marks fact_numbers ban_numbers many_facts many_bans needed refer held of_facts of_bans facts_are bans_are number_is = record {
  fact_marks = fact_marks;
  ban_marks = ban_marks;
  as_many_facts = many_facts;
  as_many_bans = many_bans;
  needed = needed;
  facts_are = facts_are;
  bans_are =
      bans_are
      ∙ (ap (λ (ns : List ℕ). map (numbered_ban ns ban_numbers) (kept ban_marks bans)) of_facts
      ∙ (ap (λ (ns : List ℕ). map (numbered_ban (new_numbers fact_marks) ns) (kept ban_marks bans)) of_bans
      ∙ map_numbered_new fact_marks ban_marks (kept ban_marks bans)
      (All-kept (λ (ban : Ban). All (λ k. k < length fact_marks) (facts_named ban.step)) ban_marks bans many_bans (facts_there (length facts) (length fact_marks) bans refer many_facts))
      (All-kept (λ (ban : Ban). All (λ k. k < length ban_marks) (bans_named ban.step)) ban_marks bans many_bans (bans_there (length facts) (length ban_marks) bans refer many_bans))));
  number_is = number_is ∙ (ap (λ (ns : List ℕ). at ns number) of_bans ∙ get_or-map-range_with_len (number_of ban_marks) 0 (length ban_marks) number number 0 (omega (arith, held, many_bans)) (omega arith));
}
