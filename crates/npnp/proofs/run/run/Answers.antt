-- What is reported is what was answered.
use Rattle.std.proofs.Common.{inl, inr, refl, sym, subst, ◌∙◌}
use Rattle.run_steps.specs.Outcomes.{IsOfTrial, IsRight, IsReported, Leaves}
use Rattle.check_steps.specs.Lines.{line_of}
use Rattle.check_steps.specs.declared.outcome.Outcome.TheVariants.{AcceptedMatch, AcceptedRefusal, Rejected, Matched, NoMatching, Spent, Made, Restored, Trimmed, Converted, Flattened, Swept, Tried, Absent, TooLarge, Malformed, BadHierarchy, Memory}
use Rattle.run_steps.proofs.MatchLemmas.{kept, may_be_cut}
use Rattle.run_steps.proofs.CheckLemmas.{exactly, exactly_informed, exactly_none, of_convert, of_flatten, of_match, of_sweep, of_trim, reached, reported_read, report_of_same}
use Rattle.npnp.proofs.TellingLemmas.{answered_as, sound_memory}
use Rattle.npnp.proofs.run.run.Goals as goal

pub returns-clause-accepted : goal.returns-clause-accepted
returns-clause-accepted g c = λ tells decided matching. exactly _ _ _ _ (c.answer-ending.ensures.right tells) c.put_report.ensures.same decided (AcceptedMatch matching) (reached (AcceptedMatch matching) tt) tt

pub returns-clause-accepted_refusal : goal.returns-clause-accepted_refusal
returns-clause-accepted_refusal g c = λ tells decided. exactly _ _ _ _ (c.answer-ending.ensures.right tells) c.put_report.ensures.same decided AcceptedRefusal (reached AcceptedRefusal tt) tt

pub returns-clause-rejected : goal.returns-clause-rejected
returns-clause-rejected g c = λ tells decided line why. exactly _ _ _ _ (c.answer-ending.ensures.right tells) c.put_report.ensures.same decided (Rejected line why) (reached (Rejected line why) tt) tt

pub returns-clause-sound : goal.returns-clause-sound
returns-clause-sound g c = λ tells matching is. (c.answer-ending.ensures.sound tells).matches matching (answered_as c.put_report.ensures.same (reached (AcceptedMatch matching) tt).reported is)

pub returns-clause-sound_refusal : goal.returns-clause-sound_refusal
returns-clause-sound_refusal g c = λ tells is. (c.answer-ending.ensures.sound tells).refuses (answered_as c.put_report.ensures.same (reached AcceptedRefusal tt).reported is)

pub returns-clause-absent : goal.returns-clause-absent
returns-clause-absent g c = λ tells decided which. exactly _ _ _ _ (c.answer-ending.ensures.right tells) c.put_report.ensures.same decided (Absent which) (reached (Absent which) tt) tt

pub returns-clause-too_large : goal.returns-clause-too_large
returns-clause-too_large g c = λ tells decided which. exactly _ _ _ _ (c.answer-ending.ensures.right tells) c.put_report.ensures.same decided (TooLarge which) (reached (TooLarge which) tt) tt

pub returns-clause-malformed : goal.returns-clause-malformed
returns-clause-malformed g c = λ tells decided which kind at. exactly _ _ _ _ (c.answer-ending.ensures.right tells) c.put_report.ensures.same decided (Malformed which kind at) (reached (Malformed which kind at) tt) tt

pub returns-clause-bad_hierarchy : goal.returns-clause-bad_hierarchy
returns-clause-bad_hierarchy g c = λ tells decided fault. exactly _ _ _ _ (c.answer-ending.ensures.right tells) c.put_report.ensures.same decided (BadHierarchy fault) (reached (BadHierarchy fault) tt) tt

pub returns-clause-informed : goal.returns-clause-informed
returns-clause-informed g c = λ tells settled. exactly_informed _ _ _ _ (c.answer-ending.ensures.right tells) c.put_report.ensures.same settled.decided settled.unspent

pub returns-clause-answered : goal.returns-clause-answered
returns-clause-answered g c = λ tells decided. of_match _ _ _ _ (c.answer-ending.ensures.right tells) c.put_report.ensures.same decided

pub returns-clause-matched : goal.returns-clause-matched
returns-clause-matched g c = λ tells matching is. subst (IsRight _ _) (answered_as c.put_report.ensures.same (reached (Matched matching) tt).reported is) (c.answer-ending.ensures.right tells)

pub returns-clause-matched_account : goal.returns-clause-matched_account
returns-clause-matched_account g c = λ tells matching is. subst (Leaves _ _ _) (answered_as c.put_report.ensures.same (reached (Matched matching) tt).reported is) (c.answer-ending.ensures.left tells)

pub returns-clause-no_matching : goal.returns-clause-no_matching
returns-clause-no_matching g c = λ tells settled. exactly_none _ _ _ _ (c.answer-ending.ensures.right tells) c.put_report.ensures.same settled.decided settled.unspent

pub returns-clause-no_matching_account : goal.returns-clause-no_matching_account
returns-clause-no_matching_account g c = λ tells is. subst (Leaves _ _ _) (answered_as c.put_report.ensures.same (reached NoMatching tt).reported is) (c.answer-ending.ensures.left tells)

pub returns-clause-made : goal.returns-clause-made
returns-clause-made g c = λ reported.
    let same = c.put_report.ensures.same reported in
    let follows = c.answer-ending.ensures.by_words in
    (λ is. follows.made (sym same ∙ is), λ asks. same ∙ follows.pair asks (subst IsReported same reported))

pub returns-clause-pair : goal.returns-clause-pair
returns-clause-pair g c = λ tells is. subst (Leaves _ _ _) (answered_as c.put_report.ensures.same (reached Made tt).reported is) (c.answer-ending.ensures.left tells)

pub returns-clause-restored : goal.returns-clause-restored
returns-clause-restored g c = λ tells decided gates. exactly _ _ _ _ (c.answer-ending.ensures.right tells) c.put_report.ensures.same decided (Restored gates) (reached (Restored gates) tt) tt

pub returns-clause-restored_file : goal.returns-clause-restored_file
returns-clause-restored_file g c = λ tells gates is. subst (Leaves _ _ _) (answered_as c.put_report.ensures.same (reached (Restored gates) tt).reported is) (c.answer-ending.ensures.left tells)

pub returns-clause-trimmed : goal.returns-clause-trimmed
returns-clause-trimmed g c = λ tells decided before after. exactly _ _ _ _ (c.answer-ending.ensures.right tells) c.put_report.ensures.same decided (Trimmed before after) (reached (Trimmed before after) tt) tt

pub returns-clause-trims : goal.returns-clause-trims
returns-clause-trims g c = λ tells decided. of_trim _ _ _ _ (c.answer-ending.ensures.right tells) c.put_report.ensures.same decided

pub returns-clause-trimmed_file : goal.returns-clause-trimmed_file
returns-clause-trimmed_file g c = λ tells before after is. subst (Leaves _ _ _) (answered_as c.put_report.ensures.same (reached (Trimmed before after) tt).reported is) (c.answer-ending.ensures.left tells)

pub returns-clause-converted : goal.returns-clause-converted
returns-clause-converted g c = λ tells decided from to records. exactly _ _ _ _ (c.answer-ending.ensures.right tells) c.put_report.ensures.same decided (Converted from to records) (reached (Converted from to records) tt) tt

pub returns-clause-converts : goal.returns-clause-converts
returns-clause-converts g c = λ tells decided. of_convert _ _ _ _ (c.answer-ending.ensures.right tells) c.put_report.ensures.same decided

pub returns-clause-converted_file : goal.returns-clause-converted_file
returns-clause-converted_file g c = λ tells from to records is. subst (Leaves _ _ _) (answered_as c.put_report.ensures.same (reached (Converted from to records) tt).reported is) (c.answer-ending.ensures.left tells)

pub returns-clause-flattened : goal.returns-clause-flattened
returns-clause-flattened g c = λ tells decided models instances gates. exactly _ _ _ _ (c.answer-ending.ensures.right tells) c.put_report.ensures.same decided (Flattened models instances gates) (reached (Flattened models instances gates) tt) tt

pub returns-clause-flattens : goal.returns-clause-flattens
returns-clause-flattens g c = λ tells decided. of_flatten _ _ _ _ (c.answer-ending.ensures.right tells) c.put_report.ensures.same decided

pub returns-clause-flattened_file : goal.returns-clause-flattened_file
returns-clause-flattened_file g c = λ tells models instances gates is. subst (Leaves _ _ _) (answered_as c.put_report.ensures.same (reached (Flattened models instances gates) tt).reported is) (c.answer-ending.ensures.left tells)

pub returns-clause-swept : goal.returns-clause-swept
returns-clause-swept g c = λ tells before after left is. subst (IsRight _ _) (answered_as c.put_report.ensures.same (reached (Swept before after left) tt).reported is) (c.answer-ending.ensures.right tells)

pub returns-clause-sweeps : goal.returns-clause-sweeps
returns-clause-sweeps g c = λ tells decided. of_sweep _ _ _ _ (c.answer-ending.ensures.right tells) c.put_report.ensures.same decided

pub returns-clause-swept_file : goal.returns-clause-swept_file
returns-clause-swept_file g c = λ tells before after left is. subst (Leaves _ _ _) (answered_as c.put_report.ensures.same (reached (Swept before after left) tt).reported is) (c.answer-ending.ensures.left tells)

pub returns-clause-tried : goal.returns-clause-tried
returns-clause-tried g c = λ number account is. c.answer-ending.ensures.by_words.tried number account (answered_as c.put_report.ensures.same (reached (Tried number account) tt).reported is)

pub returns-clause-trial : goal.returns-clause-trial
returns-clause-trial g c = λ reported number asks.
    let same = c.put_report.ensures.same reported in
    subst (IsOfTrial number) (sym same) (c.answer-ending.ensures.by_words.trial number asks (subst IsReported same reported))

pub returns-clause-read_fault : goal.returns-clause-read_fault
returns-clause-read_fault g c = λ is.
    let same = answered_as c.put_report.ensures.same reported_read is in
    (c.answer-ending.ensures.by_words.read same, c.answer-ending.ensures.read_fault same)

pub returns-clause-kept : goal.returns-clause-kept
returns-clause-kept g c = λ tells writes_none. kept _ _ _ _ writes_none (subst (Leaves _ _ _) (sym (c.put_report.ensures.same writes_none.reported)) (c.answer-ending.ensures.left tells))

pub returns-clause-cut : goal.returns-clause-cut
returns-clause-cut g c = λ tells unreported. may_be_cut _ _ _ _ (c.answer-ending.ensures.left tells)

pub returns-clause-write_fault : goal.returns-clause-write_fault
returns-clause-write_fault g c = λ is.
    elim (c.put_report.ensures.write_fault is) [
      | inl (fault, silent) ↦ let cause = c.answer-ending.ensures.write_fault fault in inr (cause.0, cause.1, silent)
      | inr rose ↦ inl rose
    ]

pub returns-clause-spent : goal.returns-clause-spent
returns-clause-spent g c = λ tells ledger is. subst (IsRight _ _) (answered_as c.put_report.ensures.same (reached (Spent ledger) tt).reported is) (c.answer-ending.ensures.right tells)

pub returns-clause-report : goal.returns-clause-report
returns-clause-report g c = λ tells reported.
    let same = c.put_report.ensures.same reported in
    elim c.answer-ending.ensures.report [
      | inl memory ↦ absurd (reported.room (same ∙ memory))
      | inr report ↦ (c.answer-ending.result.report.items, report_of_same _ _ _ _ _ _ same report, c.put_report.ensures.report tells reported)
    ]

pub returns-clause-part : goal.returns-clause-part
returns-clause-part g c = λ tells reported.
    elim (c.put_report.ensures.part reported) [
      | inl (room, part) ↦ elim c.answer-ending.ensures.report [
        | inl memory ↦ absurd (room memory)
        | inr report ↦ (c.answer-ending.result.outcome, c.answer-ending.result.report.items, c.answer-ending.ensures.right tells, c.answer-ending.ensures.sound tells, report, part)
      ]
      | inr part ↦ (Memory, line_of Memory, tt, sound_memory, inl (record { unmatched = λ matching e. elim e [ inl e ↦ cc | inr e ↦ cc ]; no_rows = λ e. cc }, refl), part)
    ]
