-- The words name the files that were read.
use Rattle.std.proofs.Common.{inl, inr, Err, ap, sym, ◌∙◌}
use Rattle.run_steps.specs.Outcomes.{FollowsWords, IsRight, IsSoundAnswer, Leaves}
use Rattle.run_steps.proofs.MatchLemmas.{may_be_cut, not_written, writes_of}
use Rattle.run_steps.proofs.CheckLemmas.{follows_memory, follows_nothing}
use Rattle.run_steps.proofs.FormLemmas.{known_form, trial_command}
use Rattle.npnp.proofs.TellingLemmas.{by_line, sound_memory}
use Rattle.npnp.proofs.run.answer.Goals as goal

pub returns-in-Ok-clause-right : goal.returns-in-Ok-clause-right
returns-in-Ok-clause-right g c = λ tells. c.in-Ok.ensures.decides.right tells _ c.in-Some.ensures.asked

pub returns-in-Err-clause-right : goal.returns-in-Err-clause-right
returns-in-Err-clause-right g c = λ tells.
    by_line (IsRight _ _) c.end_by_line-in-Err.result c.end_by_line-in-Err.ensures (c.in-Err.ensures.decides.right tells _ c.in-Some.ensures.asked) tt

pub returns-in-Ok-clause-sound : goal.returns-in-Ok-clause-sound
returns-in-Ok-clause-sound g c = λ tells. c.in-Ok.ensures.decides.sound tells _ c.in-Some.ensures.asked

pub returns-in-Err-clause-sound : goal.returns-in-Err-clause-sound
returns-in-Err-clause-sound g c = λ tells.
    by_line (IsSoundAnswer _ _) c.end_by_line-in-Err.result c.end_by_line-in-Err.ensures (record {
      matches = λ matching is. absurd (c.in-Err.ensures.decides.early.line.unmatched matching (inl is));
      refuses = λ is. absurd (c.in-Err.ensures.decides.early.no_refusal is);
    }) sound_memory

pub returns-in-Ok-clause-no_form : goal.returns-in-Ok-clause-no_form
returns-in-Ok-clause-no_form g c = λ nothing. absurd (known_form _ _ c.in-Some.ensures.asked nothing)

pub returns-in-Err-clause-no_form : goal.returns-in-Err-clause-no_form
returns-in-Err-clause-no_form g c = λ nothing. absurd (known_form _ _ c.in-Some.ensures.asked nothing)

pub returns-in-Ok-clause-files : goal.returns-in-Ok-clause-files
returns-in-Ok-clause-files g c = λ tells name other apart unrestored untrimmed unconverted unflattened unswept. c.in-Ok.ensures.decides.files tells name (not_written _ _ name c.in-Some.ensures.asked other apart unrestored untrimmed unconverted unflattened unswept)

pub returns-in-Err-clause-files : goal.returns-in-Err-clause-files
returns-in-Err-clause-files g c = λ tells name other apart unrestored untrimmed unconverted unflattened unswept. c.in-Err.ensures.decides.files tells name (not_written _ _ name c.in-Some.ensures.asked other apart unrestored untrimmed unconverted unflattened unswept)

pub returns-in-Ok-clause-left : goal.returns-in-Ok-clause-left
returns-in-Ok-clause-left g c = λ tells. c.in-Ok.ensures.decides.left tells _ c.in-Some.ensures.asked

pub returns-in-Err-clause-left : goal.returns-in-Err-clause-left
returns-in-Err-clause-left g c = λ tells.
    let left = c.in-Err.ensures.decides.left tells _ c.in-Some.ensures.asked in
    by_line (Leaves _ _ _) c.end_by_line-in-Err.result c.end_by_line-in-Err.ensures left (may_be_cut _ _ _ _ left)

pub returns-in-Ok-clause-write_fault : goal.returns-in-Ok-clause-write_fault
returns-in-Ok-clause-write_fault g c = λ is. absurd (c.in-Ok.ensures.decides.ending.unwritten is)

pub returns-in-Err-clause-write_fault : goal.returns-in-Err-clause-write_fault
returns-in-Err-clause-write_fault g c = λ is.
    elim c.end_by_line-in-Err.ensures [
      | inl (same, text) ↦
          let fault = c.in-Err.ensures.decides.unwritten (ap Err (sym same ∙ is)) in
          (writes_of _ _ c.in-Some.ensures.asked fault.0, fault.1)
      | inr memory ↦ cc
    ]

pub returns-in-Ok-clause-by_words : goal.returns-in-Ok-clause-by_words
returns-in-Ok-clause-by_words g c = c.in-Ok.ensures.decides.by_words _ c.in-Some.ensures.asked

pub returns-in-Err-clause-by_words : goal.returns-in-Err-clause-by_words
returns-in-Err-clause-by_words g c =
    by_line (FollowsWords _) c.end_by_line-in-Err.result c.end_by_line-in-Err.ensures (c.in-Err.ensures.decides.by_words _ c.in-Some.ensures.asked) (follows_memory _)

pub returns-in-Ok-clause-trial_no_call : goal.returns-in-Ok-clause-trial_no_call
returns-in-Ok-clause-trial_no_call g c = λ number asks. c.in-Ok.ensures.no_call (trial_command _ _ number c.in-Some.ensures.asked asks)

pub returns-in-Err-clause-trial_no_call : goal.returns-in-Err-clause-trial_no_call
returns-in-Err-clause-trial_no_call g c = λ number asks. c.in-Err.ensures.no_call (trial_command _ _ number c.in-Some.ensures.asked asks)

pub returns-in_default-clause-by_words : goal.returns-in_default-clause-by_words
returns-in_default-clause-by_words g c = by_line (FollowsWords _) c.end_by_line.result c.end_by_line.ensures (follows_nothing _ c.in_default.ensures.not_asked) (follows_memory _)
