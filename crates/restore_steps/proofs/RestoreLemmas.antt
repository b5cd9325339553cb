-- What a netlist that is restored says of the words and the files, and what it leaves.
use Rattle.std.proofs.Common.{◌≡◌, ◌≢◌, ℕ, inl, inr, Bool, IsTrue, List, length, Some, Result, Ok, Err, IfOk, IfErr, refl, sym, ap, subst, ◌∙◌}
use Rattle.std.specs.Str.{bytes_eq}
use Rattle.circuits.specs.Matches.{IsMatchOfFunctions}
use Rattle.net_core.specs.declared.matching.Matching.{Matching}
use Rattle.net_file.specs.declared.named.Named.{Named}
use Rattle.net_print.specs.Files.{aig_text}
use Rattle.shelf_core.specs.State.{ShelfState}
use Rattle.shelf_core.proofs.FaultLemmas.{none_before, rose_after}
use Rattle.check_steps.specs.Asks.{restore_request}
use Rattle.check_steps.specs.Checks.{JudgesFiles}
use Rattle.check_steps.specs.Held.{HasGraph}
use Rattle.check_steps.specs.Judged.{IsVerdict, graphs_of}
use Rattle.check_steps.specs.Lines.{IsOneLine, line_of}
use Rattle.check_steps.specs.Reading.{IsOfReading, netlist_of}
use Rattle.check_steps.specs.Words.{AsksRestore, ReadFiles, check_words}
use Rattle.check_steps.specs.declared.checking.Judgement.{Judgement}
use Rattle.check_steps.specs.declared.outcome.Ending.{Ending}
use Rattle.check_steps.specs.declared.outcome.Outcome.{Outcome}
use Rattle.check_steps.specs.declared.outcome.Outcome.TheVariants.{AcceptedMatch, Restored, ReadFault, Memory}
use Rattle.check_steps.specs.declared.words.Check.{Check as CheckWords}
use Rattle.check_steps.specs.declared.words.Restore.{Restore as RestoreWords}
use Rattle.check_steps.proofs.CheckingLemmas.{judged_right, judged_sound}
use Rattle.check_steps.proofs.EndLemmas.{of_reading}
use Rattle.run_steps.specs.Commands.{asked_restore}
use Rattle.run_steps.specs.Outcomes.{FollowsWords, IsRight, IsSoundAnswer, Leaves, MayBeCut}
use Rattle.run_steps.specs.Restore.{HasRestored, IsRestorable}
use Rattle.run_steps.specs.Steps.{Decides, IsEnding}
use Rattle.run_steps.proofs.CheckLemmas.{follows_files, follows_unwritten, leaves, right_of_restore, stopped}
use Rattle.run_steps.proofs.FormLemmas.{check_of_restore, reads_of}
use Rattle.run_steps.proofs.MatchLemmas.{everywhere}
use Rattle.run_steps.proofs.OutcomeLemmas.{early_unwritten, of_unwritten}
use Rattle.restore_steps.specs.Restoring.{HasFirstPorts, Restores}
use Rattle.restore_steps.proofs.WrittenLemmas.{is_restored}

-- the check that the words of a restore name
abbrev pub check_by : RestoreWords → CheckWords
check_by asked = record { first = asked.first; second = asked.second; account = asked.account }

reads : (asked : RestoreWords) (words : List (List ℕ)) → AsksRestore words (restore_request asked) → ReadFiles words
reads asked words asks = reads_of words (asked_restore asked) tt asks

-- the files were read up to an outcome that ends the run
pub judging_ended : (tells : Bool) (asked : RestoreWords) (old new : ShelfState) (result : Result Ending Outcome) (o : Outcome) → result ≡ Err o → JudgesFiles tells (check_by asked) old new (Err o) → Decides tells (asked_restore asked) old new result
judging_ended tells asked old new result o is judges =
    stopped tells (asked_restore asked) old new result o tt is judges.files
    (λ t words asks. right_of_restore old.held words (restore_request asked) o asks (λ matching e. judges.early.early.line.unmatched matching (inl e)) (judges.right t (check_words asked.first.now asked.second.now asked.account.now) (check_of_restore words (restore_request asked) asks)))
    judges.early
    judges.last
    (λ e. judges.failed (ap Err e))

-- the netlists were judged: what follows by the verdict
module _ (tells : Bool) (asked : RestoreWords) (old now : ShelfState) (answer : Judgement) (judges : JudgesFiles tells (check_by asked) old now (Ok answer)) where
  checked_right : (other : (matching : Matching) → answer.outcome ≢ AcceptedMatch matching) → IsTrue tells → (words : List (List ℕ)) → AsksRestore words (restore_request asked) → IsRight old.held words answer.outcome
  checked_right other t words asks =
      right_of_restore old.held words (restore_request asked) answer.outcome asks other
      (judged_right tells (check_by asked) old now answer judges t (check_words asked.first.now asked.second.now asked.account.now) (check_of_restore words (restore_request asked) asks))

  sound_answer : (other : (matching : Matching) → answer.outcome ≢ AcceptedMatch matching) → IsTrue tells → (words : List (List ℕ)) → AsksRestore words (restore_request asked) → IsSoundAnswer old.held words answer.outcome
  sound_answer other t words asks = record {
    matches = λ matching e. absurd (other matching e);
    refuses = λ e. inr (
      restore_request asked,
      asks,
      (judged_sound tells (check_by asked) old now answer judges t (check_words asked.first.now asked.second.now asked.account.now) (check_of_restore words (restore_request asked) asks)).refuses e,
    );
  }

  -- any other verdict than a match is reported as by a check
  pub verdict_told : (result : Result Ending Outcome) → ((matching : Matching) → answer.outcome ≢ AcceptedMatch matching)
      → IfOk result (λ ending. ending.outcome ≡ answer.outcome)
      → IfOk result (λ ending. ending.report.items ≡ line_of answer.outcome)
      → IfErr result (λ o. o ≡ Memory)
      → Decides tells (asked_restore asked) old now result
  verdict_told (Ok ending) other is report memory =
      let judged = judges.judged in
      record {
        files = λ t n unwritten. judges.files n;
        left = λ t words asks. subst (Leaves old.held now.held words) (sym is) (leaves old.held now.held words answer.outcome judged.unmatched judged.no_match judged.no_pair judged.no_netlist judged.untrimmed judged.unconverted judged.unflattened judged.unswept judges.files);
        right = λ t words asks. subst (IsRight old.held words) (sym is) (checked_right other t words asks);
        by_words = λ words asks. subst (FollowsWords words) (sym is) (follows_files words answer.outcome (reads asked words asks) judged.no_pair judged.no_trial);
        sound = λ t words asks. subst (IsSoundAnswer old.held words) (sym is) (sound_answer other t words asks);
        report = λ words asks. inl (
          subst IsOneLine (sym is) (record { unmatched = λ matching has. elim has [ inl e ↦ other matching e | inr e ↦ judged.unmatched matching e ]; no_rows = judged.no_rows }),
          report ∙ ap line_of (sym is),
        );
        ending = subst IsEnding (sym is) (record { asked = judged.asked; read = judged.read; unwritten = judged.unwritten });
        early = tt;
        last = judges.last;
        failed = λ e. cc;
        unwritten = λ e. cc;
      }
  verdict_told (Err o) other is report memory =
      stopped tells (asked_restore asked) old now (Err o) o tt refl judges.files
      (λ t words asks. subst (IsRight old.held words) (sym memory) tt)
      (subst IsOfReading (sym memory) (of_reading Memory tt))
      judges.last
      (λ e. let same : Memory ≡ ReadFault = sym memory ∙ e in cc)

  -- the matching that is accepted is a match of the netlists
  pub verdict_matches : (matching : Matching) → answer.outcome ≡ AcceptedMatch matching → IsMatchOfFunctions answer.first.graph answer.second.graph matching.inputs matching.outputs
  verdict_matches matching is = judges.matches matching (inl is)

-- the account proves that a matching is a match
module _ (tells : Bool) (asked : RestoreWords) (old now : ShelfState) (answer : Judgement) (judges : JudgesFiles tells (check_by asked) old now (Ok answer))
    (matching : Matching) (is_match : answer.outcome ≡ AcceptedMatch matching) where
  first_netlist : IsTrue tells → HasGraph (old.held asked.first.now) answer.first.graph
  first_netlist t = record { netlist = netlist_of judges.first.circuit answer.first; holds = judges.first.held t; numbered = judges.first.numbered }

  second_netlist : IsTrue tells → HasGraph (old.held asked.second.now) answer.second.graph
  second_netlist t = record { netlist = netlist_of judges.second.circuit answer.second; holds = judges.second.held t; numbered = judges.second.numbered }

  -- a check by the first three names accepts the account
  restorable : IsTrue tells → (words : List (List ℕ)) → AsksRestore words (restore_request asked) → (gates : ℕ) → gates ≡ length answer.second.graph.gates → IsRestorable old.held words gates
  restorable t words asks gates same =
      let verdict = subst (IsVerdict (graphs_of answer.first answer.second) (old.held asked.account.now)) is_match (judges.verdict t) in
      record {
        request = restore_request asked;
        asks = asks;
        matching = matching;
        accepted = record {
          graphs = graphs_of answer.first answer.second;
          account = verdict.0;
          has = record {
            first_name = asked.first.now;
            second_name = asked.second.now;
            account_name = asked.account.now;
            asks = check_of_restore words (restore_request asked) asks;
            first_held = first_netlist t;
            second_held = second_netlist t;
            there = verdict.1;
          };
          accepted = verdict.2;
        };
        gates_are = same;
      }

  -- the new file has the netlist, or the first bytes of it

  left_whole : (restored : Named) (new : ShelfState) → HasFirstPorts answer.first answer.second restored → new.held asked.restored.now ≡ Some (aig_text restored) → IsTrue tells → (words : List (List ℕ)) → AsksRestore words (restore_request asked) → HasRestored old.held new.held words (length restored.graph.gates)
  left_whole restored new ported there t words asks = record {
    request = restore_request asked;
    asks = asks;
    first = netlist_of judges.first.circuit answer.first;
    second = answer.second.graph;
    first_held = judges.first.held t;
    second_held = second_netlist t;
    bytes = aig_text restored;
    there = there;
    restored = is_restored (old.held asked.first.now) (old.held asked.second.now) judges.first.circuit answer.first answer.second restored (judges.first.held t) judges.first.computes (second_netlist t) ported;
  }

  cut : (new : ShelfState) (o : Outcome) → Restores tells answer.first answer.second asked.restored.now now new (Err o) → IsTrue tells → (words : List (List ℕ)) → AsksRestore words (restore_request asked) → MayBeCut old.held new.held words
  cut new o restores t words asks =
      let name = asked.restored.now in
      elim (restores.part t) [
        | inl same ↦ inl (λ n. everywhere old.held new.held name (λ m other. restores.others t m other ∙ judges.files m) (same ∙ judges.files name) n (bytes_eq n name) refl)
        | inr (restored, ported, first_part) ↦ inr (inr (inr (inl (record {
          request = restore_request asked;
          asks = asks;
          first = netlist_of judges.first.circuit answer.first;
          second = answer.second.graph;
          first_held = judges.first.held t;
          second_held = second_netlist t;
          gates = length restored.graph.gates;
          bytes = aig_text restored;
          restored = is_restored (old.held asked.first.now) (old.held asked.second.now) judges.first.circuit answer.first answer.second restored (judges.first.held t) judges.first.computes (second_netlist t) ported;
          count = first_part.0;
          part = first_part.1;
        }))))
      ]

  pub restores_decides : (new : ShelfState) (result : Result Ending Outcome) → Restores tells answer.first answer.second asked.restored.now now new result → Decides tells (asked_restore asked) old new result
  restores_decides new (Ok ending) restores =
      let restored = restores.answer.0 in
      let ported = restores.answer.1 in
      let gates = length restored.graph.gates in
      let is : ending.outcome ≡ Restored gates = restores.answer.2 in
      record {
        files = λ t n other. restores.others t n other ∙ judges.files n;
        left = λ t words asks. subst (Leaves old.held new.held words) (sym is) (left_whole restored new ported (restores.answer.4 t) t words asks);
        right = λ t words asks. subst (IsRight old.held words) (sym is) (restorable t words asks gates ported.gates);
        by_words = λ words asks. subst (FollowsWords words) (sym is) (follows_files words (Restored gates) (reads asked words asks) (λ e. cc) (λ number text e. cc));
        sound = λ t words asks. subst (IsSoundAnswer old.held words) (sym is) (record { matches = λ other e. cc; refuses = λ e. cc });
        report = λ words asks. inl (
          subst IsOneLine (sym is) (record { unmatched = λ other has. elim has [ inl e ↦ cc | inr e ↦ cc ]; no_rows = λ e. cc }),
          restores.answer.3,
        );
        ending = subst IsEnding (sym is) (record { asked = λ e. cc; read = λ e. cc; unwritten = λ e. cc });
        early = tt;
        last = none_before old now new judges.clean restores.last;
        failed = λ e. cc;
        unwritten = λ e. cc;
      }
  restores_decides new (Err o) restores = record {
    files = λ t n other. restores.others t n other ∙ judges.files n;
    left = λ t words asks. let part = cut new o restores t words asks in of_unwritten (Leaves old.held new.held words) o restores.stopped part part;
    right = λ t words asks. of_unwritten (IsRight old.held words) o restores.stopped tt tt;
    by_words = λ words asks. follows_unwritten words o restores.stopped;
    sound = λ t words asks. tt;
    report = λ words asks. tt;
    ending = tt;
    early = early_unwritten o restores.stopped;
    last = none_before old now new judges.clean restores.last;
    failed = λ e. absurd (of_unwritten (λ end. end ≢ ReadFault) o restores.stopped (λ e. cc) (λ e. cc) (cc e));
    unwritten = λ e. (tt, rose_after old.faults now.faults new.faults judges.clean (restores.failed e));
  }
