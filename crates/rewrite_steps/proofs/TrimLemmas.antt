-- What an account that is trimmed says of the words and the files, and what it leaves.
use Rattle.std.proofs.Common.{◌≡◌, ℕ, inl, inr, Bool, IsTrue, List, take, None, Some, Result, IfErr, IfOk, refl, sym, ap, subst, ◌∙◌}
use Rattle.net_file.specs.declared.named.Named.{Named}
use Rattle.shelf_core.specs.Fault.{NoCallFollows}
use Rattle.shelf_core.specs.State.{ShelfState}
use Rattle.check_steps.specs.Asks.{trim_request}
use Rattle.check_steps.specs.Check.{HasAccount}
use Rattle.check_steps.specs.Judged.{graphs_of}
use Rattle.check_steps.specs.Lines.{line_of}
use Rattle.check_steps.specs.Reading.{IsReadFrom, netlist_of}
use Rattle.check_steps.specs.Words.{AsksTrim, check_words}
use Rattle.check_steps.specs.declared.outcome.Ending.{Ending}
use Rattle.check_steps.specs.declared.outcome.Outcome.{Outcome}
use Rattle.check_steps.specs.declared.outcome.Outcome.TheVariants.{Absent, Memory}
use Rattle.check_steps.specs.declared.outcome.Which.TheVariants.{Account}
use Rattle.check_steps.specs.declared.words.Trim.{Trim as TrimWords}
use Rattle.run_steps.specs.Commands.{asked_trim}
use Rattle.run_steps.specs.Outcomes.{IsRight, Leaves, MayBeCut}
use Rattle.run_steps.specs.Steps.{Decides}
use Rattle.run_steps.specs.Trim.{IsTrimmedTo}
use Rattle.run_steps.specs.Writing.{HasFirst}
use Rattle.run_steps.proofs.FormLemmas.{check_of_trim}
use Rattle.rewrite_steps.specs.Rewriting.{IsBadLine, IsWhatIsLeft, Rewrites}
use Rattle.rewrite_steps.proofs.DecideLemmas.{IsRefused, IsTold, refused_decides, rewrites_decides}

-- both netlists were read
module _ (tells : Bool) (asked : TrimWords) (old : ShelfState) (first second : Named)
    (first_read : IsReadFrom tells (old.held asked.first.now) first) (second_read : IsReadFrom tells (old.held asked.second.now) second) where
  -- there is no account
  pub no_old : (now : ShelfState) (result : Result Ending Outcome) → ((n : List ℕ) → now.held n ≡ old.held n) → NoCallFollows old now → (IsTrue tells → old.held asked.account.now ≡ None)
      → IfOk result (λ ending. ending.outcome ≡ Absent Account)
      → IfOk result (λ ending. ending.report.items ≡ line_of (Absent Account))
      → IfErr result (λ o. o ≡ Memory)
      → Decides tells (asked_trim asked) old now result
  no_old now result files last none same line memory =
      refused_decides tells (asked_trim asked) tt tt old now (Absent Account) result tt same line memory files
      (λ t words asks. inl (inr (
        trim_request asked,
        asks,
        inr (
          refl,
          record {
            first = netlist_of first_read.circuit first;
            second = netlist_of second_read.circuit second;
            account_name = asked.account.now;
            asked = record {
              first_name = asked.first.now;
              second_name = asked.second.now;
              asks = check_of_trim words (trim_request asked) asks;
              first_held = first_read.held t;
              second_held = second_read.held t;
            };
            absent = none t;
          },
        ),
      )))
      last

  -- it was read
  module _ (account : List ℕ) (found : IsTrue tells → old.held asked.account.now ≡ Some account) where
    has : IsTrue tells → (words : List (List ℕ)) → AsksTrim words (trim_request asked) → HasAccount old.held (check_words asked.first.now asked.second.now asked.account.now) (graphs_of first second) account
    has t words asks = record {
      first_name = asked.first.now;
      second_name = asked.second.now;
      account_name = asked.account.now;
      asks = check_of_trim words (trim_request asked) asks;
      first_held = record { netlist = netlist_of first_read.circuit first; holds = first_read.held t; numbered = first_read.numbered };
      second_held = record { netlist = netlist_of second_read.circuit second; holds = second_read.held t; numbered = second_read.numbered };
      there = found t;
    }

    abbrev trimmed_to : (o : Outcome) (bytes : List ℕ) → (made : IsWhatIsLeft (graphs_of first second) account o bytes) → IsTrue tells → (words : List (List ℕ)) → AsksTrim words (trim_request asked) → IsTrimmedTo old.held words made.trimmed.before made.trimmed.after
    trimmed_to o bytes made t words asks = record {
      trimmed = made.trimmed;
      is = record {
        request = trim_request asked;
        asks = asks;
        told = made.told;
        accepted = record { graphs = graphs_of first second; account = account; has = has t words asks; accepted = made.accepted };
        is = made.is;
      };
      before_is = refl;
      after_is = refl;
    }

    made_told : (o : Outcome) (bytes : List ℕ) → IsWhatIsLeft (graphs_of first second) account o bytes → IsTold o
    made_told o bytes made = subst IsTold (sym made.outcome_is) tt

    refused_told : (o : Outcome) → IsBadLine (graphs_of first second) account o → IsRefused o
    refused_told o (line, why, e, bad) = subst IsRefused (sym e) tt

    made_right : (o : Outcome) (bytes : List ℕ) → IsWhatIsLeft (graphs_of first second) account o bytes → IsTrue tells → (words : List (List ℕ)) → AsksTrim words (trim_request asked) → IsRight old.held words o
    made_right o bytes made t words asks = subst (IsRight old.held words) (sym made.outcome_is) (trimmed_to o bytes made t words asks)

    refused_right : (o : Outcome) → IsBadLine (graphs_of first second) account o → IsTrue tells → (words : List (List ℕ)) → AsksTrim words (trim_request asked) → IsRight old.held words o
    refused_right o (line, why, e, bad) t words asks = subst (IsRight old.held words) (sym e) (inl (inr (
      trim_request asked,
      asks,
      record {
        graphs = graphs_of first second;
        account = account;
        has = has t words asks;
        rejected = bad;
      },
    )))

    made_left : (new : ShelfState) (o : Outcome) (bytes : List ℕ) → IsWhatIsLeft (graphs_of first second) account o bytes → new.held asked.trimmed.now ≡ Some bytes → IsTrue tells → (words : List (List ℕ)) → AsksTrim words (trim_request asked) → Leaves old.held new.held words o
    made_left new o bytes made there t words asks =
        subst (Leaves old.held new.held words) (sym made.outcome_is) (record { trim = trimmed_to o bytes made t words asks; there = there ∙ ap Some made.bytes_are })

    made_part : (new : ShelfState) (o : Outcome) (bytes : List ℕ) → IsWhatIsLeft (graphs_of first second) account o bytes → HasFirst bytes (new.held asked.trimmed.now) → IsTrue tells → (words : List (List ℕ)) → AsksTrim words (trim_request asked) → MayBeCut old.held new.held words
    made_part new o bytes made first_part t words asks = inr (inr (inr (inr (inl (record {
      trimmed = made.trimmed;
      is = (trimmed_to o bytes made t words asks).is;
      count = first_part.0;
      part = first_part.1 ∙ ap (λ text. Some (take first_part.0 text)) made.bytes_are;
    })))))

    pub trims_decides : (now new : ShelfState) (result : Result Ending Outcome) → ((n : List ℕ) → now.held n ≡ old.held n) → now.faults ≡ old.faults → Rewrites (IsWhatIsLeft (graphs_of first second) account) (IsBadLine (graphs_of first second) account) tells asked.trimmed.now now new result → Decides tells (asked_trim asked) old new result
    trims_decides now new result files clean rewrites =
        rewrites_decides tells (asked_trim asked) tt tt old (IsWhatIsLeft (graphs_of first second) account) (IsBadLine (graphs_of first second) account) asked.trimmed.now now new (λ n apart. apart) files clean
        made_told refused_told made_right refused_right (made_left new) (made_part new) result rewrites
