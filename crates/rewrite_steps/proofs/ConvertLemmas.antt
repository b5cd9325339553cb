-- What an account that is converted says of the words and the files, and what it leaves.
use Rattle.std.proofs.Common.{◌≡◌, ℕ, inl, inr, Bool, IsTrue, List, take, None, Some, Result, IfErr, IfOk, refl, sym, ap, subst, ◌∙◌}
use Rattle.shelf_core.specs.Fault.{NoCallFollows}
use Rattle.shelf_core.specs.State.{ShelfState}
use Rattle.check_steps.specs.Asks.{convert_request}
use Rattle.check_steps.specs.Lines.{line_of}
use Rattle.check_steps.specs.Words.{AsksConvert}
use Rattle.check_steps.specs.declared.outcome.Ending.{Ending}
use Rattle.check_steps.specs.declared.outcome.Outcome.{Outcome}
use Rattle.check_steps.specs.declared.outcome.Outcome.TheVariants.{Absent, Memory}
use Rattle.check_steps.specs.declared.outcome.Which.TheVariants.{Account}
use Rattle.check_steps.specs.declared.words.Convert.{Convert as ConvertWords}
use Rattle.run_steps.specs.Commands.{asked_convert}
use Rattle.run_steps.specs.Convert.{IsConvertedTo}
use Rattle.run_steps.specs.Outcomes.{IsRight, Leaves, MayBeCut}
use Rattle.run_steps.specs.Steps.{Decides}
use Rattle.run_steps.specs.Writing.{HasFirst}
use Rattle.rewrite_steps.specs.Rewriting.{IsFaultOfForm, IsInOtherVersion, Rewrites}
use Rattle.rewrite_steps.proofs.DecideLemmas.{IsRefused, IsTold, refused_decides, rewrites_decides}

module _ (tells : Bool) (asked : ConvertWords) (old : ShelfState) where
  -- there is no account
  pub no_old : (now : ShelfState) (result : Result Ending Outcome) → ((n : List ℕ) → now.held n ≡ old.held n) → NoCallFollows old now → (IsTrue tells → old.held asked.account.now ≡ None)
      → IfOk result (λ ending. ending.outcome ≡ Absent Account)
      → IfOk result (λ ending. ending.report.items ≡ line_of (Absent Account))
      → IfErr result (λ o. o ≡ Memory)
      → Decides tells (asked_convert asked) old now result
  no_old now result files last none same line memory =
      refused_decides tells (asked_convert asked) tt tt old now (Absent Account) result tt same line memory files
      (λ t words asks. inr (inl (refl, record { request = convert_request asked; asks = asks; absent = none t })))
      last

  -- it was read
  module _ (account : List ℕ) (found : IsTrue tells → old.held asked.account.now ≡ Some account) where
    abbrev converted_to : (o : Outcome) (bytes : List ℕ) → (made : IsInOtherVersion account o bytes) → IsTrue tells → (words : List (List ℕ)) → AsksConvert words (convert_request asked) → IsConvertedTo old.held words made.converted.from made.converted.to made.converted.records
    converted_to o bytes made t words asks = record {
      converted = made.converted;
      is = record { request = convert_request asked; asks = asks; account = account; there = found t; is = made.is };
      from_is = refl;
      to_is = refl;
      records_are = refl;
    }

    made_told : (o : Outcome) (bytes : List ℕ) → IsInOtherVersion account o bytes → IsTold o
    made_told o bytes made = subst IsTold (sym made.outcome_is) tt

    refused_told : (o : Outcome) → IsFaultOfForm account o → IsRefused o
    refused_told o (line, fault, e, wrong) = subst IsRefused (sym e) tt

    made_right : (o : Outcome) (bytes : List ℕ) → IsInOtherVersion account o bytes → IsTrue tells → (words : List (List ℕ)) → AsksConvert words (convert_request asked) → IsRight old.held words o
    made_right o bytes made t words asks = subst (IsRight old.held words) (sym made.outcome_is) (converted_to o bytes made t words asks)

    refused_right : (o : Outcome) → IsFaultOfForm account o → IsTrue tells → (words : List (List ℕ)) → AsksConvert words (convert_request asked) → IsRight old.held words o
    refused_right o (line, fault, e, wrong) t words asks = subst (IsRight old.held words) (sym e) (inr (record {
      request = convert_request asked;
      asks = asks;
      account = account;
      there = found t;
      fault = fault;
      why_is = refl;
      first = wrong;
    }))

    made_left : (new : ShelfState) (o : Outcome) (bytes : List ℕ) → IsInOtherVersion account o bytes → new.held asked.converted.now ≡ Some bytes → IsTrue tells → (words : List (List ℕ)) → AsksConvert words (convert_request asked) → Leaves old.held new.held words o
    made_left new o bytes made there t words asks =
        subst (Leaves old.held new.held words) (sym made.outcome_is) (record { conversion = converted_to o bytes made t words asks; there = there ∙ ap Some made.bytes_are })

    made_part : (new : ShelfState) (o : Outcome) (bytes : List ℕ) → IsInOtherVersion account o bytes → HasFirst bytes (new.held asked.converted.now) → IsTrue tells → (words : List (List ℕ)) → AsksConvert words (convert_request asked) → MayBeCut old.held new.held words
    made_part new o bytes made first t words asks = inr (inr (inr (inr (inr (inl (record {
      converted = made.converted;
      is = (converted_to o bytes made t words asks).is;
      count = first.0;
      part = first.1 ∙ ap (λ text. Some (take first.0 text)) made.bytes_are;
    }))))))

    pub converts_decides : (now new : ShelfState) (result : Result Ending Outcome) → ((n : List ℕ) → now.held n ≡ old.held n) → now.faults ≡ old.faults → Rewrites (IsInOtherVersion account) (IsFaultOfForm account) tells asked.converted.now now new result → Decides tells (asked_convert asked) old new result
    converts_decides now new result files clean rewrites =
        rewrites_decides tells (asked_convert asked) tt tt old (IsInOtherVersion account) (IsFaultOfForm account) asked.converted.now now new (λ n apart. apart) files clean
        made_told refused_told made_right refused_right (made_left new) (made_part new) result rewrites
