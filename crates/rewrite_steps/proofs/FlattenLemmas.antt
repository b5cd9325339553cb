-- What a file of models that is flattened says of the words and the files, and what it leaves.
use Rattle.std.proofs.Common.{◌≡◌, ℕ, ◌≤◌, inl, inr, Bool, IsTrue, List, length, take, None, Some, Result, IfErr, IfOk, refl, sym, ap, subst, ◌∙◌}
use Rattle.net_core.specs.Limits.{most_bytes}
use Rattle.shelf_core.specs.Fault.{NoCallFollows}
use Rattle.shelf_core.specs.State.{ShelfState}
use Rattle.check_steps.specs.Asks.{flatten_request}
use Rattle.check_steps.specs.Lines.{line_of}
use Rattle.check_steps.specs.Words.{AsksFlatten}
use Rattle.check_steps.specs.declared.outcome.Ending.{Ending}
use Rattle.check_steps.specs.declared.outcome.Outcome.{Outcome}
use Rattle.check_steps.specs.declared.outcome.Outcome.TheVariants.{Absent, TooLarge, Memory}
use Rattle.check_steps.specs.declared.outcome.Which.TheVariants.{First}
use Rattle.check_steps.specs.declared.words.Flatten.{Flatten as FlattenWords}
use Rattle.run_steps.specs.Commands.{asked_flatten}
use Rattle.run_steps.specs.Flatten.{HasNoModels, IsFileOfFlat, IsFlattenedTo}
use Rattle.run_steps.specs.Outcomes.{IsRight, Leaves, MayBeCut}
use Rattle.run_steps.specs.Steps.{Decides}
use Rattle.run_steps.specs.Writing.{HasFirst}
use Rattle.run_steps.proofs.FlatLemmas.{file_of_flat}
use Rattle.rewrite_steps.specs.Rewriting.{IsFaultOfModels, IsFlatIn, Rewrites}
use Rattle.rewrite_steps.proofs.DecideLemmas.{IsRefused, IsTold, refused_decides, rewrites_decides}

module _ (tells : Bool) (asked : FlattenWords) (old : ShelfState) where
  -- what stands under the name isn't read as models
  unread : (now : ShelfState) (o : Outcome) (result : Result Ending Outcome) → IsRefused o
      → (HasNoModels (old.held asked.file.now) o → (words : List (List ℕ)) → AsksFlatten words (flatten_request asked) → IsRight old.held words o)
      → ((n : List ℕ) → now.held n ≡ old.held n) → NoCallFollows old now → (IsTrue tells → HasNoModels (old.held asked.file.now) o)
      → IfOk result (λ ending. ending.outcome ≡ o)
      → IfOk result (λ ending. ending.report.items ≡ line_of o)
      → IfErr result (λ e. e ≡ Memory)
      → Decides tells (asked_flatten asked) old now result
  unread now o result is right files last lacks same line memory =
      refused_decides tells (asked_flatten asked) tt tt old now o result is same line memory files (λ t words asks. right (lacks t) words asks) last

  pub no_file : (now : ShelfState) (result : Result Ending Outcome) → ((n : List ℕ) → now.held n ≡ old.held n) → NoCallFollows old now → (IsTrue tells → HasNoModels (old.held asked.file.now) (Absent First))
      → IfOk result (λ ending. ending.outcome ≡ Absent First)
      → IfOk result (λ ending. ending.report.items ≡ line_of (Absent First))
      → IfErr result (λ e. e ≡ Memory)
      → Decides tells (asked_flatten asked) old now result
  no_file now result =
      unread now (Absent First) result tt (λ lacks words asks. inr (inr (record { request = flatten_request asked; asks = asks; lacks = lacks })))

  pub long_file : (now : ShelfState) (result : Result Ending Outcome) → ((n : List ℕ) → now.held n ≡ old.held n) → NoCallFollows old now → (IsTrue tells → HasNoModels (old.held asked.file.now) (TooLarge First))
      → IfOk result (λ ending. ending.outcome ≡ TooLarge First)
      → IfOk result (λ ending. ending.report.items ≡ line_of (TooLarge First))
      → IfErr result (λ e. e ≡ Memory)
      → Decides tells (asked_flatten asked) old now result
  long_file now result =
      unread now (TooLarge First) result tt (λ lacks words asks. inr (record { request = flatten_request asked; asks = asks; lacks = lacks }))

  -- it was read
  module _ (file : List ℕ) (short : length file ≤ most_bytes) (found : IsTrue tells → old.held asked.file.now ≡ Some file) where
    abbrev flattened_to : (o : Outcome) (bytes : List ℕ) → (made : IsFlatIn file o bytes) → IsTrue tells → (words : List (List ℕ)) → AsksFlatten words (flatten_request asked) → IsFlattenedTo old.held words made.models made.instances (length made.flat.graph.gates)
    flattened_to o bytes made t words asks = record {
      flat = made.flat;
      is = record { request = flatten_request asked; asks = asks; file = file; there = found t; short = short; is = made.is };
      gates_are = refl;
    }

    printed : (o : Outcome) (bytes : List ℕ) → (made : IsFlatIn file o bytes) → IsFileOfFlat made.flat bytes
    printed o bytes made =
        subst (IsFileOfFlat made.flat) (sym made.bytes_are) (file_of_flat file made.flat made.models made.instances made.is)

    made_told : (o : Outcome) (bytes : List ℕ) → IsFlatIn file o bytes → IsTold o
    made_told o bytes made = subst IsTold (sym made.outcome_is) tt

    refused_told : (o : Outcome) → IsFaultOfModels file o → IsRefused o
    refused_told o (fault, e, wrong) = subst IsRefused (sym e) tt

    made_right : (o : Outcome) (bytes : List ℕ) → IsFlatIn file o bytes → IsTrue tells → (words : List (List ℕ)) → AsksFlatten words (flatten_request asked) → IsRight old.held words o
    made_right o bytes made t words asks = subst (IsRight old.held words) (sym made.outcome_is) (flattened_to o bytes made t words asks)

    refused_right : (o : Outcome) → IsFaultOfModels file o → IsTrue tells → (words : List (List ℕ)) → AsksFlatten words (flatten_request asked) → IsRight old.held words o
    refused_right o (fault, e, wrong) t words asks = subst (IsRight old.held words) (sym e) (record {
      request = flatten_request asked;
      asks = asks;
      file = file;
      there = found t;
      short = short;
      first = wrong;
    })

    made_left : (new : ShelfState) (o : Outcome) (bytes : List ℕ) → IsFlatIn file o bytes → new.held asked.flat.now ≡ Some bytes → IsTrue tells → (words : List (List ℕ)) → AsksFlatten words (flatten_request asked) → Leaves old.held new.held words o
    made_left new o bytes made there t words asks =
        subst (Leaves old.held new.held words) (sym made.outcome_is) (record { flattening = flattened_to o bytes made t words asks; bytes = bytes; there = there; file = printed o bytes made })

    made_part : (new : ShelfState) (o : Outcome) (bytes : List ℕ) → IsFlatIn file o bytes → HasFirst bytes (new.held asked.flat.now) → IsTrue tells → (words : List (List ℕ)) → AsksFlatten words (flatten_request asked) → MayBeCut old.held new.held words
    made_part new o bytes made first t words asks = inr (inr (inr (inr (inr (inr (inl (record {
      flat = made.flat;
      models = made.models;
      instances = made.instances;
      is = (flattened_to o bytes made t words asks).is;
      bytes = bytes;
      file = printed o bytes made;
      count = first.0;
      part = first.1;
    })))))))

    pub flattens_decides : (now new : ShelfState) (result : Result Ending Outcome) → ((n : List ℕ) → now.held n ≡ old.held n) → now.faults ≡ old.faults → Rewrites (IsFlatIn file) (IsFaultOfModels file) tells asked.flat.now now new result → Decides tells (asked_flatten asked) old new result
    flattens_decides now new result files clean rewrites =
        rewrites_decides tells (asked_flatten asked) tt tt old (IsFlatIn file) (IsFaultOfModels file) asked.flat.now now new (λ n apart. apart) files clean
        made_told refused_told made_right refused_right (made_left new) (made_part new) result rewrites
