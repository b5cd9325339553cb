-- What a trial of a pair says of the words.
use Rattle.std.proofs.Common.{◌≡◌, ◌≢◌, ◌↔◌, ℕ, inl, inr, true, Bool, List, [], Option, None, Some, Result, Ok, Err, IfErr, slice_index_or, refl, sym, ap, ◌∙◌, subst}
use Rattle.std.specs.Prelude.{is_some}
use Rattle.std.proofs.lemmas.Bool.{false≢true}
use Rattle.circuits.specs.Matches.{HaveNpnpEqualFunctions}
use Rattle.circuits.specs.Netlists.{Net}
use Rattle.account_check.specs.Verdicts.{IsAccepted as Proves, IsRejected as IsBadAt}
use Rattle.account_check.specs.declared.verdict.CheckStop.{CheckStop}
use Rattle.account_check.specs.declared.verdict.CheckStop.TheVariants as check
use Rattle.account_check.specs.declared.verdict.Verdict.{Verdict}
use Rattle.account_check.specs.declared.verdict.Verdict.TheVariants as verdict
use Rattle.account_check.specs.declared.verdict.Why.{Why}
use Rattle.account_check.proofs.VerdictLemmas.{never_both, one_proved}
use Rattle.account_core.specs.Ports.{HaveAsMany}
use Rattle.net_core.specs.Sides.{Graphs}
use Rattle.net_core.specs.declared.matching.Matching.{Matching}
use Rattle.run_steps.specs.Make.{IsPairOf}
use Rattle.query_core.specs.Ledgers.{Ledgered}
use Rattle.shelf_core.specs.State.{ShelfState}
use Rattle.shelf_core.proofs.FaultLemmas.{none_failed}
use Rattle.check_steps.specs.Lines.{line_of, IsOneLine}
use Rattle.check_steps.specs.Words.{default_budget, AsksTrial}
use Rattle.run_steps.specs.Commands.{asked_trial}
use Rattle.run_steps.specs.Outcomes.{FollowsWords, IsRight, IsSoundAnswer, Leaves}
use Rattle.run_steps.specs.Steps.{Decides, IsAnswered, IsEnding, IsProvedMatch, IsStopOfTrial, IsStopWithin, Tries}
use Rattle.run_steps.specs.Trial.{IsSpentOnPairOf, IsTrialOf}
use Rattle.check_steps.specs.declared.words.Trial.{Trial as TrialWords}
use Rattle.check_steps.proofs.EndLemmas.{of_reading}
use Rattle.run_steps.proofs.CheckLemmas.{follows_memory}
use Rattle.run_steps.proofs.FormLemmas.{make_or_trial}
use Rattle.run_steps.proofs.OutcomeLemmas.{of_answer, of_stop, stop_line}
use Rattle.check_steps.specs.declared.outcome.Ending.{Ending}
use Rattle.check_steps.specs.declared.outcome.Outcome.{Outcome}
use Rattle.check_steps.specs.declared.outcome.Outcome.TheVariants.{Spent, Tried, Memory}

-- the two netlists of a pair have as many ports, and a match

pub as_many : (number : ℕ) (first second : Net) (hidden : Matching) → IsPairOf number first second hidden → HaveAsMany first second
as_many number first second hidden pair = record { inputs = sym pair.matches.same_inputs; outputs = sym pair.matches.same_outputs }

pub equal : (number : ℕ) (first second : Net) (hidden : Matching) → IsPairOf number first second hidden → HaveNpnpEqualFunctions first second
equal number first second hidden pair = (hidden.inputs, hidden.outputs, pair.matches)

-- an option that has something is no other
pub none_some : {X : Type 0} (o : Option X) → is_some o ≡ true → ((x : X) → o ≡ Some x → ⊥) → ⊥
none_some None is none = false≢true is
none_some (Some x) is none = none x refl

-- where two graphs have a match, the account of an answer proves one
pub proved_match : (graphs : Graphs) (account : List ℕ) (o : Outcome) → HaveNpnpEqualFunctions graphs.first graphs.second → IsAnswered graphs account o → IsProvedMatch graphs account
proved_match graphs account o equal answer =
    of_answer (λ end. IsProvedMatch graphs account) graphs account o answer
    (λ matching proves matches. record { matching = matching; accepted = proves; matches = matches })
    (λ proves unequal. absurd (unequal equal))

-- the error is what ended the search
pub ends_as : {X : Type 0} (graphs : Graphs) (budget : ℕ) (o : Outcome) (result : Result X Outcome) → result ≡ Err o → IsStopWithin graphs budget o → IfErr result (IsStopWithin graphs budget)
ends_as graphs budget o result is stop = subst (λ r. IfErr r (IsStopWithin graphs budget)) (sym is) stop

-- and a check can't say otherwise

pub no_refusal_answered : (graphs : Graphs) (account : List ℕ) (result : Result Verdict CheckStop) → IsProvedMatch graphs account → ((reported : Verdict) → result ≢ Err check.Memory → (result ≡ Ok reported) ↔ Proves graphs account reported) → result ≡ Ok verdict.None → ⊥
no_refusal_answered graphs account result proved accepted is =
    let same = one_proved graphs account (verdict.Match proved.matching) verdict.None proved.accepted ((accepted verdict.None (λ e. cc)).0 is) in cc

pub no_rejection_answered : (graphs : Graphs) (account : List ℕ) (line : ℕ) (why : Why) (result : Result Verdict CheckStop) → IsProvedMatch graphs account → ((l : ℕ) (w : Why) → result ≢ Err check.Memory → (result ≡ Err (check.Rejected l w)) ↔ IsBadAt graphs account l w) → result ≡ Err (check.Rejected line why) → ⊥
no_rejection_answered graphs account line why result proved rejected is = never_both graphs account (verdict.Match proved.matching) line why proved.accepted ((rejected line why (λ e. cc)).0 is)

-- what ends a trial of a pair early
pub stopped : (number : ℕ) (graphs : Graphs) (hidden : Matching) (o : Outcome) (result : Result Ending Outcome) → result ≡ Err o → IsPairOf number graphs.first graphs.second hidden → IsStopWithin graphs default_budget o → Tries number result
stopped number graphs hidden o result is pair stop =
    subst (Tries number) (sym is) (record {
      answer = tt;
      stopped = of_stop (IsStopOfTrial number) graphs default_budget o stop (λ ledger spent. inl (ledger, refl, record { graphs = graphs; hidden = hidden; pair = pair; spent = spent })) (inr refl);
    })

pub no_room : (number : ℕ) (result : Result Ending Outcome) → result ≡ Err Memory → Tries number result
no_room number result is = subst (Tries number) (sym is) (record { answer = tt; stopped = inr refl })

-- a pair was tried
pub tried : (number : ℕ) (graphs : Graphs) (hidden : Matching) (account : List ℕ) (ending : Ending) → IsPairOf number graphs.first graphs.second hidden → IsProvedMatch graphs account → ending.outcome ≡ Tried number account → ending.report.items ≡ line_of ending.outcome → Tries number (Ok ending)
tried number graphs hidden account ending pair proved is report = record {
  answer = (
    account,
    is,
    record { graphs = graphs; hidden = hidden; pair = pair; matching = proved.matching; accepted = proved.accepted; matches = proved.matches },
    report,
  );
  stopped = tt;
}

-- words that ask for a trial name one number
one_number : (words : List (List ℕ)) (one other : ℕ) → AsksTrial words one → AsksTrial words other → one ≡ other
one_number words one other asks also =
    let word : asks.word ≡ also.word = ap (λ ws. slice_index_or ws 1 []) (sym asks.form ∙ also.form) in
    cc (asks.number_is.digits, also.number_is.digits, word)

-- what the words say of a pair that was tried, and of a budget that was spent on it
follows_tried : (held : List ℕ → Option (List ℕ)) (words : List (List ℕ)) (number : ℕ) (account : List ℕ) → AsksTrial words number → IsTrialOf number account → FollowsWords words (Tried number account)
follows_tried held words number account asks trial = record {
  made = λ e. absurd (cc e);
  pair = λ request reported. absurd (make_or_trial words number request asks);
  tried = λ n a e. subst (IsRight held words) e (record { asks = asks; trial = trial });
  trial = λ n also reported. inl (account, ap (λ k. Tried k account) (one_number words number n asks also));
  read = λ e. absurd (cc e);
}

follows_spent : (words : List (List ℕ)) (number : ℕ) (ledger : Ledgered) → AsksTrial words number → IsSpentOnPairOf number ledger → FollowsWords words (Spent ledger)
follows_spent words number ledger asks spent = record {
  made = λ e. absurd (cc e);
  pair = λ request reported. absurd (make_or_trial words number request asks);
  tried = λ n a e. absurd (cc e);
  trial = λ n also reported. inr (ledger, refl, subst (λ k. IsSpentOnPairOf k ledger) (one_number words number n asks also) spent);
  read = λ e. absurd (cc e);
}

spent_decides : (tells : Bool) (trial : TrialWords) (state : ShelfState) (ledger : Ledgered) → IsSpentOnPairOf trial.number ledger → Decides tells (asked_trial trial) state state (Err (Spent ledger))
spent_decides tells trial state ledger spent = record {
  files = λ t n other. refl;
  left = λ t words asks. λ name. refl;
  right = λ t words asks. inr (inr (record { number = trial.number; asks = asks; spent = spent }));
  by_words = λ words asks. follows_spent words trial.number ledger asks spent;
  sound = λ t words asks. tt;
  report = λ words asks. tt;
  ending = tt;
  early = (stop_line spent.graphs default_budget (Spent ledger) (inl (ledger, refl, spent.spent))).early;
  last = none_failed state state refl;
  failed = λ e. absurd (cc e);
  unwritten = λ e. absurd (cc e);
}

no_room_decides : (tells : Bool) (trial : TrialWords) (state : ShelfState) → Decides tells (asked_trial trial) state state (Err Memory)
no_room_decides tells trial state = record {
  files = λ t n other. refl;
  left = λ t words asks. inl (λ name. refl);
  right = λ t words asks. tt;
  by_words = λ words asks. follows_memory words;
  sound = λ t words asks. tt;
  report = λ words asks. tt;
  ending = tt;
  early = (of_reading Memory tt).early;
  last = none_failed state state refl;
  failed = λ e. absurd (cc e);
  unwritten = λ e. absurd (cc e);
}

-- what comes of a trial is what the words ask for
pub tries_decides : (tells : Bool) (trial : TrialWords) (state : ShelfState) (result : Result Ending Outcome) → Tries trial.number result → Decides tells (asked_trial trial) state state result
tries_decides tells trial state (Ok ending) tries =
    let account = tries.answer.0 in
    let is : ending.outcome ≡ Tried trial.number account = tries.answer.1 in
    let right = tries.answer.2 in
    record {
      files = λ t n other. refl;
      left = λ t words asks. subst (Leaves state.held state.held words) (sym is) (λ name. refl);
      right = λ t words asks. subst (IsRight state.held words) (sym is) (record { asks = asks; trial = right });
      by_words = λ words asks. subst (FollowsWords words) (sym is) (follows_tried state.held words trial.number account asks right);
      sound = λ t words asks. subst (IsSoundAnswer state.held words) (sym is) (record { matches = λ matching e. absurd (cc e); refuses = λ e. absurd (cc e) });
      report = λ words asks. inl (subst IsOneLine (sym is) (record { unmatched = λ matching e. elim e [ inl f ↦ absurd (cc f) | inr f ↦ absurd (cc f) ]; no_rows = λ e. cc }), tries.answer.3);
      ending = subst IsEnding (sym is) (record { asked = λ e. cc; read = λ e. cc; unwritten = λ e. cc });
      early = tt;
      last = none_failed state state refl;
      failed = λ e. absurd (cc e);
      unwritten = λ e. absurd (cc e);
    }
tries_decides tells trial state (Err o) tries = elim tries.stopped [
  | inl (ledger, is, spent) ↦ subst (λ end. Decides tells (asked_trial trial) state state (Err end)) (sym is) (spent_decides tells trial state ledger spent)
  | inr is ↦ subst (λ end. Decides tells (asked_trial trial) state state (Err end)) (sym is) (no_room_decides tells trial state)
]
