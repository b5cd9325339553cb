-- Two texts written one after the other, and what a pair says of the words and the files.
use Rattle.std.proofs.Common.{◌≡◌, ◌≢◌, ℕ, inl, inr, Bool, IsTrue, List, Some, Result, Ok, Err, refl, sym, ◌∙◌, ap, subst}
use Rattle.circuits.proofs.MatchLaws.{match_from_functions}
use Rattle.shelf_core.specs.State.{ShelfState, Closed}
use Rattle.shelf_core.specs.declared.outside.ShelfStop.{ShelfStop}
use Rattle.gen_pair.specs.declared.pair.GenPair.{GenPair}
use Rattle.net_print.specs.BlifLines.{blif_text}
use Rattle.net_print.specs.Files.{aig_text}
use Rattle.run_steps.specs.Writing.{WritesFile}
use Rattle.run_steps.specs.Make.{HasMadePair, HasPartOfPair, IsDrawn}
use Rattle.run_steps.specs.Outcomes.{FollowsWords, IsRight, IsSoundAnswer, Leaves, MayBeCut}
use Rattle.check_steps.specs.Lines.{IsOneLine, line_of}
use Rattle.run_steps.specs.Steps.{Decides, IsEnding, IsUnwritten, WritesPair, WritesText}
use Rattle.run_steps.specs.Commands.{asked_make}
use Rattle.check_steps.specs.Asks.{make_request}
use Rattle.run_steps.specs.Stops.{unwritten}
use Rattle.check_steps.specs.Words.{AsksMake}
use Rattle.check_steps.specs.declared.words.Make.{Make as MakeWords}
use Rattle.check_steps.specs.declared.outcome.Ending.{Ending}
use Rattle.check_steps.specs.declared.outcome.Outcome.{Outcome}
use Rattle.check_steps.specs.declared.outcome.Outcome.TheVariants.{Made, ReadFault, WriteFault, Memory}
use Rattle.run_steps.proofs.FormLemmas.{make_or_trial}
use Rattle.shelf_core.proofs.FaultLemmas.{none_before, none_failed, rose_after}
use Rattle.run_steps.proofs.CheckLemmas.{follows_memory, follows_unwritten}
use Rattle.run_steps.proofs.FindLemmas.{err_same, failed_is, is_unwritten}
use Rattle.check_steps.proofs.EndLemmas.{early}
use Rattle.run_steps.proofs.OutcomeLemmas.{early_unwritten, of_unwritten}
use Rattle.run_steps.proofs.PairLemmas.{first_read, second_read}

-- a text was written
pub text_written : (tells : Bool) (name text : List ℕ) (old new : ShelfState) → new.mode ≡ Closed → WritesFile tells name text old new (Ok tt) → WritesText tells name text old new (Ok tt)
text_written tells name text old new closed writes = record {
  closed = closed;
  others = writes.others;
  whole = writes.whole;
  stopped = tt;
  part = λ t. tt;
  clean = writes.clean;
  last = writes.last;
  failed = λ e. cc;
}

-- or it wasn't
pub text_refused : (tells : Bool) (name text : List ℕ) (old new : ShelfState) (stop : ShelfStop) (o : Outcome) → o ≡ unwritten stop → WritesFile tells name text old new (Err stop) → WritesText tells name text old new (Err o)
text_refused tells name text old new stop o is writes = record {
  closed = tt;
  others = writes.others;
  whole = λ t. tt;
  stopped = subst IsUnwritten (sym is) (is_unwritten stop);
  part = writes.part;
  clean = tt;
  last = writes.last;
  failed = λ e. writes.failed (ap Err (failed_is stop (sym is ∙ err_same o WriteFault (Err o) refl e)));
}

-- the first of two texts wasn't written
pub first_refused : (tells : Bool) (a b first second : List ℕ) (old new : ShelfState) (o : Outcome) (result : Result (Unit {0}) Outcome) → result ≡ Err o → WritesText tells a first old new (Err o) → WritesPair tells a b first second old new result
first_refused tells a b first second old new o result is one =
    subst (λ r. WritesPair tells a b first second old new r) (sym is) (record {
      others = λ t n not_a not_b. one.others t n not_a;
      whole = λ t apart. tt;
      stopped = one.stopped;
      part = λ t apart. inl (one.part t, one.others t b apart);
      last = one.last;
      failed = one.failed;
    })

-- it was, and then the second one or not
pub second_after : (tells : Bool) (a b first second : List ℕ) (old between new : ShelfState) (result : Result (Unit {0}) Outcome) → WritesText tells a first old between (Ok tt) → WritesText tells b second between new result → WritesPair tells a b first second old new result
second_after tells a b first second old between new (Ok x) one other = record {
  others = λ t n not_a not_b. other.others t n not_b ∙ one.others t n not_a;
  whole = λ t apart. (other.others t a (λ e. apart (sym e)) ∙ one.whole t, other.whole t);
  stopped = tt;
  part = λ t apart. tt;
  last = none_before old between new one.clean other.last;
  failed = λ e. cc;
}
second_after tells a b first second old between new (Err o) one other = record {
  others = λ t n not_a not_b. other.others t n not_b ∙ one.others t n not_a;
  whole = λ t apart. tt;
  stopped = other.stopped;
  -- what the second name held before is what it held between
  part = λ t apart. inr (
    other.others t a (λ e. apart (sym e)) ∙ one.whole t,
    elim (other.part t) [ inl same ↦ inl (same ∙ one.others t b apart) | inr cut ↦ inr cut ],
  );
  last = none_before old between new one.clean other.last;
  failed = λ e. rose_after old.faults between.faults new.faults one.clean (other.failed e);
}

-- what an outcome of a pair says by the words alone

follows_made : (words : List (List ℕ)) (asked : MakeWords) → AsksMake words (make_request asked) → FollowsWords words Made
follows_made words asked asks = record {
  made = λ e. (make_request asked, asks);
  pair = λ all reported. refl;
  tried = λ number account e. cc;
  trial = λ number trial reported. absurd (make_or_trial words number (make_request asked, asks) trial);
  read = λ e. cc;
}

-- a pair was made for the words, and both files written or not
module _ (tells : Bool) (asked : MakeWords) (pair : GenPair) (drawn : IsDrawn asked.number pair) (old new : ShelfState) where
  holds : (words : List (List ℕ)) → AsksMake words (make_request asked) → new.held asked.first.now ≡ Some (aig_text pair.first) → new.held asked.second.now ≡ Some (blif_text pair.second.graph) → HasMadePair new.held words
  holds words asks first_there second_there =
      let first = first_read asked.number pair drawn (new.held asked.first.now) first_there in
      let second = second_read asked.number pair drawn (new.held asked.second.now) second_there in
      record {
        request = make_request asked;
        asks = asks;
        pair = pair;
        drawn = drawn;
        first_there = first_there;
        second_there = second_there;
        first_file = first.0;
        second_file = second.0;
        first_read = first.1;
        second_read = second.1;
        matches = match_from_functions first.0.circuit second.0.circuit pair.first.graph pair.second.graph pair.hidden.inputs pair.hidden.outputs first.1.computes second.1.computes drawn.drawn.matches;
      }

  cut : (words : List (List ℕ)) → AsksMake words (make_request asked) → (o : Outcome) → WritesPair tells asked.first.now asked.second.now (aig_text pair.first) (blif_text pair.second.graph) old new (Err o) → IsTrue tells → HasPartOfPair old.held new.held words
  cut words asks o writes t = record {
    request = make_request asked;
    asks = asks;
    pair = pair;
    drawn = drawn;
    part = writes.part t asks.names.apart;
  }

  left_unwritten : (words : List (List ℕ)) → AsksMake words (make_request asked) → (o : Outcome) → WritesPair tells asked.first.now asked.second.now (aig_text pair.first) (blif_text pair.second.graph) old new (Err o) → IsTrue tells → Leaves old.held new.held words o
  left_unwritten words asks o writes t =
      let part : MayBeCut old.held new.held words = inr (inr (inl (cut words asks o writes t))) in
      of_unwritten (Leaves old.held new.held words) o writes.stopped part part

  pub pair_made : (ending : Ending) → ending.outcome ≡ Made → ending.report.items ≡ line_of Made → WritesPair tells asked.first.now asked.second.now (aig_text pair.first) (blif_text pair.second.graph) old new (Ok tt) → Decides tells (asked_make asked) old new (Ok ending)
  pair_made ending is report writes = record {
    files = λ t n other. writes.others t n other.0 other.1;
    left = λ t words asks. subst (Leaves old.held new.held words) (sym is) (holds words asks (writes.whole t asks.names.apart).0 (writes.whole t asks.names.apart).1);
    right = λ t words asks. subst (IsRight old.held words) (sym is) (make_request asked, asks);
    by_words = λ words asks. subst (FollowsWords words) (sym is) (follows_made words asked asks);
    sound = λ t words asks. subst (IsSoundAnswer old.held words) (sym is) (record { matches = λ matching e. cc; refuses = λ e. cc });
    report = λ words asks. inl (
      subst IsOneLine (sym is) (record { unmatched = λ matching has. elim has [ inl e ↦ cc | inr e ↦ cc ]; no_rows = λ e. cc }),
      report ∙ ap line_of (sym is),
    );
    ending = subst IsEnding (sym is) (record { asked = λ e. cc; read = λ e. cc; unwritten = λ e. cc });
    early = tt;
    last = writes.last;
    failed = λ e. cc;
    unwritten = λ e. cc;
  }

  pub pair_refused : (result : Result Ending Outcome) (o : Outcome) → result ≡ Err o → WritesPair tells asked.first.now asked.second.now (aig_text pair.first) (blif_text pair.second.graph) old new (Err o) → Decides tells (asked_make asked) old new result
  pair_refused result o is writes =
      subst (λ r. Decides tells (asked_make asked) old new r) (sym is) (record {
        files = λ t n other. writes.others t n other.0 other.1;
        left = λ t words asks. left_unwritten words asks o writes t;
        right = λ t words asks. of_unwritten (IsRight old.held words) o writes.stopped tt tt;
        by_words = λ words asks. follows_unwritten words o writes.stopped;
        sound = λ t words asks. tt;
        report = λ words asks. tt;
        ending = tt;
        early = early_unwritten o writes.stopped;
        last = writes.last;
        failed = λ e. absurd (of_unwritten (λ end. end ≢ ReadFault) o writes.stopped (λ e. cc) (λ e. cc) (cc e));
        unwritten = λ e. (tt, writes.failed (ap Err (cc e)));
      })

-- there was no memory for a pair
pub no_pair : (tells : Bool) (asked : MakeWords) (state : ShelfState) (result : Result Ending Outcome) → result ≡ Err Memory → Decides tells (asked_make asked) state state result
no_pair tells asked state result is =
    subst (λ r. Decides tells (asked_make asked) state state r) (sym is) (record {
      files = λ t n other. refl;
      left = λ t words asks. inl (λ n. refl);
      right = λ t words asks. tt;
      by_words = λ words asks. follows_memory words;
      sound = λ t words asks. tt;
      report = λ words asks. tt;
      ending = tt;
      early = early Memory tt;
      last = none_failed state state refl;
      failed = λ e. cc;
      unwritten = λ e. cc;
    })
