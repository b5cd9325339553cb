-- An account that was written, with the outcome that the run ends by, or that wasn't.
use Rattle.std.proofs.Common.{◌≡◌, ℕ, inl, inr, Bool, List, ◌++◌, take, drop, Result, Ok, Err, refl, sym, ap, subst, ◌∙◌}
use Rattle.std.proofs.lemmas.List.{take-append-drop}
use Rattle.shelf_core.specs.State.{ShelfState}
use Rattle.shelf_core.proofs.FaultLemmas.{none_failed}
use Rattle.check_steps.specs.Lines.{line_of}
use Rattle.check_steps.specs.declared.outcome.Ending.{Ending}
use Rattle.check_steps.specs.declared.outcome.Outcome.{Outcome}
use Rattle.check_steps.specs.declared.outcome.Outcome.TheVariants.{Memory}
use Rattle.run_steps.specs.Steps.{WritesText}
use Rattle.rewrite_steps.specs.Rewriting.{EndsWritten}

-- bytes that were split are their two parts
pub parts_are : (bytes front back : List ℕ) (n : ℕ) → front ≡ take n bytes → back ≡ drop n bytes → front ++ back ≡ bytes
parts_are bytes front back n first rest = ap (λ part. part ++ back) first ∙ (ap (λ part. take n bytes ++ part) rest ∙ take-append-drop n bytes)

-- there was no memory for the line
pub no_room : (tells : Bool) (outcome : Outcome) (account name : List ℕ) (state : ShelfState) (result : Result Ending Outcome) → result ≡ Err Memory → EndsWritten tells outcome account name state state result
no_room tells outcome account name state result is =
    subst (λ r. EndsWritten tells outcome account name state state r) (sym is) (record {
      others = λ t n other. refl;
      same = tt;
      line = tt;
      whole = λ t. tt;
      stopped = inr refl;
      part = λ t. inl refl;
      last = none_failed state state refl;
      failed = λ e. cc;
    })

-- it was written
pub written : (tells : Bool) (outcome : Outcome) (account name : List ℕ) (old new : ShelfState) (ending : Ending) → ending.outcome ≡ outcome → ending.report.items ≡ line_of outcome → WritesText tells name account old new (Ok tt) → EndsWritten tells outcome account name old new (Ok ending)
written tells outcome account name old new ending is line writes = record {
  others = writes.others;
  same = is;
  line = line;
  whole = writes.whole;
  stopped = tt;
  part = λ t. tt;
  last = writes.last;
  failed = λ e. cc;
}

-- or it wasn't
pub unwritten_account : (tells : Bool) (outcome : Outcome) (account name : List ℕ) (old new : ShelfState) (o : Outcome) (result : Result Ending Outcome) → result ≡ Err o → WritesText tells name account old new (Err o) → EndsWritten tells outcome account name old new result
unwritten_account tells outcome account name old new o result is writes =
    subst (λ r. EndsWritten tells outcome account name old new r) (sym is) (record {
      others = writes.others;
      same = tt;
      line = tt;
      whole = λ t. tt;
      stopped = writes.stopped;
      part = writes.part;
      last = writes.last;
      failed = λ e. writes.failed (ap Err (cc e));
    })
