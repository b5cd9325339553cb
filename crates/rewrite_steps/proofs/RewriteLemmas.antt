-- An account that was made of another one and written, or why there is none.
use Rattle.std.proofs.Common.{◌≡◌, ℕ, inl, inr, Bool, List, Result, Ok, Err, IfErr, IfOk, refl, sym, ap, subst, ◌∙◌}
use Rattle.shelf_core.specs.State.{ShelfState}
use Rattle.shelf_core.proofs.FaultLemmas.{none_failed}
use Rattle.check_steps.specs.Lines.{line_of}
use Rattle.check_steps.specs.declared.outcome.Ending.{Ending}
use Rattle.check_steps.specs.declared.outcome.Outcome.{Outcome}
use Rattle.check_steps.specs.declared.outcome.Outcome.TheVariants.{Memory}
use Rattle.rewrite_steps.specs.Rewriting.{EndsWritten, Rewrites}

module _ (Makes : Outcome → List ℕ → Type 0) (Refuses : Outcome → Type 0) (tells : Bool) (name : List ℕ) where
  -- an outcome and its bytes, written or not
  pub rewritten : (outcome : Outcome) (account : List ℕ) (old new : ShelfState) (result : Result Ending Outcome) → Makes outcome account → EndsWritten tells outcome account name old new result → Rewrites Makes Refuses tells name old new result
  rewritten outcome account old new (Ok ending) made ends = record {
    others = ends.others;
    answer = inl (account, subst (λ o. Makes o account) (sym ends.same) made, ends.whole);
    line = ends.line ∙ ap line_of (sym ends.same);
    stopped = tt;
    part = λ t. tt;
    last = ends.last;
    failed = λ e. cc;
  }
  rewritten outcome account old new (Err o) made ends = record {
    others = ends.others;
    answer = tt;
    line = tt;
    stopped = ends.stopped;
    part = λ t. elim (ends.part t) [ inl same ↦ inl same | inr first ↦ inr (outcome, account, made, first) ];
    last = ends.last;
    failed = ends.failed;
  }

  -- there was no memory
  pub no_memory : (state : ShelfState) (result : Result Ending Outcome) → result ≡ Err Memory → Rewrites Makes Refuses tells name state state result
  no_memory state result is =
      subst (λ r. Rewrites Makes Refuses tells name state state r) (sym is) (record {
        others = λ t n other. refl;
        answer = tt;
        line = tt;
        stopped = inr refl;
        part = λ t. inl refl;
        last = none_failed state state refl;
        failed = λ e. cc;
      })

  -- an outcome that says why there is none
  pub refused : (outcome : Outcome) (state : ShelfState) (result : Result Ending Outcome) → Refuses outcome
      → IfOk result (λ ending. ending.outcome ≡ outcome)
      → IfOk result (λ ending. ending.report.items ≡ line_of outcome)
      → IfErr result (λ o. o ≡ Memory)
      → Rewrites Makes Refuses tells name state state result
  refused outcome state (Ok ending) refuses same line memory = record {
    others = λ t n other. refl;
    answer = inr (subst Refuses (sym same) refuses, λ n. refl);
    line = line ∙ ap line_of (sym same);
    stopped = tt;
    part = λ t. tt;
    last = none_failed state state refl;
    failed = λ e. cc;
  }
  refused outcome state (Err o) refuses same line memory = no_memory state (Err o) (ap Err memory)
