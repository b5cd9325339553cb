-- The netlist was swept and written, or memory ran out.
use Rattle.std.proofs.Common.{refl, rules, sym, subst}
use Rattle.std.proofs.lemmas.Result.{err_from_is_err_and}
use Rattle.circuits.specs.Netlists.{Net}
use Rattle.run_steps.specs.Sweep.{IsSweepOf}
use Rattle.rewrite_steps.proofs.RewriteLemmas.{no_memory, rewritten}
use Rattle.rewrite_steps.proofs.sweeping.sweep_to.Goals as goal

pub returns-in_err-net : goal.returns-in_err-net
returns-in_err-net g c =
    let p = err_from_is_err_and c.from_residual.result c.from_residual.ensures.1 in
    no_memory _ _ _ _ _ _ (cc (p.1, p.2))

pub returns-in_err-printed : goal.returns-in_err-printed
returns-in_err-printed g c =
    let p = err_from_is_err_and c.from_residual-in_err-printed.result c.from_residual-in_err-printed.ensures.1 in
    no_memory _ _ _ _ _ _ (cc (p.1, p.2))

pub returns : goal.returns
returns g c =
    let made = c.in_ok-net.ensures in
    let left = c.in_ok-net.field-0.left in
    rewritten _ _ _ _ _ _ _ _ c.end_printed.result
    (record {
      printed = c.in_ok-printed.printed;
      sound = c.gates-2.ensures.graph;
      input_names = c.in_ok-printed.ensures.input_names;
      output_names = c.in_ok-printed.ensures.output_names;
      left = left;
      sweep = subst (λ (net : Net). IsSweepOf c.args.netlist.now.graph c.args.allowance net left) (sym c.in_ok-printed.ensures.graph)
          (record { equal = made.functions; no_more = made.size; reduced = made.reduced; whole = made.whole; left_is = made.left });
      outcome_is = search rules;
      bytes_are = refl;
    })
    c.end_printed.ensures
