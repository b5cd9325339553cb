-- No signal was gone over.
use Rattle.std.proofs.Common.{◌∙◌, List, map, ap, subst}
use Rattle.std.specs.List.{range_with_len}
use Rattle.circuits.specs.declared.netlist.Lit.{Lit}
use Rattle.circuits.specs.Literals.{plain_literal}
use Rattle.sweep.specs.declared.classes.Member.{Member}
use Rattle.sweep.specs.Leaders.{AreChained}
use Rattle.sweep.proofs.SweepingLemmas.{settled_first}
use Rattle.sweep.proofs.sweeping.Sweep.new.Goals as goal

pub returns : goal.returns
returns c =
    let net = c.args.exposed.now in
    let leaders = c.in_ok-leaders.leaders in
    record {
      classes = c.in_ok-members.ensures;
      settled = settled_first net c.in_ok-replacements.replacements.items (c.in_ok-replacements.ensures ∙ ap (λ n. map plain_literal (range_with_len 0 n)) c.signals.ensures.value);
      chained = subst (λ (ms : List Member). AreChained ms c.in_ok-replacements.replacements.items 0 leaders.last.items leaders.before.items) c.deref.ensures.value (subst (λ (rs : List Lit). AreChained c.deref.result.now rs 0 leaders.last.items leaders.before.items) c.deref-2.ensures.value c.in_ok-leaders.ensures);
    }
