use Rattle.std.proofs.Common.{map, sym, subst}
use Rattle.net_core.specs.Sides.{Graphs}
use Rattle.account_core.specs.Given.{decided_by}
use Rattle.pair_domains.specs.declared.entry.Fate.TheVariants.{Deleted}
use Rattle.pair_domains.specs.declared.entry.Reason.TheVariants.{Mismatch}
use Rattle.pair_search.specs.Grounded.{IsGrounded}
use Rattle.std.specs.Prelude.{IfOk, IfSome}
use Rattle.match_search.proofs.AskLemmas.{both_pairs, in_order_of, shown_of}
use Rattle.match_search.proofs.StepLemmas.{goes_ok, goes_told, gone_none}
use Rattle.match_search.proofs.unlike.unlike_beside.Goals as goal

pub returns-in_default-clause-goes_on : goal.returns-in_default-clause-goes_on
returns-in_default-clause-goes_on g c = goes_ok (gone_none c.requires.may)

pub ask_difference-requires : goal.ask_difference-requires
ask_difference-requires g c =
    let both = both_pairs c.requires.may.graphs_are (rw c.in-Some.is at c.input_and_output.ensures) c.requires.known c.requires.way in
    record { suits = c.requires.may.suits; input = both.0; output = both.1 }

pub returns : goal.returns
returns g c =
    let both = rw c.in-Some.is at c.input_and_output.ensures in
    let facts = map decided_by (g.O.Oracle.known c.ask_difference.new.asker.oracle.now).facts in
    let known = (g.O.Oracle.known c.args.session.now.asker.oracle.now).graphs in
    record {
      goes_on = goes_told c.requires.may c.ask_difference.ensures.same c.ask_difference.ensures.serves;
      shown =
          subst (λ (gr : Graphs). IfOk c.ask_difference.result (λ found. IfSome found (λ unlike. IsGrounded gr facts c.args.way (Deleted (Mismatch c.args.pair unlike.fails unlike.holds))))) (sym c.requires.may.graphs_are)
          (shown_of known facts c.args.pair c.args.way _ c.ask_difference.result (in_order_of both) c.ask_difference.ensures.shown);
    }
