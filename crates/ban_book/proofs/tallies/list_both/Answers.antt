use Rattle.std.proofs.Common.{ap, ◌∙◌, arith}
use Rattle.std.specs.List.{flat_map}
use Rattle.std.proofs.lemmas.List.{take_all}
use Rattle.ban_book.specs.Rows.{both_of}
use Rattle.ban_book.proofs.RowListLemmas.{flat_taken}
use Rattle.ban_book.proofs.tallies.list_both.Goals as goal

pub loop-claims-preserved : goal.loop-claims-preserved
loop-claims-preserved c =
    flat_taken (both_of c.args.holds) c.args.row.now c.loop-claims.claims-index _ c.loop-claims.numbers c.add_both.new.numbers c.loop-claims-test.true c.loop-claims.invariant c.in_ok-add_both.ensures

pub returns : goal.returns
returns c =
    c.loop-claims.invariant ∙ ap (flat_map (both_of c.args.holds)) (take_all c.loop-claims.claims-index c.args.row.now (omega (arith, c.loop-claims-test.false)))
