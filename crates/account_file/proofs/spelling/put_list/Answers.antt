-- One word more, and then all.
use Rattle.std.proofs.Common.{◌++◌, ◌∷◌, ap, subst, ◌∙◌}
use Rattle.account_file.proofs.ListLemmas.{fit_all, written_all, written_next}
use Rattle.account_file.proofs.spelling.put_list.Goals as goal

pub loop-item-preserved : goal.loop-item-preserved
loop-item-preserved g c =
    let text = c.in_ok-put.ensures.text ∙ ap (λ x. c.loop-item.out.items ++ 32 ∷ g.T.Spell.word x) c.item-item.is in
    written_next g.T.Spell.word g.T.Spell.fits c.args.list.now c.loop-item.item-index c.item-item.result c.args.out.now.items c.loop-item.out.items c.put.new.out.items c.loop-item-test.true c.loop-item.invariant text (subst g.T.Spell.fits c.item-item.is c.in_ok-put.ensures.fits)

pub returns-clause-text : goal.returns-clause-text
returns-clause-text g c = written_all g.T.Spell.word g.T.Spell.fits c.args.list.now c.loop-item.item-index c.args.out.now.items c.loop-item.out.items c.loop-item-test.false c.loop-item.invariant

pub returns-clause-fits : goal.returns-clause-fits
returns-clause-fits g c = fit_all g.T.Spell.word g.T.Spell.fits c.args.list.now c.loop-item.item-index c.args.out.now.items c.loop-item.out.items c.loop-item-test.false c.loop-item.invariant
