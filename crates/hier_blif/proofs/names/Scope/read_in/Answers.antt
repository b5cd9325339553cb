use Rattle.std.proofs.Common.{◌≡◌, ◌<◌, ◌≤◌, [], length, get_or, subst}
use Rattle.hier_blif.specs.Names.{read_on}
use Rattle.hier_blif.proofs.PushLemmas.{flat_more, flat_all}
use Rattle.hier_blif.proofs.names.Scope.read_in.Goals as goal

pub loop-line-preserved : goal.loop-line-preserved
loop-line-preserved c =
    let lines = c.args.model.now.lines in
    let k = c.loop-line.line-index in
    let line = c.line-item.result in
    let same = c.deref-line-items.ensures.value in
    let below : k < length lines = subst (λ ls. k < length ls) same c.loop-line-test.true in
    let is : line ≡ get_or lines k line = subst (λ ls. line ≡ get_or ls k line) same c.line-item.is in
    flat_more (read_on c.args.self.now.models.now) [] lines k line c.loop-line.words.items _ below is c.loop-line.invariant c.in_ok-add_read_on.ensures

pub returns : goal.returns
returns c =
    let lines = c.args.model.now.lines in
    let k = c.loop-line.line-index in
    let past : length lines ≤ k = subst (λ ls. length ls ≤ k) c.deref-line-items.ensures.value c.loop-line-test.false in
    flat_all (read_on c.args.self.now.models.now) [] lines k _ past c.loop-line.invariant
