use Rattle.std.proofs.Common.{◌≡◌, ◌<◌, ◌≤◌, All, length, get_or, refl, subst, sym}
use Rattle.hier_blif.specs.Drivers.{IsDrivenAt}
use Rattle.hier_blif.specs.Order.{callees_on}
use Rattle.hier_blif.specs.Sizes.{IsSizeAt}
use Rattle.hier_blif.proofs.OrderLemmas.{line_there}
use Rattle.hier_blif.proofs.DriverLemmas.{outputs_defined, driving_more, driving_all, callees_have}
use Rattle.hier_blif.proofs.drivers.drivers_in.Goals as goal

pub add_line-requires-clause-there : goal.add_line-requires-clause-there
add_line-requires-clause-there c =
    let lines = c.args.model.now.lines in
    let k = c.loop-line.line-index in
    let line = c.line-item.result in
    let below : k < length lines = subst (λ ls. k < length ls) c.deref-line-items.ensures.value c.loop-line-test.true in
    let is : line ≡ get_or lines k line = subst (λ ls. line ≡ get_or ls k line) c.deref-line-items.ensures.value c.line-item.is in
    line_there (λ q. q < length c.args.drivers.now) c.args.scope.now.models.now lines k line below is c.requires.there

pub add_line-requires-clause-drivers : goal.add_line-requires-clause-drivers
add_line-requires-clause-drivers c =
    let models = c.args.scope.now.models.now in
    let lines = c.args.model.now.lines in
    let k = c.loop-line.line-index in
    let line = c.line-item.result in
    let below : k < length lines = subst (λ ls. k < length ls) c.deref-line-items.ensures.value c.loop-line-test.true in
    let is : line ≡ get_or lines k line = subst (λ ls. line ≡ get_or ls k line) c.deref-line-items.ensures.value c.line-item.is in
    line_there (IsDrivenAt models c.args.drivers.now) models lines k line below is c.requires.drivers

pub add_line-requires-clause-outputs : goal.add_line-requires-clause-outputs
add_line-requires-clause-outputs c =
    outputs_defined c.args.scope.now.models.now c.args.model.now c.deref-line-items.result.now c.loop-line.line-index c.line-item.result c.requires.named c.requires.model c.deref-line-items.ensures.value c.loop-line-test.true c.line-item.is

pub size_on-requires-clause-there : goal.size_on-requires-clause-there
size_on-requires-clause-there c =
    let models = c.args.scope.now.models.now in
    let lines = c.args.model.now.lines in
    let k = c.loop-line.line-index in
    let line = c.line-item.result in
    let below : k < length lines = subst (λ ls. k < length ls) c.deref-line-items.ensures.value c.loop-line-test.true in
    let is : line ≡ get_or lines k line = subst (λ ls. line ≡ get_or ls k line) c.deref-line-items.ensures.value c.line-item.is in
    let there = subst (λ n. All (λ callee. callee < n) (callees_on models line)) c.requires.entries (line_there (λ q. q < length c.args.drivers.now) models lines k line below is c.requires.there) in
    subst (λ n. All (λ callee. callee < n) (callees_on models line)) (sym c.requires.sizes.entries) there

pub size_on-requires-clause-sizes : goal.size_on-requires-clause-sizes
size_on-requires-clause-sizes c =
    let models = c.args.scope.now.models.now in
    let lines = c.args.model.now.lines in
    let k = c.loop-line.line-index in
    let line = c.line-item.result in
    let below : k < length lines = subst (λ ls. k < length ls) c.deref-line-items.ensures.value c.loop-line-test.true in
    let is : line ≡ get_or lines k line = subst (λ ls. line ≡ get_or ls k line) c.deref-line-items.ensures.value c.line-item.is in
    callees_have (IsSizeAt models c.args.sizes.now) models line (length models) c.requires.sizes.each (subst (λ n. All (λ callee. callee < n) (callees_on models line)) c.requires.entries (line_there (λ q. q < length c.args.drivers.now) models lines k line below is c.requires.there))

pub loop-line-preserved : goal.loop-line-preserved
loop-line-preserved c =
    let lines = c.args.model.now.lines in
    let k = c.loop-line.line-index in
    let line = c.line-item.result in
    let below : k < length lines = subst (λ ls. k < length ls) c.deref-line-items.ensures.value c.loop-line-test.true in
    let is : line ≡ get_or lines k line = subst (λ ls. line ≡ get_or ls k line) c.deref-line-items.ensures.value c.line-item.is in
    driving_more c.args.scope.now.models.now lines k line c.loop-line.before c.size_on.result c.with-before.result c.loop-line.driven c.add_line.new.driven below is c.with-before.ensures.instances c.with-before.ensures.covers c.size_on.ensures c.in_ok-add_line.ensures c.loop-line.invariant

pub returns : goal.returns
returns c =
    let lines = c.args.model.now.lines in
    let k = c.loop-line.line-index in
    let past : length lines ≤ k = subst (λ ls. length ls ≤ k) c.deref-line-items.ensures.value c.loop-line-test.false in
    driving_all c.args.scope.now.models.now c.args.model.now lines k c.loop-line.before c.loop-line.driven past refl c.loop-line.invariant
