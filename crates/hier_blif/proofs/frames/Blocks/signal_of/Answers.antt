use Rattle.std.proofs.Common.{sym, ◌∙◌, arith}
use Rattle.hier_blif.specs.Frames.{models_in}
use Rattle.hier_blif.proofs.FrameLemmas.{defined_is, defined_small}
use Rattle.hier_blif.proofs.frames.Blocks.signal_of.Goals as goal

pub overflow_add-result : goal.overflow_add-result
overflow_add-result c =
    let none = sym c.get.ensures ∙ c.in-None.is in
    omega (arith, defined_small (models_in c.args.self.now) c.args.frame.now c.args.self.now.drivers.now c.index-self-frame.result c.args.name.now c.number.result c.requires.frame c.requires.blocks.drivers c.requires.name none c.number.ensures)

pub returns-in-None-clause-is : goal.returns-in-None-clause-is
returns-in-None-clause-is c =
    let none = sym c.get.ensures ∙ c.in-None.is in
    defined_is (models_in c.args.self.now) c.args.frame.now c.args.self.now.drivers.now c.index-self-frame.result c.args.name.now c.number.result c.requires.frame c.requires.blocks.drivers c.requires.name none c.number.ensures

pub returns-in-None-clause-small : goal.returns-in-None-clause-small
returns-in-None-clause-small c =
    let none = sym c.get.ensures ∙ c.in-None.is in
    defined_small (models_in c.args.self.now) c.args.frame.now c.args.self.now.drivers.now c.index-self-frame.result c.args.name.now c.number.result c.requires.frame c.requires.blocks.drivers c.requires.name none c.number.ensures
