use Rattle.hier_blif.specs.Frames.{models_in}
use Rattle.hier_blif.proofs.TakeLemmas.{line_read, line_ended}
use Rattle.hier_blif.proofs.frames.Blocks.next_line.Goals as goal

pub returns-then-frame-lines-clause-line : goal.returns-then-frame-lines-clause-line
returns-then-frame-lines-clause-line c =
    line_read (models_in c.args.self.now) c.args.frame.now c.lines_at-lines.result.now _ c.lines_at-lines.ensures c.if-frame-lines.true c.index-lines-frame.is

pub returns-clause-none : goal.returns-clause-none
returns-clause-none c =
    line_ended (models_in c.args.self.now) c.args.frame.now c.lines_at-lines.result.now c.lines_at-lines.ensures c.if-frame-lines.false
