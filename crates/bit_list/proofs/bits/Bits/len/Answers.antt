-- That many bits were taken.
use Rattle.std.proofs.Common.{length, sym, ap, ◌∙◌}
use Rattle.bit_list.proofs.Words.{length-bits_of}
use Rattle.bit_list.proofs.bits.Bits.len.Goals as goal

pub returns : goal.returns
returns c = sym (length-bits_of c.self.inside.words c.self.inside.count) ∙ ap length c.self.view_is
