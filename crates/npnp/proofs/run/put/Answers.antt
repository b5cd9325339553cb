-- The sink took the text whole.
use Rattle.std.proofs.Common.{◌++◌, length, refl, sym, ◌∙◌, ap, arith}
use Rattle.std.proofs.Math.Seq.{take-length}
use Rattle.npnp.proofs.run.put.Goals as goal

pub returns-in-Ok : goal.returns-in-Ok
returns-in-Ok g c = record {
  whole = λ tells reported. c.in-Ok.ensures.whole tells;
  part = λ tells. (length c.args.text.now, c.in-Ok.ensures.whole tells ∙ ap (λ piece. (g.K.Sink.state c.args.out.now).written ++ piece) (sym (take-length c.args.text.now)));
  same = λ reported. refl;
  last = omega (arith, c.in-Ok.ensures.counted);
  failed = λ e. absurd (c.requires e);
}
