-- What was read of the file is all of it, within the limit.
use Rattle.std.proofs.Common.{length, Some, rules, arith, ap, sym}
use Rattle.check_steps.proofs.files.read_open.Goals as goal

pub returns : goal.returns
returns g c = record {
  files = c.read_to_end.ensures.files;
  closed = search rules;
  found = λ t. (ap Some (sym (c.in_ok-read_to_end.ensures.bytes t)), omega (arith, ap length (c.in_ok-read_to_end.ensures.bytes t), c.requires.told t));
  short = omega (arith, c.in_ok-read_to_end.ensures.size_is, c.if-size-limit.false);
  clean = search rules;
  last = search (rules, arith);
  failed = search rules;
}
