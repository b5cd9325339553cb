-- What was read of the file is all of it, and closing changes no file.
use Rattle.std.proofs.Common.{rules, arith, ◌∙◌}
use Rattle.check_steps.proofs.files.read_to_end.Goals as goal

pub returns : goal.returns
returns g c = record {
  files = λ n. c.close.ensures.files n ∙ c.read_rest.ensures.files n;
  closed = search rules;
  bytes = c.in_ok-bytes.ensures.bytes;
  size_is = c.in_ok-bytes.ensures.size;
  clean = search rules;
  last = search (rules, arith);
  failed = search rules;
}
