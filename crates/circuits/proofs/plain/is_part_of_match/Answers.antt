-- No list is left where none of the numbered ones serves.
use Rattle.std.proofs.Common.{length, rules}
use Rattle.std.proofs.lemmas.Bool.{false≢true}
use Rattle.circuits.proofs.Entries.{no_part, count_of_lists}
use Rattle.circuits.proofs.plain.is_part_of_match.Goals as goal

pub returns : goal.returns
returns c =
    let first = c.args.first.now in
    let n = length first.outputs in
    (λ h. absurd (false≢true h), λ part. absurd (no_part first c.args.second.now c.args.p.now c.loop-code.code c.requires.few_outputs (count_of_lists n c.loop-code.code c.requires.few_outputs (search rules)) (search rules) part))
