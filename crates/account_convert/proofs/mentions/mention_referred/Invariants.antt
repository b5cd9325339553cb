use Rattle.std.proofs.Common.{◌≡◌, drop}
use Rattle.std.specs.Prelude.{option_to_list}
use Rattle.std.specs.List.{flat_map}
use Rattle.account_convert.specs.Tables.{all_mentioned}
use Rattle.account_convert.proofs.mentions.mention_referred.Given as goal

abbrev pub invariant-loop-reference : goal.invariant-loop-reference
invariant-loop-reference l =
    all_mentioned l.record_number l.table (flat_map option_to_list (drop l.reference-index l.refs)) ≡ all_mentioned l.record_number l.fn.table (flat_map option_to_list l.refs)
