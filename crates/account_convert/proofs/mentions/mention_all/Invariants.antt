use Rattle.std.proofs.Common.{◌≡◌, drop}
use Rattle.account_convert.specs.Tables.{all_mentioned}
use Rattle.account_convert.proofs.mentions.mention_all.Given as goal

-- what is done, continued by what is left, gives the whole
abbrev pub invariant-loop-number : goal.invariant-loop-number
invariant-loop-number l = all_mentioned l.record_number l.table (drop l.number-index l.numbers) ≡ all_mentioned l.record_number l.fn.table l.numbers
