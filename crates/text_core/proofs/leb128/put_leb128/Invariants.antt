-- What is written and what is left make the whole, and what stood there stays.
use Rattle.std.proofs.Common.{◌≡◌, ◌*◌, ◌^◌, ◌<◌, ◌≤◌, ◌++◌}
use Rattle.text_core.specs.Extends.{Extends}
use Rattle.text_core.specs.Groups.{groups}
use Rattle.text_core.proofs.leb128.put_leb128.Given as goal

abbrev pub invariant-loop-more : goal.invariant-loop-more
invariant-loop-more l =
    (l.out.items ++ groups l.more l.rest ≡ l.initial.out.items ++ groups l.most l.number)
    × (l.rest < 128 * 128 ^ l.more)
    × (l.more ≤ l.most)
    × Extends l.initial.out.items l.out.items

abbrev pub decreases-loop-more : goal.decreases-loop-more
decreases-loop-more l = l.more
