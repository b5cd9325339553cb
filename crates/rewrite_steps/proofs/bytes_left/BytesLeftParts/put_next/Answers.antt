-- The bytes before the place of the split are printed, and those after it are left.
use Rattle.std.proofs.Common.{◌++◌, ap, ◌∙◌, append_assoc}
use Rattle.rewrite_steps.proofs.EndingLemmas.{parts_are}
use Rattle.rewrite_steps.proofs.bytes_left.BytesLeftParts.put_next.Goals as goal

-- `fewer` is left to `auto`: the first part has a byte where there is one, by `back_len` and what `min` ensures
pub returns-clause-same : goal.returns-clause-same
returns-clause-same c =
    let front = c.split_at.result.0.now in
    let back = c.split_at.result.1.now in
    ap (λ bytes. bytes ++ back) c.in_ok-extend_from_slice.ensures.items
    ∙ (append_assoc c.args.out.now.items front back
    ∙ ap (λ bytes. c.args.out.now.items ++ bytes) (parts_are _ front back _ c.split_at.ensures.front c.split_at.ensures.back))
