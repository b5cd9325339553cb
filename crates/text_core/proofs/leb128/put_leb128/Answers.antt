-- One group was written, and the rest is smaller.
use Rattle.std.proofs.Common.{◌≡◌, ◌+◌, ◌-◌, ◌%◌, ◌/◌, [], ◌∷◌, ◌++◌, length, take, sym, subst, arith}
use Rattle.std.proofs.Math.Dec.{ltb, leb}
use Rattle.std.proofs.Math.Seq.{take-append_seam}
use Rattle.std.proofs.lemmas.Bool.{and_parts, ltb-true, leb-true}
use Rattle.text_core.proofs.Extending.{extends_twice, one_part}
use Rattle.text_core.specs.Groups.{groups}
use Rattle.text_core.proofs.GroupLemmas.{groups_fit, groups_next}
use Rattle.text_core.proofs.leb128.put_leb128.Goals as goal

pub loop-more-preserved : goal.loop-more-preserved
loop-more-preserved c =
    let tests = and_parts (ltb 0 c.loop-more.more) (leb 128 c.loop-more.rest) c.loop-more-test.true in
    let more = c.loop-more.more in
    let rest = c.loop-more.rest in
    let some = ltb-true 0 more tests.0 in
    let high = leb-true 128 rest tests.1 in
    let old = c.args.out.now.items in
    let now = c.loop-more.out.items in
    let new = c.push.new.self.items in
    let byte = 128 + rest % 128 in
    let whole = old ++ groups c.args.most c.args.number in
    let put : new ≡ now ++ byte ∷ [] = c.in_ok-push.ensures.items in
    let before = subst (λ text. now ++ text ≡ whole) (groups_next more rest some high) c.loop-more.invariant.0 in
    let kept = subst (λ text. take (length now) text ≡ now) (sym put) (take-append_seam now (byte ∷ [])) in (
      one_part now new (byte ∷ []) (groups (more - 1) (rest / 128)) whole before put,
      groups_fit more rest some c.loop-more.invariant.1,
      omega (arith, c.loop-more.invariant.2),
      extends_twice old now new c.loop-more.invariant.3 kept,
    )
