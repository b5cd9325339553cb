use Rattle.std.proofs.Common.{refl}
use Rattle.account_convert.proofs.PutDropLemmas.{put_one}
use Rattle.account_convert.proofs.binary_writer.put_drops.Goals as goal

pub loop-number-init : goal.loop-number-init
loop-number-init c = record { bytes = refl; left = refl; fit = λ each. each }

pub loop-number-preserved : goal.loop-number-preserved
loop-number-preserved c = put_one c.args.of c.args.record_number c.in-Some.number c.args.due.now c.loop-number.due c.next_at.new.self c.args.out.now.items c.loop-number.out.items c.put_drop.new.out.items c.loop-number.invariant c.in-Some.ensures.first c.in-Some.ensures.after c.in_ok-put_drop.ensures.bytes c.in_ok-put_drop.ensures.fit
