-- The second of two values isn't there.
use Rattle.byte_form.specs.Codes.{BothFit, both_bytes}
use Rattle.account_bytes.proofs.ReadLemmas.{passed, second_of_both}
use Rattle.account_bytes.proofs.form.Tuple2ByteForm.read.Goals as goal

pub returns-in_err-second : goal.returns-in_err-second
returns-in_err-second g c =
    let a = g.A.ByteForm.bytes in
    let FitsA = g.A.ByteForm.fits in
    let b = g.B.ByteForm.bytes in
    let FitsB = g.B.ByteForm.fits in
    let old = c.args.text.now in
    let mid = c.read.new.text in
    passed b FitsB (both_bytes a b) (BothFit FitsA FitsB) mid c.read-2.new.text old c.read-2.new.text c.read-2.result c.from_residual-in_err-second.result _ c.in_err-second.was c.from_residual-in_err-second.ensures.1 c.read-2.ensures (second_of_both a FitsA b FitsB old mid c.in_ok-first.first g.met.A.ByteForm.code c.in_ok-first.ensures)
