-- The fields of a claim of two inputs aren't there.
use Rattle.std.proofs.Common.{sym, subst}
use Rattle.account_bytes.specs.Bodies.{ShapeHasPorts, shape_fields, shape_tag}
use Rattle.account_bytes.specs.Fields.{SwapFieldsFit, swap_fields_bytes}
use Rattle.account_bytes.proofs.StepLemmas.{swap_none}
use Rattle.account_bytes.specs.Reading.{OfTag, Reads}
use Rattle.account_bytes.proofs.ReadLemmas.{passed}
use Rattle.account_bytes.proofs.claims.read_shape.Goals as goal

pub returns-in_err-i-in-2 : goal.returns-in_err-i-in-2
returns-in_err-i-in-2 c =
    subst (λ t. Reads shape_fields (OfTag shape_tag ShapeHasPorts t) c.args.text.now c.from_residual-in_err-i-in-2.result c.read-in-2.new.text) (sym c.in-2.is)
    (passed swap_fields_bytes SwapFieldsFit shape_fields (OfTag shape_tag ShapeHasPorts 2) c.args.text.now c.read-in-2.new.text c.args.text.now c.read-in-2.new.text c.read-in-2.result c.from_residual-in_err-i-in-2.result _ c.in_err-i-in-2.was c.from_residual-in_err-i-in-2.ensures.1 c.read-in-2.ensures (swap_none c.args.text.now))
