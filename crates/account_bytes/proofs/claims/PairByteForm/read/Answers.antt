-- A pair's fields aren't there.
use Rattle.std.proofs.Common.{refl}
use Rattle.account_bytes.specs.Bodies.{HasPorts, pair_bytes}
use Rattle.account_bytes.specs.Fields.{PairFieldsFit, pair_fields_bytes, pair_fields}
use Rattle.account_bytes.specs.PrefixProofs.{pair_fits}
use Rattle.account_bytes.proofs.ReadLemmas.{passed_by}
use Rattle.account_bytes.proofs.claims.PairByteForm.read.Goals as goal

pub returns-in_err-kind : goal.returns-in_err-kind
returns-in_err-kind c =
    passed_by pair_fields_bytes PairFieldsFit pair_bytes HasPorts pair_fields c.args.text.now c.read.new.text c.read.new.text c.read.result c.from_residual.result _ (λ x. refl) pair_fits c.in_err-kind.was c.from_residual.ensures.1 c.read.ensures
