-- A claim's fields aren't there.
use Rattle.std.proofs.Common.{refl}
use Rattle.account_bytes.specs.Bodies.{ClaimHasPorts, claim_bytes}
use Rattle.account_bytes.specs.Fields.{ClaimFieldsFit, claim_fields_bytes, claim_fields}
use Rattle.account_bytes.specs.PrefixProofs.{claim_fits}
use Rattle.account_bytes.proofs.ReadLemmas.{passed_by}
use Rattle.account_bytes.proofs.claims.ClaimByteForm.read.Goals as goal

pub returns-in_err-side : goal.returns-in_err-side
returns-in_err-side c =
    passed_by claim_fields_bytes ClaimFieldsFit claim_bytes ClaimHasPorts claim_fields c.args.text.now c.read.new.text c.read.new.text c.read.result c.from_residual.result _ (λ x. refl) claim_fits c.in_err-side.was c.from_residual.ensures.1 c.read.ensures
