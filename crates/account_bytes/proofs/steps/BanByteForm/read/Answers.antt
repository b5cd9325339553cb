-- A ban's pairs or its step aren't there.
use Rattle.std.proofs.Common.{refl}
use Rattle.account_bytes.specs.Bodies.{BanFits, ban_bytes}
use Rattle.account_bytes.specs.Fields.{BanFieldsFit, ban_fields_bytes, ban_fields}
use Rattle.account_bytes.specs.PrefixProofs.{ban_fits}
use Rattle.account_bytes.proofs.ReadLemmas.{passed_by}
use Rattle.account_bytes.proofs.steps.BanByteForm.read.Goals as goal

pub returns-in_err-pairs : goal.returns-in_err-pairs
returns-in_err-pairs c =
    passed_by ban_fields_bytes BanFieldsFit ban_bytes BanFits ban_fields c.args.text.now c.read.new.text c.read.new.text c.read.result c.from_residual.result _ (λ x. refl) ban_fits c.in_err-pairs.was c.from_residual.ensures.1 c.read.ensures
