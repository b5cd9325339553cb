-- The lists of a log's line aren't there.
use Rattle.std.proofs.Common.{refl}
use Rattle.account_bytes.specs.Bodies.{LineFits, line_bytes}
use Rattle.account_bytes.specs.Fields.{LineFieldsFit, line_fields_bytes, line_fields}
use Rattle.account_bytes.specs.PrefixProofs.{line_fits}
use Rattle.account_bytes.proofs.ReadLemmas.{passed_by}
use Rattle.account_bytes.proofs.claims.LogLineByteForm.read.Goals as goal

pub returns-in_err-clause : goal.returns-in_err-clause
returns-in_err-clause c =
    passed_by line_fields_bytes LineFieldsFit line_bytes LineFits line_fields c.args.text.now c.read.new.text c.read.new.text c.read.result c.from_residual.result _ (λ x. refl) line_fits c.in_err-clause.was c.from_residual.ensures.1 c.read.ensures
