use Rattle.blif_reader.proofs.NumberLemmas.{added_told}
use Rattle.blif_reader.proofs.names.add_name.Goals as goal

pub returns : goal.returns
returns c =
    added_told (λ key. key.now) c.args.name c.args.names.now.keys c.insert.new.self.keys c.in_ok-insert.field-0 c.in_ok-insert.ensures.added c.in_ok-insert.ensures.keys
