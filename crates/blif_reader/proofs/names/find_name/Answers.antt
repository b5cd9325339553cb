use Rattle.std.specs.Str.{bytes_eq}
use Rattle.blif_reader.proofs.NumberLemmas.{number_told}
use Rattle.blif_reader.proofs.names.find_name.Goals as goal

pub returns : goal.returns
returns c =
    number_told (bytes_eq c.args.name.now) (λ key. key.now) c.args.names.now.keys c.get_index_of.result c.get_index_of.ensures.index
