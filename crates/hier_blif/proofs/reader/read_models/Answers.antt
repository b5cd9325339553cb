use Rattle.std.proofs.Common.{refl}
use Rattle.blif_reader.specs.Blif.{blif_lines}
use Rattle.hier_blif.proofs.ReaderLemmas.{nothing_read, all_read, all_sound}
use Rattle.hier_blif.proofs.reader.read_models.Goals as goal

pub read_lines-requires : goal.read_lines-requires
read_lines-requires c =
    let lines = blif_lines c.args.input.now in
    nothing_read lines lines _ refl c.new-reader.ensures.names c.new-reader.ensures.ended c.new-reader.ensures.in_cover c.new-reader.ensures.models c.new-reader.ensures.begun c.new-reader.ensures.current c.new-reader.ensures.cover

pub returns-clause-sound : goal.returns-clause-sound
returns-clause-sound c = all_sound (blif_lines c.args.input.now) _ c.in_ok-read_lines.ensures.read

pub returns-clause-models : goal.returns-clause-models
returns-clause-models c =
    all_read (blif_lines c.args.input.now) _ _ c.in_ok-read_lines.ensures.read c.in_ok-models.ensures
