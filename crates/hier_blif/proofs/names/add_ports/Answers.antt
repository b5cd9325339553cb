use Rattle.std.proofs.Common.{ap, ◌∷◌, ◌∙◌, ◌++◌, []}
use Rattle.text_core.specs.Piece.{Piece}
use Rattle.blif_reader.specs.declared.survey.PortWord.{PortWord}
use Rattle.circuits.specs.declared.port.PortKind.{PortKind}
use Rattle.hier_blif.proofs.PushLemmas.{map_more, map_all}
use Rattle.hier_blif.proofs.names.add_ports.Goals as goal

abbrev port_of : PortKind → Piece → PortWord
port_of kind word = record { kind = kind; word = word }

pub loop-word-preserved : goal.loop-word-preserved
loop-word-preserved c =
    let kind = c.args.kind in
    map_more (port_of kind) c.args.ports.now.items c.args.words.now c.loop-word.word-index c.word-item.result c.loop-word.ports.items _ c.loop-word-test.true c.word-item.is c.loop-word.invariant (c.in_ok-push.ensures.items ∙ ap (λ w. c.loop-word.ports.items ++ port_of kind w ∷ []) c.copy_word.ensures)

pub returns : goal.returns
returns c = map_all (port_of c.args.kind) c.args.ports.now.items c.args.words.now c.loop-word.word-index _ c.loop-word-test.false c.loop-word.invariant
