use Rattle.std.proofs.Common.{◌≡◌, List}
use Rattle.text_core.specs.Piece.{Piece}
use Rattle.blif_reader.specs.Numbers.{AreDefined, bytes_of, names_of}
use Rattle.blif_reader.proofs.names.add_defined.Given as goal

abbrev pub invariant-loop-word : goal.invariant-loop-word
invariant-loop-word l =
    (inputs : List Piece) → names_of l.initial.names ≡ bytes_of inputs → AreDefined inputs l.defined l.word-index (names_of l.names)
