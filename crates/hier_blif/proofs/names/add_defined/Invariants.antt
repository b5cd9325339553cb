use Rattle.std.proofs.Common.{◌++◌, List, take}
use Rattle.text_core.specs.Piece.{Piece}
use Rattle.blif_reader.specs.Names.{is_redefined}
use Rattle.blif_reader.specs.Numbers.{names_of}
use Rattle.hier_blif.specs.Scopes.{HasKeys}
use Rattle.hier_blif.proofs.FindLemmas.{AreLeftToFind}
use Rattle.hier_blif.proofs.names.add_defined.Given as goal

abbrev pub invariant-loop-word : goal.invariant-loop-word
invariant-loop-word l =
    (inputs : List Piece) → HasKeys (λ word. word.bytes) inputs (names_of l.initial.names) → HasKeys (λ word. word.bytes) (inputs ++ take l.word-index l.defined) (names_of l.names) × AreLeftToFind (is_redefined inputs) l.defined l.word-index
