use Rattle.std.proofs.Common.{◌≡◌, Bool, not}
use Rattle.std.specs.List.{list_any}
use Rattle.std.specs.Str.{bytes_eq}
use Rattle.text_core.specs.Piece.{Piece}
use Rattle.blif_reader.specs.Numbers.{names_of}
use Rattle.hier_blif.specs.declared.fault.HierKind.TheVariants as wrong
use Rattle.hier_blif.proofs.FindLemmas.{AreLeft, wrong_word}
use Rattle.hier_blif.proofs.names.check_known.Given as goal

-- by any such test the faults are among the words that are left
abbrev pub invariant-loop-word : goal.invariant-loop-word
invariant-loop-word l =
    (test : Piece → Bool) → ((word : Piece) → test word ≡ not (list_any (bytes_eq word.bytes) (names_of l.names))) → AreLeft (wrong_word wrong.Undefined test) l.read l.word-index
