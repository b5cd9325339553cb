-- Pieces of a text stand in it.
use Rattle.std.proofs.Common.{ℕ, List, ◌++◌, take, drop, ap, sym, ◌∙◌, arith, append_assoc, length-append, length-take}
use Rattle.std.proofs.lemmas.List.{take-append-drop}
use Rattle.text_core.specs.Piece.{Piece, front, past, StandsIn}

pub StandsIn-front : (text : List ℕ) (count : ℕ) (p : Piece) → StandsIn text p → StandsIn text (front count p)
StandsIn-front text count p h =
    record {
      before = h.before;
      after = drop count p.bytes ++ h.after;
      whole = h.whole ∙ ap (λ bytes. h.before ++ bytes) (ap (λ bytes. bytes ++ h.after) (sym (take-append-drop count p.bytes)) ∙ append_assoc (take count p.bytes) (drop count p.bytes) h.after);
      offset = h.offset;
    }

pub StandsIn-past : (text : List ℕ) (count : ℕ) (p : Piece) → StandsIn text p → StandsIn text (past count p)
StandsIn-past text count p h =
    record {
      before = h.before ++ take count p.bytes;
      after = h.after;
      whole = h.whole ∙ (ap (λ bytes. h.before ++ bytes) (ap (λ bytes. bytes ++ h.after) (sym (take-append-drop count p.bytes)) ∙ append_assoc (take count p.bytes) (drop count p.bytes) h.after) ∙ sym (append_assoc h.before (take count p.bytes) (drop count p.bytes ++ h.after)));
      offset = omega (arith, h.offset, length-append h.before (take count p.bytes), length-take count p.bytes);
    }
