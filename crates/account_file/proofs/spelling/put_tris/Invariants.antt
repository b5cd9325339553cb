use Rattle.std.proofs.Common.{◌≡◌, ◌∷◌, ◌++◌, map, drop}
use Rattle.account_file.specs.Spelling.{tri_digit, tris_word}
use Rattle.account_file.proofs.spelling.put_tris.Given as goal

abbrev pub invariant-loop-tri : goal.invariant-loop-tri
invariant-loop-tri l = l.out.items ++ map tri_digit (drop l.tri-index l.tris) ≡ l.fn.out.items ++ 32 ∷ tris_word l.tris
