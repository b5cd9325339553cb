-- A piece of a text, and where it begins.
use Rattle.std.specs.Prelude.{◌≡◌, ℕ, ◌+◌, List, ◌++◌, length, take, drop, min, refl}
use Rattle.std.specs.Coded.{Coded, code_by, coded×, coded_ℕ, coded_list}

-- bytes that stand side by side in a text, and the offset of the first of them, counted from 0
pub record Piece : Type 0 where
  pub bytes : List ℕ
  pub at : ℕ

-- a piece is stored as the pair of its fields
abbrev pub piece_code : Coded Piece
piece_code =
    let pair = coded× (coded_list coded_ℕ) coded_ℕ in
    code_by (List ℕ × ℕ) pair (λ p. (p.bytes, p.at)) (λ q. record { bytes = q.0; at = q.1 }) (λ _. refl)

-- the first bytes of a piece, or all of it where it has fewer
abbrev pub front : ℕ → Piece → Piece
front count p = record { bytes = take count p.bytes; at = p.at }

-- what is left of a piece after its first bytes, with the offset moved on by as many as it had
abbrev pub past : ℕ → Piece → Piece
past count p = record { bytes = drop count p.bytes; at = p.at + min count (length p.bytes) }

-- the piece stands in this text, at its offset
pub record StandsIn (text : List ℕ) (p : Piece) : Type 0 where
  pub before : List ℕ
  pub after : List ℕ
  pub whole : text ≡ before ++ (p.bytes ++ after)
  pub offset : length before ≡ p.at
