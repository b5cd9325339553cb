-- The whole lines of a text: from its first line, as it goes on, and with what stands after them.
use Rattle.std.proofs.Common.{◌≡◌, ℕ, suc, ◌-◌, ◌<◌, ◌≤◌, Bool, true, false, cond, List, [], ◌∷◌, ◌++◌, length, get_or, take, refl, sym, ap, ◌∙◌, arith, append-nil, length-append, length-take, get_or-take}
use Rattle.std.proofs.Math.Seq.{take-append-add}
use Rattle.std.specs.List.{join_with_byte, onto_first, before_first, after_first, position_or_len}
use Rattle.std.proofs.lemmas.Bool.Decides.{nat_tests}
use Rattle.std.proofs.lemmas.List.Splits.{join_with_byte-slice_split, slice_split_at, slice_split_none, length-slice_split}
use Rattle.std.proofs.lemmas.List.Sums.{split_at_first, passes_at_first, fails_before_first}
use Rattle.text_core.specs.Bytes.{is_line_feed}
use Rattle.text_core.specs.Lines.{IsLine}
use Rattle.account_file.specs.Lines.{pieces_of, whole_lines, after_lines}

more_pieces : (piece : List ℕ) (pieces : List (List ℕ)) → 0 < length pieces → take (length (piece ∷ pieces) - 1) (piece ∷ pieces) ≡ piece ∷ take (length pieces - 1) pieces
more_pieces piece [] some = absurd (omega (arith, some))
more_pieces piece (next ∷ pieces) some =
    let long : suc (suc (length pieces)) - 1 ≡ suc (length pieces) = omega arith in
    let short : suc (length pieces) - 1 ≡ length pieces = omega arith in
    ap (λ n. take n (piece ∷ next ∷ pieces)) long ∙ ap (λ n. piece ∷ take n (next ∷ pieces)) (sym short)

last_piece : (piece : List ℕ) (pieces : List (List ℕ)) → 0 < length pieces → get_or (piece ∷ pieces) (length (piece ∷ pieces) - 1) [] ≡ get_or pieces (length pieces - 1) []
last_piece piece [] some = absurd (omega (arith, some))
last_piece piece (next ∷ pieces) some =
    let long : suc (suc (length pieces)) - 1 ≡ suc (length pieces) = omega arith in
    let short : suc (length pieces) - 1 ≡ length pieces = omega arith in
    ap (λ n. get_or (piece ∷ next ∷ pieces) n []) long ∙ ap (λ n. get_or (next ∷ pieces) n []) (sym short)

some_piece : (bytes : List ℕ) → 0 < length (pieces_of bytes)
some_piece bytes = omega (arith, length-slice_split is_line_feed bytes)

-- a line and its line feed in front
pub lines_first : (line more : List ℕ) → IsLine line → whole_lines (line ++ 10 ∷ more) ≡ line ∷ whole_lines more
lines_first line more h =
    ap (λ pieces. take (length pieces - 1) pieces) (slice_split_at is_line_feed line 10 more h refl) ∙ more_pieces line (pieces_of more) (some_piece more)

pub after_first_line : (line more : List ℕ) → IsLine line → after_lines (line ++ 10 ∷ more) ≡ after_lines more
after_first_line line more h =
    ap (λ pieces. get_or pieces (length pieces - 1) []) (slice_split_at is_line_feed line 10 more h refl) ∙ last_piece line (pieces_of more) (some_piece more)

-- no line feed
pub lines_none : (left : List ℕ) → IsLine left → whole_lines left ≡ []
lines_none left h = ap (λ pieces. take (length pieces - 1) pieces) (slice_split_none is_line_feed left h)

pub after_none : (left : List ℕ) → IsLine left → after_lines left ≡ left
after_none left h = ap (λ pieces. get_or pieces (length pieces - 1) []) (slice_split_none is_line_feed left h)

-- by the first line feed
same_byte : (byte : ℕ) → is_line_feed byte ≡ true → byte ≡ 10
same_byte byte e = grind (arith, nat_tests, e)

pub cut_first : (left : List ℕ) → position_or_len is_line_feed left < length left → left ≡ before_first is_line_feed left ++ 10 ∷ after_first is_line_feed left
cut_first left below =
    split_at_first is_line_feed left 0 below
    ∙ ap (λ byte. before_first is_line_feed left ++ byte ∷ after_first is_line_feed left) (same_byte (get_or left (position_or_len is_line_feed left) 0) (passes_at_first is_line_feed left 0 below))

pub before_first_is_line : (left : List ℕ) → IsLine (before_first is_line_feed left)
before_first_is_line left = λ k d below.
    let n = position_or_len is_line_feed left in
    let before : k < n = omega (arith, below, length-take n left) in
    ap is_line_feed (get_or-take n left k d before) ∙ fails_before_first is_line_feed left k d before

pub no_line_feed_is_line : (left : List ℕ) → length left ≤ position_or_len is_line_feed left → IsLine left
no_line_feed_is_line left none = λ k d below. fails_before_first is_line_feed left k d (omega (arith, below, none))

-- The pieces of a text, and of one that goes on from it: all but the last stay.
record GoOn (pieces more : List (List ℕ)) : Type 0 where
  pub front : List (List ℕ)
  pub last : List ℕ
  pub next : List ℕ
  pub others : List (List ℕ)
  pub pieces_are : pieces ≡ front ++ last ∷ []
  pub more_are : more ≡ front ++ next ∷ others

onto : (byte : ℕ) (pieces more front : List (List ℕ)) (last next : List ℕ) (others : List (List ℕ)) → pieces ≡ front ++ last ∷ [] → more ≡ front ++ next ∷ others
    → GoOn (onto_first byte pieces) (onto_first byte more)
onto byte pieces more [] last next others p m = record {
  front = [];
  last = byte ∷ last;
  next = byte ∷ next;
  others = others;
  pieces_are = ap (onto_first byte) p;
  more_are = ap (onto_first byte) m;
}
onto byte pieces more (line ∷ front) last next others p m = record {
  front = (byte ∷ line) ∷ front;
  last = last;
  next = next;
  others = others;
  pieces_are = ap (onto_first byte) p;
  more_are = ap (onto_first byte) m;
}

begun : (pieces : List (List ℕ)) → 0 < length pieces → GoOn ([] ∷ []) pieces
begun [] some = absurd (omega (arith, some))
begun (next ∷ others) some = record { front = []; last = []; next = next; others = others; pieces_are = refl; more_are = refl }

goes_on : (bytes piece : List ℕ) → GoOn (pieces_of bytes) (pieces_of (bytes ++ piece))
goes_on [] piece = begun (pieces_of piece) (some_piece piece)
goes_on (byte ∷ bytes) piece = by (is_line_feed byte) (goes_on bytes piece)
  where
    by : (b : Bool) → GoOn (pieces_of bytes) (pieces_of (bytes ++ piece))
        → GoOn (cond b ([] ∷ pieces_of bytes) (onto_first byte (pieces_of bytes))) (cond b ([] ∷ pieces_of (bytes ++ piece)) (onto_first byte (pieces_of (bytes ++ piece))))
    by true rest = record {
      front = [] ∷ rest.front;
      last = rest.last;
      next = rest.next;
      others = rest.others;
      pieces_are = ap (λ ps. [] ∷ ps) rest.pieces_are;
      more_are = ap (λ ps. [] ∷ ps) rest.more_are;
    }
    by false rest = onto byte (pieces_of bytes) (pieces_of (bytes ++ piece)) rest.front rest.last rest.next rest.others rest.pieces_are rest.more_are

front_taken : (front : List (List ℕ)) (next : List ℕ) (others : List (List ℕ)) → take (length (front ++ next ∷ others) - 1) (front ++ next ∷ others) ≡ front ++ take (length others) (next ∷ others)
front_taken front next others =
    ap (λ n. take n (front ++ next ∷ others)) (omega (arith, length-append front (next ∷ others))) ∙ take-append-add front (next ∷ others) (length others)

-- the whole lines of a text stay where it goes on
pub lines_stay : (bytes piece : List ℕ) → (more : List (List ℕ)) × (whole_lines (bytes ++ piece) ≡ whole_lines bytes ++ more)
lines_stay bytes piece =
    let on = goes_on bytes piece in
    let all : List (List ℕ) → List (List ℕ) = λ pieces. take (length pieces - 1) pieces in
    let few = ap all on.pieces_are ∙ front_taken on.front on.last [] ∙ append-nil on.front in
    let many = ap all on.more_are ∙ front_taken on.front on.next on.others in
    (take (length on.others) (on.next ∷ on.others), many ∙ ap (λ l. l ++ take (length on.others) (on.next ∷ on.others)) (sym few))

-- a text by its whole lines and what stands after them

last_apart : (pieces : List (List ℕ)) → 0 < length pieces → take (length pieces - 1) pieces ++ get_or pieces (length pieces - 1) [] ∷ [] ≡ pieces
last_apart [] some = absurd (omega (arith, some))
last_apart (piece ∷ []) some = refl
last_apart (piece ∷ next ∷ pieces) some =
    let long : suc (suc (length pieces)) - 1 ≡ suc (length pieces) = omega arith in
    let short : suc (length pieces) - 1 ≡ length pieces = omega arith in
    ap (λ n. take n (piece ∷ next ∷ pieces) ++ get_or (piece ∷ next ∷ pieces) n [] ∷ []) long
    ∙ ap (λ l. piece ∷ l) (ap (λ n. take n (next ∷ pieces) ++ get_or (next ∷ pieces) n [] ∷ []) (sym short) ∙ last_apart (next ∷ pieces) (omega arith))

pub text_of : (bytes : List ℕ) → bytes ≡ join_with_byte 10 (whole_lines bytes ++ after_lines bytes ∷ [])
text_of bytes = sym (join_with_byte-slice_split 10 bytes) ∙ ap (join_with_byte 10) (sym (last_apart (pieces_of bytes) (omega (arith, length-slice_split is_line_feed bytes))))
