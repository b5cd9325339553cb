-- What the definition of lines says of their front, and of the text that they come from.
use Rattle.std.proofs.Common.{◌≡◌, ◌==◌, ℕ, suc, ◌+◌, ◌<◌, Bool, true, false, cond, not, List, [], ◌∷◌, ◌++◌, length, take, drop, Some, None, refl, ap, sym, ◌∙◌, arith, append_assoc, eqb-true}
use Rattle.std.specs.List.{All, onto_first}
use Rattle.std.proofs.lemmas.List.Elements.{All-nil, All-cons, All-head, All-tail}
use Rattle.std.proofs.lemmas.List.{nil_from_length}
use Rattle.text_core.specs.Bytes.{is_line_feed}
use Rattle.text_core.specs.Piece.{Piece, front}
use Rattle.text_core.specs.Lines.{lines, line_length, text_of_lines, first_line, after_line, IsLine}
use Rattle.text_core.proofs.EmptyTests.{filled_by_test, empty_by_test, some_by_test, none_by_test}

-- a byte that is no line feed goes onto the first line
onto_first-front : (byte : ℕ) (bytes : List ℕ) (n : ℕ) → (0 < length bytes → lines bytes ≡ take n bytes ∷ lines (drop (n + 1) bytes)) → (bytes ≡ [] → n ≡ 0) → onto_first byte (lines bytes) ≡ take (1 + n) (byte ∷ bytes) ∷ lines (drop (1 + n + 1) (byte ∷ bytes))
onto_first-front byte [] n h z = let e : n ≡ 0 = z refl in rw e refl
onto_first-front byte (b ∷ bs) n h z =
    let split = h (omega arith) in
    let one : 1 + n ≡ suc n = omega arith in
    let two : suc n + 1 ≡ suc (n + 1) = omega arith in
    rw (split, one, two) refl

-- one line comes off the front
pub lines-front : (bytes : List ℕ) → 0 < length bytes → lines bytes ≡ take (line_length bytes) bytes ∷ lines (drop (line_length bytes + 1) bytes)
lines-front [] h = absurd (omega arith)
lines-front (b ∷ bs) h =
    elim (is_line_feed b) as (λ t. cond t ([] ∷ lines bs) (onto_first b (lines bs)) ≡ take (cond (not t) (1 + line_length bs) 0) (b ∷ bs) ∷ lines (drop (cond (not t) (1 + line_length bs) 0 + 1) (b ∷ bs))) [
      | true ↦ refl
      | false ↦ onto_first-front b bs (line_length bs) (lines-front bs) (λ e. rw e refl)
    ]

pub lines-next : (p line : Piece) → first_line p ≡ Some line → lines p.bytes ≡ line.bytes ∷ lines (after_line p).bytes
lines-next p line h =
    let found = some_by_test (length p.bytes == 0) (front (line_length p.bytes) p) line h in
    lines-front p.bytes (filled_by_test p.bytes found.0) ∙ ap (λ (q : Piece). q.bytes ∷ lines (after_line p).bytes) found.1

pub lines-none : (p : Piece) → first_line p ≡ None → lines p.bytes ≡ []
lines-none p h =
    ap lines (nil_from_length p.bytes (empty_by_test p.bytes (none_by_test (length p.bytes == 0) (front (line_length p.bytes) p) h)))

-- no line has a line feed
each_by_test : (t : Bool) (b : ℕ) (parts : List (List ℕ)) → is_line_feed b ≡ t → All IsLine parts → All IsLine (cond t ([] ∷ parts) (onto_first b parts))
each_by_test true b parts e h = All-cons IsLine [] parts (All-nil (λ byte. is_line_feed byte ≡ false)) h
each_by_test false b [] e h =
    All-cons IsLine (b ∷ []) [] (All-cons (λ byte. is_line_feed byte ≡ false) b [] e (All-nil (λ byte. is_line_feed byte ≡ false))) h
each_by_test false b (part ∷ parts) e h =
    All-cons IsLine (b ∷ part) parts (All-cons (λ byte. is_line_feed byte ≡ false) b part e (All-head IsLine part parts h)) (All-tail IsLine part parts h)

pub lines-each : (text : List ℕ) → All IsLine (lines text)
lines-each [] = All-nil IsLine
lines-each (b ∷ bs) = each_by_test (is_line_feed b) b (lines bs) refl (lines-each bs)

-- a text that isn't empty has a line
filled_by_either : (t : Bool) (b : ℕ) (parts : List (List ℕ)) → 0 < length (cond t ([] ∷ parts) (onto_first b parts))
filled_by_either true b parts = omega arith
filled_by_either false b [] = omega arith
filled_by_either false b (part ∷ parts) = omega arith

lines-filled : (text : List ℕ) (last : ℕ) → 0 < length (lines (text ++ last ∷ []))
lines-filled [] last = filled_by_either (is_line_feed last) last []
lines-filled (b ∷ bs) last = filled_by_either (is_line_feed b) b (lines (bs ++ last ∷ []))

-- a text that ends with a line feed is its lines, each with a line feed
joined_by_test : (t : Bool) (b : ℕ) (parts : List (List ℕ)) → is_line_feed b ≡ t → 0 < length parts → text_of_lines (cond t ([] ∷ parts) (onto_first b parts)) ≡ b ∷ text_of_lines parts
joined_by_test true b parts e some = ap (λ byte. byte ∷ text_of_lines parts) (sym (eqb-true b 10 e))
joined_by_test false b [] e some = absurd (omega arith)
joined_by_test false b (part ∷ parts) e some = refl

pub text_of_lines-lines : (text : List ℕ) → text_of_lines (lines (text ++ 10 ∷ [])) ≡ text ++ 10 ∷ []
text_of_lines-lines [] = refl
text_of_lines-lines (b ∷ bs) =
    joined_by_test (is_line_feed b) b (lines (bs ++ 10 ∷ [])) refl (lines-filled bs 10) ∙ ap (λ bytes. b ∷ bytes) (text_of_lines-lines bs)

-- a line and its line feed, whatever follows
lines-line : (line rest : List ℕ) → IsLine line → lines ((line ++ 10 ∷ []) ++ rest) ≡ line ∷ lines rest
lines-line [] rest h = refl
lines-line (b ∷ bs) rest h =
    let no = All-head (λ byte. is_line_feed byte ≡ false) b bs h in
    let tail = lines-line bs rest (All-tail (λ byte. is_line_feed byte ≡ false) b bs h) in
    ap (λ t. cond t ([] ∷ lines ((bs ++ 10 ∷ []) ++ rest)) (onto_first b (lines ((bs ++ 10 ∷ []) ++ rest)))) no ∙ ap (onto_first b) tail

-- a last line with no line feed
pub lines-last : (line : List ℕ) → IsLine line → 0 < length line → lines line ≡ line ∷ []
lines-last [] h some = absurd (omega arith)
lines-last (b ∷ []) h some =
    ap (λ t. cond t ([] ∷ []) ((b ∷ []) ∷ [])) (All-head (λ byte. is_line_feed byte ≡ false) b [] h)
lines-last (b ∷ x ∷ bs) h some =
    let no = All-head (λ byte. is_line_feed byte ≡ false) b (x ∷ bs) h in
    let tail = lines-last (x ∷ bs) (All-tail (λ byte. is_line_feed byte ≡ false) b (x ∷ bs) h) (omega arith) in
    ap (λ t. cond t ([] ∷ lines (x ∷ bs)) (onto_first b (lines (x ∷ bs)))) no ∙ ap (onto_first b) tail

-- lines come back from their text, whatever follows
pub lines-text_of_lines : (parts : List (List ℕ)) (rest : List ℕ) → All IsLine parts → lines (text_of_lines parts ++ rest) ≡ parts ++ lines rest
lines-text_of_lines [] rest h = refl
lines-text_of_lines (line ∷ parts) rest h =
    ap lines (append_assoc (line ++ 10 ∷ []) (text_of_lines parts) rest)
    ∙ (lines-line line (text_of_lines parts ++ rest) (All-head IsLine line parts h)
    ∙ ap (λ more. line ∷ more) (lines-text_of_lines parts rest (All-tail IsLine line parts h)))
