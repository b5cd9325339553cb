-- From one line of a file to the next.
use Rattle.std.proofs.Common.{◌≡◌, ℕ, ◌+◌, ◌<◌, ◌≤◌, min, List, [], ◌∷◌, ◌++◌, length, length-append, length-take, length-drop, take, drop, get_or, not, refl, sym, ap, subst, ◌∙◌, arith}
use Rattle.std.proofs.lemmas.Grind.{flat_map-append, get_or_after_one}
use Rattle.std.proofs.lemmas.List.{get_or-drop, drop-drop, drop_min, drop_more, take_more}
use Rattle.std.proofs.lemmas.List.Sums.{prefix_len-le-length}
use Rattle.text_core.specs.Bytes.{is_line_feed}
use Rattle.text_core.specs.Piece.{Piece}
use Rattle.text_core.specs.Lines.{lines, line_length, text_of_lines, after_line}
use Rattle.text_core.proofs.LineLemmas.{lines-front}
use Rattle.aiger_reader.specs.Bodies.{body_lines, line_offset}
use Rattle.aiger_reader.specs.Reading.{IsAtLine, next_line_of}

-- what stands at a place, and what after it
place_of : {X : Type 0} (k : ℕ) (xs ys : List X) (y : X) → drop k xs ≡ y ∷ ys → (k < length xs) × (get_or xs k y ∷ drop (k + 1) xs ≡ y ∷ ys)
place_of k xs ys y e =
    let h : k < length xs = omega (arith, ap length e, length-drop k xs) in
    (h, sym (drop_more xs k y h) ∙ e)

drop_next : {X : Type 0} (k : ℕ) (xs ys : List X) (y : X) → drop k xs ≡ y ∷ ys → drop (k + 1) xs ≡ ys
drop_next k xs ys y e =
    let here = (place_of k xs ys y e).1 in
    cc here

take_next : {X : Type 0} (k : ℕ) (xs ys : List X) (y : X) → drop k xs ≡ y ∷ ys → take (k + 1) xs ≡ take k xs ++ y ∷ []
take_next k xs ys y e =
    let place = place_of k xs ys y e in
    let here : get_or xs k y ≡ y = cc (place.1) in
    take_more xs k y place.0 ∙ ap (λ x. take k xs ++ x ∷ []) here

no_lines : (bytes : List ℕ) → lines bytes ≡ [] → length bytes ≡ 0
no_lines [] none = refl
no_lines (b ∷ bs) none =
    let next = lines-front (b ∷ bs) (omega arith) in
    cc next

pub length_of_lines : (done : List (List ℕ)) (line : List ℕ) → length (text_of_lines (done ++ line ∷ [])) ≡ length (text_of_lines done) + (length line + 1)
length_of_lines done line =
    omega (arith, ap length (flat_map-append (λ (l : List ℕ). l ++ 10 ∷ []) done (line ∷ [])), length-append (text_of_lines done) (text_of_lines (line ∷ [])), length-append (line ++ 10 ∷ []) [], length-append line (10 ∷ []))

offset-next : (bytes : List ℕ) (k : ℕ) (line : List ℕ) (rest : List (List ℕ)) → drop k (lines bytes) ≡ line ∷ rest → line_offset bytes (k + 1) ≡ line_offset bytes k + (length line + 1)
offset-next bytes k line rest e =
    ap (λ ls. length (text_of_lines ls)) (take_next k (lines bytes) rest line e) ∙ length_of_lines (take k (lines bytes)) line

-- after the next line
pub place_more : (bytes : List ℕ) (k : ℕ) (p : Piece) → 0 < length p.bytes → IsAtLine bytes k p → IsAtLine bytes (k + 1) (after_line p)
place_more bytes k p some at =
    let count = line_length p.bytes in
    let next : drop k (lines bytes) ≡ take count p.bytes ∷ lines (drop (count + 1) p.bytes) = sym at.left ∙ lines-front p.bytes some in
    let moved = min (count + 1) (length p.bytes) in
    record {
      left = sym (drop_next k (lines bytes) (lines (drop (count + 1) p.bytes)) (take count p.bytes) next);
      rest = sym (drop_min (count + 1) p.bytes) ∙ (ap (drop moved) at.rest ∙ drop-drop moved p.at bytes);
      offset = omega (arith, at.offset, offset-next bytes k (take count p.bytes) (lines (drop (count + 1) p.bytes)) next, length-take count p.bytes, prefix_len-le-length (λ (b : ℕ). not (is_line_feed b)) p.bytes, ap length at.rest, length-drop p.at bytes);
    }

-- the first line of what is left is the body's line
pub next_is : (bytes : List ℕ) (k : ℕ) (p : Piece) → IsAtLine bytes (k + 1) p → get_or (body_lines bytes) k [] ≡ next_line_of p
next_is bytes k p at =
    let e : 1 + k ≡ k + 1 + 0 = omega arith in
    get_or_after_one (lines bytes) k []
    ∙ (ap (λ n. get_or (lines bytes) n []) e ∙ (sym (get_or-drop (k + 1) (lines bytes) 0 []) ∙ ap (λ (ls : List (List ℕ)). get_or ls 0 []) (sym at.left)))

-- where something is left, it begins with a line of the body, at its offset
pub there : (bytes : List ℕ) (k : ℕ) (p : Piece) → 0 < length p.bytes → IsAtLine bytes (k + 1) p → k < length (body_lines bytes)
there bytes k p some at =
    let next = sym at.left ∙ lines-front p.bytes some in
    omega (arith, ap length next, length-drop (k + 1) (lines bytes), length-drop 1 (lines bytes))

pub offset_is : (bytes : List ℕ) (k : ℕ) (p : Piece) → 0 < length p.bytes → IsAtLine bytes k p → p.at ≡ line_offset bytes k
offset_is bytes k p some at =
    omega (arith, at.offset, ap length at.rest, length-drop p.at bytes)

-- where nothing is left, that was the last line, and the end
pub body_ends : (bytes : List ℕ) (k : ℕ) (p : Piece) → lines p.bytes ≡ [] → k ≤ length (body_lines bytes) → IsAtLine bytes (k + 1) p → length (body_lines bytes) ≡ k
body_ends bytes k p none there at =
    omega (arith, ap length (sym at.left ∙ none), length-drop (k + 1) (lines bytes), length-drop 1 (lines bytes))

pub file_ends : (bytes : List ℕ) (k : ℕ) (p : Piece) → lines p.bytes ≡ [] → IsAtLine bytes k p → p.at ≡ length bytes
file_ends bytes k p none at =
    omega (arith, at.offset, ap length at.rest, length-drop p.at bytes, no_lines p.bytes none)

-- a file is at its first line, and after that at the second
pub place_first : (bytes : List ℕ) (p : Piece) → p ≡ record { bytes = bytes; at = 0 } → IsAtLine bytes 1 (after_line p)
place_first [] p is =
    subst (λ q. IsAtLine [] 1 (after_line q)) (sym is) (record { left = refl; rest = refl; offset = omega arith })
place_first (b ∷ bs) p is =
    let start : Piece = record { bytes = b ∷ bs; at = 0 } in
    subst (λ q. IsAtLine (b ∷ bs) 1 (after_line q)) (sym is) (place_more (b ∷ bs) 0 start (omega arith) (record { left = refl; rest = refl; offset = omega arith }))

some_bytes : (bytes : List ℕ) → 0 < length (lines bytes) → 0 < length bytes
some_bytes [] some = absurd (omega arith)
some_bytes (b ∷ bs) some = omega arith

-- before the end something is left
pub some_left : (bytes : List ℕ) (k : ℕ) (p : Piece) → IsAtLine bytes k p → k < length (lines bytes) → 0 < length p.bytes
some_left bytes k p at below =
    some_bytes p.bytes (omega (arith, ap length at.left, length-drop k (lines bytes)))
