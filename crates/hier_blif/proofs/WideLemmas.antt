-- Where no line is refused, the rows of each cover are as wide as its operands.
use Rattle.std.proofs.Common.{◌≡◌, ◌&&◌, Bool, true, false, not, cond, List, [], ◌∷◌, ◌++◌, length, All, Option, None, Some, refl, ap, sym, subst, ◌∙◌, arith, append_assoc}
use Rattle.std.specs.Prelude.{is_some, option_map}
use Rattle.std.specs.List.{flat_map}
use Rattle.std.proofs.lemmas.List.{length-append, length-map}
use Rattle.std.proofs.lemmas.Grind.{flat_map-append}
use Rattle.std.proofs.lemmas.List.Elements.{All-nil, All-cons, All-append, All-map, All-weaker}
use Rattle.text_core.specs.Piece.{Piece}
use Rattle.blif_reader.specs.declared.directive.Directive.{Directive}
use Rattle.blif_reader.specs.declared.directive.Directive.TheVariants.{Names, Row}
use Rattle.blif_reader.specs.JoinedLines.{word_of}
use Rattle.blif_reader.specs.Directives.{directive_of, is_row, is_names, is_model}
use Rattle.blif_reader.specs.Rows.{operand_count, literal_bytes, has_widths, opening, row_fault, rows_of}
use Rattle.blif_reader.specs.Names.{operands}
use Rattle.blif_reader.specs.Covers.{trit_of, trits_of}
use Rattle.blif_reader.proofs.FirstLemmas.{found-seam}
use Rattle.blif_reader.proofs.BuildingLemmas.{no_rows, one_row}
use Rattle.blif_reader.proofs.ClosedLemmas.{by_tests, row_kind, opening-row, opening-line, HasWidths, literal_widths, length-operands}
use Rattle.net_file.specs.declared.fault.NetKind.{NetKind}
use Rattle.hier_blif.specs.declared.fault.HierFault.{HierFault}
use Rattle.hier_blif.specs.declared.fault.HierKind.TheVariants as wrong
use Rattle.hier_blif.specs.declared.model.BlifModel.{BlifModel}
use Rattle.hier_blif.specs.Kinds.{kind_of_row}
use Rattle.hier_blif.specs.Models.{cover_line, model_line, model_lines, body, begun_by, named_models, has_front, front_model, models_of}
use Rattle.hier_blif.specs.LineFaults.{fault_at, is_ended, is_taken, fault_by_directive, line_fault, is_faulty, AreSound}
use Rattle.hier_blif.specs.Names.{covers_on}
use Rattle.hier_blif.specs.Widths.{IsWide, HasWideCovers}
use Rattle.hier_blif.proofs.ModelLemmas.{body_on, body_end, named_skip, named_take}
use Rattle.hier_blif.proofs.ReaderLemmas.{no_row_fault, not_late}

-- a line without a fault
no_fault : (found : Option HierFault) → is_some found ≡ false → found ≡ None
no_fault None h = refl
no_fault (Some fault) h = cc h

sound_line : (pre : List (List Piece)) (line : List Piece) (rest : List (List Piece)) → AreSound (pre ++ line ∷ rest) → line_fault pre line ≡ None
sound_line pre line rest sound =
    no_fault (line_fault pre line) (sym (found-seam is_faulty pre line rest []) ∙ sound (length pre) [] (omega (arith, length-append pre (line ∷ rest))))

one_more : (pre : List (List Piece)) (line : List Piece) (rest : List (List Piece)) → AreSound (pre ++ line ∷ rest) → AreSound ((pre ++ line ∷ []) ++ rest)
one_more pre line rest sound = subst AreSound (sym (append_assoc pre (line ∷ []) rest)) sound

-- a row without a fault has the widths of the cover that is open
sound_row : (pre : List (List Piece)) (row : List Piece) → directive_of row ≡ Row → line_fault pre row ≡ None → has_widths (operand_count (opening pre)) row ≡ true
sound_row pre row k h =
    let late = fault_at wrong.Directive (word_of row 0) in
    let as_fault = λ (found : NetKind). fault_at (kind_of_row found) (word_of row 0) in
    let here : cond (is_ended pre) (Some late) (option_map as_fault (row_fault pre row)) ≡ None = ap (λ d. cond (not (is_model d) && is_ended pre) (Some late) (fault_by_directive (is_taken pre row) (row_fault pre row) row d)) (sym k) ∙ h in
    let none = no_row_fault (is_ended pre) (Some late) (row_fault pre row) as_fault here (not_late (is_ended pre) late (option_map as_fault (row_fault pre row)) here) in
    by_tests (is_names (directive_of (opening pre))) (has_widths (operand_count (opening pre)) row) _ none

-- the rows after a `.names` line have its widths
rows_by : (t : Bool) (pre : List (List Piece)) (line row : List Piece) (rest : List (List Piece)) → is_row (directive_of row) ≡ t → opening pre ≡ line → AreSound (pre ++ row ∷ rest) → (opening (pre ++ row ∷ []) ≡ line → All (HasWidths (operand_count line)) (rows_of rest)) → All (HasWidths (operand_count line)) (rows_of (row ∷ rest))
rows_by true pre line row rest e o sound tail =
    let here = sound_row pre row (row_kind (directive_of row) e) (sound_line pre row rest sound) in
    subst (All (HasWidths (operand_count line))) (sym (one_row row rest e)) (All-cons (HasWidths (operand_count line)) row (rows_of rest) (subst (λ l. has_widths (operand_count l) row ≡ true) o here) (tail (opening-row pre row e ∙ o)))
rows_by false pre line row rest e o sound tail =
    subst (All (HasWidths (operand_count line))) (sym (no_rows row rest e)) (All-nil (HasWidths (operand_count line)))

wide_rows : (rest pre : List (List Piece)) (line : List Piece) → opening pre ≡ line → AreSound (pre ++ rest) → All (HasWidths (operand_count line)) (rows_of rest)
wide_rows [] pre line o sound = All-nil (HasWidths (operand_count line))
wide_rows (row ∷ rest) pre line o sound =
    rows_by (is_row (directive_of row)) pre line row rest refl o sound (λ opened. wide_rows rest (pre ++ row ∷ []) line opened (one_more pre row rest sound))

wide_cover : (line : List Piece) (rows : List (List Piece)) → All (HasWidths (operand_count line)) rows → IsWide (cover_line line rows)
wide_cover line rows wide =
    All-map (λ row. length row ≡ length (operands line)) trits_of rows (All-weaker (HasWidths (operand_count line)) (λ row. length (trits_of row) ≡ length (operands line)) (λ row h. length-map (literal_bytes row) trit_of ∙ (literal_widths (operand_count line) row h ∙ sym (length-operands line))) rows wide)

-- the rows of a model's line are those of the text
row_in_body : (line : List Piece) (lines : List (List Piece)) → is_row (directive_of line) ≡ true → rows_of (body lines) ≡ rows_of lines → rows_of (body (line ∷ lines)) ≡ rows_of (line ∷ lines)
row_in_body line lines r same =
    let no_model : is_model (directive_of line) ≡ false = ap is_model (row_kind (directive_of line) r) in
    ap rows_of (body_on line lines no_model) ∙ (one_row line (body lines) r ∙ (ap (λ rs. line ∷ rs) same ∙ sym (one_row line lines r)))

no_row_in_body : (t : Bool) (line : List Piece) (lines : List (List Piece)) → is_model (directive_of line) ≡ t → is_row (directive_of line) ≡ false → rows_of (body (line ∷ lines)) ≡ rows_of (line ∷ lines)
no_row_in_body true line lines m r = ap rows_of (body_end line lines m) ∙ sym (no_rows line lines r)
no_row_in_body false line lines m r =
    ap rows_of (body_on line lines m) ∙ (no_rows line (body lines) r ∙ sym (no_rows line lines r))

rows_of_body_by : (t : Bool) (line : List Piece) (lines : List (List Piece)) → is_row (directive_of line) ≡ t → rows_of (body lines) ≡ rows_of lines → rows_of (body (line ∷ lines)) ≡ rows_of (line ∷ lines)
rows_of_body_by true line lines r same = row_in_body line lines r same
rows_of_body_by false line lines r same = no_row_in_body (is_model (directive_of line)) line lines refl r

rows_of_body : (lines : List (List Piece)) → rows_of (body lines) ≡ rows_of lines
rows_of_body [] = refl
rows_of_body (line ∷ lines) = rows_of_body_by (is_row (directive_of line)) line lines refl (rows_of_body lines)

-- what a line says has wide covers, and so have the lines up to the next model
line_wide : (pre : List (List Piece)) (line : List Piece) (rest : List (List Piece)) (directive : Directive) → directive_of line ≡ directive → AreSound (pre ++ line ∷ rest) → All IsWide (flat_map covers_on (model_line directive line (rows_of (body rest))))
line_wide pre line rest Names k sound =
    let wide = wide_rows rest (pre ++ line ∷ []) line (opening-line pre line (ap is_row k)) (one_more pre line rest sound) in
    All-cons IsWide (cover_line line (rows_of (body rest))) [] (wide_cover line (rows_of (body rest)) (subst (All (HasWidths (operand_count line))) (sym (rows_of_body rest)) wide)) (All-nil IsWide)
line_wide pre line rest other k sound = All-nil IsWide

lines_wide_by : (t : Bool) (pre : List (List Piece)) (line : List Piece) (rest : List (List Piece)) → is_model (directive_of line) ≡ t → AreSound (pre ++ line ∷ rest) → All IsWide (flat_map covers_on (model_lines (body rest))) → All IsWide (flat_map covers_on (model_lines (body (line ∷ rest))))
lines_wide_by true pre line rest m sound tail =
    subst (λ (ls : List (List Piece)). All IsWide (flat_map covers_on (model_lines ls))) (sym (body_end line rest m)) (All-nil IsWide)
lines_wide_by false pre line rest m sound tail =
    let here = line_wide pre line rest (directive_of line) refl sound in
    let both = All-append IsWide (flat_map covers_on (model_line (directive_of line) line (rows_of (body rest)))) (flat_map covers_on (model_lines (body rest))) here tail in
    subst (λ (ls : List (List Piece)). All IsWide (flat_map covers_on (model_lines ls))) (sym (body_on line rest m)) (subst (All IsWide) (sym (flat_map-append covers_on (model_line (directive_of line) line (rows_of (body rest))) (model_lines (body rest)))) both)

lines_wide : (rest pre : List (List Piece)) → AreSound (pre ++ rest) → All IsWide (flat_map covers_on (model_lines (body rest)))
lines_wide [] pre sound = All-nil IsWide
lines_wide (line ∷ rest) pre sound =
    lines_wide_by (is_model (directive_of line)) pre line rest refl sound (lines_wide rest (pre ++ line ∷ []) (one_more pre line rest sound))

-- all models have
named_wide_by : (t : Bool) (pre : List (List Piece)) (line : List Piece) (rest : List (List Piece)) → is_model (directive_of line) ≡ t → AreSound (pre ++ line ∷ rest) → All HasWideCovers (named_models rest) → All HasWideCovers (named_models (line ∷ rest))
named_wide_by true pre line rest m sound tail =
    subst (All HasWideCovers) (sym (named_take line rest m)) (All-cons HasWideCovers (begun_by line rest) (named_models rest) (lines_wide rest (pre ++ line ∷ []) (one_more pre line rest sound)) tail)
named_wide_by false pre line rest m sound tail = subst (All HasWideCovers) (sym (named_skip line rest m)) tail

named_wide : (rest pre : List (List Piece)) → AreSound (pre ++ rest) → All HasWideCovers (named_models rest)
named_wide [] pre sound = All-nil HasWideCovers
named_wide (line ∷ rest) pre sound =
    named_wide_by (is_model (directive_of line)) pre line rest refl sound (named_wide rest (pre ++ line ∷ []) (one_more pre line rest sound))

front_wide : (t : Bool) (front : BlifModel) (named : List BlifModel) → HasWideCovers front → All HasWideCovers named → All HasWideCovers (cond t (front ∷ named) named)
front_wide true front named one all = All-cons HasWideCovers front named one all
front_wide false front named one all = all

pub models_wide : (lines : List (List Piece)) → AreSound lines → All HasWideCovers (models_of lines)
models_wide lines sound =
    front_wide (has_front lines) (front_model lines) (named_models lines) (lines_wide lines [] sound) (named_wide lines [] sound)
