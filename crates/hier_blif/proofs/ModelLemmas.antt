-- For `reader`: what the models of a text are, one line after the other.
use Rattle.std.proofs.Common.{◌≡◌, ◌==◌, ◌&&◌, ◌||◌, Bool, true, false, not, cond, List, [], ◌∷◌, ◌++◌, map, Option, None, Some, refl, ap, sym, ◌∙◌, append_assoc}
use Rattle.std.specs.List.{list_all}
use Rattle.std.proofs.Math.Bool.{and_assoc, and-true}
use Rattle.std.proofs.lemmas.List.{append-nil}
use Rattle.std.proofs.lemmas.List.Sums.{take_while-cons}
use Rattle.text_core.specs.Piece.{Piece}
use Rattle.circuits.specs.declared.definition.Trit.{Trit}
use Rattle.blif_reader.specs.declared.directive.Directive.{Directive}
use Rattle.blif_reader.specs.declared.directive.Directive.TheVariants.{Model, Inputs, Outputs, Names, Subckt, PassedOver, Row}
use Rattle.blif_reader.specs.Directives.{directive_of, is_model, is_row, is_passed_over}
use Rattle.blif_reader.specs.Rows.{output_byte, rows_of}
use Rattle.blif_reader.specs.Covers.{trits_of, are_on}
use Rattle.blif_reader.specs.Faults.{has_line}
use Rattle.blif_reader.proofs.BuildingLemmas.{no_rows, one_row}
use Rattle.hier_blif.specs.declared.model.CoverLine.{CoverLine}
use Rattle.hier_blif.specs.declared.model.ModelLine.{ModelLine}
use Rattle.hier_blif.specs.declared.model.ModelLine.TheVariants as says
use Rattle.hier_blif.specs.declared.model.BlifModel.{BlifModel}
use Rattle.hier_blif.specs.Models.{model_line, model_lines, body, begun_by, named_models, no_name, empty_model, has_front, front_model, models_of}
use Rattle.hier_blif.specs.Reading.{closed, with_row, with_rows, with_lines, open_after, added_by, current_after, ended_by, continued, models_from}

-- the lines of a model go on up to the next `.model` line
pub body_on : (line : List Piece) (left : List (List Piece)) → is_model (directive_of line) ≡ false → body (line ∷ left) ≡ line ∷ body left
body_on line left h =
    take_while-cons (λ l. not (is_model (directive_of l))) line left ∙ ap (λ t. cond (not t) (line ∷ body left) []) h

pub body_end : (line : List Piece) (left : List (List Piece)) → is_model (directive_of line) ≡ true → body (line ∷ left) ≡ []
body_end line left h =
    take_while-cons (λ l. not (is_model (directive_of l))) line left ∙ ap (λ t. cond (not t) (line ∷ body left) []) h

pub named_skip : (line : List Piece) (left : List (List Piece)) → is_model (directive_of line) ≡ false → named_models (line ∷ left) ≡ named_models left
named_skip line left h = ap (λ t. cond t (begun_by line left ∷ named_models left) (named_models left)) h

pub named_take : (line : List Piece) (left : List (List Piece)) → is_model (directive_of line) ≡ true → named_models (line ∷ left) ≡ begun_by line left ∷ named_models left
named_take line left h = ap (λ t. cond t (begun_by line left ∷ named_models left) (named_models left)) h

-- a line that is this directive
pub lines_as : (line : List Piece) (left : List (List Piece)) (directive : Directive) → directive_of line ≡ directive → model_lines (line ∷ left) ≡ model_line directive line (rows_of left) ++ model_lines left
lines_as line left directive k = ap (λ d. model_line d line (rows_of left) ++ model_lines left) k

abbrev cover_as : CoverLine → List (List Trit) → Bool → CoverLine
cover_as cover rows on = record {
  at = cover.at;
  operands = cover.operands;
  defined = cover.defined;
  rows = rows;
  on = on;
}

-- no row more
with_no_rows : (cover : CoverLine) (rows : List (List Piece)) → rows ≡ [] → with_rows cover rows ≡ cover
with_no_rows cover rows h =
    ap (with_rows cover) h
    ∙ (ap (λ rs. cover_as cover rs (cover.on && true)) (append-nil cover.rows) ∙ ap (cover_as cover cover.rows) (and-true cover.on))

-- a line that is no row closes the cover
closing : (cover : Option CoverLine) (line : List Piece) (left : List (List Piece)) → is_row (directive_of line) ≡ false → continued cover (line ∷ left) ≡ closed cover ++ model_lines (line ∷ left)
closing None line left h = refl
closing (Some cover) line left h =
    ap (λ c. says.Cover c ∷ model_lines (line ∷ left)) (with_no_rows cover (rows_of (line ∷ left)) (no_rows line left h))

-- a row goes on with the cover
row_on : (cover : Option CoverLine) (line : List Piece) (left : List (List Piece)) → directive_of line ≡ Row → continued (with_row cover line) left ≡ continued cover (line ∷ left)
row_on None line left k = sym (lines_as line left Row k)
row_on (Some cover) line left k =
    let more = rows_of left in
    let rows = append_assoc cover.rows (trits_of line ∷ []) (map trits_of more) in
    let on = and_assoc cover.on (output_byte line == 49) (are_on more) in
    ap (λ rs. says.Cover (cover_as cover rs ((cover.on && (output_byte line == 49)) && are_on more)) ∷ model_lines left) rows
    ∙ (ap (λ t. says.Cover (cover_as cover (cover.rows ++ trits_of line ∷ map trits_of more) t) ∷ model_lines left) on
    ∙ (ap (λ (rs : List (List Piece)). says.Cover (with_rows cover rs) ∷ model_lines left) (sym (one_row line left (ap is_row k)))
    ∙ ap (λ ls. says.Cover (with_rows cover (rows_of (line ∷ left))) ∷ ls) (sym (lines_as line left Row k))))

-- another line says what it says, after the cover that it closes
other_on : (cover : Option CoverLine) (line : List Piece) (left : List (List Piece)) (directive : Directive) → directive_of line ≡ directive → is_row directive ≡ false → (closed cover ++ model_line directive line (rows_of left)) ++ model_lines left ≡ continued cover (line ∷ left)
other_on cover line left directive k r =
    append_assoc (closed cover) (model_line directive line (rows_of left)) (model_lines left)
    ∙ (ap (λ ls. closed cover ++ ls) (sym (lines_as line left directive k)) ∙ sym (closing cover line left (ap is_row k ∙ r)))

-- and one that says nothing
silent_on : (cover : Option CoverLine) (line : List Piece) (left : List (List Piece)) (directive : Directive) → directive_of line ≡ directive → is_row directive ≡ false → model_line directive line (rows_of left) ≡ [] → closed cover ++ model_lines left ≡ continued cover (line ∷ left)
silent_on cover line left directive k r n =
    ap (λ ls. closed cover ++ (ls ++ model_lines left)) (sym n)
    ∙ (ap (λ ls. closed cover ++ ls) (sym (lines_as line left directive k)) ∙ sym (closing cover line left (ap is_row k ∙ r)))

-- a line takes the lines of its model on
line_on : (cover : Option CoverLine) (line : List Piece) (left : List (List Piece)) (directive : Directive) → directive_of line ≡ directive → added_by cover directive line ++ continued (open_after cover directive line) left ≡ continued cover (line ∷ left)
line_on cover line left Row k = row_on cover line left k
line_on cover line left Names k =
    ap (λ ls. closed cover ++ ls) (sym (lines_as line left Names k)) ∙ sym (closing cover line left (ap is_row k))
line_on cover line left Inputs k = other_on cover line left Inputs k refl
line_on cover line left Outputs k = other_on cover line left Outputs k refl
line_on cover line left Subckt k = other_on cover line left Subckt k refl
line_on cover line left other k = silent_on cover line left other k refl refl

-- the end of a model closes the cover
pub closed_end : (cover : Option CoverLine) → continued cover [] ≡ closed cover
closed_end None = refl
closed_end (Some cover) = ap (λ c. says.Cover c ∷ []) (with_no_rows cover [] refl)

-- a model with lines more, and more after them
abbrev pub lines_as_of : BlifModel → List ModelLine → BlifModel
lines_as_of model lines = record { at = model.at; name = model.name; lines = lines }

with_more : (model : BlifModel) (one other all : List ModelLine) → one ++ other ≡ all → with_lines (with_lines model one) other ≡ with_lines model all
with_more model one other all h =
    ap (lines_as_of model) (append_assoc model.lines one other ∙ ap (λ ls. model.lines ++ ls) h)

-- no cover is closed
pub nothing_closed : (model : BlifModel) (cover : Option CoverLine) → cover ≡ None → model ≡ with_lines model (closed cover)
nothing_closed model cover none =
    sym (ap (λ c. with_lines model (closed c)) none ∙ ap (lines_as_of model) (append-nil model.lines))

-- a line that is added after the cover that is closed
pub line_added : (old mid : BlifModel) (cover : Option CoverLine) (line : ModelLine) (lines : List ModelLine) → mid ≡ with_lines old (closed cover) → lines ≡ mid.lines ++ line ∷ [] → lines_as_of mid lines ≡ with_lines old (closed cover ++ line ∷ [])
line_added old mid cover line lines closing added =
    ap (lines_as_of mid) added
    ∙ (ap (λ model. with_lines model (line ∷ [])) closing ∙ with_more old (closed cover) (line ∷ []) (closed cover ++ line ∷ []) refl)

-- where a model has begun, a line goes on with it
going_on : (current : BlifModel) (cover : Option CoverLine) (line : List Piece) (left : List (List Piece)) (directive : Directive) → directive_of line ≡ directive → is_model directive ≡ false → models_from true (with_lines current (added_by cover directive line)) (open_after cover directive line) left ≡ models_from true current cover (line ∷ left)
going_on current cover line left directive k m =
    let more = line_on cover line (body left) directive k in
    ap (λ model. model ∷ named_models left) (with_more current (added_by cover directive line) (continued (open_after cover directive line) (body left)) (continued cover (line ∷ body left)) more)
    ∙ (ap (λ (ls : List (List Piece)). with_lines current (continued cover ls) ∷ named_models left) (sym (body_on line left (ap is_model k ∙ m)))
    ∙ ap (λ ms. with_lines current (continued cover (body (line ∷ left))) ∷ ms) (sym (named_skip line left (ap is_model k ∙ m))))

-- or ends it
model_ends : (current : BlifModel) (cover : Option CoverLine) (line : List Piece) (left : List (List Piece)) → is_model (directive_of line) ≡ true → with_lines current (closed cover) ∷ begun_by line left ∷ named_models left ≡ models_from true current cover (line ∷ left)
model_ends current cover line left h =
    ap (λ ls. with_lines current ls ∷ begun_by line left ∷ named_models left) (sym (closed_end cover))
    ∙ (ap (λ (ls : List (List Piece)). with_lines current (continued cover ls) ∷ begun_by line left ∷ named_models left) (sym (body_end line left h))
    ∙ ap (λ ms. with_lines current (continued cover (body (line ∷ left))) ∷ ms) (sym (named_take line left h)))

on_begun : (current : BlifModel) (cover : Option CoverLine) (line : List Piece) (left : List (List Piece)) (directive : Directive) → directive_of line ≡ directive → ended_by true current cover directive ++ models_from true (current_after current cover directive line) (open_after cover directive line) left ≡ models_from true current cover (line ∷ left)
on_begun current cover line left Model k = model_ends current cover line left (ap is_model k)
on_begun current cover line left other k = going_on current cover line left other k refl

-- before any model a line that is passed over begins none
front_same : (line : List Piece) (left : List (List Piece)) → directive_of line ≡ PassedOver → models_of left ≡ models_of (line ∷ left)
front_same line left k =
    let on = body_on line left (ap is_model k) in
    let passed = λ (l : List Piece). is_passed_over (directive_of l) in
    let all : list_all passed (body (line ∷ left)) ≡ list_all passed (body left) = ap (list_all passed) on ∙ ap (λ d. is_passed_over d && list_all passed (body left)) k in
    let some : has_line is_model (line ∷ left) ≡ has_line is_model left = ap (λ d. is_model d || has_line is_model left) k in
    let lines : model_lines (body (line ∷ left)) ≡ model_lines (body left) = ap model_lines on ∙ lines_as line (body left) PassedOver k in
    sym (ap (λ t. cond (not t || not (has_line is_model (line ∷ left))) (front_model (line ∷ left) ∷ named_models (line ∷ left)) (named_models (line ∷ left))) all
    ∙ (ap (λ t. cond (not (list_all passed (body left)) || not t) (front_model (line ∷ left) ∷ named_models (line ∷ left)) (named_models (line ∷ left))) some
    ∙ (ap (λ ls. cond (has_front left) (lines_as_of (empty_model 0 no_name) ls ∷ named_models (line ∷ left)) (named_models (line ∷ left))) lines
    ∙ ap (λ ms. cond (has_front left) (front_model left ∷ ms) ms) (named_skip line left (ap is_model k)))))

-- a `.model` line begins the first model
front_none : (line : List Piece) (left : List (List Piece)) → directive_of line ≡ Model → begun_by line left ∷ named_models left ≡ models_of (line ∷ left)
front_none line left k =
    let passed = λ (l : List Piece). is_passed_over (directive_of l) in
    let all : list_all passed (body (line ∷ left)) ≡ true = ap (list_all passed) (body_end line left (ap is_model k)) in
    let some : has_line is_model (line ∷ left) ≡ true = ap (λ d. is_model d || has_line is_model left) k in
    sym (ap (λ t. cond (not t || not (has_line is_model (line ∷ left))) (front_model (line ∷ left) ∷ named_models (line ∷ left)) (named_models (line ∷ left))) all
    ∙ (ap (λ t. cond (not t) (front_model (line ∷ left) ∷ named_models (line ∷ left)) (named_models (line ∷ left))) some
    ∙ named_take line left (ap is_model k)))

-- any other line begins the model without a name
front_some : (line : List Piece) (left : List (List Piece)) (directive : Directive) → directive_of line ≡ directive → is_model directive ≡ false → is_passed_over directive ≡ false → models_from true (empty_model 0 no_name) None (line ∷ left) ≡ models_of (line ∷ left)
front_some line left directive k m p =
    let passed = λ (l : List Piece). is_passed_over (directive_of l) in
    let all : list_all passed (body (line ∷ left)) ≡ false = ap (list_all passed) (body_on line left (ap is_model k ∙ m)) ∙ ap (λ t. t && list_all passed (body left)) (ap is_passed_over k ∙ p) in
    sym (ap (λ t. cond (not t || not (has_line is_model (line ∷ left))) (front_model (line ∷ left) ∷ named_models (line ∷ left)) (named_models (line ∷ left))) all)

on_front : (line : List Piece) (left : List (List Piece)) (directive : Directive) → directive_of line ≡ directive → ended_by false (empty_model 0 no_name) None directive ++ models_from (not (is_passed_over directive)) (current_after (empty_model 0 no_name) None directive line) (open_after None directive line) left ≡ models_of (line ∷ left)
on_front line left Model k = front_none line left k
on_front line left PassedOver k = front_same line left k
on_front line left other k =
    going_on (empty_model 0 no_name) None line left other k refl ∙ front_some line left other k refl refl

-- a line takes the models on
pub models_on : (begun : Bool) (current : BlifModel) (cover : Option CoverLine) (line : List Piece) (left : List (List Piece)) → (begun ≡ false → current ≡ empty_model 0 no_name) → (begun ≡ false → cover ≡ None) → ended_by begun current cover (directive_of line) ++ models_from (begun || not (is_passed_over (directive_of line))) (current_after current cover (directive_of line) line) (open_after cover (directive_of line) line) left ≡ models_from begun current cover (line ∷ left)
models_on true current cover line left f g = on_begun current cover line left (directive_of line) refl
models_on false current cover line left f g =
    let d = directive_of line in
    ap (λ model. ended_by false model cover d ++ models_from (not (is_passed_over d)) (current_after model cover d line) (open_after cover d line) left) (f refl)
    ∙ (ap (λ c. ended_by false (empty_model 0 no_name) c d ++ models_from (not (is_passed_over d)) (current_after (empty_model 0 no_name) c d line) (open_after c d line) left) (g refl) ∙ on_front line left d refl)

-- no line is left
pub models_end : (begun : Bool) (current : BlifModel) (cover : Option CoverLine) → (begun ≡ false → current ≡ empty_model 0 no_name) → (begun ≡ false → cover ≡ None) → models_from begun current cover [] ≡ with_lines current (closed cover) ∷ []
models_end true current cover f g = ap (λ ls. with_lines current ls ∷ []) (closed_end cover)
models_end false current cover f g =
    sym (ap (λ model. with_lines model (closed cover) ∷ []) (f refl) ∙ ap (λ c. with_lines (empty_model 0 no_name) (closed c) ∷ []) (g refl))
