-- For `survey`: what is known of lines goes on to one line more.
use Rattle.std.proofs.Common.{◌≡◌, ◌==◌, ℕ, Bool, true, false, not, ◌||◌, cond, List, [], ◌∷◌, ◌++◌, length, get_or, All, Option, Some, None, refl, ap, sym, subst, ◌∙◌, append_assoc, eqb-true}
use Rattle.std.specs.Prelude.{reverse, is_some}
use Rattle.std.specs.List.{list_any}
use Rattle.std.proofs.lemmas.List.{reverse-append}
use Rattle.std.proofs.lemmas.List.Folds.{list_any-append}
use Rattle.std.proofs.Math.Bool.{or_self}
use Rattle.std.proofs.Math.Seq.{get_or-append_seam}
use Rattle.std.proofs.lemmas.List.Elements.{All-cons, All-nil, All-head, All-tail}
use Rattle.text_core.specs.Piece.{Piece}
use Rattle.net_file.specs.declared.fault.NetKind.{NetKind}
use Rattle.net_file.specs.declared.fault.NetKind.TheVariants as fault
use Rattle.blif_reader.specs.declared.directive.Directive.{Directive}
use Rattle.blif_reader.specs.declared.directive.Directive.TheVariants.{Names, Row}
use Rattle.blif_reader.specs.declared.rows.OpenCover.{OpenCover}
use Rattle.blif_reader.specs.declared.survey.Survey.{Survey}
use Rattle.blif_reader.specs.JoinedLines.{word_of}
use Rattle.blif_reader.specs.Directives.{directive_of, is_row, is_names, is_model, is_inputs, is_outputs, is_end}
use Rattle.blif_reader.specs.Rows.{output_byte, operand_count, has_widths, has_good_bytes, rows_before, opening, differs_from, fault_in_cover, row_fault}
use Rattle.blif_reader.specs.Names.{ports_on, defined_on}
use Rattle.blif_reader.specs.Faults.{has_line, fault_by_directive, fault_before_end, fault_after_end, line_fault, is_faulty, IsLineFault}
use Rattle.blif_reader.specs.Surveys.{is_mixed, fault_by_cover, fault_known, fault_of, cover_after, Advances, HaveOutput, IsOpenBy, IsOpen, IsSurveyed, IsUnderWay}
pub use Rattle.blif_reader.specs.Rows.{rows_of, opening_of}
use Rattle.blif_reader.proofs.BuildingLemmas.{no_rows, one_row}
use Rattle.blif_reader.proofs.FirstLemmas.{found-seam, NoneIs-push, IsFirst-seam}
use Rattle.std.proofs.Math.Bool.{or-false}
use borrow.Author.Tests.{not-false}
use Rattle.circuits.proofs.Lists.{flat_push}

differs-all : (byte other : ℕ) (row : List Piece) (rows : List (List Piece)) → All (λ r. output_byte r ≡ other) (row ∷ rows) → list_any (differs_from byte) (row ∷ rows) ≡ not (other == byte)
differs-all byte other row [] all =
    let head = All-head (λ r. output_byte r ≡ other) row [] all in
    ap (λ n. not (n == byte) || false) head ∙ or-false (not (other == byte))
differs-all byte other row (next ∷ rows) all =
    let head = All-head (λ r. output_byte r ≡ other) row (next ∷ rows) all in
    let tail = differs-all byte other next rows (All-tail (λ r. output_byte r ≡ other) row (next ∷ rows) all) in
    ap (λ n. not (n == byte) || list_any (differs_from byte) (next ∷ rows)) head ∙ (ap (λ t. not (other == byte) || t) tail ∙ or_self (not (other == byte)))

differs-mixed : (output : Option ℕ) (byte : ℕ) (rows : List (List Piece)) → HaveOutput output rows → list_any (differs_from byte) rows ≡ is_mixed output byte
differs-mixed None byte rows none = ap (list_any (differs_from byte)) none
differs-mixed (Some other) byte [] have = absurd (have.0 refl)
differs-mixed (Some other) byte (row ∷ rows) have = differs-all byte other row rows have.1

-- the fault of a row is that by the open cover
in_cover : (t u : Bool) (other : Option NetKind) → t ≡ u → cond (not u) (Some fault.RowOutside) other ≡ cond (not t) (Some fault.RowOutside) other
in_cover t u other h = ap (λ b. cond (not b) (Some fault.RowOutside) other) (sym h)

pub row_same : (earlier : List (List Piece)) (line : List Piece) (cover : Option OpenCover) → IsOpen earlier cover → fault_by_cover cover line ≡ row_fault earlier line
row_same earlier line None none =
    in_cover (is_names (directive_of (opening earlier))) false (fault_in_cover (operand_count (opening earlier)) (list_any (differs_from (output_byte line)) (rows_before earlier)) line) none
row_same earlier line (Some cover) opened =
    let operands = operand_count (opening earlier) in
    let mixed = differs-mixed cover.output (output_byte line) (rows_before earlier) opened.2 in
    ap (λ n. fault_in_cover n (is_mixed cover.output (output_byte line)) line) opened.1
    ∙ (ap (λ t. fault_in_cover operands t line) (sym mixed) ∙ in_cover (is_names (directive_of (opening earlier))) true (fault_in_cover operands (list_any (differs_from (output_byte line)) (rows_before earlier)) line) opened.0)

known_same : (earlier : List (List Piece)) (line : List Piece) (survey : Survey) (directive : Directive) → IsSurveyed earlier survey → fault_known survey line directive ≡ fault_before_end earlier line directive
known_same earlier line survey directive s =
    ap (λ t. fault_by_directive t (fault_by_cover survey.cover line) line directive) s.model
    ∙ ap (λ f. fault_by_directive (has_line is_model earlier) f line directive) (row_same earlier line survey.cover s.cover)

pub fault_same : (earlier : List (List Piece)) (line : List Piece) (survey : Survey) → IsSurveyed earlier survey → fault_of survey line (directive_of line) ≡ line_fault earlier line
fault_same earlier line survey s =
    ap (λ t. cond t (fault_after_end (directive_of line)) (fault_known survey line (directive_of line))) s.end
    ∙ ap (cond (has_line is_end earlier) (fault_after_end (directive_of line))) (known_same earlier line survey (directive_of line) s)

-- the lines before, from the nearest
pub reversed_push : (earlier : List (List Piece)) (line : List Piece) → reverse (earlier ++ line ∷ []) ≡ line ∷ reverse earlier
reversed_push earlier line = reverse-append earlier (line ∷ [])

-- a line that is no row
pub not_row : (nearest : List (List Piece)) (line : List Piece) → is_row (directive_of line) ≡ false → (rows_of (line ∷ nearest) ≡ []) × (opening_of (line ∷ nearest) ≡ line)
not_row nearest line h =
    let none = no_rows line nearest h in
    (none, ap (λ (rows : List (List Piece)). get_or (line ∷ nearest) (length rows) []) none)

-- a row
pub row_more : (nearest : List (List Piece)) (line : List Piece) → is_row (directive_of line) ≡ true → (rows_of (line ∷ nearest) ≡ line ∷ rows_of nearest) × (opening_of (line ∷ nearest) ≡ opening_of nearest)
row_more nearest line h =
    let more = one_row line nearest h in
    (more, ap (λ (rows : List (List Piece)). get_or (line ∷ nearest) (length rows) []) more)

closed : (nearest : List (List Piece)) (line : List Piece) → is_row (directive_of line) ≡ false → is_names (directive_of line) ≡ false → IsOpenBy (line ∷ nearest) None
closed nearest line h n = ap (λ l. is_names (directive_of l)) (not_row nearest line h).1 ∙ n

-- a directive that is no row and opens no cover
closed_as : (nearest : List (List Piece)) (line : List Piece) (directive : Directive) → directive_of line ≡ directive → is_row directive ≡ false → is_names directive ≡ false → IsOpenBy (line ∷ nearest) None
closed_as nearest line directive k h n = closed nearest line (ap is_row k ∙ h) (ap is_names k ∙ n)

-- a row's byte is that of the rows before
unmixed : (output : Option ℕ) (byte : ℕ) (rows : List (List Piece)) → HaveOutput output rows → is_mixed output byte ≡ false → All (λ r. output_byte r ≡ byte) rows
unmixed None byte rows none h = subst (All (λ r. output_byte r ≡ byte)) (sym none) (All-nil (λ r. output_byte r ≡ byte))
unmixed (Some other) byte rows have h = λ k d below. have.1 k d below ∙ eqb-true other byte (not-false (other == byte) h)

-- a row without a fault in a cover has the byte of those before
no_mixed : (widths bytes mixed : Bool)
    → cond (not widths) (Some fault.RowWidth) (cond (not bytes) (Some fault.RowChar) (cond mixed (Some fault.MixedCover) None)) ≡ None
    → mixed ≡ false
no_mixed true true true h = cc h
no_mixed true true false h = refl
no_mixed true false mixed h = cc h
no_mixed false bytes mixed h = cc h

opened_more : (nearest : List (List Piece)) (line : List Piece) (cover : Option OpenCover) (directive : Directive) → directive_of line ≡ directive → IsOpenBy nearest cover → fault_by_cover cover line ≡ None → directive ≡ Row → IsOpenBy (line ∷ nearest) (cover_after cover Row line)
opened_more nearest line None directive k o f r = ap (λ l. is_names (directive_of l)) (row_more nearest line (ap is_row (k ∙ r))).1 ∙ o
opened_more nearest line (Some cover) directive k o f r =
    let more = row_more nearest line (ap is_row (k ∙ r)) in
    let same = unmixed cover.output (output_byte line) (rows_of nearest) o.2 (no_mixed (has_widths cover.operands line) (has_good_bytes line) (is_mixed cover.output (output_byte line)) f) in (
      ap (λ l. is_names (directive_of l)) more.1 ∙ o.0,
      o.1 ∙ ap operand_count (sym more.1),
      subst (HaveOutput (Some (output_byte line))) (sym more.0) ((λ e. cc e), All-cons (λ r. output_byte r ≡ output_byte line) line (rows_of nearest) refl same),
    )

opened_names : (nearest : List (List Piece)) (line : List Piece) → directive_of line ≡ Names → IsOpenBy (line ∷ nearest) (Some (record { operands = operand_count line; output = None }))
opened_names nearest line k =
    let new = not_row nearest line (ap is_row k) in
    (ap (λ l. is_names (directive_of l)) new.1 ∙ ap is_names k, ap operand_count (sym new.1), new.0)

pub cover_more : (nearest : List (List Piece)) (line : List Piece) (cover : Option OpenCover) (directive : Directive) → directive_of line ≡ directive → IsOpenBy nearest cover → (directive ≡ Row → fault_by_cover cover line ≡ None) → IsOpenBy (line ∷ nearest) (cover_after cover directive line)
cover_more nearest line cover Names k o f = opened_names nearest line k
cover_more nearest line cover Row k o f = opened_more nearest line cover Row k o (f refl) refl
cover_more nearest line cover other k o f = closed_as nearest line other k refl refl

-- what stands after a test for `.end`
pub not_ended : (ended : Bool) (kind : NetKind) (other : Option NetKind) → cond ended (Some kind) other ≡ None → other ≡ None
not_ended true kind other h = absurd (cc h)
not_ended false kind other h = h

row_known : (survey : Survey) (line : List Piece) (directive : Directive) → fault_of survey line directive ≡ None → directive ≡ Row → fault_by_cover survey.cover line ≡ None
row_known survey line directive h r =
    not_ended survey.ended fault.Directive (fault_by_cover survey.cover line) (ap (fault_of survey line) (sym r) ∙ h)

pub has_line-push : (is_it : Directive → Bool) (earlier : List (List Piece)) (line : List Piece) → has_line is_it (earlier ++ line ∷ []) ≡ (has_line is_it earlier || is_it (directive_of line))
has_line-push is_it earlier line =
    list_any-append (λ l. is_it (directive_of l)) earlier (line ∷ []) ∙ ap (λ t. has_line is_it earlier || t) (or-false (is_it (directive_of line)))

-- one line more is known
pub surveyed_more : (earlier : List (List Piece)) (line : List Piece) (old new : Survey) → IsSurveyed earlier old → Advances (directive_of line) line old new → IsSurveyed (earlier ++ line ∷ []) new
surveyed_more earlier line old new s a =
    let directive = directive_of line in
    record {
      sound = NoneIs-push is_faulty earlier line s.sound (ap is_some (sym (fault_same earlier line old s) ∙ a.no_fault));
      ports = a.ports ∙ (ap (λ ps. ps ++ ports_on directive line) s.ports ∙ sym (flat_push (λ l. ports_on (directive_of l) l) earlier line));
      defined = a.defined ∙ (ap (λ ps. ps ++ defined_on directive line) s.defined ∙ sym (flat_push (λ l. defined_on (directive_of l) l) earlier line));
      model = a.model ∙ (ap (λ t. t || is_model directive) s.model ∙ sym (has_line-push is_model earlier line));
      inputs = a.inputs ∙ (ap (λ t. t || is_inputs directive) s.inputs ∙ sym (has_line-push is_inputs earlier line));
      outputs = a.outputs ∙ (ap (λ t. t || is_outputs directive) s.outputs ∙ sym (has_line-push is_outputs earlier line));
      end = a.end ∙ (ap (λ t. t || is_end directive) s.end ∙ sym (has_line-push is_end earlier line));
      cover = subst (λ lines. IsOpenBy lines new.cover) (sym (reversed_push earlier line)) (subst (IsOpenBy (line ∷ reverse earlier)) (sym a.cover) (cover_more (reverse earlier) line old.cover directive refl s.cover (row_known old line directive a.no_fault)));
    }

-- the lines go on by one
pub under_way_more : (all left : List (List Piece)) (line : List Piece) (old new : Survey) → IsUnderWay all old (line ∷ left) → Advances (directive_of line) line old new → IsUnderWay all new left
under_way_more all left line old new u a = record {
  earlier = u.earlier ++ line ∷ [];
  whole = u.whole ∙ sym (append_assoc u.earlier (line ∷ []) left);
  surveyed = surveyed_more u.earlier line old new u.surveyed a;
}

-- the next line is the first with a fault
pub first_fault : (all left : List (List Piece)) (first : Piece) (words : List Piece) (survey : Survey) (kind : NetKind) → IsUnderWay all survey ((first ∷ words) ∷ left) → fault_of survey (first ∷ words) (directive_of (first ∷ words)) ≡ Some kind → IsLineFault all kind first.at
first_fault all left first words survey kind u f =
    let line = first ∷ words in
    let fault = sym (fault_same u.earlier line survey u.surveyed) ∙ f in
    subst (λ lines. IsLineFault lines kind first.at) (sym u.whole) (record {
      place = length u.earlier;
      first = IsFirst-seam is_faulty u.earlier line left u.surveyed.sound (ap is_some fault);
      why = found-seam line_fault u.earlier line left [] ∙ fault;
      offset = ap (λ l. (word_of l 0).at) (sym (get_or-append_seam u.earlier line left []));
    })
