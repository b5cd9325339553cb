-- For `reader`: what is known of lines goes on to one line more.
use Rattle.std.proofs.Common.{◌≡◌, ◌&&◌, ◌||◌, ℕ, Bool, true, false, not, cond, List, [], ◌∷◌, ◌++◌, length, map, Option, None, Some, refl, ap, sym, subst, ◌∙◌, append_assoc, arith}
use Rattle.std.specs.Prelude.{reverse, is_some, filter, option_map, take_while}
use Rattle.std.specs.List.{list_any}
use Rattle.std.specs.Str.{bytes_eq}
use Rattle.std.proofs.lemmas.List.{append-nil, map-append}
use Rattle.std.proofs.lemmas.List.Elements.{filter-append}
use Rattle.std.proofs.lemmas.List.Sums.{take_while-cons}
use Rattle.text_core.specs.Piece.{Piece}
use Rattle.net_file.specs.declared.fault.NetKind.{NetKind}
use Rattle.blif_reader.specs.declared.directive.Directive.{Directive}
use Rattle.blif_reader.specs.declared.directive.Directive.TheVariants.{Model, End, PassedOver, Row}
use Rattle.blif_reader.specs.JoinedLines.{word_of}
use Rattle.blif_reader.specs.Directives.{directive_of, is_model, is_end, is_passed_over}
use Rattle.blif_reader.specs.Faults.{has_line}
use Rattle.blif_reader.specs.Numbers.{names_of, bytes_of}
use Rattle.blif_reader.specs.Surveys.{fault_by_cover, IsOpenBy}
use Rattle.blif_reader.proofs.FirstLemmas.{found-seam, NoneIs-push, IsFirst-seam}
use Rattle.blif_reader.proofs.NumberLemmas.{list_any-map}
use Rattle.blif_reader.proofs.SurveyLemmas.{reversed_push, row_same, cover_more}
use Rattle.hier_blif.specs.declared.fault.HierFault.{HierFault}
use Rattle.hier_blif.specs.declared.fault.HierKind.TheVariants as wrong
use Rattle.hier_blif.specs.declared.model.CoverLine.{CoverLine}
use Rattle.hier_blif.specs.declared.model.BlifModel.{BlifModel}
use Rattle.hier_blif.specs.declared.reader.Reader.{Reader}
use Rattle.hier_blif.specs.Kinds.{kind_of_row}
use Rattle.hier_blif.specs.Models.{models_of, no_name, empty_model}
use Rattle.hier_blif.specs.LineFaults.{fault_at, at_line, is_ended, names_before, is_taken, fault_by_directive, line_fault, is_faulty, IsLineFault, AreSound}
use Rattle.hier_blif.specs.Reading.{is_known, fault_of, closed, with_lines, open_after, current_after, ended_by, ended_after, names_by, Advances, models_from, IsReading}
use Rattle.hier_blif.proofs.ModelLemmas.{models_on, models_end}

-- what is known of the lines before says what is wrong with the next one
known_same : (earlier : List (List Piece)) (line : List Piece) (reader : Reader) → names_of reader.names ≡ bytes_of (names_before earlier) → is_known reader line ≡ is_taken earlier line
known_same earlier line reader h =
    ap (list_any (bytes_eq (word_of line 1).bytes)) h
    ∙ list_any-map (bytes_eq (word_of line 1).bytes) (λ (w : Piece). w.bytes) (names_before earlier)

fault_same : (all left : List (List Piece)) (line : List Piece) (reader : Reader) → (r : IsReading all left reader) → fault_of reader line (directive_of line) ≡ line_fault r.earlier line
fault_same all left line reader r =
    let d = directive_of line in
    let late = at_line wrong.Directive line in
    ap (λ t. cond (not (is_model d) && t) late (fault_by_directive (is_known reader line) (fault_by_cover reader.in_cover line) line d)) r.ended
    ∙ (ap (λ t. cond (not (is_model d) && is_ended r.earlier) late (fault_by_directive t (fault_by_cover reader.in_cover line) line d)) (known_same r.earlier line reader r.names)
    ∙ ap (λ f. cond (not (is_model d) && is_ended r.earlier) late (fault_by_directive (is_taken r.earlier line) f line d)) (row_same r.earlier line reader.in_cover r.in_cover))

-- the lines up to the nearest `.model` line
abbrev since : List (List Piece) → List (List Piece)
since nearest = take_while (λ line. not (is_model (directive_of line))) nearest

-- whether the model has ended, after one line more
ended_as : (nearest : List (List Piece)) (line : List Piece) (directive : Directive) (ended : Bool) → directive_of line ≡ directive → ended ≡ has_line is_end (since nearest) → ended_after ended directive ≡ has_line is_end (cond (not (is_model directive)) (line ∷ since nearest) [])
ended_as nearest line Model ended k h = refl
ended_as nearest line End ended k h = sym (ap (λ d. is_end d || has_line is_end (since nearest)) k)
ended_as nearest line other ended k h = h ∙ sym (ap (λ d. is_end d || has_line is_end (since nearest)) k)

ended_more : (earlier : List (List Piece)) (line : List Piece) (ended : Bool) → ended ≡ is_ended earlier → ended_after ended (directive_of line) ≡ is_ended (earlier ++ line ∷ [])
ended_more earlier line ended h =
    let nearest = reverse earlier in
    ended_as nearest line (directive_of line) ended refl h
    ∙ (sym (ap (has_line is_end) (take_while-cons (λ l. not (is_model (directive_of l))) line nearest))
    ∙ sym (ap (λ (ls : List (List Piece)). has_line is_end (since ls)) (reversed_push earlier line)))

-- the names of models, after one line more
names_of_kind : (line : List Piece) (directive : Directive) → bytes_of (map (λ l. word_of l 1) (cond (is_model directive) (line ∷ []) [])) ≡ names_by directive line
names_of_kind line Model = refl
names_of_kind line other = refl

names_more : (earlier : List (List Piece)) (line : List Piece) (names : List (List ℕ)) → names ≡ bytes_of (names_before earlier) → names ++ names_by (directive_of line) line ≡ bytes_of (names_before (earlier ++ line ∷ []))
names_more earlier line names h =
    let test = λ (l : List Piece). is_model (directive_of l) in
    let name = λ (l : List Piece). word_of l 1 in
    sym (ap (λ ls. bytes_of (map name ls)) (filter-append test earlier (line ∷ []))
    ∙ (ap bytes_of (map-append name (filter test earlier) (filter test (line ∷ [])))
    ∙ (map-append (λ (w : Piece). w.bytes) (names_before earlier) (map name (filter test (line ∷ [])))
    ∙ (ap (λ ns. bytes_of (names_before earlier) ++ ns) (names_of_kind line (directive_of line))
    ∙ ap (λ ns. ns ++ names_by (directive_of line) line) (sym h)))))

-- a row without a fault
pub no_row_fault : (test : Bool) (fault : Option HierFault) (found : Option NetKind) (f : NetKind → HierFault) → cond test fault (option_map f found) ≡ None → test ≡ false → found ≡ None
no_row_fault true fault found f h e = cc e
no_row_fault false fault None f h e = refl
no_row_fault false fault (Some kind) f h e = cc h

pub not_late : (test : Bool) (fault : HierFault) (other : Option HierFault) → cond test (Some fault) other ≡ None → test ≡ false
not_late true fault other h = cc h
not_late false fault other h = refl

row_known : (reader : Reader) (line : List Piece) (directive : Directive) → fault_of reader line directive ≡ None → directive ≡ Row → fault_by_cover reader.in_cover line ≡ None
row_known reader line directive h is =
    let here : fault_of reader line Row ≡ None = subst (λ d. fault_of reader line d ≡ None) is h in
    let late = fault_at wrong.Directive (word_of line 0) in
    let in_row = option_map (λ found. fault_at (kind_of_row found) (word_of line 0)) (fault_by_cover reader.in_cover line) in
    no_row_fault reader.ended (Some late) (fault_by_cover reader.in_cover line) (λ found. fault_at (kind_of_row found) (word_of line 0)) here (not_late reader.ended late in_row here)

-- before any model there is nothing of one
abbrev IsFront : BlifModel → Option CoverLine → Type 0
IsFront current cover = (current ≡ empty_model 0 no_name) × (cover ≡ None)

passed_over : (current : BlifModel) (cover : Option CoverLine) (line : List Piece) → IsFront current cover → IsFront (with_lines current (closed cover)) None
passed_over current cover line is =
    (ap (λ model. with_lines model (closed cover)) is.0 ∙ ap (λ c. with_lines (empty_model 0 no_name) (closed c)) is.1, refl)

front_as : (begun : Bool) (directive : Directive) (current : BlifModel) (cover : Option CoverLine) (line : List Piece) → (begun ≡ false → IsFront current cover) → (begun || not (is_passed_over directive)) ≡ false → IsFront (current_after current cover directive line) (open_after cover directive line)
front_as true directive current cover line f h = absurd (cc h)
front_as false PassedOver current cover line f h = passed_over current cover line (f refl)
front_as false other current cover line f h = absurd (cc h)

-- no line was read
pub nothing_read : (all left : List (List Piece)) (reader : Reader) → left ≡ all → names_of reader.names ≡ [] → reader.ended ≡ false → reader.in_cover ≡ None → reader.models ≡ [] → reader.begun ≡ false → reader.current ≡ empty_model 0 no_name → reader.cover ≡ None → IsReading all left reader
nothing_read all left reader same names ended in_cover models begun current cover = record {
  earlier = [];
  whole = sym same;
  sound = λ k d h. absurd (omega (arith, h));
  names = names;
  ended = ended;
  in_cover = subst (IsOpenBy []) (sym in_cover) refl;
  models = ap (λ ms. ms ++ models_from reader.begun reader.current reader.cover left) models
      ∙ (ap (λ t. models_from t reader.current reader.cover left) begun ∙ ap models_of same);
  front = λ h. current;
  front_cover = λ h. cover;
}

-- one line more was read
pub reading_more : (all left : List (List Piece)) (line : List Piece) (old new : Reader) → IsReading all (line ∷ left) old → Advances (directive_of line) line old new → IsReading all left new
reading_more all left line old new r a =
    let d = directive_of line in
    let front : new.begun ≡ false → IsFront new.current new.cover = λ h.
    let is = front_as old.begun d old.current old.cover line (λ e. (r.front e, r.front_cover e)) (sym a.begun ∙ h) in
    (a.current ∙ is.0, a.cover ∙ is.1) in
    record {
      earlier = r.earlier ++ line ∷ [];
      whole = r.whole ∙ sym (append_assoc r.earlier (line ∷ []) left);
      sound = NoneIs-push is_faulty r.earlier line r.sound (ap is_some (sym (fault_same all (line ∷ left) line old r) ∙ a.no_fault));
      names = a.names ∙ names_more r.earlier line (names_of old.names) r.names;
      ended = a.ended ∙ ended_more r.earlier line old.ended r.ended;
      in_cover = subst (λ lines. IsOpenBy lines new.in_cover) (sym (reversed_push r.earlier line)) (subst (IsOpenBy (line ∷ reverse r.earlier)) (sym a.in_cover) (cover_more (reverse r.earlier) line old.in_cover d refl r.in_cover (row_known old line d a.no_fault)));
      models = ap (λ ms. ms ++ models_from new.begun new.current new.cover left) a.models
          ∙ (append_assoc old.models (ended_by old.begun old.current old.cover d) (models_from new.begun new.current new.cover left)
          ∙ (ap (λ t. old.models ++ (ended_by old.begun old.current old.cover d ++ models_from t new.current new.cover left)) a.begun
          ∙ (ap (λ m. old.models ++ (ended_by old.begun old.current old.cover d ++ models_from (old.begun || not (is_passed_over d)) m new.cover left)) a.current
          ∙ (ap (λ c. old.models ++ (ended_by old.begun old.current old.cover d ++ models_from (old.begun || not (is_passed_over d)) (current_after old.current old.cover d line) c left)) a.cover
          ∙ (ap (λ ms. old.models ++ ms) (models_on old.begun old.current old.cover line left r.front r.front_cover) ∙ r.models)))));
      front = λ h. (front h).0;
      front_cover = λ h. (front h).1;
    }

-- the next line is the first with a fault
pub first_fault : (all left : List (List Piece)) (line : List Piece) (reader : Reader) (fault : HierFault) → IsReading all (line ∷ left) reader → fault_of reader line (directive_of line) ≡ Some fault → IsLineFault all fault
first_fault all left line reader fault r f =
    let why = sym (fault_same all (line ∷ left) line reader r) ∙ f in
    subst (λ lines. IsLineFault lines fault) (sym r.whole) (record {
      place = length r.earlier;
      first = IsFirst-seam is_faulty r.earlier line left r.sound (ap is_some why);
      why = found-seam line_fault r.earlier line left [] ∙ why;
    })

-- all lines were read
pub all_read : (all : List (List Piece)) (reader : Reader) (models : List BlifModel) → IsReading all [] reader → models ≡ reader.models ++ with_lines reader.current (closed reader.cover) ∷ [] → models ≡ models_of all
all_read all reader models r h =
    h ∙ (ap (λ ms. reader.models ++ ms) (sym (models_end reader.begun reader.current reader.cover r.front r.front_cover)) ∙ r.models)

pub all_sound : (all : List (List Piece)) (reader : Reader) → IsReading all [] reader → AreSound all
all_sound all reader r = subst AreSound (sym (r.whole ∙ append-nil r.earlier)) r.sound
