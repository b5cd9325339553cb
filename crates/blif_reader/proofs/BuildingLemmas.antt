-- For `covers`: what a second pass has of the netlist goes on to one word, or one line, more.
use Rattle.std.proofs.Common.{◌≡◌, ◌==◌, ◌&&◌, ℕ, suc, ◌-◌, Bool, true, false, cond, List, [], ◌∷◌, ◌++◌, length, map, take, All, Option, Some, None, refl, ap, sym, subst, ◌∙◌, arith, append_assoc}
use Rattle.std.specs.List.{list_any}
use Rattle.std.specs.Str.{bytes_eq}
use Rattle.std.proofs.Math.Bool.{and_assoc}
use Rattle.std.proofs.lemmas.List.{append-nil, map-append}
use Rattle.std.proofs.lemmas.List.Sums.{take_while-cons}
use Rattle.std.proofs.lemmas.List.Elements.{All-nil, All-cons, All-head, All-tail}
use Rattle.text_core.specs.Piece.{Piece}
use Rattle.circuits.specs.declared.definition.Trit.{Trit}
use Rattle.circuits.specs.declared.definition.Def.{Def}
use Rattle.circuits.specs.declared.definition.Def.TheVariants.{Cover}
use Rattle.std.proofs.Math.Bool.{and-true}
use Rattle.net_file.specs.declared.fault.NetKind.{NetKind}
use Rattle.net_file.specs.declared.fault.NetKind.TheVariants as fault
use Rattle.blif_reader.specs.declared.directive.Directive.{Directive}
use Rattle.blif_reader.specs.declared.directive.Directive.TheVariants.{Names, Row}
use Rattle.blif_reader.specs.declared.covers.CoverSoFar.{CoverSoFar}
use Rattle.blif_reader.specs.declared.covers.Covers.{Covers}
use Rattle.blif_reader.specs.Directives.{directive_of, is_row, is_names}
use Rattle.blif_reader.specs.Rows.{output_byte, rows_of}
use Rattle.blif_reader.specs.Names.{operands, read_on, read_words}
use Rattle.blif_reader.specs.Covers.{trits_of, literal_named, are_on, cover_of, covers_of}
use Rattle.blif_reader.specs.Building.{EndsAs, but_last, IsKnownIn, IsUnknownAt, IsUnknownFault, Continues, closed, with_row, open_after, closed_by, outputs_by, places_by, Builds, continued, outputs_in, places_in, IsBuilt, IsBuilding}

abbrev pub cover_so_far : List ℕ → List (List Trit) → Bool → CoverSoFar
cover_so_far names rows on = record { names = names; rows = rows; on = on }

pub ends_more : (last : Option Piece) (word : Piece) (left new all : List Piece) → EndsAs last left all → left ≡ word ∷ new → EndsAs (Some word) new all
ends_more None word left new all e h = ([], e ∙ h)
ends_more (Some last) word left new all e h =
    (e.0 ++ last ∷ [], e.1 ∙ (ap (λ ws. e.0 ++ last ∷ ws) h ∙ sym (append_assoc e.0 (last ∷ []) (word ∷ new))))

pub unknown_later : (names : List (List ℕ)) (word : Piece) (words : List Piece) (at : ℕ) → IsKnownIn names word → IsUnknownAt names words at → IsUnknownAt names (word ∷ words) at
unknown_later names word words at k u = record {
  before = word ∷ u.before;
  word = u.word;
  after = u.after;
  whole = ap (λ ws. word ∷ ws) u.whole;
  known = All-cons (IsKnownIn names) word u.before k u.known;
  unknown = u.unknown;
  offset = u.offset;
}

pub unknown_here : (names : List (List ℕ)) (word : Piece) (words : List Piece) → list_any (bytes_eq word.bytes) names ≡ false → IsUnknownAt names (word ∷ words) word.at
unknown_here names word words h = record {
  before = [];
  word = word;
  after = words;
  whole = refl;
  known = All-nil (IsKnownIn names);
  unknown = h;
  offset = refl;
}

pub Continues-more : (names : List (List ℕ)) (word : Piece) (left new all : List Piece) → left ≡ word ∷ new → IsKnownIn names word → Continues names left all → Continues names new all
Continues-more names word left new all e k c =
    let here = subst (λ ws. Continues names ws all) e c in
    record {
      known = λ h. here.known (All-cons (IsKnownIn names) word new k h);
      unknown = λ at u. here.unknown at (unknown_later names word new at k u);
    }

pub but_last-cons : (word next : Piece) (words : List Piece) → but_last (word ∷ next ∷ words) ≡ word ∷ but_last (next ∷ words)
but_last-cons word next words =
    let e : length (word ∷ next ∷ words) - 1 ≡ suc (length (next ∷ words) - 1) = omega arith in
    ap (λ n. take n (word ∷ next ∷ words)) e

-- what is read of one output more
pub read_more : {X : Type 0} (f : Piece → X) (after new old : List X) (word : Piece) (left rest all : List Piece) (x : X) → after ≡ new ++ x ∷ [] → new ++ map f left ≡ old ++ map f all → left ≡ word ∷ rest → x ≡ f word → after ++ map f rest ≡ old ++ map f all
read_more f after new old word left rest all x a h e i =
    ap (λ ys. ys ++ map f rest) a
    ∙ append_assoc new (x ∷ []) (map f rest) ∙ (ap (λ y. new ++ y ∷ map f rest) i ∙ (ap (λ ws. new ++ map f ws) (sym e) ∙ h))

-- a word that isn't known is the fault
pub unknown_fault : (names : List (List ℕ)) (word : Piece) (left rest all : List Piece) (kind : NetKind) (at : ℕ) → Continues names left all → left ≡ word ∷ rest → (kind ≡ fault.NameUndefined) × (at ≡ word.at) × (list_any (bytes_eq word.bytes) names ≡ false) → IsUnknownFault names all kind at
unknown_fault names word left rest all kind at c e told = record {
  is = told.0;
  why = subst (IsUnknownAt names all) (sym told.1) (c.unknown word.at (subst (λ ws. IsUnknownAt names ws word.at) (sym e) (unknown_here names word rest told.2)));
}

-- the operands of a `.names` line are the words after the first, but for the last
pub operands-but_last : (first : Piece) (words : List Piece) → operands (first ∷ words) ≡ but_last words
operands-but_last first words =
    let e : length (first ∷ words) - 2 ≡ length words - 1 = omega arith in
    ap (λ n. take n words) e

pub new_cover : (names wanted : List ℕ) (rows : List (List Trit)) → names ≡ wanted → rows ≡ [] → Some (cover_so_far names rows true) ≡ Some (cover_so_far wanted [] true)
new_cover names wanted rows n r = ap (λ ns. Some (cover_so_far ns rows true)) n ∙ ap (λ rs. Some (cover_so_far wanted rs true)) r

pub no_more : {X : Type 0} (new old : List X) → new ≡ old → new ≡ old ++ []
no_more new old h = h ∙ sym (append-nil old)

pub one_place : (new between old : List ℕ) (at place : ℕ) → new ≡ between ++ at ∷ [] → between ≡ old → at ≡ place → new ≡ old ++ place ∷ []
one_place new between old at place n b a = n ∙ (ap (λ ps. ps ++ at ∷ []) b ∙ ap (λ p. old ++ p ∷ []) a)

-- words that are known, and those after them
pub Continues-append : (names : List (List ℕ)) (words rest all : List Piece) → All (IsKnownIn names) words → Continues names (words ++ rest) all → Continues names rest all
Continues-append names [] rest all known c = c
Continues-append names (word ∷ words) rest all known c =
    Continues-append names words rest all (All-tail (IsKnownIn names) word words known) (Continues-more names word (word ∷ (words ++ rest)) (words ++ rest) all refl (All-head (IsKnownIn names) word words known) c)

unknown_before : (names : List (List ℕ)) (words rest : List Piece) (at : ℕ) → IsUnknownAt names words at → IsUnknownAt names (words ++ rest) at
unknown_before names words rest at u = record {
  before = u.before;
  word = u.word;
  after = u.after ++ rest;
  whole = ap (λ ws. ws ++ rest) u.whole ∙ append_assoc u.before (u.word ∷ u.after) rest;
  known = u.known;
  unknown = u.unknown;
  offset = u.offset;
}

-- the rows that a text begins with
pub no_rows : (line : List Piece) (left : List (List Piece)) → is_row (directive_of line) ≡ false → rows_of (line ∷ left) ≡ []
no_rows line left h =
    take_while-cons (λ l. is_row (directive_of l)) line left ∙ ap (λ t. cond t (line ∷ rows_of left) []) h

pub one_row : (line : List Piece) (left : List (List Piece)) → is_row (directive_of line) ≡ true → rows_of (line ∷ left) ≡ line ∷ rows_of left
one_row line left h =
    take_while-cons (λ l. is_row (directive_of l)) line left ∙ ap (λ t. cond t (line ∷ rows_of left) []) h

pub covers_skip : (names : List (List ℕ)) (line : List Piece) (left : List (List Piece)) → is_names (directive_of line) ≡ false → covers_of names (line ∷ left) ≡ covers_of names left
covers_skip names line left h =
    ap (λ t. cond t (cover_of names line (rows_of left) ∷ covers_of names left) (covers_of names left)) h

pub covers_take : (names : List (List ℕ)) (line : List Piece) (left : List (List Piece)) → is_names (directive_of line) ≡ true → covers_of names (line ∷ left) ≡ cover_of names line (rows_of left) ∷ covers_of names left
covers_take names line left h =
    ap (λ t. cond t (cover_of names line (rows_of left) ∷ covers_of names left) (covers_of names left)) h

-- a cover that no row follows
ended : (names : List ℕ) (rows : List (List Trit)) (on : Bool) (defs : List Def) (lead : List (List Piece)) → lead ≡ [] → Cover names (rows ++ map trits_of lead) (on && are_on lead) ∷ defs ≡ Cover names rows on ∷ defs
ended names rows on defs lead h =
    ap (λ (l : List (List Piece)). Cover names (rows ++ map trits_of l) (on && are_on l) ∷ defs) h
    ∙ (ap (λ rs. Cover names rs (on && true) ∷ defs) (append-nil rows) ∙ ap (λ t. Cover names rows t ∷ defs) (and-true on))

-- a line that is no row closes the cover
closing : (names : List (List ℕ)) (cover : Option CoverSoFar) (line : List Piece) (left : List (List Piece)) → is_row (directive_of line) ≡ false → continued names cover (line ∷ left) ≡ closed cover ++ covers_of names (line ∷ left)
closing names None line left h = refl
closing names (Some cover) line left h =
    ended cover.names cover.rows cover.on (covers_of names (line ∷ left)) (rows_of (line ∷ left)) (no_rows line left h)

-- a row goes on with the cover
row_on : (names : List (List ℕ)) (cover : Option CoverSoFar) (line : List Piece) (left : List (List Piece)) → directive_of line ≡ Row → continued names (with_row cover line) left ≡ continued names cover (line ∷ left)
row_on names None line left k = sym (covers_skip names line left (ap is_names k))
row_on names (Some cover) line left k =
    let rows = append_assoc cover.rows (trits_of line ∷ []) (map trits_of (rows_of left)) in
    let on = and_assoc cover.on (output_byte line == 49) (are_on (rows_of left)) in
    let lead = one_row line left (ap is_row k) in
    let rest = covers_skip names line left (ap is_names k) in
    ap (λ rs. Cover cover.names rs ((cover.on && (output_byte line == 49)) && are_on (rows_of left)) ∷ covers_of names left) rows
    ∙ (ap (λ t. Cover cover.names (cover.rows ++ trits_of line ∷ map trits_of (rows_of left)) t ∷ covers_of names left) on
    ∙ (ap (λ (ls : List (List Piece)). Cover cover.names (cover.rows ++ map trits_of ls) (cover.on && are_on ls) ∷ covers_of names left) (sym lead)
    ∙ ap (λ ds. Cover cover.names (cover.rows ++ map trits_of (rows_of (line ∷ left))) (cover.on && are_on (rows_of (line ∷ left))) ∷ ds) (sym rest)))

other_on : (names : List (List ℕ)) (cover : Option CoverSoFar) (line : List Piece) (left : List (List Piece)) (directive : Directive) → directive_of line ≡ directive → is_row directive ≡ false → is_names directive ≡ false → closed cover ++ covers_of names left ≡ continued names cover (line ∷ left)
other_on names cover line left directive k r n =
    ap (λ ds. closed cover ++ ds) (sym (covers_skip names line left (ap is_names k ∙ n))) ∙ sym (closing names cover line left (ap is_row k ∙ r))

-- a line takes the definitions on
pub line_on : (names : List (List ℕ)) (cover : Option CoverSoFar) (line : List Piece) (left : List (List Piece)) (directive : Directive) → directive_of line ≡ directive → closed_by cover directive ++ continued names (open_after names cover directive line) left ≡ continued names cover (line ∷ left)
line_on names cover line left Row k = row_on names cover line left k
line_on names cover line left Names k =
    ap (λ ds. closed cover ++ ds) (sym (covers_take names line left (ap is_names k))) ∙ sym (closing names cover line left (ap is_row k))
line_on names cover line left other k = other_on names cover line left other k refl refl

-- one line more
pub building_more : (names : List (List ℕ)) (all left : List (List Piece)) (line : List Piece) (old new : Covers) → IsBuilding names all (line ∷ left) old → Builds names (directive_of line) line old new → IsBuilding names all left new
building_more names all left line old new b a =
    let directive = directive_of line in
    let literal = literal_named names in
    record {
      defs = ap (λ ds. ds ++ continued names new.current left) a.defs ∙ (append_assoc old.defs (closed_by old.current directive) (continued names new.current left) ∙ (ap (λ t. old.defs ++ (closed_by old.current directive ++ continued names t left)) a.current ∙ (ap (λ ds. old.defs ++ ds) (line_on names old.current line left directive refl) ∙ b.defs)));
      outputs = ap (λ os. os ++ map literal (outputs_in left)) a.outputs ∙ (append_assoc old.outputs (map literal (outputs_by directive line)) (map literal (outputs_in left)) ∙ (ap (λ os. old.outputs ++ os) (sym (map-append literal (outputs_by directive line) (outputs_in left))) ∙ b.outputs));
      places = ap (λ ps. ps ++ places_in left) a.places ∙ (append_assoc old.places (places_by directive line) (places_in left) ∙ b.places);
      words = Continues-append names (read_on directive line) (read_words left) (read_words all) a.known b.words;
    }

-- a line with the first name that isn't known
pub fault_in_line : (names : List (List ℕ)) (all left : List (List Piece)) (line : List Piece) (old : Covers) (kind : NetKind) (at : ℕ) → IsBuilding names all (line ∷ left) old → IsUnknownFault names (read_on (directive_of line) line) kind at → IsUnknownFault names (read_words all) kind at
fault_in_line names all left line old kind at b f = record {
  is = f.is;
  why = b.words.unknown at (unknown_before names (read_on (directive_of line) line) (read_words left) at f.why);
}

closed_end : (names : List (List ℕ)) (cover : Option CoverSoFar) → continued names cover [] ≡ closed cover
closed_end names None = refl
closed_end names (Some cover) = ended cover.names cover.rows cover.on [] [] refl

-- all lines were read
pub built : (names : List (List ℕ)) (all left : List (List Piece)) (old new : Covers) → left ≡ [] → IsBuilding names all left old → new.defs ≡ old.defs ++ closed old.current → new.places ≡ old.places → new.outputs ≡ old.outputs → IsBuilt names all new
built names all left old new e u d p o =
    let b = subst (λ ls. IsBuilding names all ls old) e u in
    record {
      defs = d ∙ (ap (λ ds. old.defs ++ ds) (sym (closed_end names old.current)) ∙ b.defs);
      outputs = o ∙ (sym (append-nil old.outputs) ∙ b.outputs);
      places = p ∙ (sym (append-nil old.places) ∙ b.places);
      known = b.words.known (All-nil (IsKnownIn names));
    }
