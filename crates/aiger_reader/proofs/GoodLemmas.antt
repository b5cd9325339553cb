-- One good line more, and the faults of a line.
use Rattle.std.proofs.Common.{◌≡◌, ◌≢◌, ℕ, suc, ◌+◌, ◌*◌, ◌/◌, ◌<◌, ◌≤◌, Bool, true, false, IsTrue, cond, List, [], ◌∷◌, ◌++◌, length, length-append, map, get_or, set, AllPairs, Some, refl, sym, ap, subst, ◌∙◌, arith, inl, inr, append-nil, append_assoc, if◌then◌else◌}
use Rattle.std.proofs.lemmas.List.{get_or_append_left}
use Rattle.std.proofs.Math.Seq.{get_or-append_seam}
use Rattle.text_core.specs.Piece.{Piece}
use Rattle.text_core.specs.Lines.{after_line}
use Rattle.net_file.specs.declared.fault.NetKind.{NetKind}
use Rattle.net_file.specs.declared.fault.NetKind.TheVariants as kind
use Rattle.aiger_reader.specs.Words.{numbers_on}
use Rattle.aiger_reader.specs.Headers.{AigerHeader}
use Rattle.aiger_reader.specs.Bodies.{Role, Output, roles_of, role_at, defines, defined, body_lines, first_of, Writes, IsGoodRow, AreGood, IsFirstFault}
use Rattle.aiger_reader.specs.Reading.{IsAtLine, IsReading, IsNextLine, IsRowOn, IsNextFault, IsNumbering, IsRowRead, next_line_of}
use Rattle.aiger_reader.proofs.PlaceLemmas.{place_more, next_is, there, offset_is, body_ends, file_ends}
use Rattle.aiger_reader.proofs.SignalLemmas.{place_cases, signals_more, distinct}

-- what a line defines
abbrev pub defined_by : Role → List ℕ → List ℕ
defined_by role row = if defines role then first_of row / 2 ∷ [] else []

pub defined_none : (roles : List Role) → defined roles [] ≡ []
defined_none [] = refl
defined_none (role ∷ roles) = refl

-- a row more defines what its line defines
pub defined_more : (roles : List Role) (rows : List (List ℕ)) (row : List ℕ) → length rows < length roles → defined roles (rows ++ row ∷ []) ≡ defined roles rows ++ defined_by (get_or roles (length rows) Output) row
defined_more [] rows row h = absurd (omega arith)
defined_more (role ∷ roles) [] row h = ap (λ vs. defined_by role row ++ vs) (defined_none roles) ∙ append-nil (defined_by role row)
defined_more (role ∷ roles) (one ∷ rows) row h =
    ap (λ vs. defined_by role one ++ vs) (defined_more roles rows row (omega arith)) ∙ sym (append_assoc (defined_by role one) (defined roles rows) (defined_by (get_or roles (length rows) Output) row))

-- no more variables are defined than there are rows
pub defined_few : (roles : List Role) (rows : List (List ℕ)) → length (defined roles rows) ≤ length rows
defined_few [] rows = omega arith
defined_few (role ∷ roles) [] = omega arith
defined_few (role ∷ roles) (one ∷ rows) =
    let fewer = defined_few roles rows in
    elim (defines role) as (λ t. length (cond t (first_of one / 2 ∷ []) [] ++ defined roles rows) ≤ suc (length rows)) [ true ↦ omega arith | false ↦ omega arith ]

-- the line is good as the line of its role
pub good_row : (h : AigerHeader) (rows : List (List ℕ)) (line row : List ℕ) (width : ℕ) (defining : Bool) → IsNextLine h rows width defining → IsRowOn line (2 * h.variables + 1) defining row → IsGoodRow h (role_at h (length rows)) row
good_row h rows line row width defining next on =
    record { in_range = on.in_range; plain = λ t. on.plain (subst IsTrue next.role t) }

pub row_good : (h : AigerHeader) (rows : List (List ℕ)) (line row : List ℕ) (width : ℕ) (defining : Bool) → IsNextLine h rows width defining → numbers_on line ≡ map Some row → IsGoodRow h (role_at h (length rows)) row → IsRowOn line (2 * h.variables + 1) defining row
row_good h rows line row width defining next written good =
    record { written = written; in_range = good.in_range; plain = λ t. good.plain (subst IsTrue (sym next.role) t) }

-- P of each place, and of the next one
each_more : (P : ℕ → List ℕ → Type 0) (rows : List (List ℕ)) (row : List ℕ) → ((k : ℕ) → k < length rows → P k (get_or rows k [])) → P (length rows) row → (k : ℕ) → k < length (rows ++ row ∷ []) → P k (get_or (rows ++ row ∷ []) k [])
each_more P rows row each here k below =
    elim (place_cases k (length rows) (omega (arith, length-append rows (row ∷ [])))) [
      | inl first ↦ subst (P k) (sym (get_or_append_left rows (row ∷ []) [] k first)) (each k first)
      | inr last ↦
          let there : P (length rows) (get_or (rows ++ row ∷ []) (length rows) []) = subst (P (length rows)) (sym (get_or-append_seam rows row [] [])) here in
          subst (λ n. P n (get_or (rows ++ row ∷ []) n [])) (sym last) there
    ]

-- one good line more
pub good_more : (h : AigerHeader) (body rows : List (List ℕ)) (row : List ℕ) (width : ℕ) (defining : Bool) → IsNextLine h rows width defining → length rows < length body → length row ≡ width → IsRowOn (get_or body (length rows) []) (2 * h.variables + 1) defining row → AllPairs (λ one other. one ≢ other) (defined (roles_of h) (rows ++ row ∷ [])) → AreGood h body rows → AreGood h body (rows ++ row ∷ [])
good_more h body rows row width defining next there wide on distinct good =
    record {
      announced = omega (arith, next.announced, length-append rows (row ∷ []));
      there = omega (arith, there, length-append rows (row ∷ []));
      written = each_more (λ k r. Writes (get_or body k []) (role_at h k) r) rows row good.written (record { numbers = on.written; width = wide ∙ sym next.wide });
      good = each_more (λ k r. IsGoodRow h (role_at h k) r) rows row good.good (good_row h rows (get_or body (length rows) []) row width defining next on);
      distinct = distinct;
    }

-- the fault of the next line is the body's
pub next_fault : (bytes : List ℕ) (h : AigerHeader) (rows : List (List ℕ)) (p : Piece) (signals : List ℕ) (count width : ℕ) (defining : Bool) (fault : NetKind) (at : ℕ) → IsReading bytes h rows p signals count → IsNextLine h rows width defining → at ≡ p.at → IsNextFault p (2 * h.variables + 1) defining width fault → IsFirstFault bytes h fault at
next_fault bytes h rows p signals count width defining kind.Truncated at reading next is none =
    record {
      rows = rows;
      good = reading.good;
      line_announced = next.announced;
      why = (body_ends bytes (length rows) p none reading.good.there reading.left, is ∙ file_ends bytes (length rows + 1) p none reading.left);
    }
next_fault bytes h rows p signals count width defining kind.BadLine at reading next is fault =
    let line = next_is bytes (length rows) p reading.left in
    record {
      rows = rows;
      good = reading.good;
      line_announced = next.announced;
      why = (
        record {
          there = there bytes (length rows) p fault.0 reading.left;
          unwritten = λ row writes. fault.1 row (writes.width ∙ next.wide) (ap numbers_on (sym line) ∙ writes.numbers);
        },
        is ∙ offset_is bytes (length rows + 1) p fault.0 reading.left,
      );
    }
next_fault bytes h rows p signals count width defining kind.BadLiteral at reading next is fault =
    let line = next_is bytes (length rows) p reading.left in
    let row = fault.1.0 in
    record {
      rows = rows;
      good = reading.good;
      line_announced = next.announced;
      why = (
        record {
          row = row;
          there = there bytes (length rows) p fault.0 reading.left;
          written = record { numbers = ap numbers_on line ∙ fault.1.2; width = fault.1.1 ∙ sym next.wide };
          bad = λ good. fault.1.3 (row_good h rows (next_line_of p) row width defining next fault.1.2 good);
        },
        is ∙ offset_is bytes (length rows + 1) p fault.0 reading.left,
      );
    }
next_fault bytes h rows p signals count width defining other at reading next is fault = absurd fault.1

-- the next line is read
pub row_read : (bytes : List ℕ) (h : AigerHeader) (rows : List (List ℕ)) (p : Piece) (signals : List ℕ) (count : ℕ) (defining : Bool) (row : List ℕ) → IsReading bytes h rows p signals count → 0 < length p.bytes → IsRowOn (next_line_of p) (2 * h.variables + 1) defining row → IsRowRead bytes h rows defining row (after_line p)
row_read bytes h rows p signals count defining row reading some on =
    record {
      there = there bytes (length rows) p some reading.left;
      on = subst (λ line. IsRowOn line (2 * h.variables + 1) defining row) (sym (next_is bytes (length rows) p reading.left)) on;
      left = place_more bytes (length rows + 1) p some reading.left;
    }

-- a line that defines nothing
pub reading_output : (bytes : List ℕ) (h : AigerHeader) (rows : List (List ℕ)) (p rest : Piece) (signals : List ℕ) (count width : ℕ) (row : List ℕ) → IsReading bytes h rows p signals count → IsNextLine h rows width false → length row ≡ width → IsRowRead bytes h rows false row rest → IsReading bytes h (rows ++ row ∷ []) rest signals count
reading_output bytes h rows p rest signals count width row reading next wide read =
    let same : defined (roles_of h) (rows ++ row ∷ []) ≡ defined (roles_of h) rows = defined_more (roles_of h) rows row next.announced ∙ (ap (λ t. defined (roles_of h) rows ++ (if t then first_of row / 2 ∷ [] else [])) next.role ∙ append-nil (defined (roles_of h) rows)) in
    record {
      good = good_more h (body_lines bytes) rows row width false next read.there wide read.on (subst (AllPairs (λ one other. one ≢ other)) (sym same) reading.good.distinct) reading.good;
      left = subst (λ n. IsAtLine bytes n rest) (omega (arith, length-append rows (row ∷ []))) read.left;
      numbered = subst (λ vs. IsNumbering h.variables vs signals) (sym same) reading.numbered;
      counted = reading.counted ∙ ap length (sym same);
    }

-- a line that defines a variable
pub reading_definition : (bytes : List ℕ) (h : AigerHeader) (rows : List (List ℕ)) (p rest : Piece) (signals : List ℕ) (count width : ℕ) (row : List ℕ) → IsReading bytes h rows p signals count → IsNextLine h rows width true → length row ≡ width → IsRowRead bytes h rows true row rest → first_of row / 2 < length signals → get_or signals (first_of row / 2) 0 ≡ 0 → IsReading bytes h (rows ++ row ∷ []) rest (set signals (first_of row / 2) (count + 1)) (count + 1)
reading_definition bytes h rows p rest signals count width row reading next wide read within free =
    let v = first_of row / 2 in
    let before = defined (roles_of h) rows in
    let more : defined (roles_of h) (rows ++ row ∷ []) ≡ before ++ v ∷ [] = defined_more (roles_of h) rows row next.announced ∙ ap (λ t. before ++ (if t then v ∷ [] else [])) next.role in
    let later = subst (λ n. IsNumbering h.variables (before ++ v ∷ []) (set signals v (n + 1))) (sym reading.counted) (signals_more h.variables before signals v within free reading.numbered) in
    let after : IsNumbering h.variables (defined (roles_of h) (rows ++ row ∷ [])) (set signals v (count + 1)) = subst (λ vs. IsNumbering h.variables vs (set signals v (count + 1))) (sym more) later in
    record {
      good = good_more h (body_lines bytes) rows row width true next read.there wide read.on (distinct h.variables (defined (roles_of h) (rows ++ row ∷ [])) (set signals v (count + 1)) after) reading.good;
      left = subst (λ n. IsAtLine bytes n rest) (omega (arith, length-append rows (row ∷ []))) read.left;
      numbered = after;
      counted = omega (arith, reading.counted, ap length more, length-append before (v ∷ []));
    }
