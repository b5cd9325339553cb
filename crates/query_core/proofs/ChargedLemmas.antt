-- The lines that were charged in a ledger, and their bytes.
use Rattle.std.proofs.Common.{◌≡◌, ℕ, suc, ◌+◌, ◌-◌, ◌^◌, ◌<◌, ◌≤◌, List, [], ◌∷◌, ◌++◌, length, take, drop, cond, All, inl, inr, refl, sym, ap, subst, ◌∙◌, append_assoc, append-nil, arith}
use Rattle.std.proofs.lemmas.Bool.{cases_eq}
use Rattle.std.proofs.lemmas.Bool.Decides.{eqb_tells}
use Rattle.std.proofs.lemmas.List.{drop-append-le, drop-drop, drop_all, flat_map_more, length-append, set_split, take_all, take_more}
use Rattle.std.proofs.lemmas.List.Concat.{flat_map-append}
use Rattle.std.proofs.lemmas.List.Elements.{All-head, All-tail}
use Rattle.cnf_core.specs.declared.log.LogLine.{LogLine}
use Rattle.claim_core.specs.declared.query.Query.{Query}
use Rattle.query_core.specs.declared.ledger.Asked.{Asked}
use Rattle.query_core.specs.Ledgers.{AreLeft, charged_front, charged_lines, charged_of, entry_of, last_asked, nothing_asked, opened, with_line}
use Rattle.line_codec.specs.LineBytes.{IsOfWords, ReadsBack, line_bytes, lines_bytes}
use Rattle.line_codec.proofs.LineLemmas.{some_line}

-- entries with one more at the end
charged_push : (asked : List Asked) (entry : Asked) → charged_lines (asked ++ entry ∷ []) ≡ charged_lines asked ++ charged_of entry
charged_push asked entry = flat_map-append charged_of asked (entry ∷ []) ∙ ap (λ lines. charged_lines asked ++ lines) (append-nil (charged_of entry))

-- the entries before the last one, and it
by_last : (asked : List Asked) → 0 < length asked → asked ≡ take (length asked - 1) asked ++ last_asked asked ∷ []
by_last asked some =
    let at = length asked - 1 in
    sym (take_all (at + 1) asked (omega (arith, some))) ∙ take_more asked at nothing_asked (omega (arith, some))

pub charged_more : (asked : List Asked) (line : LogLine) → 0 < length asked → All (λ e. e.lemmas ≤ length e.lines) asked → charged_lines (with_line line asked) ≡ charged_lines asked ++ line ∷ []
charged_more asked line some lemmas =
    let at = length asked - 1 in
    let e = last_asked asked in
    let front = take at asked in
    let grown : Asked = record e { lines = e.lines ++ line ∷ [] } in
    let past : drop (suc at) asked ≡ [] = drop_all (suc at) asked (omega (arith, some)) in
    let set_is : with_line line asked ≡ front ++ grown ∷ [] = set_split asked at grown (omega (arith, some)) ∙ ap (λ (es : List Asked). front ++ grown ∷ es) past in
    let within : e.lemmas ≤ length e.lines = lemmas at nothing_asked (omega (arith, some)) in
    let last : charged_of grown ≡ charged_of e ++ line ∷ [] = drop-append-le e.lemmas e.lines (line ∷ []) within in
    ap charged_lines set_is
    ∙ (charged_push front grown
    ∙ (ap (λ lines. charged_lines front ++ lines) last
    ∙ (sym (append_assoc (charged_lines front) (charged_of e) (line ∷ []))
    ∙ ap (λ lines. lines ++ line ∷ []) (sym (charged_push front e) ∙ ap charged_lines (sym (by_last asked some))))))

-- a last entry without charged lines
front_charged : (asked : List Asked) → charged_lines (charged_front asked) ≡ charged_lines asked
front_charged asked =
    let e = last_asked asked in
    let at = length asked - 1 in
    elim (eqb_tells (length e.lines) e.lemmas) [
      | inl (found, same) ↦ ap (λ t. charged_lines (cond t (take at asked) asked)) found ∙ without same
      | inr (found, apart) ↦ ap (λ t. charged_lines (cond t (take at asked) asked)) found
    ]
  where
    without : length (last_asked asked).lines ≡ (last_asked asked).lemmas → charged_lines (take (length asked - 1) asked) ≡ charged_lines asked
    without same =
        elim (cases_eq (length asked) 0) [
          | inl none ↦ ap charged_lines (take_all (length asked - 1) asked (omega (arith, none)))
          | inr some ↦
              let front = take (length asked - 1) asked in
              let e = last_asked asked in
              let none : charged_of e ≡ [] = drop_all e.lemmas e.lines (omega (arith, same)) in
              sym (append-nil (charged_lines front)) ∙ (ap (λ lines. charged_lines front ++ lines) (sym none) ∙ (sym (charged_push front e) ∙ ap charged_lines (sym (by_last asked (omega (arith, some))))))
        ]

-- an entry that is opened has no charged lines
pub charged_opened : (query : Query) (lemmas : List LogLine) (asked : List Asked) → charged_lines (opened query lemmas asked) ≡ charged_lines asked
charged_opened query lemmas asked =
    let none : charged_of (entry_of query lemmas) ≡ [] = drop_all (length lemmas) lemmas (omega arith) in
    charged_push (charged_front asked) (entry_of query lemmas) ∙ (ap (λ lines. charged_lines (charged_front asked) ++ lines) none ∙ (append-nil (charged_lines (charged_front asked)) ∙ front_charged asked))

-- a line was written after the others
pub coded_more : (lines : List LogLine) (line : LogLine) (bytes more : List ℕ) → bytes ≡ lines_bytes lines → more ≡ bytes ++ line_bytes line → more ≡ lines_bytes (lines ++ line ∷ [])
coded_more lines line bytes more are put = put ∙ (ap (λ text. text ++ line_bytes line) are ∙ flat_map_more line_bytes [] lines line)

-- ---- read

-- no bytes are left where no line is
pub none_left : (lines : List LogLine) (bytes : List ℕ) (read : ℕ) → AreLeft lines bytes read → length bytes ≡ 0 → lines ≡ []
none_left [] bytes read are none = refl
none_left (line ∷ lines) bytes read are none = absurd (omega (arith, some_line line (lines_bytes lines), ap length are.coded, none))

-- The first of the lines that are left was read.
pub record IsFirstRead (lines : List LogLine) (bytes : List ℕ) (read size : ℕ) (line : LogLine) : Type 0 where
  pub first : lines ≡ line ∷ drop 1 lines
  pub left : AreLeft (drop 1 lines) (drop size bytes) (read + 1)
  pub next : read + 1 < 2 ^ 64

pub first_read : (lines : List LogLine) (bytes : List ℕ) (read size : ℕ) (line : LogLine) → AreLeft lines bytes read → 0 < length bytes → ReadsBack IsOfWords line_bytes bytes (drop size bytes) line → IsFirstRead lines bytes read size line
first_read [] bytes read size line are some told = absurd (omega (arith, some, ap length are.coded))
first_read (first ∷ lines) bytes read size line are some told =
    let others = lines_bytes lines in
    let reads = told first others (All-head IsOfWords first lines are.words) are.coded in
    let more : 0 < length (line_bytes first) = subst (λ text. 0 < length text) (append-nil (line_bytes first)) (some_line first []) in
    record {
      first = ap (λ l. l ∷ lines) (sym reads.0);
      left = record {
        coded = reads.1;
        words = All-tail IsOfWords first lines are.words;
        few = omega (arith, are.few, ap length are.coded, length-append (line_bytes first) others, more, ap length reads.1);
      };
      next = omega (arith, are.few, some);
    }

-- Lines that are left of all.
pub left_more : (all : List LogLine) (bytes : List ℕ) (read : ℕ) → AreLeft (drop 1 (drop read all)) bytes (read + 1) → AreLeft (drop (read + 1) all) bytes (read + 1)
left_more all bytes read are = subst (λ lines. AreLeft lines bytes (read + 1)) (drop-drop 1 read all) are
