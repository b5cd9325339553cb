-- Lines counted over the entries of a ledger.
use Rattle.std.proofs.Common.{◌≡◌, ℕ, ◌+◌, ◌-◌, ◌<◌, ◌≤◌, eqb, cond, Bool, true, false, List, [], ◌∷◌, ◌++◌, length, take, All, sum_by, slice_index_or, slice_set, inl, inr, sym, subst, ◌∙◌, ap, arith}
use Rattle.std.proofs.lemmas.Bool.{cases_eq}
use Rattle.std.proofs.lemmas.Bool.Decides.{eqb_tells}
use Rattle.std.proofs.lemmas.List.{get_or_default, length-append, take_all}
use Rattle.std.proofs.lemmas.List.Sums.{sum_by-set, sum_by_push, sum_by_more}
use Rattle.std.proofs.lemmas.List.Elements.{All-set, All-push, All-take}
use Rattle.cnf_core.specs.declared.log.LogLine.{LogLine}
use Rattle.claim_core.specs.declared.query.Query.{Query}
use Rattle.query_core.specs.declared.ledger.Asked.{Asked}
use Rattle.query_core.specs.Ledgers.{IsLedger, IsSpent, Ledgered, charged_front, charged_in, charged_lines, entry_of, last_asked, learned_in, nothing_asked, one_if, opened, with_line}
use Rattle.line_codec.specs.LineBytes.{IsOfWords, line_bytes, lines_bytes}
use Rattle.query_core.proofs.ChargedLemmas.{charged_more, charged_opened, coded_more}

-- what is written over the last entry
pub written : (asked : List Asked) (at : ℕ) (line : LogLine) (lent entry : Asked) → at ≡ length asked - 1 → 0 < length asked → lent ≡ slice_index_or asked at lent → entry ≡ record lent { lines = lent.lines ++ line ∷ [] } → slice_set asked at entry ≡ with_line line asked
written asked at line lent entry last there lent_is entry_is =
    let within : at < length asked = omega (arith, last, there) in
    let more : Asked → Asked = λ (e : Asked). record e { lines = e.lines ++ line ∷ [] } in
    let is_last : lent ≡ last_asked asked = lent_is ∙ (get_or_default asked at lent nothing_asked within ∙ ap (λ k. slice_index_or asked k nothing_asked) last) in
    ap (slice_set asked at) (entry_is ∙ ap more is_last) ∙ ap (λ k. slice_set asked k (more (last_asked asked))) last

one_more : (asked : List Asked) (line : LogLine) → 0 < length asked → All (λ e. e.lemmas ≤ length e.lines) asked → sum_by charged_in (with_line line asked) ≡ sum_by charged_in asked + 1
one_more asked line there lemmas =
    let at = length asked - 1 in
    let within : at < length asked = omega (arith, there) in
    let e = last_asked asked in
    let grown = sum_by-set charged_in asked at (record e { lines = e.lines ++ line ∷ [] }) nothing_asked within in
    omega (arith, grown, lemmas at nothing_asked within, length-append e.lines (line ∷ []))

lemmas_kept : (asked : List Asked) (line : LogLine) → 0 < length asked → All (λ e. e.lemmas ≤ length e.lines) asked → All (λ e. e.lemmas ≤ length e.lines) (with_line line asked)
lemmas_kept asked line there lemmas =
    let at = length asked - 1 in
    let e = last_asked asked in
    let grown : e.lemmas ≤ length (e.lines ++ line ∷ []) = omega (arith, lemmas at nothing_asked (omega (arith, there)), length-append e.lines (line ∷ [])) in
    All-set (λ (x : Asked). x.lemmas ≤ length x.lines) asked at (record e { lines = e.lines ++ line ∷ [] }) grown lemmas

pub learned_is : (ledger : Ledgered) (learned : ℕ) (bytes : List ℕ) → IsLedger ledger learned bytes → learned_in ledger ≡ learned
learned_is ledger learned bytes is = omega (arith, is.counted)

-- A line was written to the last entry of a ledger, to which it may be charged, and its bytes after the others.
pub record IsLined (ledger : Ledgered) (learned : ℕ) (line : LogLine) (asked : List Asked) (bytes more : List ℕ) : Type 0 where
  pub kept : IsLedger ledger learned bytes
  pub unspent : one_if ledger.spent ≡ 0
  pub counted : sum_by charged_in asked ≡ learned + 1
  pub lemmas : All (λ entry. entry.lemmas ≤ length entry.lines) asked
  pub is : asked ≡ with_line line ledger.asked
  pub coded : more ≡ lines_bytes (charged_lines asked)
  pub words : All IsOfWords (charged_lines asked)

pub lined_in : {view ledger : Ledgered} {learned : ℕ} {line : LogLine} {asked : List Asked} {bytes more : List ℕ} → ledger ≡ view → view.spent ≡ false → 0 < length view.asked → IsLedger ledger learned bytes → asked ≡ with_line line ledger.asked → more ≡ bytes ++ line_bytes line → IsOfWords line → IsLined ledger learned line asked bytes more
lined_in {view} {ledger} {learned} {line} {asked} {bytes} {more} same not_spent some kept is put words =
    let there : 0 < length ledger.asked = subst (λ (l : Ledgered). 0 < length l.asked) (sym same) some in
    let unspent : one_if ledger.spent ≡ 0 = ap (λ (l : Ledgered). one_if l.spent) same ∙ ap one_if not_spent in
    let lines : charged_lines asked ≡ charged_lines ledger.asked ++ line ∷ [] = ap charged_lines is ∙ charged_more ledger.asked line there kept.lemmas in
    record {
      kept = kept;
      unspent = unspent;
      counted = omega (arith, ap (sum_by charged_in) is, one_more ledger.asked line there kept.lemmas, kept.counted, unspent);
      lemmas = subst (All (λ (e : Asked). e.lemmas ≤ length e.lines)) (sym is) (lemmas_kept ledger.asked line there kept.lemmas);
      is = is;
      coded = coded_more (charged_lines ledger.asked) line bytes more kept.coded put ∙ ap lines_bytes (sym lines);
      words = subst (All IsOfWords) (sym lines) (All-push IsOfWords (charged_lines ledger.asked) line kept.words words);
    }

-- it is charged, or refused
pub kept_charged : {ledger : Ledgered} {learned : ℕ} {line : LogLine} {asked : List Asked} {bytes more : List ℕ} → IsLined ledger learned line asked bytes more → learned < ledger.budget → IsLedger (record ledger { asked = asked }) (learned + 1) more
kept_charged lined room = record {
  counted = omega (arith, lined.counted, lined.unspent);
  within = omega (arith, room);
  lemmas = lined.lemmas;
  coded = lined.coded;
  words = lined.words;
}

pub kept_spent : {ledger : Ledgered} {learned : ℕ} {line : LogLine} {asked : List Asked} {bytes more : List ℕ} → IsLined ledger learned line asked bytes more → IsLedger (record ledger { asked = asked; spent = true }) learned more
kept_spent lined = record {
  counted = omega (arith, lined.counted);
  within = lined.kept.within;
  lemmas = lined.lemmas;
  coded = lined.coded;
  words = lined.words;
}

pub is_charged : {view ledger : Ledgered} {learned : ℕ} {line : LogLine} {asked : List Asked} {bytes more : List ℕ} → ledger ≡ view → IsLined ledger learned line asked bytes more → record ledger { asked = asked } ≡ record view { asked = with_line line view.asked }
is_charged {ledger = ledger} {line = line} same lined =
    ap (λ (xs : List Asked). record ledger { asked = xs }) lined.is ∙ ap (λ (l : Ledgered). record l { asked = with_line line l.asked }) same

pub one_learned : {view ledger : Ledgered} {learned : ℕ} {line : LogLine} {asked : List Asked} {bytes more : List ℕ} → ledger ≡ view → IsLined ledger learned line asked bytes more → learned_in (record ledger { asked = asked }) ≡ learned_in view + 1
one_learned {ledger = ledger} {asked = asked} same lined =
    subst (λ (l : Ledgered). learned_in (record ledger { asked = asked }) ≡ learned_in l + 1) same (omega (arith, lined.counted, lined.unspent, lined.kept.counted))

pub is_spent : {view ledger : Ledgered} {learned : ℕ} {line : LogLine} {asked : List Asked} {bytes more : List ℕ} → ledger ≡ view → IsLined ledger learned line asked bytes more → learned ≡ ledger.budget → IsSpent view line (record ledger { asked = asked; spent = true }) learned
is_spent {ledger = ledger} {learned = learned} {line = line} {asked = asked} same lined full =
    subst (λ (l : Ledgered). IsSpent l line (record ledger { asked = asked; spent = true }) learned) same (record {
      learned_is = full;
      budget = omega (arith, lined.kept.counted, lined.unspent, full);
      counted = omega (arith, lined.counted, full);
      made = omega (arith, lined.counted, full);
      refused = ap (λ (xs : List Asked). record ledger { asked = xs; spent = true }) lined.is;
    })

-- an entry without learned lines doesn't count
front_counts : (asked : List Asked) → sum_by charged_in (charged_front asked) ≡ sum_by charged_in asked
front_counts asked =
    let e = last_asked asked in
    elim (eqb_tells (length e.lines) e.lemmas) [
      | inl (found, same) ↦ ap (λ t. sum_by charged_in (cond t (take (length asked - 1) asked) asked)) found ∙ without same
      | inr (found, differ) ↦ ap (λ t. sum_by charged_in (cond t (take (length asked - 1) asked) asked)) found
    ]
  where
    without : length (last_asked asked).lines ≡ (last_asked asked).lemmas → sum_by charged_in (take (length asked - 1) asked) ≡ sum_by charged_in asked
    without same =
        elim (cases_eq (length asked) 0) [
          | inl none ↦ ap (sum_by charged_in) (take_all (length asked - 1) asked (omega (arith, none)))
          | inr some ↦
              let more = sum_by_more charged_in asked (length asked - 1) nothing_asked (omega (arith, some)) in
              let all : take (length asked - 1 + 1) asked ≡ asked = take_all (length asked - 1 + 1) asked (omega arith) in
              omega (arith, more, ap (sum_by charged_in) all, same)
        ]

front_lemmas : (asked : List Asked) → All (λ e. e.lemmas ≤ length e.lines) asked → All (λ e. e.lemmas ≤ length e.lines) (charged_front asked)
front_lemmas asked lemmas = by_test (eqb (length (last_asked asked).lines) (last_asked asked).lemmas)
  where
    by_test : (t : Bool) → All (λ (e : Asked). e.lemmas ≤ length e.lines) (cond t (take (length asked - 1) asked) asked)
    by_test true = All-take (λ (e : Asked). e.lemmas ≤ length e.lines) (length asked - 1) asked lemmas
    by_test false = lemmas

pub kept_opened : (ledger : Ledgered) (learned : ℕ) (bytes : List ℕ) (query : Query) (lemmas : List LogLine) → IsLedger ledger learned bytes → IsLedger (record ledger { asked = opened query lemmas ledger.asked }) learned bytes
kept_opened ledger learned bytes query lemmas is = record {
  counted = omega (arith, is.counted, front_counts ledger.asked, sum_by_push charged_in (charged_front ledger.asked) (entry_of query lemmas));
  within = is.within;
  lemmas = All-push (λ (e : Asked). e.lemmas ≤ length e.lines) (charged_front ledger.asked) (entry_of query lemmas) (front_lemmas ledger.asked is.lemmas) (omega arith);
  coded = is.coded ∙ ap lines_bytes (sym (charged_opened query lemmas ledger.asked));
  words = subst (All IsOfWords) (sym (charged_opened query lemmas ledger.asked)) is.words;
}
