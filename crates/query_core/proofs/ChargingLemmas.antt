-- A ledger as what lines are charged to.
use Rattle.std.proofs.Common.{◌≡◌, ℕ, ◌+◌, ◌-◌, ◌<◌, Bool, true, false, List, [], ◌∷◌, ◌++◌, length, nat_lt, slice_index_or, slice_set, Result, Ok, Err, OnOk, IfErr, sym, ◌∙◌, ap, arith}
use Rattle.std.proofs.lemmas.Bool.{lt-ltb, ltb-true}
use Rattle.std.proofs.lemmas.List.{get_or-set_same, length-set, set-get_or, set-set}
use Rattle.cnf_core.specs.declared.log.LogLine.{LogLine}
use Rattle.cnf_core.specs.declared.stop.Stop.{Stop}
use Rattle.cnf_core.specs.declared.stop.Stop.TheVariants.{Spent, Memory}
use Rattle.cnf_core.specs.Charges.{IsCharged}
use Rattle.cnf_core.specs.Charges.{IsRefused as IsNotCharged}
use Rattle.query_core.specs.declared.ledger.Asked.{Asked}
use Rattle.query_core.specs.Ledgers.{IsRefused, Ledgered, charging_of, last_asked, learned_in, lines_in, nothing_asked, one_if, with_line, with_lines}

-- the last entry with other lines
last_with : (asked : List Asked) (lines : List LogLine) → 0 < length asked → last_asked (with_lines lines asked) ≡ record (last_asked asked) { lines = lines }
last_with asked lines there =
    let at = length asked - 1 in
    let e = last_asked asked in
    let last : length (with_lines lines asked) - 1 ≡ at = omega (arith, length-set asked at (record e { lines = lines })) in
    ap (λ k. slice_index_or (with_lines lines asked) k nothing_asked) last ∙ get_or-set_same asked at (record e { lines = lines }) nothing_asked (omega (arith, there))

last_lines : (asked : List Asked) (lines : List LogLine) → 0 < length asked → (last_asked (with_lines lines asked)).lines ≡ lines
last_lines asked lines there = ap (λ (x : Asked). x.lines) (last_with asked lines there)

-- lines given twice to the last entry
pub lines_twice : (asked : List Asked) (first second : List LogLine) → 0 < length asked → with_lines second (with_lines first asked) ≡ with_lines second asked
lines_twice asked first second there =
    let at = length asked - 1 in
    let e = last_asked asked in
    let last : length (with_lines first asked) - 1 ≡ at = omega (arith, length-set asked at (record e { lines = first })) in
    ap (λ k. slice_set (with_lines first asked) k (record (last_asked (with_lines first asked)) { lines = second })) last
    ∙ (ap (λ (x : Asked). slice_set (with_lines first asked) at (record x { lines = second })) (last_with asked first there) ∙ set-set asked at (record e { lines = first }) (record e { lines = second }))

own_lines : (asked : List Asked) → with_lines (last_asked asked).lines asked ≡ asked
own_lines asked = set-get_or asked (length asked - 1) nothing_asked

-- an entry is open where one is there
is_there : (ledger : Ledgered) → (charging_of ledger).opened ≡ true → 0 < length ledger.asked
is_there ledger opened = ltb-true 0 (length ledger.asked) opened

pub is_opened : (ledger : Ledgered) → 0 < length ledger.asked → (charging_of ledger).opened ≡ true
is_opened ledger there = lt-ltb 0 (length ledger.asked) there

-- the entries with other lines, and with as many made
relined : (ledger : Ledgered) (lines : List LogLine) (made : ℕ) (spent : Bool) → 0 < length ledger.asked → lines_in (record ledger { asked = with_lines lines ledger.asked; spent = spent }) ≡ made → charging_of (record ledger { asked = with_lines lines ledger.asked; spent = spent }) ≡ record (charging_of ledger) { lines = lines; made = made; spent = spent }
relined ledger lines made spent there counted =
    let new = with_lines lines ledger.asked in
    let entry = last_asked ledger.asked in
    let size : length new ≡ length ledger.asked = length-set ledger.asked (length ledger.asked - 1) (record entry { lines = lines }) in
    ap (λ n. record (charging_of (record ledger { asked = new; spent = spent })) { made = n }) counted
    ∙ (ap (λ n. record (charging_of (record ledger { asked = new; spent = spent })) { made = made; opened = nat_lt 0 n }) size
    ∙ (ap (λ (ls : List LogLine). record (charging_of ledger) { made = made; lines = ls; spent = spent; others = with_lines [] new }) (last_lines ledger.asked lines there)
    ∙ ap (λ (others : List Asked). record (charging_of ledger) { made = made; lines = lines; spent = spent; others = others }) (lines_twice ledger.asked lines [] there)))

line_charged : (old new : Ledgered) (line : LogLine) → (charging_of old).opened ≡ true → old.spent ≡ false → learned_in old < old.budget → learned_in new ≡ learned_in old + 1 → new ≡ record old { asked = with_line line old.asked } → IsCharged (charging_of old) line (charging_of new)
line_charged old new line opened fresh within counted charged =
    let lines = (last_asked old.asked).lines ++ line ∷ [] in
    let unspent = ap one_if fresh in
    let still = ap (λ (l : Ledgered). one_if l.spent) charged in
    let more : lines_in new ≡ lines_in old + 1 = omega (arith, counted, unspent, still) in
    record {
      within = omega (arith, within, unspent);
      charged = ap charging_of charged ∙ relined old lines (lines_in old + 1) old.spent (is_there old opened) (ap lines_in (sym charged) ∙ more);
    }

line_refused : (old new : Ledgered) (line : LogLine) (stop : Stop) → (charging_of old).opened ≡ true → old.spent ≡ false → IsRefused old line new stop → IsNotCharged (charging_of old) line (charging_of new) stop
line_refused old new line Memory opened fresh same = ap charging_of same
line_refused old new line (Spent learned) opened fresh is =
    let lines = (last_asked old.asked).lines ++ line ∷ [] in
    let full : lines_in old ≡ old.budget = omega (arith, is.budget, ap one_if fresh) in
    record {
      told = is.learned_is;
      spent = full;
      refused = ap charging_of is.refused ∙ relined old lines (lines_in old + 1) true (is_there old opened) (ap lines_in (sym is.refused) ∙ (is.made ∙ omega (arith, full)));
    }

-- a call that charges a line, or refuses it
pub call_charged : (old new : Ledgered) (line : LogLine) (r : Result (Unit {0}) Stop) → (charging_of old).opened ≡ true → old.spent ≡ false → OnOk r (learned_in old < old.budget) → OnOk r (learned_in new ≡ learned_in old + 1) → OnOk r (new ≡ record old { asked = with_line line old.asked }) → OnOk r (IsCharged (charging_of old) line (charging_of new))
call_charged old new line (Ok done) opened fresh within counted charged = line_charged old new line opened fresh within counted charged
call_charged old new line (Err stop) opened fresh within counted charged = tt

pub call_refused : (old new : Ledgered) (line : LogLine) (r : Result (Unit {0}) Stop) → (charging_of old).opened ≡ true → old.spent ≡ false → IfErr r (IsRefused old line new) → IfErr r (IsNotCharged (charging_of old) line (charging_of new))
call_refused old new line (Ok done) opened fresh refused = tt
call_refused old new line (Err stop) opened fresh refused = line_refused old new line stop opened fresh refused

-- entries of which only the last one's lines changed
pub asked_after : (before after : Ledgered) (lines : List LogLine) → (charging_of before).opened ≡ true → (charging_of after).opened ≡ true → (charging_of after).lines ≡ lines → (charging_of after).others ≡ (charging_of before).others → after.asked ≡ with_lines lines before.asked
asked_after before after lines opened opened_after lines_are others =
    sym (own_lines after.asked)
    ∙ (ap (λ ls. with_lines ls after.asked) lines_are
    ∙ (sym (lines_twice after.asked [] lines (is_there after opened_after))
    ∙ (ap (with_lines lines) others ∙ lines_twice before.asked [] lines (is_there before opened))))
