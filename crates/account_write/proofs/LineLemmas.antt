-- The lines of an account, one after another.
use Rattle.std.proofs.Common.{◌≡◌, ℕ, ◌+◌, ◌<◌, ◌≤◌, ◌==◌, ◌&&◌, Bool, IsFalse, List, [], ◌∷◌, ◌++◌, length, map, All, Result, Ok, Err, OnOk, refl, sym, ap, subst, ◌∙◌, arith, append_assoc}
use Rattle.std.specs.List.{flat_map}
use Rattle.std.proofs.lemmas.Bool.{false≢true, and_from}
use Rattle.std.proofs.lemmas.List.{nil_from_length}
use Rattle.std.proofs.lemmas.List.Elements.{All-cons}
use Rattle.cnf_core.specs.declared.log.Log.{Log}
use Rattle.cnf_core.specs.declared.log.LogLine.{LogLine}
use Rattle.claim_core.specs.declared.claims.Claim.{Claim}
use Rattle.account_core.specs.declared.fact.Evidence.{Evidence}
use Rattle.account_core.specs.declared.fact.Evidence.TheVariants as evidence
use Rattle.account_core.specs.declared.fact.Fact.{Fact}
use Rattle.account_core.specs.declared.step.Ban.{Ban}
use Rattle.account_file.specs.declared.record.Record.{Record}
use Rattle.account_file.specs.declared.record.Record.TheVariants as entry
use Rattle.account_file.specs.Spelling.{record_line, IsWritable}
use Rattle.account_write.specs.declared.lines.AccountLines.{AccountLines}
use Rattle.account_write.specs.Records.{Steps, fact_records, head_of, in_order, lines_of, log_lines, log_records, records_left, shown_records}

-- a fact's records are its line and those of its log
shown_is : (claim : Claim) (e : Evidence) → shown_records claim e ≡ head_of claim e ∷ map (λ line. entry.Line line) (log_lines e)
shown_is claim (evidence.Fails bits) = refl
shown_is claim (evidence.Holds log) = refl

-- the next record in order, where what comes before it is empty by its length

pub line_next : (front : List Record) (log rest : List LogLine) (facts : List Fact) (logs : List Log) (bans : List Ban) (back : List Record) (one : LogLine) → length front ≡ 0 → log ≡ one ∷ rest → in_order front log facts logs bans back ≡ entry.Line one ∷ in_order front rest facts logs bans back
line_next front log rest facts logs bans back one none is = rw (nil_from_length front none) (ap (λ l. in_order [] l facts logs bans back) is)

pub fact_next : (front : List Record) (log lines : List LogLine) (facts rest : List Fact) (logs : List Log) (bans : List Ban) (back : List Record) (one : Fact) → length front ≡ 0 → length log ≡ 0 → facts ≡ one ∷ rest → lines ≡ log_lines one.evidence → in_order front log facts logs bans back ≡ head_of one.claim one.evidence ∷ in_order front lines rest logs bans back
fact_next front log lines facts rest logs bans back one none no_line is of_log =
    let after = flat_map log_records logs ++ (map (λ ban. entry.Ban ban) bans ++ back) in
    rw (nil_from_length front none, nil_from_length log no_line)
    (ap (λ fs. in_order [] [] fs logs bans back) is
    ∙ append_assoc (fact_records one) (flat_map fact_records rest) after
    ∙ ap (λ l. l ++ (flat_map fact_records rest ++ after)) (shown_is one.claim one.evidence)
    ∙ ap (λ ls. head_of one.claim one.evidence ∷ in_order [] ls rest logs bans back) (sym of_log))

pub log_next : (front : List Record) (log lines : List LogLine) (facts : List Fact) (logs rest : List Log) (bans : List Ban) (back : List Record) (one : Log) → length front ≡ 0 → length log ≡ 0 → length facts ≡ 0 → logs ≡ one ∷ rest → lines ≡ one.lines → in_order front log facts logs bans back ≡ in_order front lines facts rest bans back
log_next front log lines facts logs rest bans back one none no_line no_fact is of_log =
    rw (nil_from_length front none, nil_from_length log no_line, nil_from_length facts no_fact)
    (ap (λ ls. in_order [] [] [] ls bans back) is
    ∙ append_assoc (log_records one) (flat_map log_records rest) (map (λ ban. entry.Ban ban) bans ++ back)
    ∙ ap (λ ls. in_order [] ls [] rest bans back) (sym of_log))

pub ban_next : (front : List Record) (log : List LogLine) (facts : List Fact) (logs : List Log) (bans rest : List Ban) (back : List Record) (one : Ban) → length front ≡ 0 → length log ≡ 0 → length facts ≡ 0 → length logs ≡ 0 → bans ≡ one ∷ rest → in_order front log facts logs bans back ≡ entry.Ban one ∷ in_order front log facts logs rest back
ban_next front log facts logs bans rest back one none no_line no_fact no_log is =
    rw (nil_from_length front none, nil_from_length log no_line, nil_from_length facts no_fact, nil_from_length logs no_log) (ap (λ bs. in_order [] [] [] [] bs back) is)

pub back_next : (front : List Record) (log : List LogLine) (facts : List Fact) (logs : List Log) (bans : List Ban) (back rest : List Record) (one : Record) → length front ≡ 0 → length log ≡ 0 → length facts ≡ 0 → length logs ≡ 0 → length bans ≡ 0 → back ≡ one ∷ rest → in_order front log facts logs bans back ≡ one ∷ in_order front log facts logs bans rest
back_next front log facts logs bans back rest one none no_line no_fact no_log no_ban is =
    rw (nil_from_length front none, nil_from_length log no_line, nil_from_length facts no_fact, nil_from_length logs no_log, nil_from_length bans no_ban) is

-- where one of the lists isn't empty a step is left

pub some_left : (front : List Record) (log : List LogLine) (facts : List Fact) (logs : List Log) (bans : List Ban) (back : List Record) (a b c d e f : Bool)
    → a ≡ (length front == 0)
    → b ≡ (length log == 0)
    → c ≡ (length facts == 0)
    → d ≡ (length logs == 0)
    → e ≡ (length bans == 0)
    → f ≡ (length back == 0)
    → IsFalse (a && b && c && d && e && f)
    → 0 < length (in_order front log facts logs bans back) + length logs
some_left [] [] [] [] [] [] a b c d e f one two three four five six is =
    absurd (false≢true (sym is ∙ and_from (a && b && c && d && e) f (and_from (a && b && c && d) e (and_from (a && b && c) d (and_from (a && b) c (and_from a b one two) three) four) five) six))
some_left [] [] (x ∷ facts) logs bans back a b c d e f one two three four five six is =
    let first = fact_next [] [] (log_lines x.evidence) (x ∷ facts) facts logs bans back x refl refl refl refl in omega (arith, ap length first)
some_left front log facts logs bans back a b c d e f one two three four five six is = omega arith

-- a line was printed
pub printed : {E : Type 0} (result : Result (Unit {0}) E) (old new : AccountLines) (before after : List ℕ) (one : Record)
    → records_left old ≡ one ∷ records_left new
    → length new.logs.now ≤ length old.logs.now
    → OnOk result (after ≡ before ++ record_line one)
    → OnOk result (IsWritable one)
    → OnOk result (Steps old new before after)
printed {E} (Err stop) old new before after one first logs line writable = tt
printed {E} (Ok done) old new before after one first logs line writable = record {
  lines = ap (λ text. text ++ lines_of (records_left new)) line ∙ (append_assoc before (record_line one) (lines_of (records_left new)) ∙ ap (λ entries. before ++ lines_of entries) (sym first));
  writable = λ each. subst (All IsWritable) (sym first) (All-cons IsWritable one (records_left new) writable each);
  fewer = λ some. omega (arith, logs, ap length first);
}

-- a log was begun
pub begun : (old new : AccountLines) (text : List ℕ)
    → records_left old ≡ records_left new
    → length new.logs.now < length old.logs.now
    → Steps old new text text
begun old new text same fewer = record {
  lines = ap (λ entries. text ++ lines_of entries) (sym same);
  writable = λ each. subst (All IsWritable) (sym same) each;
  fewer = λ some. omega (arith, fewer, ap length same);
}
