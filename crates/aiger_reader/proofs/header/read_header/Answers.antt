-- The header that is read, and no other.
use Rattle.std.proofs.Common.{◌≡◌, ℕ, List, None, Some, nat_lt, inr, subst, sym}
use Rattle.std.proofs.lemmas.Result.{IfErr-weaker}
use Rattle.std.specs.List.{list_any}
use Rattle.aiger_reader.specs.Headers.{Begins, header_fault}
use Rattle.aiger_reader.specs.Numbers.{header_of, header_from, IsHeaderFault}
use Rattle.aiger_reader.proofs.HeaderLemmas.{ok_both}
use Rattle.aiger_reader.proofs.header.read_header.Goals as goal

pub returns-clause-begins : goal.returns-clause-begins
returns-clause-begins c =
    let bytes = c.args.input.now in
    let whole = header_from c.in-Some.binary c.in-Some.numbers in
    let has = c.in-Some.ensures.header in
    ok_both c.accept.result (λ header. (properties : List ℕ) → header_of header properties ≡ whole properties) (λ header. (properties : List ℕ) → c.in-Some.numbers.has_property ≡ list_any (nat_lt 0) properties → header_fault (whole properties) ≡ None) (λ header. (properties : List ℕ) × Begins bytes (header_of header properties)) (λ header same fine. (has.properties, subst (Begins bytes) (sym (same has.properties)) (record { header = has.header; accepted = fine has.properties has.property }))) c.accept.ensures.header c.accept.ensures.accepted

pub returns-clause-fault : goal.returns-clause-fault
returns-clause-fault c =
    let whole = header_from c.in-Some.binary c.in-Some.numbers in
    let has = c.in-Some.ensures.header in
    IfErr-weaker c.accept.result (λ fault. (properties : List ℕ) → c.in-Some.numbers.has_property ≡ list_any (nat_lt 0) properties → header_fault (whole properties) ≡ Some fault) (IsHeaderFault c.args.input.now) (λ fault wrong. inr (whole has.properties, has.header, wrong has.properties has.property)) c.accept.ensures.fault
