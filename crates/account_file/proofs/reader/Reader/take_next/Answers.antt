-- A record that was read has two bytes at least.
use Rattle.std.proofs.Common.{◌≡◌, ◌+◌, ◌-◌, ◌≤◌, None, Some, Ok, Err, refl, length, take, drop, sym, ap, subst, ◌∙◌, arith, length-drop}
use Rattle.std.proofs.lemmas.List.{drop-drop}
use Rattle.std.specs.List.{position_or_len}
use Rattle.std.proofs.Math.Seq.{take-length}
use Rattle.text_core.specs.Bytes.{is_line_feed}
use Rattle.account_file.specs.declared.fault.FileStop.TheVariants.{Fault}
use Rattle.account_file.specs.declared.next_record.NextRecord.TheVariants.{Wait, Read, Refuse}
use Rattle.account_file.specs.Reading.{IsCounted, Reading}
use Rattle.account_file.specs.NextRecords.{IsNext, StepsFrom, form_at, form_of, looked_after, reading_after}
use Rattle.account_file.proofs.NextLemmas.{used_of, counted_more, form_told, next_here, waits_in}
use Rattle.account_file.proofs.StepLemmas.{step_again, step_given, step_refused}
use Rattle.account_file.proofs.reader.Reader.take_next.Goals as goal

pub next_in-requires-clause-form : goal.next_in-requires-clause-form
next_in-requires-clause-form c =
    form_told c.self.inside.place (take (length c.deref.result.now - c.self.inside.start) (drop c.self.inside.start c.deref.result.now)) c.self.inside.binary c.form_at-binary.result c.form_at-binary.ensures

pub overflow_add-self : goal.overflow_add-self
overflow_add-self c =
    let inside = c.self.inside in
    let is = subst (IsNext c.form_at-binary.result (take (length c.deref.result.now - inside.start) (drop inside.start c.deref.result.now)) inside.finished inside.place) c.in-Read.is c.in_ok-next_in.ensures in
    let used = used_of c.form_at-binary.result inside.bytes.items c.deref.result.now inside.start inside.finished inside.place c.in-Read.entry c.in-Read.place c.in-Read.used c.deref.ensures.value is in
    omega (arith, used.1, c.deref.type_inv.0, c.self.invariant.within, ap length c.deref.ensures.value)

pub invariant_of-self : goal.invariant_of-self
invariant_of-self c =
    let inside = c.self.inside in
    let all = c.deref.result.now in
    let left = take (length all - inside.start) (drop inside.start all) in
    let held : left ≡ drop inside.start inside.bytes.items =
    ap (λ n. take n (drop inside.start all)) (sym (length-drop inside.start all)) ∙ take-length (drop inside.start all) ∙ ap (drop inside.start) c.deref.ensures.value in
    let none = waits_in c.form_at-binary.result left inside.finished inside.place (subst (IsNext c.form_at-binary.result left inside.finished inside.place) c.in-Wait.is c.in_ok-next_in.ensures) in
    record {
      within = c.self.invariant.within;
      no_line_feed = subst (λ n. n ≤ position_or_len is_line_feed (drop inside.start inside.bytes.items)) (sym c.looked_after-self-inside.ensures) (subst (λ l. looked_after c.form_at-binary.result (length left) ≤ position_or_len is_line_feed l) held none);
      counted = c.self.invariant.counted;
    }

pub invariant_of-self-in-Read : goal.invariant_of-self-in-Read
invariant_of-self-in-Read c =
    let inside = c.self.inside in
    let is = subst (IsNext c.form_at-binary.result (take (length c.deref.result.now - inside.start) (drop inside.start c.deref.result.now)) inside.finished inside.place) c.in-Read.is c.in_ok-next_in.ensures in
    let used = used_of c.form_at-binary.result inside.bytes.items c.deref.result.now inside.start inside.finished inside.place c.in-Read.entry c.in-Read.place c.in-Read.used c.deref.ensures.value is in
    let rest : length inside.bytes.items - inside.start - c.in-Read.used ≡ length inside.bytes.items - (inside.start + c.in-Read.used) = omega arith in
    record {
      within = omega (arith, used.1, c.self.invariant.within);
      no_line_feed = omega arith;
      counted = subst (λ n. IsCounted inside.fault (inside.line + 1) n inside.total) rest (counted_more inside.fault inside.line (length inside.bytes.items - inside.start) inside.total c.in-Read.used c.in_default.not-Some c.self.invariant.counted used.0 used.1);
    }

pub returns-in-Read-clause-shrinks : goal.returns-in-Read-clause-shrinks
returns-in-Read-clause-shrinks c = λ entry given.
    let inside = c.self.inside in
    let is = subst (IsNext c.form_at-binary.result (take (length c.deref.result.now - inside.start) (drop inside.start c.deref.result.now)) inside.finished inside.place) c.in-Read.is c.in_ok-next_in.ensures in
    let used = used_of c.form_at-binary.result inside.bytes.items c.deref.result.now inside.start inside.finished inside.place c.in-Read.entry c.in-Read.place c.in-Read.used c.deref.ensures.value is in
    omega (arith, used.0, used.1, length-drop inside.start inside.bytes.items, length-drop (inside.start + c.in-Read.used) inside.bytes.items, ap (λ reading. length reading.left) c.self.view_is)

pub returns-in-Some-clause-steps : goal.returns-in-Some-clause-steps
returns-in-Some-clause-steps c =
    let inside = c.self.inside in
    let old : Reading = record { left = drop inside.start inside.bytes.items; finished = inside.finished; line = inside.line; place = inside.place; binary = inside.binary; fault = inside.fault; total = inside.total } in
    subst (λ (o : Reading). StepsFrom o.fault o (Err (Fault c.in-Some.fault)) o) c.self.view_is (step_again old c.in-Some.fault c.in-Some.is)

pub returns-in-Wait-clause-steps : goal.returns-in-Wait-clause-steps
returns-in-Wait-clause-steps c =
    let inside = c.self.inside in
    let all = c.deref.result.now in
    let slice = take (length all - inside.start) (drop inside.start all) in
    let left = drop inside.start inside.bytes.items in
    let held : slice ≡ left = ap (λ n. take n (drop inside.start all)) (sym (length-drop inside.start all)) ∙ take-length (drop inside.start all) ∙ ap (drop inside.start) c.deref.ensures.value in
    let old : Reading = record { left = left; finished = inside.finished; line = inside.line; place = inside.place; binary = inside.binary; fault = inside.fault; total = inside.total } in
    let is = subst (IsNext c.form_at-binary.result slice inside.finished inside.place) c.in-Wait.is c.in_ok-next_in.ensures in
    let here = next_here slice left c.form_at-binary.result inside.binary inside.finished inside.place Wait held c.form_at-binary.ensures is in
    subst (λ (o : Reading). StepsFrom o.fault o (Ok None) old) c.self.view_is (step_given old old None Wait c.in_default.not-Some here refl refl)

pub returns-in-Read-clause-steps : goal.returns-in-Read-clause-steps
returns-in-Read-clause-steps c =
    let inside = c.self.inside in
    let all = c.deref.result.now in
    let slice = take (length all - inside.start) (drop inside.start all) in
    let left = drop inside.start inside.bytes.items in
    let held : slice ≡ left = ap (λ n. take n (drop inside.start all)) (sym (length-drop inside.start all)) ∙ take-length (drop inside.start all) ∙ ap (drop inside.start) c.deref.ensures.value in
    let old : Reading = record { left = left; finished = inside.finished; line = inside.line; place = inside.place; binary = inside.binary; fault = inside.fault; total = inside.total } in
    let next = Read c.in-Read.entry c.in-Read.place c.in-Read.used in
    let is = subst (IsNext c.form_at-binary.result slice inside.finished inside.place) c.in-Read.is c.in_ok-next_in.ensures in
    let here = next_here slice left c.form_at-binary.result inside.binary inside.finished inside.place next held c.form_at-binary.ensures is in
    let new : Reading = record old { left = drop (inside.start + c.in-Read.used) inside.bytes.items; line = inside.line + 1; place = c.in-Read.place; binary = c.form_at-binary.result } in
    let form : c.form_at-binary.result ≡ form_of old = c.form_at-binary.ensures ∙ ap (λ l. form_at inside.place l inside.binary) held in
    let now : new ≡ reading_after old (form_of old) next =
    ap (λ l. record new { left = l }) (sym (drop-drop c.in-Read.used inside.start inside.bytes.items)) ∙ ap (λ b. record new { left = drop c.in-Read.used left; binary = b }) form in
    subst (λ (o : Reading). StepsFrom o.fault o (Ok (Some c.in-Read.entry)) new) c.self.view_is (step_given old new (Some c.in-Read.entry) next c.in_default.not-Some here refl now)

pub returns-in-Refuse-clause-steps : goal.returns-in-Refuse-clause-steps
returns-in-Refuse-clause-steps c =
    let inside = c.self.inside in
    let all = c.deref.result.now in
    let slice = take (length all - inside.start) (drop inside.start all) in
    let left = drop inside.start inside.bytes.items in
    let held : slice ≡ left = ap (λ n. take n (drop inside.start all)) (sym (length-drop inside.start all)) ∙ take-length (drop inside.start all) ∙ ap (drop inside.start) c.deref.ensures.value in
    let old : Reading = record { left = left; finished = inside.finished; line = inside.line; place = inside.place; binary = inside.binary; fault = inside.fault; total = inside.total } in
    let wrong = c.in-Refuse.fault in
    let is = subst (IsNext c.form_at-binary.result slice inside.finished inside.place) c.in-Refuse.is c.in_ok-next_in.ensures in
    let here = next_here slice left c.form_at-binary.result inside.binary inside.finished inside.place (Refuse wrong) held c.form_at-binary.ensures is in
    let new : Reading = record old { line = inside.line + 1; fault = Some wrong } in
    subst (λ (o : Reading). StepsFrom o.fault o (Err (Fault wrong)) new) c.self.view_is (step_refused old new wrong (Refuse wrong) c.in_default.not-Some here refl refl)
