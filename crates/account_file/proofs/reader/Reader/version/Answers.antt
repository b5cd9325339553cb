-- The version, by the first bytes, or as it was when the first record was read.
use Rattle.std.proofs.Common.{◌≡◌, ◌-◌, Some, length, take, drop, sym, ap, subst, ◌∙◌, length-drop}
use Rattle.std.proofs.Math.Seq.{take-length}
use Rattle.account_file.specs.Accounts.{version_of}
use Rattle.account_file.specs.Reading.{HasRead, Reading}
use Rattle.account_file.proofs.StepLemmas.{version_at_first, version_later}
use Rattle.account_file.proofs.reader.Reader.version.Goals as goal

pub returns-in-Start : goal.returns-in-Start
returns-in-Start c = λ bytes records has.
    let inside = c.self.inside in
    let all = c.deref.result.now in
    let slice = take (length all - inside.start) (drop inside.start all) in
    let left = drop inside.start inside.bytes.items in
    let held : slice ≡ left = ap (λ n. take n (drop inside.start all)) (sym (length-drop inside.start all)) ∙ take-length (drop inside.start all) ∙ ap (drop inside.start) c.deref.ensures.value in
    let old : Reading = record { left = left; finished = inside.finished; line = inside.line; place = inside.place; binary = inside.binary; fault = inside.fault; total = inside.total } in
    let there = subst (λ (r : Reading). HasRead r bytes records) (sym c.self.view_is) has in
    c.first_version.ensures ∙ (ap (λ l. version_of l inside.finished) held ∙ (version_at_first old bytes records there (there.place ∙ ap (λ p. Some p) c.in-Start.is) ∙ ap (λ (r : Reading). version_of bytes r.finished) c.self.view_is))

pub returns-in_default : goal.returns-in_default
returns-in_default c = λ bytes records has.
    let inside = c.self.inside in
    let old : Reading = record { left = drop inside.start inside.bytes.items; finished = inside.finished; line = inside.line; place = inside.place; binary = inside.binary; fault = inside.fault; total = inside.total } in
    let there = subst (λ (r : Reading). HasRead r bytes records) (sym c.self.view_is) has in
    c.known_version.ensures ∙ (version_later old bytes records there inside.place there.place c.in_default.not-Start ∙ ap (λ (r : Reading). version_of bytes r.finished) c.self.view_is)
