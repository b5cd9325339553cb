-- The first line of what isn't empty, or a log is begun.
use Rattle.std.proofs.Common.{arith}
use Rattle.account_file.specs.declared.record.Record.TheVariants as entry
use Rattle.account_write.specs.Records.{head_of}
use Rattle.account_write.proofs.LineLemmas.{back_next, ban_next, begun, fact_next, line_next, log_next, printed}
use Rattle.account_write.proofs.lines.AccountLines.put_line.Goals as goal

pub returns-in-Some-split_first : goal.returns-in-Some-split_first
returns-in-Some-split_first c =
    let left = c.args.self.now in
    let line = c.in-Some-split_first.line.now in
    printed _ left _ _ _ (entry.Line line)
    (line_next left.front.now left.log.now c.in-Some-split_first.rest.now left.facts.now left.logs.now left.bans.now left.back.now line c.in_default.ensures.cases c.in-Some-split_first.ensures.cases.0)
    (omega arith) c.put_log_line.ensures.line c.put_log_line.ensures.writable

pub returns-in-Some-split_first-2 : goal.returns-in-Some-split_first-2
returns-in-Some-split_first-2 c =
    let left = c.args.self.now in
    let fact = c.in-Some-split_first-2.fact.now in
    printed _ left _ _ _ (head_of fact.claim fact.evidence)
    (fact_next left.front.now left.log.now c.log_lines-self.result.now left.facts.now c.in-Some-split_first-2.rest.now left.logs.now left.bans.now left.back.now fact c.in_default.ensures.cases c.in_default-split_first.ensures.cases c.in-Some-split_first-2.ensures.cases.0 c.log_lines-self.ensures)
    (omega arith) c.put_head.ensures.line c.put_head.ensures.writable

pub returns-in-Some-split_first-3 : goal.returns-in-Some-split_first-3
returns-in-Some-split_first-3 c =
    let left = c.args.self.now in
    let log = c.in-Some-split_first-3.log.now in
    begun left _ _
    (log_next left.front.now left.log.now c.deref-self.result.now left.facts.now left.logs.now c.in-Some-split_first-3.rest.now left.bans.now left.back.now log c.in_default.ensures.cases c.in_default-split_first.ensures.cases c.in_default-split_first-2.ensures.cases c.in-Some-split_first-3.ensures.cases.0 c.deref-self.ensures.value)
    (omega (arith, c.in-Some-split_first-3.ensures.cases.1))

pub returns-in-Some-split_first-4 : goal.returns-in-Some-split_first-4
returns-in-Some-split_first-4 c =
    let left = c.args.self.now in
    let ban = c.in-Some-split_first-4.ban.now in
    printed _ left _ _ _ (entry.Ban ban)
    (ban_next left.front.now left.log.now left.facts.now left.logs.now left.bans.now c.in-Some-split_first-4.rest.now left.back.now ban c.in_default.ensures.cases c.in_default-split_first.ensures.cases c.in_default-split_first-2.ensures.cases c.in_default-split_first-3.ensures.cases c.in-Some-split_first-4.ensures.cases.0)
    (omega arith) c.put_ban.ensures.line c.put_ban.ensures.writable

pub returns-in-Some-split_first-5 : goal.returns-in-Some-split_first-5
returns-in-Some-split_first-5 c =
    let left = c.args.self.now in
    let last = c.in-Some-split_first-5.entry.now in
    printed _ left _ _ _ last
    (back_next left.front.now left.log.now left.facts.now left.logs.now left.bans.now left.back.now c.in-Some-split_first-5.rest.now last c.in_default.ensures.cases c.in_default-split_first.ensures.cases c.in_default-split_first-2.ensures.cases c.in_default-split_first-3.ensures.cases c.in_default-split_first-4.ensures.cases c.in-Some-split_first-5.ensures.cases.0)
    (omega arith) c.put_record-in-Some-split_first-5.ensures.line c.put_record-in-Some-split_first-5.ensures.writable
