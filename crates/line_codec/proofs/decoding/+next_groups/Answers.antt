-- A last group, and a group with others after it.
use Rattle.std.proofs.Common.{inl, inr, ◌∙◌, arith}
use Rattle.line_codec.proofs.ByteLemmas.{last_group_read, more_groups_read}
use Rattle.line_codec.proofs.decoding.+next_groups.Goals as goal

pub returns-then-group-lt-MORE-clause-reads : goal.returns-then-group-lt-MORE-clause-reads
returns-then-group-lt-MORE-clause-reads t c = λ n rest word is.
    let read = last_group_read c.args.more n c.next_byte-group.result c.args.cursor.now.bytes c.next_byte-group.new.cursor.bytes rest c.next_byte-group.ensures.reads (inr c.if-group-lt-MORE.true) is in
    (c.from.ensures ∙ read.0, read.1)

pub returns-then-more-eq0-clause-reads : goal.returns-then-more-eq0-clause-reads
returns-then-more-eq0-clause-reads t c = λ n rest word is.
    let read = last_group_read c.args.more n c.next_byte-group.result c.args.cursor.now.bytes c.next_byte-group.new.cursor.bytes rest c.next_byte-group.ensures.reads (inl c.if-more-eq0.true) is in
    (c.from-then-more-eq0.ensures ∙ read.0, read.1)

pub returns-clause-reads : goal.returns-clause-reads
returns-clause-reads t c = λ n rest word is.
    more_groups_read c.args.more n c.next_byte-group.result c.next_groups-high.result c.saturating_add.result c.args.cursor.now.bytes c.next_byte-group.new.cursor.bytes c.next_groups-high.new.cursor.bytes rest c.next_byte-group.ensures.reads c.next_groups-high.ensures.reads (omega (arith, c.if-more-eq0.false)) (omega (arith, c.if-group-lt-MORE.false)) (omega (arith, c.saturating_add.ensures, c.saturating_mul.ensures, c.from-2.ensures)) word is
