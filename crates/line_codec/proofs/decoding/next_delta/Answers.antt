-- A delta that is negative, or not.
use Rattle.std.proofs.Common.{refl, arith}
use Rattle.line_codec.proofs.ByteLemmas.{delta_down, delta_up}
use Rattle.line_codec.proofs.decoding.next_delta.Goals as goal

pub returns-then-short-ge-NEGATIVE-clause-reads : goal.returns-then-short-ge-NEGATIVE-clause-reads
returns-then-short-ge-NEGATIVE-clause-reads c = λ to rest word is.
    delta_down c.args.from to c.next_byte-first.result c.without-short.result c.without.result c.next_magnitude-magnitude.result _ c.args.cursor.now.bytes c.next_byte-first.new.cursor.bytes c.next_magnitude-magnitude.new.cursor.bytes rest c.next_byte-first.ensures.reads (record { more_is = refl; short_is = c.without-short.ensures; low_is = c.without.ensures }) c.next_magnitude-magnitude.ensures.reads (omega (arith, c.ranges.from)) word is c.saturating_sub.result c.if-short-ge-NEGATIVE.true c.saturating_sub.ensures

pub returns-else-short-ge-NEGATIVE-clause-reads : goal.returns-else-short-ge-NEGATIVE-clause-reads
returns-else-short-ge-NEGATIVE-clause-reads c = λ to rest word is.
    delta_up c.args.from to c.next_byte-first.result c.without-short.result c.without.result c.next_magnitude-magnitude.result _ c.args.cursor.now.bytes c.next_byte-first.new.cursor.bytes c.next_magnitude-magnitude.new.cursor.bytes rest c.next_byte-first.ensures.reads (record { more_is = refl; short_is = c.without-short.ensures; low_is = c.without.ensures }) c.next_magnitude-magnitude.ensures.reads (omega (arith, c.ranges.from)) word is c.saturating_add.result c.if-short-ge-NEGATIVE.false c.saturating_add.ensures
