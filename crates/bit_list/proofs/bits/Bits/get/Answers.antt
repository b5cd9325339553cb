-- A bit of a word is the bit at its place.
use Rattle.std.proofs.Common.{◌<◌, ◌/◌, ◌%◌, length, get_or, false, sym, ap, ◌∙◌, arith}
use Rattle.std.proofs.lemmas.List.{get_or_read}
use Rattle.bit_list.specs.Packing.{word_bit}
use Rattle.bit_list.proofs.Words.{length-bits_of, get_or-bits_of}
use Rattle.bit_list.proofs.bits.Bits.get.Goals as goal

pub index-requires : goal.index-requires
index-requires c =
    let count = sym (length-bits_of c.self.inside.words c.self.inside.count) ∙ ap length c.self.view_is in
    omega (arith, c.requires, count, c.self.invariant.enough)

pub returns : goal.returns
returns c =
    let words = c.self.inside.words in
    let place = c.args.place in
    let count = sym (length-bits_of words c.self.inside.count) ∙ ap length c.self.view_is in
    let here : place / 64 < length words = omega (arith, c.requires, count, c.self.invariant.enough) in
    ap (word_bit (place % 64)) (get_or_read words (place / 64) c.index.result.now here c.index.ensures 0) ∙ (sym (get_or-bits_of words c.self.inside.count place (omega (arith, c.requires, count))) ∙ ap (λ bits. get_or bits place false) c.self.view_is)
