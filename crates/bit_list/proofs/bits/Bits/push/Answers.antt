-- The bit stands after the others.
use Rattle.std.proofs.Common.{ℕ, ◌+◌, ◌<◌, ◌≡◌, ◌≢◌, ◌/◌, ◌%◌, ◌∷◌, [], ◌++◌, get_or, ap, ◌∙◌, arith}
use Rattle.std.proofs.lemmas.List.{get_or_read}
use Rattle.bit_list.specs.Packing.{word_bit, packed_bit, bits_of}
use Rattle.bit_list.proofs.Words.{bits-push, written-here, written-elsewhere}
use Rattle.bit_list.proofs.bits.Bits.push.Goals as goal

pub returns-clause-pushed : goal.returns-clause-pushed
returns-clause-pushed c =
    let old = c.self.inside.words in
    let n = c.self.inside.count in
    let roomy = c.make_room.new.words in
    let word = c.with_bit-word.result in
    let made = c.in_ok-make_room.ensures in
    let read = get_or_read roomy (n / 64) c.index.result.now (omega (arith, made.room)) c.index.ensures 0 in
    let kept : (v : ℕ) → v ≢ n % 64 → word_bit v word ≡ word_bit v (get_or roomy (n / 64) 0) =
    λ v other. c.with_bit-word.ensures.others v other ∙ ap (word_bit v) read in
    let here : packed_bit c.set.new.self n ≡ c.args.bit =
    ap (λ words. packed_bit words n) c.set.ensures ∙ (written-here roomy n word made.room ∙ c.with_bit-word.ensures.placed) in
    let others : (i : ℕ) → i < n → packed_bit c.set.new.self i ≡ packed_bit old i =
    λ i less. ap (λ words. packed_bit words i) c.set.ensures ∙ (written-elsewhere roomy n word i made.room kept (omega (arith, less)) ∙ made.bits i) in
    let next : c.in_ok-count.count ≡ n + 1 = grind (arith, c.checked_add.ensures, c.in_ok-count.ensures.ok_part) in
    ap (bits_of c.set.new.self) next ∙ (bits-push old c.set.new.self n c.args.bit others here ∙ ap (λ bits. bits ++ c.args.bit ∷ []) c.self.view_is)
