-- Counts and words are equal exactly where the bits are.
use Rattle.std.proofs.Common.{ℕ, List, ◌∙◌, ◌<◌, ◌^◌, nat_eq, get_or, ap, subst}
use Rattle.std.specs.Bool.{beq}
use Rattle.std.specs.Cmp.Lexicographic.{pointwise}
use Rattle.bit_list.specs.Packing.{bits_of}
use Rattle.bit_list.proofs.Words.{compared}
use Rattle.bit_list.proofs.bits.BitsPartialEq.eq.Goals as goal

pub returns : goal.returns
returns c =
    let first = c.self.inside in
    let second = c.other.inside in
    let Small : List ℕ → Type 0 = λ words. (k : ℕ) → get_or words k 0 < 2 ^ 64 in
    let same = c.same_words.ensures.value ∙ (ap (λ words. pointwise nat_eq words c.deref-2.result.now) c.deref.ensures.value ∙ ap (pointwise nat_eq first.words) c.deref-2.ensures.value) in
    let told = compared first.words second.words first.count second.count c.same_words.result c.self.invariant c.other.invariant (subst Small c.deref.ensures.value c.same_words.ensures.first) (subst Small c.deref-2.ensures.value c.same_words.ensures.second) same in
    told ∙ (ap (λ bits. pointwise beq bits (bits_of second.words second.count)) c.self.view_is ∙ ap (pointwise beq c.args.self.now) c.other.view_is)
