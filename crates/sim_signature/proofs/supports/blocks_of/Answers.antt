use Rattle.std.proofs.Common.{ℕ, ◌+◌, ◌*◌, List, ap, length, sym, subst, ◌∙◌}
use Rattle.std.proofs.lemmas.List.{length_push}
use Rattle.circuits.specs.Literals.{EachAt}
use Rattle.circuits.proofs.EachLemmas.{each_push}
use Rattle.sim_signature.specs.Supports.{IsBlock}
use Rattle.sim_signature.proofs.supports.blocks_of.Goals as goal

pub loop-block-preserved : goal.loop-block-preserved
loop-block-preserved c =
    let IsBlockOf : ℕ → List ℕ → Type 0 = λ b words. IsBlock c.args.graph.now (64 * b) words in
    let blocks = c.loop-block.blocks.items in
    let words = c.in_ok-words.words in
    let pushed = c.in_ok-push.ensures.items in
    let so_far = c.loop-block.invariant in
    record {
      count = ap length pushed ∙ (length_push blocks words ∙ ap (λ (n : ℕ). n + 1) so_far.count);
      each = subst (EachAt IsBlockOf) (sym pushed) (each_push IsBlockOf blocks words so_far.each (subst (λ n. IsBlockOf n words) (sym so_far.count) c.in_ok-words.ensures));
    }
