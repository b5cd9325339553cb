-- The bits of the input variables are a vector that is asked for.
use Rattle.std.proofs.Common.{◌≡◌, ◌+◌, Bool, List, length, [], ◌∷◌, ◌++◌, sym, subst, ap, ◌∙◌, arith}
use Rattle.circuits.specs.Literals.{bit}
use Rattle.claim_core.specs.Queries.{MeetsQuery, bits_in, vector_in}
use Rattle.claim_core.proofs.ConeLaws.{cone_vector_there}
use Rattle.ask_core.proofs.AskLemmas.{vector_length, vector_more}
use Rattle.ask_core.proofs.vector.vector_of.Goals as goal

pub loop-input-preserved : goal.loop-input-preserved
loop-input-preserved c =
    let n = c.loop-input.input in
    let values = c.args.values.now in
    c.in_ok-push.ensures.ok ∙ (ap (λ b. c.loop-input.vector ++ b ∷ []) c.has.ensures ∙ (ap (λ (bs : List Bool). bs ++ bit values (1 + n) ∷ []) c.loop-input.invariant ∙ sym (vector_more n values)))

pub returns : goal.returns
returns c =
    let graphs = c.args.graphs.now in
    let query = c.args.query.now in
    let values = c.args.values.now in
    let all : c.loop-input.input ≡ bits_in graphs query = omega (arith, c.loop-input.auto.input-end, c.loop-input-test.false, c.len-inputs.ensures, c.requires.fits.left.feed) in
    let vector = c.loop-input.invariant ∙ ap (λ n. vector_in n values) all in
    record {
      bits = ap length vector ∙ vector_length (bits_in graphs query) values;
      meets = subst (λ (bs : List Bool). MeetsQuery graphs query bs) (sym vector) (cone_vector_there graphs query values c.first-first.ensures.sound c.second-second.ensures.sound c.requires.fits c.requires.meets);
    }
