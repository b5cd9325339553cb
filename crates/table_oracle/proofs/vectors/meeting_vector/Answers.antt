use Rattle.std.proofs.Common.{◌≡◌, ◌<◌, ◌^◌, length, below_more, sym, ap, subst, ◌∙◌, arith}
use Rattle.std.proofs.lemmas.Bool.{false≢true}
use Rattle.circuits.specs.Literals.{vector_of}
use Rattle.circuits.proofs.Codes.{code_of, code_of-below, length-vector_of, vector_of-code_of}
use Rattle.circuits.proofs.MatchLaws.{count-few}
use Rattle.claim_core.specs.Queries.{MeetsQuery, bits_in}
use Rattle.table_oracle.proofs.vectors.meeting_vector.Goals as goal

pub meets-requires-clause-bits : goal.meets-requires-clause-bits
meets-requires-clause-bits c =
    let bits = c.len-bits.ensures ∙ c.requires.fits.left.feed in
    ap length (c.deref.ensures.value ∙ c.in_ok-vector.ensures) ∙ (length-vector_of c.len-bits.result c.loop-code.code ∙ bits)

pub returns-then-branch-clause-found : goal.returns-then-branch-clause-found
returns-then-branch-clause-found c =
    let graphs = c.args.graphs.now in
    let query = c.args.query.now in
    let bits = c.len-bits.ensures ∙ c.requires.fits.left.feed in
    record {
      bits = ap length (c.from_vec.ensures ∙ c.in_ok-vector.ensures) ∙ (length-vector_of c.len-bits.result c.loop-code.code ∙ bits);
      meets = subst (MeetsQuery graphs query) (c.deref.ensures.value ∙ sym c.from_vec.ensures) (c.in_ok-meets.ensures.0 c.if-branch.true);
    }

pub loop-code-preserved : goal.loop-code-preserved
loop-code-preserved c =
    let graphs = c.args.graphs.now in
    let query = c.args.query.now in
    let code = c.loop-code.code in
    let bits = c.len-bits.ensures ∙ c.requires.fits.left.feed in
    let vector : c.deref.result.now ≡ vector_of (bits_in graphs query) code = c.deref.ensures.value ∙ (c.in_ok-vector.ensures ∙ ap (λ n. vector_of n code) bits) in
    below_more (λ k. MeetsQuery graphs query (vector_of (bits_in graphs query) k) → ⊥) code c.loop-code.invariant (λ meets. false≢true (sym c.if-branch.false ∙ c.in_ok-meets.ensures.1 (subst (MeetsQuery graphs query) (sym vector) meets)))

pub returns-clause-none : goal.returns-clause-none
returns-clause-none c x size meets =
    let graphs = c.args.graphs.now in
    let query = c.args.query.now in
    let bits = c.len-bits.ensures ∙ c.requires.fits.left.feed in
    let all = count-few c.len-bits.result c.loop-code.code (omega (arith, bits, c.requires.small)) c.loop-code-test.false in
    let below = subst (λ n. code_of x < 2 ^ n) (size ∙ sym bits) (code_of-below x) in
    c.loop-code.invariant (code_of x) (omega (arith, all, below)) (subst (MeetsQuery graphs query) (vector_of-code_of x ∙ ap (λ n. vector_of n (code_of x)) size) meets)
