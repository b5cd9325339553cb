use Rattle.std.proofs.Common.{ℕ, map, ◌+◌, not, List, [], ◌∷◌, ◌++◌, sym, ap, ◌∙◌, arith}
use Rattle.std.proofs.lemmas.List.FromFn.{map-range_with_len_more}
use Rattle.std.specs.List.{range_with_len}
use Rattle.circuits.specs.Literals.{bit}
use Rattle.cnf_core.specs.declared.literal.SatLit.{SatLit}
use Rattle.cnf_core.specs.Clauses.{literal_of}
use Rattle.table_oracle.proofs.splitting.excluding.Goals as goal

pub loop-input-preserved : goal.loop-input-preserved
loop-input-preserved c =
    let n = c.loop-input.input in
    let bits = c.args.bits.now in
    let f : ℕ → SatLit = λ i. literal_of (1 + i) (not (bit bits i)) in
    c.in_ok-push.ensures.ok
    ∙ (ap (λ (ls : List SatLit). ls ++ c.of.result ∷ []) c.loop-input.invariant
    ∙ (ap (λ l. map f (range_with_len 0 n) ++ l ∷ []) c.of.ensures ∙ sym (map-range_with_len_more f 0 n n (omega arith))))
