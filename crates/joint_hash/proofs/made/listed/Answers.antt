-- One literal more.
use Rattle.std.proofs.Common.{List, take, slice_index_or, sym, subst}
use Rattle.std.proofs.lemmas.List.{take_more}
use Rattle.cnf_core.specs.declared.literal.SatLit.{SatLit}
use Rattle.cnf_core.proofs.LiteralLemmas.{no_literal}
use Rattle.joint_hash.specs.Made.{AreNumbersOf}
use Rattle.joint_hash.proofs.MadeLemmas.{numbers_more}
use Rattle.joint_hash.proofs.made.listed.Goals as goal

pub loop-literal-preserved : goal.loop-literal-preserved
loop-literal-preserved c =
    let literals = c.args.literals.now in
    let i = c.loop-literal.literal-index in
    let more = numbers_more (take i literals) c.loop-literal.all.keys (slice_index_or literals i no_literal) c.loop-literal.invariant in
    subst (λ (ls : List SatLit). AreNumbersOf ls c.insert.new.self.keys) (sym (take_more literals i no_literal c.loop-literal-test.true)) (subst (AreNumbersOf _) (sym c.in_ok-insert.ensures.keys) more)
