-- A variable that has a bit already stands twice.
use Rattle.std.proofs.Common.{◌≡◌, ◌+◌, ◌||◌, [], ◌∷◌, ◌++◌, suc, Bool, Some, None, cond, refl, sym, ap, subst, ◌∙◌, arith}
use Rattle.cnf_core.specs.declared.fault.LineFault.TheVariants as fault
use Rattle.refute_check.specs.Refutations.{answer_of}
use Rattle.refute_check.proofs.WalkLemmas.{IsNegated, twice_in_all, found_twice, one_more_negated}
use Rattle.refute_check.proofs.propagation.negate.Goals as goal
use Rattle.cnf_core.proofs.LiteralLemmas.{no_literal}

either : {a b c d : Bool} → a ≡ c → b ≡ d → (a || b) ≡ (c || d)
either {a} {b} {c} {d} first second = ap (λ t. t || b) first ∙ ap (λ t. c || t) second

pub loop-literal-init : goal.loop-literal-init
loop-literal-init c = record { variables = refl; made = c.requires.none_made; twice = twice_in_all c.args.clause.now }

pub returns-then-is_true-is_false-clause-answer : goal.returns-then-is_true-is_false-clause-answer
returns-then-is_true-is_false-clause-answer c =
    let l = c.loop-literal in
    let met = sym (either c.is_true.ensures c.is_false.ensures) ∙ c.if-is_true-is_false.true in
    let twice = found_twice c.args.values.now l.values c.args.clause.now l.literal-index no_literal l.invariant c.loop-literal-test.true met in
    ap (λ t. answer_of (cond t (Some fault.TwiceVariable) None)) (sym twice)

pub loop-literal-preserved : goal.loop-literal-preserved
loop-literal-preserved c =
    let l = c.loop-literal in
    let free = sym (either c.is_true.ensures c.is_false.ensures) ∙ c.if-is_true-is_false.false in
    let more = one_more_negated c.args.values.now l.values c.make.new.self c.args.clause.now l.literal-index no_literal l.invariant c.loop-literal-test.true free c.make.ensures.variables (c.make.ensures.made ∙ ap (λ m. l.values.made ++ m ∷ []) c.opposite.ensures) in
    let next : suc l.literal-index ≡ l.literal-index + 1 = omega arith in
    subst (IsNegated c.args.values.now c.make.new.self c.args.clause.now) next more
