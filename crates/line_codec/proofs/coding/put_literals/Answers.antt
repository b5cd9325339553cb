-- One literal more was written, and then all.
use Rattle.std.proofs.Common.{◌<◌, ◌++◌, All, length, sym, subst, arith}
use Rattle.std.proofs.lemmas.List.{get_or-map, length-map, take_all}
use Rattle.std.proofs.lemmas.List.Elements.{All-more}
use Rattle.cnf_core.specs.declared.literal.SatLit.{SatLit}
use Rattle.text_core.proofs.Extending.{extends_twice}
use Rattle.line_codec.specs.LineBytes.{IsWord, literal_numbers, deltas_bytes}
use Rattle.line_codec.proofs.LineLemmas.{deltas_all, deltas_more}
use Rattle.line_codec.proofs.coding.put_literals.Goals as goal

pub loop-literal-preserved : goal.loop-literal-preserved
loop-literal-preserved c =
    let i = c.loop-literal in
    let clause = c.args.clause.now in
    let numbers = literal_numbers clause in
    let old = c.args.out.now.items in
    let there : i.literal-index < length numbers = omega (arith, c.loop-literal-test.true, length-map clause (λ (l : SatLit). l.0)) in
    record {
      whole = deltas_more i.out.items c.put_delta.new.out.items i.from _ numbers (old ++ deltas_bytes 0 numbers) i.literal-index 0 there (sym (get_or-map (λ (l : SatLit). l.0) clause i.literal-index _ 0 c.loop-literal-test.true)) i.invariant.whole c.in_ok-put_delta.ensures.ok;
      kept = extends_twice old i.out.items c.put_delta.new.out.items i.invariant.kept c.put_delta.ensures.kept;
      words = All-more IsWord numbers i.literal-index 0 there i.invariant.words (subst IsWord (sym (get_or-map (λ (l : SatLit). l.0) clause i.literal-index _ 0 c.loop-literal-test.true)) c.put_delta.ensures.word);
    }

pub returns-in_err-put_delta-clause-kept : goal.returns-in_err-put_delta-clause-kept
returns-in_err-put_delta-clause-kept c =
    extends_twice c.args.out.now.items c.loop-literal.out.items c.put_delta.new.out.items c.loop-literal.invariant.kept c.put_delta.ensures.kept

pub returns-clause-ok : goal.returns-clause-ok
returns-clause-ok c =
    deltas_all c.loop-literal.out.items _ c.loop-literal.from (literal_numbers c.args.clause.now) c.loop-literal.literal-index (omega (arith, c.loop-literal-test.false, length-map c.args.clause.now (λ (l : SatLit). l.0))) c.loop-literal.invariant.whole

pub returns-clause-words : goal.returns-clause-words
returns-clause-words c =
    subst (All IsWord) (take_all c.loop-literal.literal-index (literal_numbers c.args.clause.now) (omega (arith, c.loop-literal-test.false, length-map c.args.clause.now (λ (l : SatLit). l.0)))) c.loop-literal.invariant.words
