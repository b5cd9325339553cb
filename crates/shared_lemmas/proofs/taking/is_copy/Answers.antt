-- Clauses are the same where their literals are.
use Rattle.std.proofs.Common.{◌≡◌, ◌-◌, ◌<◌, List, [], length, eqb, sym, ap, ◌∙◌, arith}
use Rattle.std.specs.Bool.{Decides}
use Rattle.std.proofs.lemmas.Bool.Decides.{Decides-eqb, Decides-like, nat_tests}
use Rattle.std.proofs.lemmas.List.{get_or-map}
use Rattle.std.proofs.lemmas.Slice.Eq.{slice_eq-Decides}
use Rattle.cnf_core.specs.declared.literal.SatLit.{SatLit}
use Rattle.cnf_core.specs.declared.log.LogLine.{LogLine}
use Rattle.cnf_core.specs.contracts.literal.SatLitPartialEq.TheImpl.{eq-value as literal_eq}
use Rattle.shared_lemmas.proofs.taking.is_copy.Goals as goal

literal_decides : (x y : SatLit) → Decides (literal_eq.it x y) (x ≡ y)
literal_decides x y = Decides-like (eqb x.0 y.0) (λ e. ap (λ n. record { 0 = n }) e) (λ e. ap (λ (l : SatLit). l.0) e) (Decides-eqb x.0 y.0)

pub returns : goal.returns
returns c same =
    let clause : LogLine → List SatLit = λ line. line.clause in
    let source = c.args.source.now in
    let target = c.args.target.now in
    let within : c.args.place < length source = grind (arith, nat_tests) in
    let below : c.args.number - c.args.count < length target = grind (arith, nat_tests) in
    let equal = (slice_eq-Decides literal_decides _ _ c.eq.result c.eq.ensures).0 same in
    record {
      late = grind (arith, nat_tests);
      there = below;
      same =
          get_or-map clause target (c.args.number - c.args.count) c.index-target-own.result [] below
          ∙ (sym equal ∙ sym (get_or-map clause source c.args.place c.index-source-place.result [] within));
    }
