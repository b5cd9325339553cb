-- The clause of a line.
use Rattle.std.proofs.Common.{◌-◌, ◌<◌, length, ap, arith, ◌∙◌, length-append}
use Rattle.std.proofs.lemmas.List.{length-map}
use Rattle.cnf_core.specs.declared.log.LogLine.{LogLine}
use Rattle.cnf_core.specs.Derivations.{clauses_of, effect_of}
use Rattle.claim_core.specs.Formulas.{query_clauses}
use Rattle.joint_hash.proofs.ListedLemmas.{later_clause}
use Rattle.joint_hash.proofs.hinting.effect_at.Goals as goal

pub returns : goal.returns
returns c =
    let front = query_clauses c.args.cones.now.graphs c.args.cones.now.query in
    let lines = c.args.lines.now in
    let within : c.args.id - c.count-count.result < length lines = omega (arith, c.requires.there, length-append front (clauses_of lines), length-map lines (λ (l : LogLine). l.clause), c.count-count.ensures.value, c.if-id-count.false) in
    c.effect_of-2.ensures ∙ ap (effect_of c.args.made.now) (later_clause front lines c.count-count.result c.args.id c.index-lines-place.result c.deref.result.now c.count-count.ensures.value c.if-id-count.false within c.deref.ensures.value)
