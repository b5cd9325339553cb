-- What was collected is over dense variables.
use Rattle.std.proofs.Common.{ℕ, List, All, length, map, ◌++◌, sym, ap, subst, ◌∙◌}
use Rattle.cnf_core.specs.declared.clause.Clause3.{Clause3}
use Rattle.cnf_core.specs.Clauses.{clause_at, literals_of}
use Rattle.cnf_core.specs.Derivations.{clauses_of}
use Rattle.claim_core.specs.Formulas.{formula_of}
use Rattle.ask_core.specs.Renamings.{AreNames, AreOverPlaces, IsNamed, numbers_of}
use Rattle.ask_core.proofs.BaseLemmas.{renaming_made, whole_made}
use Rattle.ask_core.proofs.base.DenseBase.new.Goals as goal

pub over_names-requires-clause-named : goal.over_names-requires-clause-named
over_names-requires-clause-named c =
    let names = c.in_ok-names.names.items in
    let own = subst (λ (cs : List Clause3). All (λ cl. IsNamed names (literals_of cl)) cs) (c.deref.ensures.value ∙ sym c.deref-2.ensures.value) c.in_ok-names.ensures.all in
    subst (λ (ns : List ℕ). All (λ cl. IsNamed ns (literals_of cl)) c.deref-2.result.now) (sym c.deref-3.ensures.value) own

pub returns : goal.returns
returns c =
    let full = formula_of c.args.cones.now.graphs c.args.cones.now.query in
    let names = c.in_ok-names.names.items in
    let low = c.ids.ensures.are.there in
    let listed = c.in_ok-clauses.clauses.items in
    let dense = c.in_ok-clauses-2.clauses.items in
    let are = subst (λ (n : ℕ). AreNames n names) c.variables-variables.ensures c.in_ok-names.ensures.names in
    let turned_listed = subst (λ (cs : List Clause3). AreOverPlaces c.deref-3.result.now cs dense (length cs)) c.deref-2.ensures.value c.in_ok-clauses-2.ensures in
    let turned = subst (λ (ns : List ℕ). AreOverPlaces ns listed dense (length listed)) c.deref-3.ensures.value turned_listed in
    let numbers_are = c.in_ok-numbers.ensures ∙ (ap (λ (xs : List ℕ). numbers_of xs c.count.result (length c.args.lemmas.now)) c.ids.ensures.value ∙ ap (λ (n : ℕ). numbers_of c.args.cones.now.ids n (length c.args.lemmas.now)) c.count.ensures.value) in
    record {
      renaming = renaming_made full c.args.cones.now.ids names c.in_ok-numbers.numbers.items c.args.lemmas.now listed dense low c.in_ok-clauses.ensures are turned numbers_are;
      whole = whole_made full.variables (map (clause_at full.clauses) c.args.cones.now.ids ++ clauses_of c.args.lemmas.now) names listed dense c.in_ok-clauses.ensures turned;
    }
