use Rattle.std.proofs.Common.{List, ℕ, true, false, length, sym, subst}
use Rattle.std.proofs.lemmas.Result.{on_ok_weaker}
use Rattle.claim_core.specs.Formulas.{query_clauses}
use Rattle.joint_hash.specs.Chains.{AreListed}
use Rattle.joint_hash.specs.Classes.{twin_of}
use Rattle.joint_hash.proofs.ListedLemmas.{listed_lemma}
use Rattle.joint_hash.proofs.polarity.push_class.Goals as goal

pub returns : goal.returns
returns c =
    let cones = c.args.cones.now in
    let count = length (query_clauses cones.graphs cones.query) in
    let twins = twin_of c.args.twins.now.entries in
    on_ok_weaker c.push_lemma-2.result (λ added listed has are.
    let P : List ℕ → Type 0 = AreListed count listed in
    let one = subst P (sym c.in_ok-push_lemma.ensures) (listed_lemma count twins listed c.args.ids.now.items c.args.one true c.requires.late are) in
    subst P (sym added) (listed_lemma count twins listed c.push_lemma.new.ids.items c.args.other false c.requires.late one)) c.push_lemma-2.ensures
