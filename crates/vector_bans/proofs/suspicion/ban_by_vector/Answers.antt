use Rattle.std.proofs.Common.{◌≡◌, ◌∙◌, List, ap, length, sym, subst}
use Rattle.std.proofs.lemmas.List.{length-map}
use Rattle.circuits.specs.Netlists.{Net}
use Rattle.account_core.specs.Vectors.{value_at}
use Rattle.word_sim.specs.ThreeValues.{tri_outputs, of_bit}
use Rattle.word_sim.specs.declared.tri.Tri.{Tri}
use Rattle.vector_bans.specs.Differences.{IsWrong}
use Rattle.vector_bans.proofs.ForesightLemmas.{shown_known}
use Rattle.vector_bans.proofs.ResortLemmas.{second_there}
use Rattle.vector_bans.proofs.suspicion.ban_by_vector.Goals as goal

pub is_wrong-requires : goal.is_wrong-requires
is_wrong-requires c =
    let from = c.args.suspicion.output.from in
    let size : length c.args.suspicion.vector.now ≡ c.args.graphs.now.first.inputs = c.is_vector_of.ensures c.if-not-is_vector_of.false ∙ ap (λ (net : Net). net.inputs) c.first-first.ensures.value in
    record {
      may = record {
        output = second_there c.args.graphs.now c.args.pairs.now c.args.suspicion.output c.requires.known c.requires.output;
        places = ap length (c.deref-2.ensures.value ∙ c.in_ok-values.ensures) ∙ (length-map c.args.suspicion.vector.now of_bit ∙ size);
        first_is =
            c.in_ok-value.ensures
            ∙ (ap (λ (net : Net). value_at (tri_outputs net c.deref.result.now) from) c.first-first.ensures.value
            ∙ ap (λ (values : List Tri). value_at (tri_outputs c.args.graphs.now.first values) from) (c.deref.ensures.value ∙ sym c.deref-2.ensures.value));
      };
    }

pub returns : goal.returns
returns c =
    let size : length c.args.suspicion.vector.now ≡ c.args.graphs.now.first.inputs = c.is_vector_of.ensures c.if-not-is_vector_of.false ∙ ap (λ (net : Net). net.inputs) c.first-first.ensures.value in
    let wrong = subst (λ (v : List Tri). IsWrong c.args.graphs.now c.args.pairs.now c.args.suspicion.output v) c.deref-2.ensures.value (c.in_ok-is_wrong.ensures.0 c.if-not-branch.false) in
    record {
      values = c.in_ok-values.values;
      ban_is = c.in_ok-ban.ensures;
      shown = shown_known c.args.graphs.now c.args.pairs.now c.args.suspicion.output c.args.suspicion.vector.now c.in_ok-values.values c.first-first.ensures.sound c.requires.known c.requires.ordered c.requires.output size c.in_ok-values.ensures wrong;
    }
