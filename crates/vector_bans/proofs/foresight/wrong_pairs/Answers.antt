-- What is left of the assigned pairs shows the difference.
use Rattle.std.proofs.Common.{◌∙◌, List, ap, length, sym, subst}
use Rattle.circuits.specs.declared.port.Pair.{Pair}
use Rattle.std.proofs.lemmas.List.{length-map}
use Rattle.circuits.specs.Netlists.{Net}
use Rattle.account_core.specs.Vectors.{value_at}
use Rattle.word_sim.specs.ThreeValues.{tri_outputs, of_bit}
use Rattle.word_sim.specs.declared.tri.Tri.{Tri}
use Rattle.vector_bans.specs.Differences.{IsWrong}
use Rattle.ban_book.proofs.KeepLemmas.{part_known}
use Rattle.vector_bans.proofs.ForesightLemmas.{shown_assigned}
use Rattle.vector_bans.proofs.ResortLemmas.{second_there}
use Rattle.vector_bans.proofs.ShownLemmas.{shown_made_among}
use Rattle.vector_bans.proofs.foresight.wrong_pairs.Goals as goal

pub is_wrong-requires : goal.is_wrong-requires
is_wrong-requires c =
    let from = c.args.suspect.now.pair.from in
    let known = part_known c.args.graphs.now c.args.assigned.now c.in_ok-pairs.pairs.items c.requires.assigned c.in_ok-pairs.ensures.part in
    record {
      may = record {
        output = second_there c.args.graphs.now c.in_ok-pairs.pairs.items c.args.suspect.now.pair known c.in_ok-pairs.ensures.output;
        places = ap length (c.deref-2.ensures.value ∙ c.in_ok-values.ensures) ∙ (length-map c.args.suspect.now.vector of_bit ∙ c.requires.suspect.places);
        first_is =
            c.in_ok-first.ensures
            ∙ (ap (λ (net : Net). value_at (tri_outputs net c.deref.result.now) from) c.first.ensures.value
            ∙ ap (λ (values : List Tri). value_at (tri_outputs c.args.graphs.now.first values) from) (c.deref.ensures.value ∙ sym c.deref-2.ensures.value));
      };
    }

pub leave_out-requires-clause-shown : goal.leave_out-requires-clause-shown
leave_out-requires-clause-shown c =
    let wrong = subst (λ (l : List Pair). IsWrong c.args.graphs.now l c.args.suspect.now.pair c.deref-2.result.now) c.deref-3.ensures.value (c.in_ok-is_wrong.ensures.0 c.if-not-branch.false) in
    shown_assigned c.args.graphs.now c.args.assigned.now c.in_ok-pairs.pairs.items c.args.suspect.now.pair c.args.suspect.now.vector c.deref-4.result.now c.requires.assigned c.first-first.ensures.sound c.in_ok-pairs.ensures.part c.requires.suspect.assigned c.in_ok-pairs.ensures.output c.requires.suspect.places (c.deref-4.ensures.value ∙ c.in_ok-values.ensures) (subst (λ (v : List Tri). IsWrong c.args.graphs.now c.in_ok-pairs.pairs.items c.args.suspect.now.pair v) (c.deref-2.ensures.value ∙ sym c.deref-4.ensures.value) wrong)

pub returns : goal.returns
returns c =
    shown_made_among c.args.graphs.now c.args.assigned.now c.in_ok-pairs.pairs.items c.in_ok-pairs-2.pairs.items c.from_vec-pairs.result c.args.suspect.now.pair c.deref-4.result.now c.in_ok-values.values c.from_vec-pairs.ensures c.deref-4.ensures.value c.in_ok-pairs.ensures.part.among c.in_ok-pairs-2.ensures
