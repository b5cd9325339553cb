use Rattle.std.proofs.Common.{rules, ◌≡◌, ◌⊎◌, ◌∙◌, sym, subst, All, List, take, get_or, ◌<◌, length, IsTrue}
use Rattle.std.specs.Prelude.{Contains}
use Rattle.std.proofs.lemmas.Bool.{false≢true}
use Rattle.std.proofs.lemmas.List.Elements.{All-contains_itself, Contains-get_or}
use Rattle.circuits.specs.declared.port.Pair.{Pair}
use Rattle.account_core.specs.Ports.{AreOrdered}
use Rattle.account_core.specs.Assigned.{StandsBefore}
use Rattle.ban_book.proofs.BlockListLemmas.{insert_stays, insert_has, insert_cases}
use Rattle.ban_book.proofs.OrderLemmas.{ordered_insert}
use Rattle.ban_book.proofs.needed.add.Goals as goal

pub returns-then-has_at-clause-stays : goal.returns-then-has_at-clause-stays
returns-then-has_at-clause-stays c = All-contains_itself c.args.needed.now.items

pub returns : goal.returns
returns c =
    let e = sym c.in_ok-insert.ensures.items in
    let old = c.args.needed.now.items in
    let d = c.deref.ensures.value in
    record {
      ordered = subst AreOrdered e (ordered_insert old c.args.pair c.place_for-place.result c.requires.ordered c.requires.apart (search rules) (subst (λ (l : List Pair). All (λ (other : Pair). StandsBefore other c.args.pair) (take c.place_for-place.result l)) d c.place_for-place.ensures.before) (subst (λ (l : List Pair). (d' : Pair) → c.place_for-place.result < length l → StandsBefore (get_or l c.place_for-place.result d') c.args.pair → ⊥) d c.place_for-place.ensures.after) (λ there same. false≢true (sym c.if-has_at.false ∙ subst (λ (l : List Pair). (c.place_for-place.result < length l) × (get_or l c.place_for-place.result c.args.pair ≡ c.args.pair) → IsTrue c.has_at.result) c.deref-2.ensures.value c.has_at.ensures.1 (there, same))));
      stays = λ k d' below. subst (λ l. Contains l (get_or old k d')) e (insert_stays old c.place_for-place.result c.args.pair (get_or old k d') (Contains-get_or old k d' below));
      added = subst (λ l. Contains l c.args.pair) e (insert_has old c.place_for-place.result c.args.pair);
      only = subst (All (λ (other : Pair). Contains old other ⊎ (other ≡ c.args.pair))) e (λ k d' below. insert_cases old c.place_for-place.result c.args.pair _ (Contains-get_or _ k d' below));
    }
