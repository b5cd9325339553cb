-- Where a ban can be applied.
use Rattle.std.proofs.Common.{◌≤◌, ℕ, List, ◌∷◌, take, All, sym, ap, ◌∙◌, inl, inr, arith}
use Rattle.std.specs.Prelude.{Contains}
use Rattle.std.proofs.lemmas.Bool.{cases_lt}
use Rattle.std.proofs.lemmas.List.{get_or-take, length-take-le}
use Rattle.std.proofs.lemmas.List.Elements.{All-contains_itself, All-weaker}
use Rattle.circuits.specs.declared.port.Pair.{Pair}
use Rattle.net_core.specs.Sides.{Graphs}
use Rattle.account_core.specs.declared.step.Ban.{Ban}
use Rattle.ban_book.proofs.BlockListLemmas.{cons_more}
use Rattle.ban_book.proofs.BookLemmas.{covers_wider}
use Rattle.pair_domains.specs.declared.entry.Entry.{Entry}
use Rattle.pair_domains.specs.declared.entry.Cause.TheVariants.{Choice}
use Rattle.pair_domains.specs.declared.entry.Fate.TheVariants.{Assigned}
use Rattle.pair_domains.specs.Trails.{AreDomains, Domained, IsPlace, assigned_in}
use Rattle.pair_search.specs.ConflictSets.{IsBack, IsChoiceAt}
use Rattle.pair_search.specs.declared.learned.Back.{Back}
use Rattle.pair_search.specs.Progress.{IsTrail, StaysJustified}
use Rattle.pair_search.proofs.JustifiedLemmas.{assigned_front_of}
use Rattle.pair_search.proofs.PivotLemmas.{open_before}

-- what can be applied before a choice can be applied before the choice of its own pair, which is a later one
pub back_later : (bans : List Ban) (d : Domained) (back : Back) (place : ℕ) → AreDomains d → IsPlace d.entries back.pair place → IsChoiceAt d.entries place → IsBack bans d back → IsBack bans d (record { place = place; pair = back.pair; ban = back.ban })
back_later bans d back place lawful there choice is = record {
  choice = choice;
  known = is.known;
  open' = open_before d.entries back.pair place place own lawful.distinct (omega arith) there.within there.there;
  covers = covers_wider bans (back.pair ∷ front) (back.pair ∷ assigned_in (take place d.entries)) back.ban wider is.covers;
}
  where
    own : Entry
    own = record { pair = back.pair; fate = Assigned Choice }

    front : List Pair
    front = assigned_in (take back.place d.entries)

    later : back.place ≤ place
    later = elim (cases_lt place back.place) [
      | inl less ↦ absurd (is.open' place own (omega (arith, less, length-take-le back.place d.entries (omega (arith, is.choice.within)))) (ap (λ (x : Entry). x.pair) (get_or-take back.place d.entries place own less) ∙ there.there own))
      | inr order ↦ order
    ]

    wider : All (Contains (back.pair ∷ assigned_in (take place d.entries))) (back.pair ∷ front)
    wider = All-weaker (Contains (back.pair ∷ front)) (Contains (back.pair ∷ assigned_in (take place d.entries))) (λ x. cons_more back.pair front (assigned_in (take place d.entries)) x (assigned_front_of d.entries back.place place later)) (back.pair ∷ front) (All-contains_itself (back.pair ∷ front))

-- a trail that stays justified is one of the same circuits
pub trail_stays : (graphs : Graphs) (bans : List Ban) (before after : Domained) → IsTrail graphs bans before → StaysJustified bans before after → IsTrail graphs bans after
trail_stays graphs bans before after trail stays = record {
  fit = record {
    many = trail.fit.many;
    inputs_are = trail.fit.inputs_are ∙ sym stays.inputs;
    outputs_are = trail.fit.outputs_are ∙ sym stays.outputs;
  };
  justified = stays.justified;
}
