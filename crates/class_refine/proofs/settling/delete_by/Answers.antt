use Rattle.std.proofs.Common.{◌∷◌, List, subst, sym}
use Rattle.circuits.specs.declared.port.Pair.{Pair}
use Rattle.ban_book.specs.Covering.{Covers}
use Rattle.ban_book.proofs.BookLemmas.{covers_last}
use Rattle.pair_domains.specs.declared.entry.Reason.TheVariants as reason
use Rattle.pair_domains.specs.Trails.{Domained, assigned_in}
use Rattle.class_refine.specs.Rows.{decided}
use Rattle.class_refine.specs.Refining.{Refines}
use Rattle.class_refine.specs.Stable.{HaveNoBan}
use Rattle.class_refine.proofs.SettleLemmas.{settles_banned, stops}
use Rattle.class_refine.proofs.TrailLemmas.{refines_assigned, refines_one, refines_then}
use Rattle.class_refine.proofs.settling.delete_by.Goals as goal

pub returns-in-Some : goal.returns-in-Some
returns-in-Some c = λ g shown.
    record {
      refines = refines_assigned g.graphs.now (decided g) _ c.args.book.now c.hold.new.self c.args.ban c.args.domains.now c.in_ok-number.ensures.added shown;
      settled = tt;
      dead = subst (λ (l : List Pair). Covers c.hold.new.self l c.in-Some.dead) c.pairs.ensures.value c.in-Some.ensures.found;
    }

pub returns-in_err-delete : goal.returns-in_err-delete
returns-in_err-delete c = λ g shown.
    let d = c.args.domains.now in
    let assigned = refines_assigned g.graphs.now (decided g) _ c.args.book.now c.hold.new.self c.args.ban d c.in_ok-number.ensures.added shown in
    stops g c.args.book.now c.hold.new.self d c.delete.new.self _ _ c.from_residual-in_err-delete.ensures.0 (subst (λ (after : Domained). Refines g.graphs.now (decided g) c.args.book.now c.hold.new.self d after) (sym c.in_err-delete.ensures.refused) assigned)

pub returns : goal.returns
returns c = λ g shown.
    let d = c.args.domains.now in
    let why = reason.Ban c.in_ok-number.number in
    let assigned = refines_assigned g.graphs.now (decided g) _ c.args.book.now c.hold.new.self c.args.ban d c.in_ok-number.ensures.added shown in
    let covers = covers_last c.args.book.now c.hold.new.self c.args.ban (c.args.way ∷ assigned_in d.entries) c.in_ok-number.number c.in_ok-number.ensures.added c.in_ok-number.ensures.number shown.within in
    let gone = refines_one g.graphs.now (decided g) c.hold.new.self d c.delete.new.self c.args.way why c.in_ok-delete.ensures.deleted c.entries-lawful.ensures.lawful c.requires.known c.requires.open covers tt in
    settles_banned g c.args.book.now c.hold.new.self d c.delete.new.self c.args.way c.args.ban why c.in_ok-number.ensures.added c.in_ok-delete.ensures.deleted (refines_then g.graphs.now (decided g) c.args.book.now c.hold.new.self c.hold.new.self d d c.delete.new.self assigned gone) shown.within (subst (HaveNoBan c.hold.new.self) c.pairs.ensures.value c.in_default.ensures.none)
