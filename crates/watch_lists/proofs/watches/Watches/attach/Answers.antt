-- The two watches of a clause are those of two of its literals, or the clause has one that is true at level 0.
use Rattle.std.proofs.Common.{◌<◌, ◌*◌, List, length, refl, sym, subst, ap, ◌∙◌}
use Rattle.cnf_core.specs.declared.literal.SatLit.{SatLit}
use Rattle.cnf_core.specs.Clauses.{clause_at}
use Rattle.watch_lists.specs.Attachments.{ArePair, IsSettled}
use Rattle.watch_lists.specs.Lists.{ArePut, IsAttached}
use Rattle.watch_lists.specs.Watched.{Watching}
use Rattle.watch_lists.proofs.AttachLemmas.{fits_attached, fits_settled, has_list, kept_attached, unattached_room, put_rewatched, settled_grown, settled_implied, settled_present}
use Rattle.watch_lists.proofs.watches.Watches.attach.Goals as goal

pub attach-requires-clause-first : goal.attach-requires-clause-first
attach-requires-clause-first c =
    let old = c.self.inside in
    let there = subst (λ (w : Watching). c.args.id < length w.clauses) (sym c.self.view_is) c.requires.there in
    let pair = subst (λ (cl : List SatLit). ArePair c.find_watches.new.trail.entries cl c.in-Two.first c.in-Two.second) c.get.ensures c.in-Two.ensures.attachment in
    has_list old.variables old.clauses.clauses old.lists.watches.items old.lists.store c.args.id c.in-Two.first c.self.invariant there pair.first_there

pub attach-requires-clause-second : goal.attach-requires-clause-second
attach-requires-clause-second c =
    let old = c.self.inside in
    let there = subst (λ (w : Watching). c.args.id < length w.clauses) (sym c.self.view_is) c.requires.there in
    let pair = subst (λ (cl : List SatLit). ArePair c.find_watches.new.trail.entries cl c.in-Two.first c.in-Two.second) c.get.ensures c.in-Two.ensures.attachment in
    has_list old.variables old.clauses.clauses old.lists.watches.items old.lists.store c.args.id c.in-Two.second c.self.invariant there pair.second_there

pub attach-requires-clause-first_room : goal.attach-requires-clause-first_room
attach-requires-clause-first_room c =
    let old = c.self.inside in
    let there = subst (λ (w : Watching). c.args.id < length w.clauses) (sym c.self.view_is) c.requires.there in
    let unattached = subst (λ (w : Watching). IsAttached w.watches (2 * c.args.id) → ⊥) (sym c.self.view_is) c.requires.unattached in
    let pair = subst (λ (cl : List SatLit). ArePair c.find_watches.new.trail.entries cl c.in-Two.first c.in-Two.second) c.get.ensures c.in-Two.ensures.attachment in
    unattached_room old.variables old.clauses.clauses old.lists.watches.items old.lists.store c.args.id (2 * c.args.id) c.in-Two.first c.self.invariant there refl unattached pair.first_there

pub attach-requires-clause-second_room : goal.attach-requires-clause-second_room
attach-requires-clause-second_room c =
    let old = c.self.inside in
    let there = subst (λ (w : Watching). c.args.id < length w.clauses) (sym c.self.view_is) c.requires.there in
    let unattached = subst (λ (w : Watching). IsAttached w.watches (2 * c.args.id) → ⊥) (sym c.self.view_is) c.requires.unattached in
    let pair = subst (λ (cl : List SatLit). ArePair c.find_watches.new.trail.entries cl c.in-Two.first c.in-Two.second) c.get.ensures c.in-Two.ensures.attachment in
    unattached_room old.variables old.clauses.clauses old.lists.watches.items old.lists.store c.args.id (2 * c.args.id) c.in-Two.second c.self.invariant there refl unattached pair.second_there

pub invariant_of-self : goal.invariant_of-self
invariant_of-self c =
    let old = c.self.inside in
    let there = subst (λ (w : Watching). c.args.id < length w.clauses) (sym c.self.view_is) c.requires.there in
    let unattached = subst (λ (w : Watching). IsAttached w.watches (2 * c.args.id) → ⊥) (sym c.self.view_is) c.requires.unattached in
    let pair = subst (λ (cl : List SatLit). ArePair c.find_watches.new.trail.entries cl c.in-Two.first c.in-Two.second) c.get.ensures c.in-Two.ensures.attachment in
    kept_attached old.variables old.clauses.clauses old.lists.watches.items c.attach.new.self.watches.items old.lists.store c.attach.new.self.store c.args.id (2 * c.args.id) c.in-Two.first c.in-Two.second c.find_watches.new.trail.entries c.self.invariant there refl unattached c.attach.ensures.put c.attach.ensures.lists pair

pub returns-in-Two-clause-fits : goal.returns-in-Two-clause-fits
returns-in-Two-clause-fits c =
    let old = c.args.self.now in
    let trail = c.find_watches.new.trail in
    let fits = fits_settled old c.args.trail.now trail c.get.result.now c.args.id c.requires.fits c.walked-walked.ensures.trail.walked c.find_watches.ensures.settled in
    let pair = subst (λ (cl : List SatLit). ArePair trail.entries cl c.in-Two.first c.in-Two.second) (c.get.ensures ∙ ap (λ (w : Watching). clause_at w.clauses c.args.id) c.self.view_is) c.in-Two.ensures.attachment in
    let put = subst (λ (w : Watching). ArePut w.watches c.attach.new.self.watches.items (2 * c.args.id) c.in-Two.first c.in-Two.second) c.self.view_is c.attach.ensures.put in
    fits_attached old _ trail c.args.id (2 * c.args.id) c.in-Two.first c.in-Two.second fits (ap (λ (w : Watching). w.variables) c.self.view_is) refl put pair

pub returns-in-Two-clause-attached : goal.returns-in-Two-clause-attached
returns-in-Two-clause-attached c =
    let put = subst (λ (w : Watching). ArePut w.watches c.attach.new.self.watches.items (2 * c.args.id) c.in-Two.first c.in-Two.second) c.self.view_is c.attach.ensures.put in
    put_rewatched c.args.self.now _ c.args.id (2 * c.args.id) c.in-Two.first c.in-Two.second refl c.requires.unattached put (ap (λ (w : Watching). w.variables) c.self.view_is) (ap (λ (w : Watching). w.clauses) c.self.view_is)

pub returns-in-Two-clause-grown : goal.returns-in-Two-clause-grown
returns-in-Two-clause-grown c = settled_grown c.args.trail.now c.find_watches.new.trail c.get.result.now c.args.id c.find_watches.ensures.settled

pub returns-in-Two-clause-present : goal.returns-in-Two-clause-present
returns-in-Two-clause-present c = settled_present c.args.trail.now c.find_watches.new.trail c.get.result.now c.args.id c.requires.present c.find_watches.ensures.settled

pub returns-in-Two-clause-implied : goal.returns-in-Two-clause-implied
returns-in-Two-clause-implied c =
    let get = c.get.ensures ∙ ap (λ (w : Watching). clause_at w.clauses c.args.id) c.self.view_is in
    settled_implied c.args.self.now.clauses c.args.trail.now c.find_watches.new.trail c.args.id c.requires.there (subst (λ (cl : List SatLit). IsSettled c.args.trail.now c.find_watches.new.trail cl c.args.id) get c.find_watches.ensures.settled)

pub returns-in-Rooted-clause-fits : goal.returns-in-Rooted-clause-fits
returns-in-Rooted-clause-fits c =
    fits_settled c.args.self.now c.args.trail.now c.find_watches.new.trail c.get.result.now c.args.id c.requires.fits c.walked-walked.ensures.trail.walked c.find_watches.ensures.settled

pub returns-in-Rooted-clause-present : goal.returns-in-Rooted-clause-present
returns-in-Rooted-clause-present c = settled_present c.args.trail.now c.find_watches.new.trail c.get.result.now c.args.id c.requires.present c.find_watches.ensures.settled

pub returns-in-Rooted-clause-implied : goal.returns-in-Rooted-clause-implied
returns-in-Rooted-clause-implied c =
    let get = c.get.ensures ∙ ap (λ (w : Watching). clause_at w.clauses c.args.id) c.self.view_is in
    settled_implied c.args.self.now.clauses c.args.trail.now c.find_watches.new.trail c.args.id c.requires.there (subst (λ (cl : List SatLit). IsSettled c.args.trail.now c.find_watches.new.trail cl c.args.id) get c.find_watches.ensures.settled)
