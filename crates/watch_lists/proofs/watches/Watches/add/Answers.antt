-- One clause more, with two watches that are in no list, for which the lists of its literals have room.
use Rattle.std.proofs.Common.{List, ◌++◌, ◌∷◌, [], Vec, length, sym, subst, ap, ◌∙◌, arith}
use Rattle.std.specs.declared.alloc.Global.{Global}
use Rattle.cnf_core.specs.declared.literal.SatLit.{SatLit}
use Rattle.cnf_core.specs.Clauses.{AreKnown}
use Rattle.cnf_core.specs.Stores.{Stored}
use Rattle.watch_lists.specs.Lists.{IsRoomier, Listed}
use Rattle.watch_lists.specs.Watched.{AreKept, Watching, unattached_watch}
use Rattle.watch_lists.proofs.AttachLemmas.{kept_added, kept_roomier}
use Rattle.watch_lists.proofs.watches.Watches.add.Goals as goal

pub make_room-requires : goal.make_room-requires
make_room-requires c k d h =
    let old = c.self.inside in
    let known = subst (λ (w : Watching). AreKnown w.variables c.args.clause.now) (sym c.self.view_is) c.requires.known in
    omega (arith, known k d h, c.self.invariant.lists_are)

pub invariant_of-self-2 : goal.invariant_of-self-2
invariant_of-self-2 c =
    let old = c.self.inside in
    let clause = c.args.clause.now in
    let known = subst (λ (w : Watching). AreKnown w.variables clause) (sym c.self.view_is) c.requires.known in
    let put = ap (λ (s : Stored). s.clauses) c.in_ok-id.ensures.put in
    let kept = ap (λ (v : Vec SatLit Global). v.items) c.make_room.ensures.watches ∙ c.in_ok-reserve.ensures.items in
    let new = c.push_unattached.ensures.watches ∙ ap (λ (xs : List SatLit). xs ++ unattached_watch clause ∷ unattached_watch clause ∷ []) kept in
    let more = subst (λ (x : List Listed). IsRoomier old.lists.store x clause (length clause)) (sym c.push_unattached.ensures.lists) c.in_ok-make_room.ensures.roomier in
    kept_added old.variables old.clauses.clauses c.put.new.self.clauses old.lists.watches.items c.push_unattached.new.self.watches.items old.lists.store c.push_unattached.new.self.store clause c.self.invariant known c.requires.filled put new c.push_unattached.ensures.few more

-- where memory is refused there may be more room, and nothing else changes
pub invariant_of-self-in_err-make_room : goal.invariant_of-self-in_err-make_room
invariant_of-self-in_err-make_room c =
    let old = c.self.inside in
    let made = c.make_room.new.self in
    let same = ap (λ (v : Vec SatLit Global). v.items) c.make_room.ensures.watches ∙ c.in_ok-reserve.ensures.items in
    subst (λ (ws : List SatLit). AreKept old.variables old.clauses.clauses ws made.store) (sym same) (kept_roomier old.variables old.clauses.clauses old.lists.watches.items old.lists.store made.store c.args.clause.now 0 c.self.invariant c.in_err-make_room.ensures.refused)

pub invariant_of-self-in_err-id : goal.invariant_of-self-in_err-id
invariant_of-self-in_err-id c =
    let old = c.self.inside in
    let clause = c.args.clause.now in
    let made = c.make_room.new.self in
    let same = ap (λ (v : Vec SatLit Global). v.items) c.make_room.ensures.watches ∙ c.in_ok-reserve.ensures.items in
    let more = kept_roomier old.variables old.clauses.clauses old.lists.watches.items old.lists.store made.store clause (length clause) c.self.invariant c.in_ok-make_room.ensures.roomier in
    subst (λ (s : Stored). AreKept old.variables s.clauses made.watches.items made.store) (sym c.in_err-id.ensures.refused) (subst (λ (ws : List SatLit). AreKept old.variables old.clauses.clauses ws made.store) (sym same) more)
