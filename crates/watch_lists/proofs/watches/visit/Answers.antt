-- The watch at a place of the list stays or moves.
use Rattle.std.proofs.Common.{◌≡◌, ◌≢◌, ℕ, ◌+◌, ◌/◌, ◌<◌, List, [], length, slice_index_or, slice_set, ap, sym, subst, ◌∙◌, arith}
use Rattle.std.proofs.lemmas.List.{get_or_default}
use Rattle.cnf_core.specs.declared.literal.SatLit.{SatLit}
use Rattle.cnf_core.specs.Clauses.{clause_at}
use Rattle.trail_core.specs.Trails.{Trailing, literals}
use Rattle.watch_lists.specs.declared.lists.Lists.{Lists}
use Rattle.watch_lists.specs.WatchStates.{IsHalfFalse, IsTarget}
use Rattle.watch_lists.specs.Lists.{IsAttached, IsMove, Listed, list_of, literal_at, numbered, partner, put_in, taken_from, watch_at}
use Rattle.watch_lists.specs.Watched.{IsWalking}
use Rattle.watch_lists.proofs.FitLemmas.{half_false, looked, next_own, step_attached, target_implied, target_known, target_room}
use Rattle.watch_lists.proofs.ListLemmas.{attached_half, partner_within}
use Rattle.watch_lists.proofs.watches.visit.Goals as goal

-- the other watched literal of the clause, which is read at the watch beside this one
other_is : {clauses : List (List SatLit)} {ws : List SatLit} {lists : List Listed} {t : Trailing} {f other : SatLit} {w p : ℕ} (place : ℕ) → IsWalking clauses ws lists t f (place + 1) → w ≡ watch_at (list_of lists f.0) place → p ≡ partner w → other ≡ slice_index_or ws p other → other ≡ literal_at ws (partner (watch_at (list_of lists f.0) place))
other_is {clauses = clauses} {ws = ws} {lists = lists} {t = t} {f = f} {other = other} {w = w} {p = p} place is w_is p_is other_at =
    let own = next_own clauses ws lists t f place is in
    let within : p < length ws = subst (λ k. k < length ws) (sym (p_is ∙ ap partner w_is)) (partner_within ws (watch_at (list_of lists f.0) place) is.listed.even own.within) in
    other_at ∙ (get_or_default ws p other (numbered 0) within ∙ ap (literal_at ws) (p_is ∙ ap partner w_is))

target_is : {clauses : List (List SatLit)} {ws : List SatLit} {lists : List Listed} {t new : Trailing} {f other l : SatLit} {w p : ℕ} (place : ℕ) → IsWalking clauses ws lists t f (place + 1) → w ≡ watch_at (list_of lists f.0) place → p ≡ partner w → other ≡ slice_index_or ws p other → IsTarget t new (clause_at clauses (w / 2)) (w / 2) other f l → IsTarget t new (clause_at clauses (watch_at (list_of lists f.0) place / 2)) (watch_at (list_of lists f.0) place / 2) (literal_at ws (partner (watch_at (list_of lists f.0) place))) f l
target_is {clauses = clauses} {ws = ws} {lists = lists} {t = t} {new = new} {f = f} {other = other} {l = l} {w = w} {p = p} place is w_is p_is other_at target =
    subst (λ k. IsTarget t new (clause_at clauses (k / 2)) (k / 2) (literal_at ws (partner (watch_at (list_of lists f.0) place))) f l) w_is (subst (λ x. IsTarget t new (clause_at clauses (w / 2)) (w / 2) x f l) (other_is place is w_is p_is other_at) target)

-- the clause that is looked at is there
clause_there : {clauses : List (List SatLit)} {ws : List SatLit} {lists : List Listed} {t : Trailing} {f : SatLit} {w : ℕ} (place : ℕ) → IsWalking clauses ws lists t f (place + 1) → w ≡ watch_at (list_of lists f.0) place → w / 2 < length clauses
clause_there {clauses = clauses} {ws = ws} {lists = lists} {t = t} {f = f} place is w_is = omega (arith, w_is, (next_own clauses ws lists t f place is).within, is.of_clauses.size)

watch_there : {clauses : List (List SatLit)} {ws : List SatLit} {lists : List Listed} {t : Trailing} {f : SatLit} {w : ℕ} (place : ℕ) → IsWalking clauses ws lists t f (place + 1) → w ≡ watch_at (list_of lists f.0) place → w < length ws
watch_there {clauses = clauses} {ws = ws} {lists = lists} {t = t} {f = f} place is w_is = omega (arith, w_is, (next_own clauses ws lists t f place is).within)

step_is : {old new : Lists} {f l : SatLit} {place w : ℕ} → w ≡ watch_at (list_of old.store f.0) place → (l.0 ≡ f.0 → new ≡ old) → (l.0 ≢ f.0 → new.watches.items ≡ slice_set old.watches.items w l) → (l.0 ≢ f.0 → new.store ≡ put_in l.0 w (taken_from f.0 place old.store)) → IsMove old.watches.items new.watches.items old.store new.store f l place (watch_at (list_of old.store f.0) place)
step_is {old = old} {new = new} {f = f} {l = l} {place = place} {w = w} w_is stays watches lists = record {
  stays = λ e. (ap (λ (x : Lists). x.watches.items) (stays e), ap (λ (x : Lists). x.store) (stays e));
  moves_watch = λ e. watches e ∙ ap (λ k. slice_set old.watches.items k l) w_is;
  moves_list = λ e. lists e ∙ ap (λ k. put_in l.0 k (taken_from f.0 place old.store)) w_is;
}

pub at-watch-requires-clause-there : goal.at-watch-requires-clause-there
at-watch-requires-clause-there c = omega (arith, c.requires.walking.few)

pub partner-requires : goal.partner-requires
partner-requires c =
    let is = c.requires.walking in
    omega (arith, watch_there c.args.place is c.at-watch.ensures, is.listed.few, is.listed.even)

pub index-other-requires : goal.index-other-requires
index-other-requires c =
    let is = c.requires.walking in
    let w = c.at-watch.result in
    omega (arith, partner_within c.args.lists.now.watches.items w is.listed.even (watch_there c.args.place is c.at-watch.ensures), c.partner.ensures, c.args.lists.now.watches.ok.0)

pub target-requires-clause-there : goal.target-requires-clause-there
target-requires-clause-there c = clause_there c.args.place c.requires.walking c.at-watch.ensures

pub target-requires-clause-known : goal.target-requires-clause-known
target-requires-clause-known c = c.requires.walking.known (c.at-watch.result / 2) [] (target-requires-clause-there c)

pub target-requires-clause-half : goal.target-requires-clause-half
target-requires-clause-half c =
    let is = c.requires.walking in
    let w_is = c.at-watch.ensures in
    let other = other_is c.args.place is w_is c.partner.ensures c.index-other.ensures in
    let made = literals c.args.trail.now.entries in
    let clauses = c.args.clauses.now.clauses in
    let half = half_false _ _ _ _ _ c.args.place is in
    subst (λ (l : SatLit). IsHalfFalse made (clause_at clauses (c.at-watch.result / 2)) l) (sym other) (subst (λ k. IsHalfFalse made (clause_at clauses (k / 2)) (literal_at c.args.lists.now.watches.items (partner (watch_at (list_of c.args.lists.now.store c.args.literal.0) c.args.place)))) (sym w_is) half)

pub returns-in_default-clause-conflict : goal.returns-in_default-clause-conflict
returns-in_default-clause-conflict c = record {
  there = clause_there c.args.place c.requires.walking c.at-watch.ensures;
  conflict = c.in_default.ensures.conflict;
}

pub returns-in_default-clause-of_attached : goal.returns-in_default-clause-of_attached
returns-in_default-clause-of_attached c =
    let own = next_own _ _ _ _ _ c.args.place c.requires.walking in
    attached_half c.args.lists.now.watches.items c.at-watch.result (subst (λ k. IsAttached c.args.lists.now.watches.items k) (sym c.at-watch.ensures) own.attached)

pub move_watch-requires-clause-there : goal.move_watch-requires-clause-there
move_watch-requires-clause-there c = watch_there c.args.place c.requires.walking c.at-watch.ensures

pub move_watch-requires-clause-within : goal.move_watch-requires-clause-within
move_watch-requires-clause-within c = omega (arith, c.requires.walking.few)

pub move_watch-requires-clause-moved : goal.move_watch-requires-clause-moved
move_watch-requires-clause-moved c =
    let is = c.requires.walking in
    target_known _ _ _ _ _ _ _ c.args.place is (target_is c.args.place is c.at-watch.ensures c.partner.ensures c.index-other.ensures c.in-Some.ensures.target)

pub move_watch-requires-clause-room : goal.move_watch-requires-clause-room
move_watch-requires-clause-room c =
    let is = c.requires.walking in
    target_room _ _ _ _ _ _ _ c.args.place is (target_is c.args.place is c.at-watch.ensures c.partner.ensures c.index-other.ensures c.in-Some.ensures.target)

pub returns-clause-walking : goal.returns-clause-walking
returns-clause-walking c =
    let is = c.requires.walking in
    let target = target_is c.args.place is c.at-watch.ensures c.partner.ensures c.index-other.ensures c.in-Some.ensures.target in
    let step = step_is {old = c.args.lists.now} {new = c.move_watch.new.self} c.at-watch.ensures c.move_watch.ensures.stays c.move_watch.ensures.watches c.move_watch.ensures.lists in
    looked _ _ _ _ _ _ _ _ _ c.args.place is c.walked-walked.ensures.trail target step

pub returns-clause-attached : goal.returns-clause-attached
returns-clause-attached c =
    let is = c.requires.walking in
    let target = target_is c.args.place is c.at-watch.ensures c.partner.ensures c.index-other.ensures c.in-Some.ensures.target in
    let step = step_is {old = c.args.lists.now} {new = c.move_watch.new.self} c.at-watch.ensures c.move_watch.ensures.stays c.move_watch.ensures.watches c.move_watch.ensures.lists in
    step_attached _ _ _ _ _ _ _ _ _ c.args.place is target step

pub returns-clause-implied : goal.returns-clause-implied
returns-clause-implied c =
    target_implied c.args.clauses.now.clauses c.args.trail.now c.target.new.trail c.args.literal c.in-Some.moved _ (c.at-watch.result / 2) (clause_there c.args.place c.requires.walking c.at-watch.ensures) c.in-Some.ensures.target
