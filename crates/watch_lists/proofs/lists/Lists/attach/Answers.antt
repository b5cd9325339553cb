-- Two watches are written, and put into the lists of their literals.
use Rattle.std.proofs.Common.{◌+◌, List, length, slice_set, ap, sym, subst, ◌∙◌, arith}
use Rattle.std.proofs.lemmas.List.{length-set}
use Rattle.cnf_core.specs.declared.literal.SatLit.{SatLit}
use Rattle.watch_lists.specs.Lists.{ArePut, Listed, list_at, put_in}
use Rattle.watch_lists.proofs.ListLemmas.{put_other_room, put_size, put_twice}
use Rattle.watch_lists.proofs.lists.Lists.attach.Goals as goal

pub put-requires-2-clause-there : goal.put-requires-2-clause-there
put-requires-2-clause-there c =
    omega (arith, c.requires.there, ap length c.put.ensures.watches, length-set c.args.self.now.watches.items c.args.watch c.args.first)

pub put-requires-2-clause-known : goal.put-requires-2-clause-known
put-requires-2-clause-known c =
    omega (arith, c.requires.second, ap length c.put.ensures.lists, put_size c.args.self.now.store c.args.first.0 c.args.watch)

pub put-requires-2-clause-room : goal.put-requires-2-clause-room
put-requires-2-clause-room c =
    let same = put_other_room c.args.self.now.store c.args.first.0 c.args.watch c.args.second.0 (λ e. c.requires.differ (sym e)) in
    omega (arith, c.requires.second_room, same, ap (λ (x : List Listed). (list_at x c.args.second.0).room) c.put.ensures.lists)

pub returns-clause-put : goal.returns-clause-put
returns-clause-put c =
    let ws = c.args.self.now.watches.items in
    let s = c.args.watch in
    let written = c.put-2.ensures.watches ∙ ap (λ (x : List SatLit). slice_set x (s + 1) c.args.second) c.put.ensures.watches in
    subst (λ (x : List SatLit). ArePut ws x s c.args.first c.args.second) (sym written) (put_twice ws s c.args.first c.args.second c.requires.there)

pub returns-clause-lists : goal.returns-clause-lists
returns-clause-lists c = c.put-2.ensures.lists ∙ ap (put_in c.args.second.0 (c.args.watch + 1)) c.put.ensures.lists
