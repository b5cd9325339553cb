use Rattle.std.proofs.Common.{refl, rules, arith}
use Rattle.shelf_core.proofs.Failures.{none_added}
use Rattle.shelf_core.proofs.mem_shelf.MemShelfShelf.append.Goals as goal

pub returns-in_err-next-clause-appends : goal.returns-in_err-next-clause-appends
returns-in_err-next-clause-appends c =
    let inside = c.args.self.now.inside in
    let part = none_added inside.files.items inside.opened c.args.piece.now c.requires (omega (arith, inside.place)) in
    record {
      others = λ n other. refl;
      mode = c.requires;
      named = refl;
      whole = search rules;
      part = λ tells. search (rules, part);
      counted = c.next.ensures.counted.latest;
      clean = search rules;
      no_memory = search rules;
      failed = search rules;
    }
