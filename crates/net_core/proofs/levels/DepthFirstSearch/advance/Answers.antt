-- A step of the search keeps what is known: a definition is entered or left, or a cycle is found.
use Rattle.std.proofs.Common.{◌≡◌, ◌-◌, ◌<◌, ◌∙◌, ap, refl, length, get_or, arith}
use Rattle.net_core.proofs.SearchLaws.{IsUnderWay-enter, IsUnderWay-close, IsUnderWay-loop, top-there, top-looked}
use Rattle.net_core.proofs.levels.DepthFirstSearch.advance.Goals as goal

pub next_event-requires-clause-there : goal.next_event-requires-clause-there
next_event-requires-clause-there c =
    let stack = c.args.self.now.stack.items in
    let frame = c.index-frame.result.now in
    let at : c.len.result - 1 ≡ length stack - 1 = omega arith in
    top-there c.args.net.now c.args.root c.args.self.now.visits.items stack frame (omega arith) (c.index-frame.ensures ∙ ap (λ n. get_or stack n frame) at) c.requires.under_way

pub next_event-requires-clause-looked : goal.next_event-requires-clause-looked
next_event-requires-clause-looked c =
    let stack = c.args.self.now.stack.items in
    let frame = c.index-frame.result.now in
    let at : c.len.result - 1 ≡ length stack - 1 = omega arith in
    top-looked c.args.net.now c.args.root c.args.self.now.visits.items stack frame (omega arith) (c.index-frame.ensures ∙ ap (λ n. get_or stack n frame) at) c.requires.under_way

pub returns-in-Loop-clause-fault : goal.returns-in-Loop-clause-fault
returns-in-Loop-clause-fault c =
    let stack = c.args.self.now.stack.items in
    let frame = c.index-frame.result.now in
    let at : c.len.result - 1 ≡ length stack - 1 = omega arith in
    (refl, IsUnderWay-loop c.args.net.now c.args.root c.args.self.now.visits.items stack frame (omega arith) (c.index-frame.ensures ∙ ap (λ n. get_or stack n frame) at) c.in-Loop.ensures c.requires.under_way)

pub returns-in_ok-descend-in-Enter-clause-under_way : goal.returns-in_ok-descend-in-Enter-clause-under_way
returns-in_ok-descend-in-Enter-clause-under_way c =
    let stack = c.args.self.now.stack.items in
    let frame = c.index-frame.result.now in
    let at : c.len.result - 1 ≡ length stack - 1 = omega arith in
    rw (c.in_ok-descend-in-Enter.ensures.visits, c.in_ok-descend-in-Enter.ensures.stack) (IsUnderWay-enter c.args.net.now c.args.root c.args.self.now.visits.items stack frame c.in-Enter.looked c.in-Enter.place (omega arith) (c.index-frame.ensures ∙ ap (λ n. get_or stack n frame) at) c.in-Enter.ensures c.requires.under_way)

pub returns-in-Close-clause-under_way : goal.returns-in-Close-clause-under_way
returns-in-Close-clause-under_way c =
    let stack = c.args.self.now.stack.items in
    let frame = c.index-frame.result.now in
    let at : c.len.result - 1 ≡ length stack - 1 = omega arith in
    let top : frame ≡ get_or stack (length stack - 1) frame = c.index-frame.ensures ∙ ap (λ n. get_or stack n frame) at in
    let there : frame.position < length c.args.self.now.visits.items = omega (arith, top-there c.args.net.now c.args.root c.args.self.now.visits.items stack frame (omega arith) top c.requires.under_way, c.requires.under_way.knows.entries) in
    rw (c.close.ensures.visits, c.close.ensures.stack) (IsUnderWay-close c.args.net.now c.args.root c.args.self.now.visits.items stack frame c.in-Close.level there (omega arith) top c.in-Close.ensures c.requires.under_way)
