-- One piece more, or a first part of it.
use Rattle.std.proofs.Common.{◌+◌, Ok, Err, arith, subst, sym}
use Rattle.std.specs.List.{between}
use Rattle.shelf_core.specs.Calls.{Appends}
use Rattle.run_steps.specs.Writing.{WritesOn}
use Rattle.run_steps.proofs.WritingLemmas.{not_written_on, written_piece}
use Rattle.run_steps.proofs.writing.append_pieces.Goals as goal

pub loop-done-preserved : goal.loop-done-preserved
loop-done-preserved g c =
    let done = c.loop-done.done in
    let now = g.S.Shelf.state c.loop-done.shelf in
    let new = g.S.Shelf.state c.append.new.self in (
      omega (arith, c.loop-done.invariant.0, c.loop-done-test.true),
      written_piece _ c.args.buffer.now.items done (done + 65536) _ now new (Ok tt) (omega arith) (omega (arith, c.loop-done.invariant.0, c.loop-done-test.true)) c.loop-done.invariant.1
          (subst (λ bytes. Appends g.S.Shelf.tells (between done (done + 65536) bytes) now new (Ok tt)) c.deref.ensures.value c.in_ok-append.ensures),
    )

pub returns-in_err-append : goal.returns-in_err-append
returns-in_err-append g c =
    let done = c.loop-done.done in
    let now = g.S.Shelf.state c.loop-done.shelf in
    let new = g.S.Shelf.state c.append.new.self in
    let stop = c.in_err-append.field-0.0 in
    not_written_on _ _ _ _ _ _ stop _ c.from_residual.ensures.1
    (written_piece _ c.args.buffer.now.items done (done + 65536) _ now new (Err stop) (omega arith) (omega (arith, c.loop-done.invariant.0, c.loop-done-test.true)) c.loop-done.invariant.1
    (subst (λ bytes. Appends g.S.Shelf.tells (between done (done + 65536) bytes) now new (Err stop)) c.deref.ensures.value c.in_err-append.ensures))

pub returns : goal.returns
returns g c =
    subst (λ left. WritesOn g.S.Shelf.tells c.args.buffer.now.items left (g.S.Shelf.state c.args.shelf.now) (g.S.Shelf.state c.loop-done.shelf) (Ok tt)) (sym c.remove_front.ensures) c.loop-done.invariant.1
