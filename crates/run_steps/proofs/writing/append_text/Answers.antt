-- A part more is printed, and the pieces that stand there are appended.
use Rattle.std.proofs.Common.{◌++◌, Ok, [], ap, subst, ◌∙◌}
use Rattle.std.proofs.lemmas.List.{append-nil}
use Rattle.run_steps.specs.Writing.{WritesOn}
use Rattle.run_steps.proofs.WritingLemmas.{not_written_on, written_as, written_before, written_out_of_memory, written_then}
use Rattle.run_steps.proofs.writing.append_text.Goals as goal

pub loop-text-preserved : goal.loop-text-preserved
loop-text-preserved g c =
    written_then _ _ _ _ _ _ _ (Ok tt) c.loop-text.invariant
    (written_as _ _ _ _ _ _ (Ok tt) c.in_ok-put_next.ensures.same
    (written_before _ _ _ (g.P.Parts.left c.put_next.new.self) _ _ (Ok tt) c.in_ok-append_pieces.ensures))

pub returns-in_err-put_next : goal.returns-in_err-put_next
returns-in_err-put_next g c =
    written_out_of_memory _ _ _ _ _ _ _ c.from_residual.ensures.1 c.loop-text.invariant

pub returns-in_err-append_pieces : goal.returns-in_err-append_pieces
returns-in_err-append_pieces g c =
    not_written_on _ _ _ _ _ _ c.in_err-append_pieces.field-0.0 _ c.from_residual-in_err-append_pieces.ensures.1
    (written_then _ _ _ _ _ _ _ _ c.loop-text.invariant
    (written_as _ _ _ _ _ _ _ c.in_ok-put_next.ensures.same
    (written_before _ _ _ (g.P.Parts.left c.put_next.new.self) _ _ _ c.in_err-append_pieces.ensures)))

pub returns : goal.returns
returns g c =
    let tells = g.S.Shelf.tells in
    let start = g.S.Shelf.state c.args.shelf.now in
    let now = g.S.Shelf.state c.loop-text.shelf in
    let text = g.P.Parts.left c.args.text.now in
    let buffer = c.loop-text.buffer.items in
    let rest = subst (λ left. WritesOn tells text left start now (Ok tt)) (ap (λ left. buffer ++ left) (c.is_done.ensures.done c.loop-text-test.false) ∙ append-nil buffer) c.loop-text.invariant in
    let new = g.S.Shelf.state c.append_rest.new.shelf in
    written_then tells text buffer [] start now new c.append_rest.result rest (subst (λ bytes. WritesOn tells bytes [] now new c.append_rest.result) c.deref.ensures.value c.append_rest.ensures)
