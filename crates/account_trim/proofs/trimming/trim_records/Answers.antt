-- What is reached is marked, and what is marked is written.
use Rattle.std.proofs.Common.{◌∙◌, ap, length, subst, sym}
use Rattle.std.proofs.lemmas.Result.{IfOk-weaker}
use Rattle.account_trim.specs.Links.{links_of}
use Rattle.account_trim.specs.Places.{places_of}
use Rattle.account_trim.specs.Reached.{IsReached, NameBack}
use Rattle.account_trim.specs.Trims.{IsLeft}
use Rattle.account_trim.proofs.ClosingLemmas.{reached_lines}
use Rattle.account_trim.proofs.LinkLemmas.{links_back, links_length}
use Rattle.account_trim.proofs.TrimLemmas.{left_is}
use Rattle.account_trim.proofs.trimming.trim_records.Goals as goal

pub reached-requires : goal.reached-requires
reached-requires c =
    let graphs = c.args.graphs.now in
    subst NameBack (sym (c.deref-2.ensures.value ∙ (c.in_ok-linked.ensures.links ∙ ap (links_of graphs) c.deref.ensures.value))) (links_back graphs c.args.records)

pub write-requires-clause-links : goal.write-requires-clause-links
write-requires-clause-links c =
    let graphs = c.args.graphs.now in
    ap length (c.in_ok-linked.ensures.links ∙ ap (links_of graphs) c.deref.ensures.value) ∙ links_length graphs c.args.records

pub write-requires-clause-marks : goal.write-requires-clause-marks
write-requires-clause-marks c =
    let graphs = c.args.graphs.now in
    ap length c.deref-3.ensures.value
    ∙ (c.in_ok-marks.ensures.as_many
    ∙ (ap length c.deref-2.ensures.value
    ∙ (ap length (c.in_ok-linked.ensures.links ∙ ap (links_of graphs) c.deref.ensures.value)
    ∙ links_length graphs c.args.records)))

pub write-requires-clause-lines : goal.write-requires-clause-lines
write-requires-clause-lines c =
    let graphs = c.args.graphs.now in
    let links_are = c.deref-2.ensures.value ∙ (c.in_ok-linked.ensures.links ∙ ap (links_of graphs) c.deref.ensures.value) in
    let reached = subst (λ links. IsReached links c.in_ok-marks.marks.items) links_are c.in_ok-marks.ensures in
    reached_lines graphs c.args.records c.deref-3.result.now (subst (IsReached (links_of graphs c.args.records)) (sym c.deref-3.ensures.value) reached)

pub returns : goal.returns
returns c =
    let graphs = c.args.graphs.now in
    let records = c.args.records in
    let linked = c.in_ok-linked.linked in
    let reached = subst (λ links. IsReached links c.in_ok-marks.marks.items) c.deref-2.ensures.value c.in_ok-marks.ensures in
    IfOk-weaker c.write.result _ (IsLeft graphs records)
    (λ trimmed written. left_is graphs records linked c.deref-3.result.now trimmed
    (c.in_ok-linked.ensures.links ∙ ap (links_of graphs) c.deref.ensures.value)
    (c.in_ok-linked.ensures.places ∙ ap (places_of graphs) c.deref.ensures.value)
    (subst (IsReached linked.links) (sym c.deref-3.ensures.value) reached)
    written)
    c.write.ensures
