use Rattle.std.proofs.Common.{◌∷◌, ◌++◌, []}
use Rattle.ban_book.specs.Vectors.{HaveNoFacts}
use Rattle.ban_book.specs.Shown.{IsShownBan}
use Rattle.class_refine.specs.Rows.{ShowNothingAt, decided}
use Rattle.class_refine.proofs.InputLemmas.{inputs_known, way_among}
use Rattle.class_refine.proofs.NothingLemmas.{nothing_of_input, nothing_of_output, shown_more}
use Rattle.class_refine.proofs.ResultLemmas.{none_so, some_so}
use Rattle.class_refine.proofs.shown.way_ban.Goals as goal

pub output_ban-requires-clause-inputs : goal.output_ban-requires-clause-inputs
output_ban-requires-clause-inputs c = inputs_known _ _ _ c.requires.assigned c.requires.inputs

pub returns-in-Input-clause-none : goal.returns-in-Input-clause-none
returns-in-Input-clause-none c =
    let g = c.args.grounds.now in
    none_so c.ban_of_assigned.result (ShowNothingAt g.graphs.now (decided g) (c.args.way ∷ []) c.args.assigned.now) (HaveNoFacts g.graphs.now (decided g) (c.args.way ∷ c.args.assigned.now)) (nothing_of_input g.graphs.now (decided g) c.args.assigned.now g.inputs.now c.requires.assigned c.requires.inputs c.requires.alone c.args.way c.requires.known c.in-Input.is) c.ban_of_assigned.ensures.none

pub returns-in-Output-clause-shown : goal.returns-in-Output-clause-shown
returns-in-Output-clause-shown c =
    let g = c.args.grounds.now in
    some_so c.output_ban.result (IsShownBan g.graphs.now (decided g) (g.inputs.now ++ c.args.way ∷ [])) (IsShownBan g.graphs.now (decided g) (c.args.way ∷ c.args.assigned.now)) (λ ban is. shown_more g.graphs.now (decided g) (g.inputs.now ++ c.args.way ∷ []) (c.args.way ∷ c.args.assigned.now) ban (way_among c.args.assigned.now g.inputs.now c.args.way c.requires.inputs) is) c.output_ban.ensures.shown

pub returns-in-Output-clause-none : goal.returns-in-Output-clause-none
returns-in-Output-clause-none c =
    let g = c.args.grounds.now in
    none_so c.output_ban.result (HaveNoFacts g.graphs.now (decided g) (g.inputs.now ++ c.args.way ∷ [])) (HaveNoFacts g.graphs.now (decided g) (c.args.way ∷ c.args.assigned.now)) (nothing_of_output g.graphs.now (decided g) c.args.assigned.now g.inputs.now c.requires.assigned c.requires.inputs c.requires.alone c.args.way c.in-Output.is) c.output_ban.ensures.none
