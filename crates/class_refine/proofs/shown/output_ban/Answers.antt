use Rattle.std.proofs.Common.{◌∷◌, ◌++◌, ◌∙◌, [], All, ap, length, sym, subst}
use Rattle.account_core.specs.Ports.{AreOrdered, IsKnown}
use Rattle.ban_book.specs.Vectors.{HaveNoFacts}
use Rattle.ban_book.proofs.VectorLemmas.{facts_decided}
use Rattle.ban_book.specs.Rows.{HasOneOutput}
use Rattle.ban_book.specs.Shown.{HaveNothing, IsShownBan, IsShownByRows}
use Rattle.class_refine.specs.Rows.{decided}
use Rattle.class_refine.proofs.InputLemmas.{known_with, one_with, ordered_with}
use Rattle.class_refine.proofs.ResultLemmas.{none_so, some_so}
use Rattle.class_refine.proofs.RowsLemmas.{first_there, first_whole, rows_at, second_there, second_whole}
use Rattle.class_refine.proofs.shown.output_ban.Goals as goal

pub row_at-first-requires : goal.row_at-first-requires
row_at-first-requires c = first_there c.args.grounds.now c.args.output c.requires.grounds c.requires.known c.requires.kind

pub row_at-second-requires : goal.row_at-second-requires
row_at-second-requires c = second_there c.args.grounds.now c.args.output c.requires.grounds c.requires.known c.requires.kind

pub ban_by_facts-requires-clause-known : goal.ban_by_facts-requires-clause-known
ban_by_facts-requires-clause-known c =
    subst (All (IsKnown c.args.grounds.now.graphs.now)) (sym (c.deref.ensures.value ∙ c.in_ok-pairs.ensures)) (known_with _ _ _ c.requires.inputs c.requires.known)

pub ban_by_facts-requires-clause-ordered : goal.ban_by_facts-requires-clause-ordered
ban_by_facts-requires-clause-ordered c =
    subst AreOrdered (sym (c.deref.ensures.value ∙ c.in_ok-pairs.ensures)) (ordered_with _ _ _ c.requires.inputs c.requires.kind)

pub ban_by_facts-requires-clause-output : goal.ban_by_facts-requires-clause-output
ban_by_facts-requires-clause-output c =
    subst (λ l. HasOneOutput l c.args.output) (sym (c.deref.ensures.value ∙ c.in_ok-pairs.ensures)) (one_with _ _ _ c.requires.inputs c.requires.kind)

pub ban_by_facts-requires-clause-first : goal.ban_by_facts-requires-clause-first
ban_by_facts-requires-clause-first c =
    ap length c.row_at-first.ensures ∙ first_whole c.args.grounds.now c.args.output c.requires.grounds c.requires.known c.requires.kind

pub ban_by_facts-requires-clause-second : goal.ban_by_facts-requires-clause-second
ban_by_facts-requires-clause-second c =
    ap length c.row_at-second.ensures ∙ second_whole c.args.grounds.now c.args.output c.requires.grounds c.requires.known c.requires.kind

pub returns-clause-shown : goal.returns-clause-shown
returns-clause-shown c =
    let g = c.args.grounds.now in
    let there = rows_at g c.args.output c.requires.grounds c.requires.known c.requires.kind _ _ c.row_at-first.ensures c.row_at-second.ensures in
    some_so c.ban_by_facts.result (IsShownByRows g.graphs.now c.deref.result.now c.args.output c.row_at-first.result.now c.row_at-second.result.now) (IsShownBan g.graphs.now (decided g) (c.args.inputs.now ++ c.args.output ∷ [])) (λ ban is. subst (λ l. IsShownBan g.graphs.now (decided g) l ban) (c.deref.ensures.value ∙ c.in_ok-pairs.ensures) (is.each (decided g) there)) c.ban_by_facts.ensures.shown

pub returns-clause-none : goal.returns-clause-none
returns-clause-none c =
    let g = c.args.grounds.now in
    let there = rows_at g c.args.output c.requires.grounds c.requires.known c.requires.kind _ _ c.row_at-first.ensures c.row_at-second.ensures in
    none_so c.ban_by_facts.result (HaveNothing g.graphs.now c.deref.result.now c.args.output c.row_at-first.result.now c.row_at-second.result.now) (HaveNoFacts g.graphs.now (decided g) (c.args.inputs.now ++ c.args.output ∷ [])) (λ is. subst (HaveNoFacts g.graphs.now (decided g)) (c.deref.ensures.value ∙ c.in_ok-pairs.ensures) (is.each (decided g) there (facts_decided g.graphs.now g.facts.now c.requires.grounds.lawful))) c.ban_by_facts.ensures.none
