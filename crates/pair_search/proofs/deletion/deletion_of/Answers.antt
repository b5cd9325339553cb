use Rattle.std.proofs.Common.{subst, ◌∙◌, take}
use Rattle.std.proofs.lemmas.List.{get_or_default}
use Rattle.pair_domains.specs.declared.entry.Entry.{Entry}
use Rattle.pair_domains.specs.Trails.{assigned_in}
use Rattle.pair_search.specs.Justified.{IsJustified}
use Rattle.pair_search.specs.Named.{AreNamed, deleted}
use Rattle.pair_search.proofs.deletion.deletion_of.Goals as goal

pub returns-clause-found : goal.returns-clause-found
returns-clause-found c =
    let d = c.args.domains.now in
    let es = d.entries in
    let gone = deleted c.args.pair c.in-Some.reason in
    let there = c.in-Some.ensures.found in
    let before = assigned_in (take there.0 es) in
    let named : AreNamed c.args.book.now before c.args.pair c.in-Some.reason = subst (λ (e : Entry). IsJustified d.inputs d.outputs c.args.book.now (take there.0 es) e.pair e.fate) there.2 (c.requires.trail.justified.each there.0 gone there.1) in
    record {
      place = there.0;
      within = there.1;
      reason = c.in-Some.reason;
      there = λ e. get_or_default es there.0 e gone there.1 ∙ there.2;
      excluded = c.in_ok-deletion.ensures.excluded before named;
    }

pub returns-in_err-deletion-clause-more : goal.returns-in_err-deletion-clause-more
returns-in_err-deletion-clause-more c = c.in_err-deletion.ensures.more c.args.graphs.now c.args.domains.now.entries c.in-Some.ensures.found

pub returns-clause-more : goal.returns-clause-more
returns-clause-more c = c.in_ok-deletion.ensures.more c.args.graphs.now c.args.domains.now.entries c.in-Some.ensures.found
