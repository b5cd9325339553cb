use Rattle.std.proofs.Common.{◌≡◌, ◌<◌, ℕ, List, subst, sym}
use Rattle.circuits.specs.declared.port.PortKind.{PortKind}
use Rattle.net_core.specs.declared.graphs.Side.{Side}
use Rattle.account_core.specs.declared.step.Ban.{Ban}
use Rattle.pair_domains.specs.Trails.{ports_of}
use Rattle.class_refine.specs.Rows.{decided}
use Rattle.class_refine.specs.Stable.{HasLeft, IsStable}
use Rattle.class_refine.proofs.ResultLemmas.{both_none}
use Rattle.class_refine.proofs.StableLemmas.{stable_of}
use Rattle.class_refine.proofs.TrailLemmas.{refines_bans, refines_then, shown_learned}
use Rattle.class_refine.proofs.refining.exclude_beside.Goals as goal

pub returns-in-None-clause-refines : goal.returns-in-None-clause-refines
returns-in-None-clause-refines c =
    let g = c.args.grounds.now in
    let mid = c.settle_all.new.domains in
    let first = c.in_ok-ban.ensures.refines in
    refines_then g.graphs.now (decided g) c.args.book.now c.settle_all.new.book c.cover_empty.new.book c.args.domains.now mid mid first (refines_bans g.graphs.now (decided g) c.settle_all.new.book c.cover_empty.new.book mid (shown_learned g.graphs.now (decided g) mid.entries c.settle_all.new.book c.cover_empty.new.book (first.shown c.requires.shown) c.cover_empty.ensures.more))

pub returns-in-None-clause-stable : goal.returns-in-None-clause-stable
returns-in-None-clause-stable c =
    let g = c.args.grounds.now in
    let mid = c.settle_all.new.domains in
    let settled = rw c.in-None.is at c.in_ok-ban.ensures.settled in
    both_none c.cover_empty.result (c.cover_empty.new.book ≡ c.settle_all.new.book) ((side : Side) (kind : PortKind) (port : ℕ) → port < ports_of mid.inputs mid.outputs kind → HasLeft mid side kind port) (IsStable g.graphs.now (decided g) c.cover_empty.new.book mid) (λ same left. subst (λ (l : List Ban). IsStable g.graphs.now (decided g) l mid) (sym same) (stable_of g c.args.book.now c.settle_all.new.book c.args.domains.now mid c.requires.may c.entries-lawful.ensures.lawful c.in_ok-ban.ensures.refines settled left)) c.cover_empty.ensures.same c.cover_empty.ensures.left
