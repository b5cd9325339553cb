use Rattle.pair_domains.specs.Trails.{assigned_in}
use Rattle.match_search.proofs.FreeLemmas.{whole_if}
use Rattle.match_search.proofs.choosing.first_free.Goals as goal

pub returns-clause-none : goal.returns-clause-none
returns-clause-none c =
    let d = c.args.domains.now in
    whole_if d.inputs d.outputs (assigned_in d.entries) c.first_of-2.result c.first_of-2.ensures.none (rw c.in_default.is at c.first_of.ensures.none)
