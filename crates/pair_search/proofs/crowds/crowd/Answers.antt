use Rattle.std.proofs.Common.{◌∙◌, All, sym, subst}
use Rattle.pair_domains.specs.Trails.{IsDeleted, IsPairOf}
use Rattle.pair_search.proofs.NamedLemmas.{ways_known}
use Rattle.pair_search.proofs.crowds.crowd.Goals as goal

pub are_deleted-requires : goal.are_deleted-requires
are_deleted-requires c =
    let d = c.args.domains.now in
    subst (All (IsPairOf d.inputs d.outputs)) (sym (c.deref.ensures.value ∙ c.in_ok-ways.ensures)) (ways_known d.inputs d.outputs c.in-Some.block (rw c.in-Some.is at c.in_ok-block.ensures))

pub returns-then-are_deleted : goal.returns-then-are_deleted
returns-then-are_deleted c = record {
  is_block = rw c.in-Some.is at c.in_ok-block.ensures;
  each = subst (All (IsDeleted c.args.domains.now.entries)) (c.deref.ensures.value ∙ c.in_ok-ways.ensures) (c.are_deleted.ensures c.if-are_deleted.true);
}
