use Rattle.std.proofs.Common.{false, refl, ap, ◌∙◌}
use Rattle.account_convert.proofs.ConvertLemmas.{to_bytes_is}
use Rattle.account_convert.proofs.WrittenLemmas.{due_first}
use Rattle.account_convert.proofs.conversion.write_with.Goals as goal

pub returns-clause-converted : goal.returns-clause-converted
returns-clause-converted c =
    let dues = c.args.dues.now in
    let queue = ap (λ facts. due_first facts c.new-2.result) (c.new.ensures ∙ c.deref.ensures.value) ∙ ap (λ bans. due_first dues.facts.items bans) (c.new-2.ensures ∙ c.deref-2.ensures.value) in
    to_bytes_is c.args.account.now dues (record { concluded = false; facts = c.new.result; bans = c.new-2.result; bytes = c.new-3.result }) c.read_all.new.taker _ c.in_ok-records.records c.requires.text c.requires.dues
    c.new-3.ensures.items queue c.in_ok-records.ensures.led refl refl refl c.from_vec.ensures
