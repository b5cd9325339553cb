-- What is kept of one ban is other, and of the others as it was.
use Rattle.std.proofs.Common.{◌≡◌, map, ap, ◌∙◌}
use Rattle.std.proofs.lemmas.List.{map-set}
use Rattle.ban_check.specs.Kept.{decided_claims, pairs_kept}
use Rattle.ban_check.specs.More.{without_pairs}
use Rattle.ban_check.specs.declared.given.KeptBan.TheVariants.{Dropped}
use Rattle.ban_check.proofs.given.Given.forget_ban.Goals as goal

pub returns : goal.returns
returns c =
    let bans = c.self.inside.bans in
    ap (λ bans. record { facts = decided_claims c.self.inside.facts; bans = bans }) (ap (map pairs_kept) c.set.ensures ∙ map-set pairs_kept bans c.args.number Dropped)
    ∙ ap (λ given. without_pairs given c.args.number) c.self.view_is
