use Rattle.std.proofs.Common.{◌≡◌, ◌++◌, [], ◌∷◌, Option, ℕ, List, Some, length, sym, ap, subst, ◌∙◌, arith}
use Rattle.std.specs.Prelude.{if◌then◌else◌}
use Rattle.std.specs.Option.{option_eq}
use Rattle.circuits.specs.declared.port.Pair.{Pair}
use Rattle.circuits.specs.contracts.port.PairPartialEq.TheImpl.{eq-value as pair_eq}
use Rattle.account_core.specs.declared.step.Ban.{Ban}
use Rattle.ban_book.specs.Chains.{AreChained, first_of, last_of}
use Rattle.ban_book.proofs.ChainLemmas.{chained_more}
use Rattle.ban_book.proofs.book.BanBook.hold.Goals as goal

pub invariant_of-self-2 : goal.invariant_of-self-2
invariant_of-self-2 c =
    let old = c.self.inside in
    let ban = c.args.ban in
    let last : Option Pair → Option ℕ = last_of old.heads.entries in
    let last_after : Option Pair → Option ℕ = last_of c.insert.new.self.entries in
    let first = c.first_of.ensures in
    let number : c.len-number.result ≡ length old.bans.items = omega (arith, c.len-number.ensures, c.reserve.new.self.ok.0, ap length c.in_ok-reserve.ensures.items) in
    let noted : (q : Option Pair) → last_after q ≡ (if option_eq pair_eq.it (first_of ban) q then Some (length old.bans.items) else last q) = λ q.
    c.in_ok-before.ensures.updates.0 q
    ∙ ap (λ (f : Option Pair). if option_eq pair_eq.it f q then Some c.len-number.result else last q) first
    ∙ ap (λ (n : ℕ). if option_eq pair_eq.it (first_of ban) q then Some n else last q) number in
    let bans : c.push_reserved-2.new.self.items ≡ old.bans.items ++ ban ∷ [] = c.push_reserved-2.ensures.items ∙ ap (λ (l : List Ban). l ++ ban ∷ []) c.in_ok-reserve.ensures.items in
    let before : c.push_reserved.new.self.items ≡ old.before.items ++ last (first_of ban) ∷ [] = c.push_reserved.ensures.items ∙ (ap (λ (l : List (Option ℕ)). l ++ c.in_ok-before.before ∷ []) c.in_ok-reserve-2.ensures.items ∙ ap (λ (b : Option ℕ). old.before.items ++ b ∷ []) (c.in_ok-before.ensures.old ∙ ap last first)) in
    subst (λ (l : List Ban). AreChained l last_after c.push_reserved.new.self.items) (sym bans) (subst (AreChained (old.bans.items ++ ban ∷ []) last_after) (sym before) (chained_more old.bans.items ban last last_after old.before.items noted c.self.invariant))
