-- How records are taken and refused.
use Rattle.std.proofs.Common.{◌≡◌, Option, None, Some, IsSome, Result, Ok, Err, refl, subst}
use Rattle.net_core.specs.Sides.{Graphs}
use Rattle.account_core.specs.declared.step.Ban.{Ban}
use Rattle.account_core.specs.Given.{Given}
use Rattle.account_file.specs.declared.record.Record.{Record}
use Rattle.account_file.specs.declared.record.Record.TheVariants as entry
use Rattle.account_file.specs.Order.{next_place}
use Rattle.account_check.specs.declared.checker.CheckStage.{CheckStage}
use Rattle.account_check.specs.declared.checker.CheckStage.TheVariants as stage
use Rattle.account_check.specs.declared.reject.Reject.{Reject}
use Rattle.account_check.specs.declared.reject.RecordStop.{RecordStop}
use Rattle.account_check.specs.declared.reject.RecordStop.TheVariants as stop
use Rattle.account_check.specs.Accounts.{Account, HasFault, Takes, after}
use Rattle.account_check.specs.Drops.{Dropped}
use Rattle.account_check.specs.Logs.{with_ban}
use Rattle.account_check.specs.Stages.{place_of}
use Rattle.account_check.proofs.AfterLemmas.{kept}

-- what isn't some fault is none
pub none_of : (P : Option Reject → Type 0) (fault : Option Reject) → P fault → ((reject : Reject) → fault ≡ Some reject → ⊥) → P None
none_of P None has not = has
none_of P (Some reject) has not = absurd (not reject refl)

same_reject : (one other : Reject) → ◌≡◌ {A = Result (Unit {0}) RecordStop} (Err (stop.Reject one)) (Err (stop.Reject other)) → one ≡ other
same_reject one other e = cc

-- a record that is refused for what is wrong with it
pub refused_for : (old new : Account) (record_ : Record) (reject : Reject) → HasFault old record_ (Some reject) → new ≡ old → Takes old record_ new (Err (stop.Reject reject))
refused_for old new record_ reject has same = record {
  refused = λ other is. subst (λ (r : Reject). HasFault old record_ (Some r)) (same_reject reject other is) has;
  taken = tt;
  leads = tt;
  unchanged = same;
}

no_reject : (reject : Reject) → ◌≡◌ {A = Result (Unit {0}) RecordStop} (Ok tt) (Err (stop.Reject reject)) → ⊥
no_reject reject e = cc

-- a record that is taken, since nothing is wrong with it
pub taken_on : (old new : Account) (record_ : Record) → HasFault old record_ None → new ≡ after old record_ → Takes old record_ new (Ok tt)
taken_on old new record_ fine leads = record {
  refused = λ reject is. absurd (no_reject reject is);
  taken = fine;
  leads = leads;
  unchanged = tt;
}

-- where a ban leads
pub ban_after : (graphs : Graphs) (given : Given) (dropped : Dropped) (now : CheckStage) (ban : Ban) → IsSome (next_place (place_of now) (entry.Ban ban)) → kept graphs (with_ban given ban.pairs) dropped now ≡ after (kept graphs given dropped now) (entry.Ban ban)
ban_after graphs given dropped stage.Begun ban may = refl
ban_after graphs given dropped other ban may = cc
