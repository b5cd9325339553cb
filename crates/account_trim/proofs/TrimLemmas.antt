-- What trimming leaves.
use Rattle.std.proofs.Common.{◌≡◌, ◌≢◌, ◌↔◌, ℕ, Bool, List, Result, Err, length, All, ap, subst, ◌∙◌}
use Rattle.std.specs.List.{flat_map}
use Rattle.net_core.specs.Sides.{Graphs}
use Rattle.account_file.specs.declared.record.Record.{Record}
use Rattle.account_file.specs.Spelling.{IsWritable, record_line}
use Rattle.account_check.specs.declared.verdict.CheckStop.{CheckStop}
use Rattle.account_check.specs.declared.verdict.CheckStop.TheVariants.{Memory, Rejected}
use Rattle.account_check.specs.declared.verdict.Why.{Why}
use Rattle.account_check.specs.Verdicts.{IsRejected}
use Rattle.account_trim.specs.declared.links.Linked.{Linked}
use Rattle.account_trim.specs.declared.links.Links.{Links}
use Rattle.account_trim.specs.declared.places.Places.{Places}
use Rattle.account_trim.specs.declared.trimming.Trimmed.{Trimmed}
use Rattle.account_trim.specs.Links.{links_of}
use Rattle.account_trim.specs.Lowered.{left_by, lower_by}
use Rattle.account_trim.specs.Places.{places_of}
use Rattle.account_trim.specs.Reached.{IsReached}
use Rattle.account_trim.specs.Trims.{IsLeft, IsWrittenBy, left_of}
use Rattle.account_trim.proofs.LinkLemmas.{links_length}
use Rattle.account_trim.proofs.WriteLemmas.{left_counted}

-- the records that are reached are those that were written
pub left_is : (graphs : Graphs) (records : List Record) (linked : Linked) (marks : List Bool) (trimmed : Trimmed)
    → linked.links ≡ links_of graphs records
    → linked.places ≡ places_of graphs records
    → IsReached linked.links marks
    → IsWrittenBy linked marks records (left_by (lower_by linked.places marks) marks linked.links records) trimmed
    → IsLeft graphs records trimmed
left_is graphs records linked marks trimmed links_are places_are reached written = record {
  marks = marks;
  reached = is_reached;
  text = written.text ∙ ap (flat_map record_line) whole;
  writable = subst (All IsWritable) whole written.writable;
  before_is = written.before_is;
  after_is = written.after_is ∙ ap length whole;
  as_many = written.after_is ∙ (ap length whole ∙ left_counted (lower_by (places_of graphs records) marks) marks (links_of graphs records) records is_reached.as_many (links_length graphs records));
}
  where
    whole : left_by (lower_by linked.places marks) marks linked.links records ≡ left_of graphs records marks
    whole =
        ap (λ (ls : List Links). left_by (lower_by linked.places marks) marks ls records) links_are
        ∙ ap (λ (ps : Places). left_by (lower_by ps marks) marks (links_of graphs records) records) places_are

    is_reached : IsReached (links_of graphs records) marks
    is_reached = subst (λ (ls : List Links). IsReached ls marks) links_are reached

-- the first bad record of an account is what a result says, exactly where it has one
abbrev pub RefusesExactly : (X : Type 0) → Graphs → List ℕ → Result X CheckStop → Type 0
RefusesExactly X graphs bytes result = (line : ℕ) (why : Why) → result ≢ Err Memory → ((result ≡ Err (Rejected line why)) ↔ IsRejected graphs bytes line why)

stop_in : (X : Type 0) (one other : CheckStop) → ◌≡◌ {A = Result X CheckStop} (Err one) (Err other) → one ≡ other
stop_in X one other e = cc

-- what the check refuses is refused
pub refused_alike : (X Y : Type 0) (graphs : Graphs) (bytes : List ℕ) (stop : CheckStop) → RefusesExactly X graphs bytes (Err stop) → RefusesExactly Y graphs bytes (Err stop)
refused_alike X Y graphs bytes stop told line why memory =
    let exactly = told line why (λ is. memory (ap (λ s. Err s) (stop_in X stop Memory is))) in (
      λ is. exactly.0 (ap (λ s. Err s) (stop_in Y stop (Rejected line why) is)),
      λ rejected. ap (λ s. Err s) (stop_in X stop (Rejected line why) (exactly.1 rejected)),
    )
