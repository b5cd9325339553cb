-- Drops that are written one after another, and records with the drops after them.
use Rattle.std.proofs.Common.{◌≡◌, ℕ, ◌+◌, ◌||◌, Bool, true, false, cond, List, [], ◌∷◌, ◌++◌, length, map, All, refl, sym, ap, subst, ◌∙◌, arith, append-nil, append_assoc}
use Rattle.std.specs.List.{flat_map}
use Rattle.std.proofs.lemmas.List.Elements.{All-append, All-cons, All-nil}
use Rattle.std.proofs.lemmas.Grind.{flat_map-append}
use Rattle.account_file.specs.declared.record.Record.{Record}
use Rattle.account_file.specs.declared.record.Record.TheVariants as record_of
use Rattle.account_file.specs.Binary.{HasBytes, record_bytes}
use Rattle.account_convert.specs.declared.dues.Due.{Due}
use Rattle.account_convert.specs.declared.binary_writer.BinaryWriter.{BinaryWriter}
use Rattle.account_convert.specs.declared.binary_writer.Numbered.{Numbered}
use Rattle.account_convert.specs.declared.binary_writer.Numbered.TheVariants.{Fact, Ban}
use Rattle.account_convert.specs.Conversions.{is_conclusion}
use Rattle.account_convert.specs.Writing.{LeadToBytes, Queue, after_at, drop_of, drops_due, first_at, queue_after, queue_from, queue_of, written_from}
use Rattle.account_convert.proofs.WrittenLemmas.{queue_more, written_more}

-- the drops of what is due after a record
abbrev pub drops_of : Numbered → ℕ → List Due → List Record
drops_of of record_number due = map (drop_of of) (first_at record_number due)

-- Some were written: with those that are left they are all.
pub record IsPutting (of : Numbered) (record_number : ℕ) (old now : List Due) (before out : List ℕ) : Type 0 where
  pub bytes : out ++ flat_map record_bytes (drops_of of record_number now) ≡ before ++ flat_map record_bytes (drops_of of record_number old)
  pub left : after_at record_number now ≡ after_at record_number old
  pub fit : All HasBytes (drops_of of record_number now) → All HasBytes (drops_of of record_number old)

pub put_one : (of : Numbered) (record_number number : ℕ) (old now new : List Due) (before out then : List ℕ)
    → IsPutting of record_number old now before out
    → first_at record_number now ≡ number ∷ first_at record_number new
    → after_at record_number now ≡ after_at record_number new
    → then ≡ out ++ record_bytes (drop_of of number)
    → HasBytes (drop_of of number)
    → IsPutting of record_number old new before then
put_one of record_number number old now new before out then is first after wrote fits = record {
  bytes =
      let rest = flat_map record_bytes (drops_of of record_number new) in
      ap (λ o. o ++ rest) wrote
      ∙ (append_assoc out (record_bytes (drop_of of number)) rest
      ∙ (ap (λ ns. out ++ flat_map record_bytes (map (drop_of of) ns)) (sym first)
      ∙ is.bytes));
  left = sym after ∙ is.left;
  fit = λ each. is.fit (subst (λ ns. All HasBytes (map (drop_of of) ns)) (sym first) (All-cons HasBytes (drop_of of number) (drops_of of record_number new) fits each));
}

-- A record more was written, with the drops after it.
pub record IsWritten (old : BinaryWriter) (record_number : ℕ) (entry : Record) (new : BinaryWriter) : Type 0 where
  pub queue : queue_of new ≡ queue_after (queue_of old) record_number entry
  pub bytes : new.bytes.items ≡ old.bytes.items ++ flat_map record_bytes (entry ∷ drops_due (queue_of old) record_number entry)
  pub fit : All HasBytes (entry ∷ drops_due (queue_of old) record_number entry)

pub lead_more : (first old new : BinaryWriter) (before : List Record) (entry : Record) (record_number : ℕ) → LeadToBytes first before old → record_number ≡ length before + 1 → IsWritten old record_number entry new → LeadToBytes first (before ++ entry ∷ []) new
lead_more first old new before entry record_number led number_is wrote =
    let at : 1 + length before ≡ record_number = omega (arith, number_is) in
    let start = queue_of first in
    let there = queue_from start 1 before in
    let drops : entry ∷ drops_due (queue_of old) record_number entry ≡ entry ∷ drops_due there record_number entry = ap (λ q. entry ∷ drops_due q record_number entry) led.queue in
    let more = written_more before entry 1 record_number start at in
    record {
      queue = wrote.queue ∙ (ap (λ q. queue_after q record_number entry) led.queue ∙ sym (queue_more before entry 1 record_number start at));
      bytes =
          wrote.bytes
          ∙ (ap (λ o. o ++ flat_map record_bytes (entry ∷ drops_due (queue_of old) record_number entry)) led.bytes
          ∙ (append_assoc first.bytes.items (flat_map record_bytes (written_from start 1 before)) (flat_map record_bytes (entry ∷ drops_due (queue_of old) record_number entry))
          ∙ ap (λ l. first.bytes.items ++ l)
          (ap (λ l. flat_map record_bytes (written_from start 1 before) ++ flat_map record_bytes l) drops
          ∙ (sym (flat_map-append record_bytes (written_from start 1 before) (entry ∷ drops_due there record_number entry))
          ∙ ap (flat_map record_bytes) (sym more)))));
      fit = subst (All HasBytes) (sym more) (All-append HasBytes (written_from start 1 before) (entry ∷ drops_due there record_number entry) led.fit (subst (All HasBytes) drops wrote.fit));
    }

-- a record of the conclusion or after it, which no drops follow
pub wrote_alone : (old new : BinaryWriter) (record_number : ℕ) (entry : Record)
    → new.bytes.items ≡ old.bytes.items ++ record_bytes entry
    → HasBytes entry
    → new.concluded ≡ (old.concluded || is_conclusion entry)
    → (old.concluded || is_conclusion entry) ≡ true
    → new.facts ≡ old.facts
    → new.bans ≡ old.bans
    → IsWritten old record_number entry new
wrote_alone old new record_number entry bytes fits concluded is facts bans =
    let due : entry ∷ drops_due (queue_of old) record_number entry ≡ entry ∷ [] = ap (λ b. entry ∷ cond b [] (map record_of.DropFact (first_at record_number old.facts) ++ map record_of.DropBan (first_at record_number old.bans))) is in
    let ended : Queue = record { concluded = true; facts = old.facts; bans = old.bans } in
    let later : Queue = record { concluded = old.concluded; facts = after_at record_number old.facts; bans = after_at record_number old.bans } in
    let queue : queue_of new ≡ ended = queue_is new true old.facts old.bans (concluded ∙ is) facts bans in
    record {
      queue = queue ∙ ap (λ b. cond b ended later) (sym is);
      bytes = bytes ∙ ap (λ l. old.bytes.items ++ l) (sym (append-nil (record_bytes entry)) ∙ ap (flat_map record_bytes) (sym due));
      fit = subst (All HasBytes) (sym due) (All-cons HasBytes entry [] fits (All-nil HasBytes));
    }
  where
    queue_is : (writer : BinaryWriter) (b : Bool) (fs bs : List Due) → writer.concluded ≡ b → writer.facts ≡ fs → writer.bans ≡ bs → queue_of writer ≡ record { concluded = b; facts = fs; bans = bs }
    queue_is writer b fs bs one two three =
        ap (λ c. record { concluded = c; facts = writer.facts; bans = writer.bans }) one
        ∙ (ap (λ f. record { concluded = b; facts = f; bans = writer.bans }) two
        ∙ ap (λ l. record { concluded = b; facts = fs; bans = l }) three)

-- a record before it, and the drops that follow it
pub wrote_drops : (old new : BinaryWriter) (record_number : ℕ) (entry : Record) (first second : List ℕ)
    → first ≡ old.bytes.items ++ record_bytes entry
    → HasBytes entry
    → new.concluded ≡ (old.concluded || is_conclusion entry)
    → (old.concluded || is_conclusion entry) ≡ false
    → second ≡ first ++ flat_map record_bytes (drops_of Fact record_number old.facts)
    → All HasBytes (drops_of Fact record_number old.facts)
    → new.facts ≡ after_at record_number old.facts
    → new.bytes.items ≡ second ++ flat_map record_bytes (drops_of Ban record_number old.bans)
    → All HasBytes (drops_of Ban record_number old.bans)
    → new.bans ≡ after_at record_number old.bans
    → IsWritten old record_number entry new
wrote_drops old new record_number entry first second wrote fits concluded is wrote_facts fit_facts facts wrote_bans fit_bans bans =
    let facts_out = drops_of Fact record_number old.facts in
    let bans_out = drops_of Ban record_number old.bans in
    let due : entry ∷ drops_due (queue_of old) record_number entry ≡ entry ∷ (facts_out ++ bans_out) = ap (λ b. entry ∷ cond b [] (facts_out ++ bans_out)) is in
    let ended : Queue = record { concluded = true; facts = old.facts; bans = old.bans } in
    let later : Queue = record { concluded = old.concluded; facts = after_at record_number old.facts; bans = after_at record_number old.bans } in
    let same : new.concluded ≡ old.concluded = concluded ∙ (is ∙ sym (none old.concluded (is_conclusion entry) is)) in
    record {
      queue =
          ap (λ c. record { concluded = c; facts = new.facts; bans = new.bans }) same
          ∙ (ap (λ f. record { concluded = old.concluded; facts = f; bans = new.bans }) facts
          ∙ (ap (λ l. record { concluded = old.concluded; facts = after_at record_number old.facts; bans = l }) bans
          ∙ ap (λ b. cond b ended later) (sym is)));
      bytes =
          wrote_bans
          ∙ (ap (λ l. l ++ flat_map record_bytes bans_out) (wrote_facts ∙ ap (λ l. l ++ flat_map record_bytes facts_out) wrote)
          ∙ (append_assoc (old.bytes.items ++ record_bytes entry) (flat_map record_bytes facts_out) (flat_map record_bytes bans_out)
          ∙ (ap (λ l. (old.bytes.items ++ record_bytes entry) ++ l) (sym (flat_map-append record_bytes facts_out bans_out))
          ∙ (append_assoc old.bytes.items (record_bytes entry) (flat_map record_bytes (facts_out ++ bans_out))
          ∙ ap (λ l. old.bytes.items ++ flat_map record_bytes l) (sym due)))));
      fit = subst (All HasBytes) (sym due) (All-cons HasBytes entry (facts_out ++ bans_out) fits (All-append HasBytes facts_out bans_out fit_facts fit_bans));
    }
  where
    none : (b c : Bool) → (b || c) ≡ false → b ≡ false
    none true c e = e
    none false c e = refl
