-- Lines of one record more.
use Rattle.std.proofs.Common.{◌≡◌, ℕ, Bool, false, not, cond, List, [], ◌∷◌, ◌++◌, All, Result, Ok, Err, OnOk, refl, sym, ap, subst, ◌∙◌, append-nil, append_assoc}
use Rattle.std.specs.List.{flat_map}
use Rattle.std.proofs.lemmas.List.Elements.{All-append, All-cons, All-nil, filter-append}
use Rattle.std.proofs.lemmas.Grind.{flat_map-append}
use Rattle.account_file.specs.declared.record.Record.{Record}
use Rattle.account_file.specs.declared.record.Record.TheVariants as record_of
use Rattle.account_file.specs.Spelling.{IsWritable, record_line}
use Rattle.account_convert.specs.declared.text_writer.TextWriter.{TextWriter}
use Rattle.account_convert.specs.Conversions.{is_drop, without_drops}
use Rattle.account_convert.specs.Writing.{LeadToText}

without_more : (before : List Record) (entry : Record) (b : Bool) → is_drop entry ≡ b → without_drops (before ++ entry ∷ []) ≡ without_drops before ++ cond (not b) (entry ∷ []) []
without_more before entry b is = filter-append (λ e. not (is_drop e)) before (entry ∷ []) ∙ ap (λ c. without_drops before ++ cond (not c) (entry ∷ []) []) is

-- a record that isn't a drop has a line
pub text_more : (first old new : TextWriter) (before : List Record) (entry : Record) → LeadToText first before old → is_drop entry ≡ false
    → new.bytes.items ≡ old.bytes.items ++ record_line entry → IsWritable entry → LeadToText first (before ++ entry ∷ []) new
text_more first old new before entry led is wrote writable =
    let more : without_drops (before ++ entry ∷ []) ≡ without_drops before ++ entry ∷ [] = without_more before entry false is in
    let front = flat_map record_line (without_drops before) in
    record {
      bytes =
          wrote
          ∙ (ap (λ l. l ++ record_line entry) led.bytes
          ∙ (append_assoc first.bytes.items front (record_line entry)
          ∙ ap (λ l. first.bytes.items ++ l)
          (ap (λ l. front ++ l) (sym (append-nil (record_line entry)))
          ∙ (sym (flat_map-append record_line (without_drops before) (entry ∷ []))
          ∙ ap (flat_map record_line) (sym more)))));
      writable = subst (All IsWritable) (sym more) (All-append IsWritable (without_drops before) (entry ∷ []) led.writable (All-cons IsWritable entry [] writable (All-nil IsWritable)));
    }

pub undropped : (entry : Record) → ((fact : ℕ) → entry ≡ record_of.DropFact fact → ⊥) → ((ban : ℕ) → entry ≡ record_of.DropBan ban → ⊥) → is_drop entry ≡ false
undropped (record_of.DropFact fact) no_fact no_ban = absurd (no_fact fact refl)
undropped (record_of.DropBan ban) no_fact no_ban = absurd (no_ban ban refl)
undropped record_of.Header no_fact no_ban = refl
undropped (record_of.Fact head) no_fact no_ban = refl
undropped (record_of.Line line) no_fact no_ban = refl
undropped (record_of.Ban ban) no_fact no_ban = refl
undropped (record_of.Conclusion conclusion) no_fact no_ban = refl
undropped record_of.End no_fact no_ban = refl

pub on_ok_both : {T E A B C : Type 0} (result : Result T E) → (A → B → C) → OnOk result A → OnOk result B → OnOk result C
on_ok_both {T} {E} {A} {B} {C} (Ok value) go first second = go first second
on_ok_both {T} {E} {A} {B} {C} (Err stop) go first second = tt

pub on_ok_three : {T E A B C D : Type 0} (result : Result T E) → (A → B → C → D) → OnOk result A → OnOk result B → OnOk result C → OnOk result D
on_ok_three {T} {E} {A} {B} {C} {D} (Ok value) go first second third = go first second third
on_ok_three {T} {E} {A} {B} {C} {D} (Err stop) go first second third = tt
