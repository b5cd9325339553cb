-- What trimming leaves of an account proves what the account does, and trimming it again changes nothing.
use Rattle.std.proofs.Common.{◌≡◌, ℕ, Bool, true, false, List, [], ◌++◌, length, append-nil, IsSome, refl, sym, ap, subst, ◌∙◌, arith}
use Rattle.std.proofs.lemmas.List.{get_or_default, same_lists}
use Rattle.std.specs.List.{AllZip, flat_map}
use Rattle.circuits.specs.Literals.{bit}
use Rattle.net_core.specs.Sides.{Graphs}
use Rattle.account_file.specs.declared.record.Record.{Record}
use Rattle.account_file.specs.declared.place.Place.TheVariants.{Ended}
use Rattle.account_file.specs.Accounts.{IsAccountBy, IsAccountOf}
use Rattle.account_file.specs.Binary.{is_binary}
use Rattle.account_file.specs.Lines.{after_lines, whole_lines}
use Rattle.account_file.specs.Order.{HaveEnded}
use Rattle.account_file.specs.Spelling.{record_line}
use Rattle.account_file.specs.TextAccounts.{HasForm}
use Rattle.account_file.proofs.AccountLemmas.{after_records, have_forms, lines_of_records, texts_of}
use Rattle.account_file.proofs.StepLemmas.{text_form}
use Rattle.account_file.proofs.VersionLemmas.{account_ended, one_account}
use Rattle.account_check.specs.declared.verdict.Verdict.{Verdict}
use Rattle.account_check.specs.Accounts.{AreValid, account_after, verdict_of}
use Rattle.account_check.specs.Verdicts.{IsAccepted}
use Rattle.account_trim.specs.declared.trimming.Trimmed.{Trimmed}
use Rattle.account_trim.specs.Links.{links_of}
use Rattle.account_trim.specs.Lowered.{marked}
use Rattle.account_trim.specs.declared.links.Links.{Links}
use Rattle.account_trim.specs.Reached.{IsReached}
use Rattle.account_trim.specs.Trims.{AreReached, IsLeft, IsTrimmed, left_of}
use Rattle.account_trim.proofs.LawLemmas.{final_ended, final_reached, final_valid, final_verdict, left_final}
use Rattle.account_trim.proofs.LinkLemmas.{links_length}
use Rattle.account_trim.proofs.LowerLemmas.{reached_stay}

-- what is left, where the account is valid
module _ (graphs : Graphs) (records : List Record) (marks : List Bool) (reached : IsReached (links_of graphs records) marks) (valid : AreValid graphs records) (ended : HaveEnded records) where
  left_valid : AreValid graphs (left_of graphs records marks)
  left_valid = subst (AreValid graphs) (sym (left_final graphs records marks reached valid ended)) (final_valid graphs records marks reached valid ended)

  left_ended : HaveEnded (left_of graphs records marks)
  left_ended = subst HaveEnded (sym (left_final graphs records marks reached valid ended)) (final_ended graphs records marks reached valid ended)

  left_verdict : verdict_of (account_after graphs (left_of graphs records marks)) ≡ verdict_of (account_after graphs records)
  left_verdict = ap (λ l. verdict_of (account_after graphs l)) (left_final graphs records marks reached valid ended) ∙ final_verdict graphs records marks reached valid ended

  left_reached : AreReached graphs (left_of graphs records marks)
  left_reached = subst (AreReached graphs) (sym (left_final graphs records marks reached valid ended)) (λ own_marks own. final_reached graphs records marks reached valid ended own_marks own)

-- the bytes of what is left are a text
left_text : (graphs : Graphs) (records : List Record) (trimmed : Trimmed) → (left : IsLeft graphs records trimmed) → AreValid graphs records → HaveEnded records → is_binary trimmed.bytes.items ≡ false
left_text graphs records trimmed left valid ended =
    let all = left_of graphs records left.marks in
    ap is_binary left.text ∙ text_form all Ended (left_ended graphs records left.marks left.reached valid ended) (λ e. cc)

-- and an account
left_account : (graphs : Graphs) (records : List Record) (trimmed : Trimmed) → (left : IsLeft graphs records trimmed) → AreValid graphs records → HaveEnded records → IsAccountOf trimmed.bytes.items (left_of graphs records left.marks)
left_account graphs records trimmed left valid ended =
    let all = left_of graphs records left.marks in
    let over = left_ended graphs records left.marks left.reached valid ended in
    let text : trimmed.bytes.items ≡ flat_map record_line all ++ [] = left.text ∙ sym (append-nil (flat_map record_line all)) in
    let lines : whole_lines trimmed.bytes.items ≡ texts_of all = ap whole_lines text ∙ (lines_of_records all [] left.writable ∙ append-nil (texts_of all)) in
    let form = left_text graphs records trimmed left valid ended in
    subst (λ b. IsAccountBy b trimmed.bytes.items all) (sym form) (record {
      records_are = record {
        form = subst (λ ls. AllZip HasForm ls all) (sym lines) (have_forms all left.writable);
        order = subst IsSome (sym over) refl;
      };
      ended = over;
      nothing_after = ap after_lines text ∙ after_records all [] left.writable;
    })

-- what an account proves is proved by what is left of it
left_accepted : (graphs : Graphs) (bytes : List ℕ) (records : List Record) (trimmed : Trimmed) (told : Verdict) → IsAccountOf bytes records → (left : IsLeft graphs records trimmed) → IsAccepted graphs bytes told → IsAccepted graphs trimmed.bytes.items told
left_accepted graphs bytes records trimmed told account left is =
    let same : is.records ≡ records = one_account bytes is.records records is.account account in
    let ended = account_ended bytes records account in
    let valid = subst (AreValid graphs) same is.valid in
    record {
      records = left_of graphs records left.marks;
      account = left_account graphs records trimmed left valid ended;
      valid = left_valid graphs records left.marks left.reached valid ended;
      verdict_is =
          left_verdict graphs records left.marks left.reached valid ended
          ∙ (ap (λ l. verdict_of (account_after graphs l)) (sym same)
          ∙ is.verdict_is);
    }

pub trimmed_is : (graphs : Graphs) (bytes : List ℕ) (records : List Record) (trimmed : Trimmed) (verdict : Verdict) → IsAccepted graphs bytes verdict → IsAccountOf bytes records → IsLeft graphs records trimmed → IsTrimmed graphs bytes trimmed
trimmed_is graphs bytes records trimmed verdict accepted account left =
    let same : accepted.records ≡ records = one_account bytes accepted.records records accepted.account account in
    let ended = account_ended bytes records account in
    let valid = subst (AreValid graphs) same accepted.valid in
    record {
      records = records;
      account = account;
      left = left;
      is_text = left_text graphs records trimmed left valid ended;
      left_account = left_account graphs records trimmed left valid ended;
      verdict = λ told is. left_accepted graphs bytes records trimmed told account left is;
      reached = left_reached graphs records left.marks left.reached valid ended;
    }

-- what is left of it is all of it
pub trimmed_again : (graphs : Graphs) (bytes : List ℕ) (once again : Trimmed) → IsTrimmed graphs bytes once → IsTrimmed graphs once.bytes.items again → again.bytes.items ≡ once.bytes.items
trimmed_again graphs bytes once again one two =
    let left = left_of graphs one.records one.left.marks in
    let marks = two.left.marks in
    let same : two.records ≡ left = one_account once.bytes.items two.records left two.account one.left_account in
    let reached = subst (λ records. IsReached (links_of graphs records) marks) same two.left.reached in
    two.left.text
    ∙ (ap (λ records. flat_map record_line (left_of graphs records marks)) same
    ∙ (ap (flat_map record_line) (reached_stay graphs left marks (one.reached marks reached) reached.as_many (links_length graphs left))
    ∙ sym one.left.text))

-- what is reached is one list of marks, and so one account is trimmed to as many records

same_bit : (a b : Bool) → (a ≡ true → b ≡ true) → (b ≡ true → a ≡ true) → a ≡ b
same_bit true b there back = sym (there refl)
same_bit false true there back = back refl
same_bit false false there back = refl

one_reached : (links : List Links) (one other : List Bool) → IsReached links one → IsReached links other → one ≡ other
one_reached links one other a b =
    same_lists one other (a.as_many ∙ sym b.as_many)
    (λ k d within.
    get_or_default one k d false within
    ∙ (same_bit (bit one k) (bit other k) (a.least other b.closed k) (b.least one a.closed k)
    ∙ sym (get_or_default other k d false (omega (arith, within, a.as_many, b.as_many)))))

pub one_trimmed : (graphs : Graphs) (bytes : List ℕ) (one other : Trimmed) → IsTrimmed graphs bytes one → IsTrimmed graphs bytes other → (one.before ≡ other.before) × (one.after ≡ other.after)
one_trimmed graphs bytes one other a b =
    let same : a.records ≡ b.records = one_account bytes a.records b.records a.account b.account in
    let reached = subst (λ records. IsReached (links_of graphs records) a.left.marks) same a.left.reached in
    let marks = one_reached (links_of graphs b.records) a.left.marks b.left.marks reached b.left.reached in
    (a.left.before_is ∙ ap length same ∙ sym b.left.before_is, a.left.as_many ∙ ap marked marks ∙ sym b.left.as_many)
