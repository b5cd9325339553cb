-- Entries: no bytes begin with two of them, and what a frame says of an entry.
use Rattle.std.proofs.Common.{◌≡◌, ◌<◌, ◌^◌, ℕ, List, [], ◌∷◌, ◌++◌, Bool, true, false, length, take, drop, Result, Ok, Err, refl, sym, ap, subst, ◌∙◌, arith, append_assoc, append-nil}
use Rattle.std.proofs.Math.Seq.{take-append_seam}
use Rattle.std.proofs.Math.Dec.{eqb}
use Rattle.std.proofs.lemmas.Bool.{eqb-true, false≢true}
use Rattle.std.proofs.lemmas.List.{append_cancel_left}
use Rattle.std.specs.Result.{IsErrAnd}
use Rattle.circuits.specs.declared.port.Pair.{Pair}
use Rattle.claim_core.specs.declared.claims.Claim.{Claim}
use Rattle.account_core.specs.declared.conclusion.Conclusion.TheVariants.{NonePorts, NoneBan, Match}
use Rattle.account_core.specs.declared.fact.FactHead.TheVariants.{Fails, Holds}
use Rattle.byte_form.specs.Codes.{BeginsWith, BeginsNone, BothFit, IsPrefixCode, ListFits, both_bytes, list_bytes, number_bytes}
use Rattle.byte_form.proofs.CodeLemmas.{both_code, list_code, number_code, same_left}
use Rattle.account_bytes.specs.declared.entry.Entry.{Entry}
use Rattle.account_bytes.specs.declared.entry.Entry.TheVariants as entry_of
use Rattle.account_bytes.specs.declared.form.FormStop.{FormStop}
use Rattle.account_bytes.specs.declared.reading.EntryStop.{EntryStop}
use Rattle.account_bytes.specs.declared.reading.EntryStop.TheVariants as stop
use Rattle.account_bytes.specs.declared.form.FormStop.TheVariants as form
use Rattle.account_bytes.specs.Reading.{OfTag, Reads}
use Rattle.account_bytes.specs.Bodies.{Always, ClaimHasPorts, HasPorts, bit_bytes, claim_bytes, pair_bytes}
use Rattle.account_bytes.specs.PrefixCodes.{ban_code, bit_code, claim_code, line_code, pair_code}
use Rattle.account_bytes.specs.Entries.{BodyFits, EntryFits, FrameFits, GivesEntry, IsMalformed, ReadsBody, ReadsEntry, entry_body, entry_bytes, entry_tag, frame_bytes}

-- the parts of a fact that fails
pub fails_code : IsPrefixCode (both_bytes claim_bytes (list_bytes bit_bytes)) (BothFit ClaimHasPorts (ListFits Always))
fails_code = both_code claim_bytes ClaimHasPorts (list_bytes bit_bytes) (ListFits Always) claim_code (list_code bit_bytes Always bit_code)

abbrev fails_with : Claim × List Bool → Entry
fails_with fields = entry_of.Fact (Fails fields.0 fields.1)

abbrev holds_with : Claim → Entry
holds_with claim = entry_of.Fact (Holds claim)

abbrev none_with : ℕ → Entry
none_with ban = entry_of.Conclusion (NoneBan ban)

abbrev match_with : List Pair → Entry
match_with pairs = entry_of.Conclusion (Match pairs)

-- entries of one tag are told apart by their bodies
pub same_entry : (x y : Entry) (after other : List ℕ) → BodyFits x → BodyFits y → entry_tag x ≡ entry_tag y → entry_body x ++ after ≡ entry_body y ++ other → x ≡ y
same_entry (entry_of.Fact (Fails claim bits)) (entry_of.Fact (Fails said seen)) after other fits fit tags same =
    ap fails_with (fails_code.one (claim, bits) (said, seen) after other fits fit same)
same_entry (entry_of.Fact (Holds claim)) (entry_of.Fact (Holds said)) after other fits fit tags same =
    ap holds_with (claim_code.one claim said after other fits fit same)
same_entry (entry_of.Line line) (entry_of.Line said) after other fits fit tags same =
    ap (λ l. entry_of.Line l) (line_code.one line said after other fits fit same)
same_entry (entry_of.Ban ban) (entry_of.Ban said) after other fits fit tags same =
    ap (λ b. entry_of.Ban b) (ban_code.one ban said after other fits fit same)
same_entry (entry_of.Conclusion NonePorts) (entry_of.Conclusion NonePorts) after other fits fit tags same = refl
same_entry (entry_of.Conclusion (NoneBan ban)) (entry_of.Conclusion (NoneBan said)) after other fits fit tags same =
    ap none_with ((number_code 8).one ban said after other fits fit same)
same_entry (entry_of.Conclusion (Match pairs)) (entry_of.Conclusion (Match said)) after other fits fit tags same =
    ap match_with ((list_code pair_bytes HasPorts pair_code).one pairs said after other fits fit same)
same_entry entry_of.End entry_of.End after other fits fit tags same = refl
same_entry (entry_of.DropFact fact) (entry_of.DropFact said) after other fits fit tags same =
    ap (λ n. entry_of.DropFact n) ((number_code 8).one fact said after other fits fit same)
same_entry (entry_of.DropBan ban) (entry_of.DropBan said) after other fits fit tags same =
    ap (λ n. entry_of.DropBan n) ((number_code 8).one ban said after other fits fit same)
same_entry x (entry_of.Fact (Fails said seen)) after other fits fit tags same = absurd (omega (arith, tags))
same_entry x (entry_of.Fact (Holds said)) after other fits fit tags same = absurd (omega (arith, tags))
same_entry x (entry_of.Conclusion NonePorts) after other fits fit tags same = absurd (omega (arith, tags))
same_entry x (entry_of.Conclusion (NoneBan said)) after other fits fit tags same = absurd (omega (arith, tags))
same_entry x (entry_of.Conclusion (Match said)) after other fits fit tags same = absurd (omega (arith, tags))
same_entry x y after other fits fit tags same = absurd (omega (arith, tags))

-- bodies of one length
same_front : (xs ys after other : List ℕ) → length xs ≡ length ys → xs ++ after ≡ ys ++ other → xs ≡ ys
same_front xs ys after other count same =
    sym (take-append_seam xs after) ∙ (ap (take (length xs)) same ∙ (ap (λ n. take n (ys ++ other)) count ∙ take-append_seam ys other))

abbrev frame_with : ℕ → List ℕ → ℕ × List ℕ
frame_with tag body = (tag, body)

same_frame : (x y : ℕ × List ℕ) → x.0 ≡ y.0 → x.1 ≡ y.1 → x ≡ y
same_frame x y tags bodies = ap (λ t. frame_with t x.1) tags ∙ ap (frame_with y.0) bodies

-- what stands after the tag of a frame
frame_tail : (x : ℕ × List ℕ) (after : List ℕ) → drop 1 (frame_bytes x ++ after) ≡ number_bytes 8 (length x.1) ++ (x.1 ++ after)
frame_tail x after = append_assoc (number_bytes 8 (length x.1)) x.1 after

frame_one : (x y : ℕ × List ℕ) (after other : List ℕ) → FrameFits x → FrameFits y → frame_bytes x ++ after ≡ frame_bytes y ++ other → x ≡ y
frame_one x y after other fits fit same =
    let tails = sym (frame_tail x after) ∙ (ap (drop 1) same ∙ frame_tail y other) in
    let counts = (number_code 8).one (length x.1) (length y.1) (x.1 ++ after) (y.1 ++ other) fits fit tails in
    let rest = same_left (number_bytes 8) (λ n. n < 256 ^ 8) (number_code 8) (length x.1) (length y.1) (x.1 ++ after) (y.1 ++ other) fits fit tails in
    same_frame x y (cc same) (same_front x.1 y.1 after other counts rest)

pub frame_code : IsPrefixCode frame_bytes FrameFits
frame_code = record { one = frame_one }

-- no bytes begin with two entries
entry_one : (x y : Entry) (after other : List ℕ) → EntryFits x → EntryFits y → entry_bytes x ++ after ≡ entry_bytes y ++ other → x ≡ y
entry_one x y after other fits fit same =
    let frames = frame_one (entry_tag x, entry_body x) (entry_tag y, entry_body y) after other fits.length_fits fit.length_fits same in
    same_entry x y [] [] fits.body fit.body (ap (λ (f : ℕ × List ℕ). f.0) frames) (ap (λ (f : ℕ × List ℕ). f.1 ++ []) frames)

pub entry_code : IsPrefixCode entry_bytes EntryFits
entry_code = record { one = entry_one }

-- an entry that its frame begins
pub entry_begins : (old left : List ℕ) (tag : ℕ) (body : List ℕ) (entry : Entry) → BeginsWith frame_bytes FrameFits old (tag, body) left → ReadsBody tag body (Ok entry) → BeginsWith entry_bytes EntryFits old entry left
entry_begins old left tag body entry frame reads =
    let is : (tag, body) ≡ frame_with (entry_tag entry) (entry_body entry) = sym (same_frame (entry_tag entry, entry_body entry) (tag, body) reads.0 reads.2) in record {
      fits = record { body = reads.1; length_fits = subst FrameFits is frame.fits };
      text_is = frame.text_is ∙ ap (λ f. frame_bytes f ++ left) is;
    }

-- a frame that is no entry's
pub frame_is_malformed : (old left : List ℕ) (tag : ℕ) (body : List ℕ) → BeginsWith frame_bytes FrameFits old (tag, body) left → ReadsBody tag body (Err form.Malformed) → IsMalformed old
frame_is_malformed old left tag body frame none = record {
  frame = (tag, body);
  left = left;
  whole = frame;
  none = record {
    none = λ entry after begins.
        let same = frame_one (entry_tag entry, entry_body entry) (tag, body) after left begins.fits.length_fits frame.fits (sym begins.text_is ∙ frame.text_is) in
        none entry (ap (λ (f : ℕ × List ℕ). f.0) same) begins.fits.body (ap (λ (f : ℕ × List ℕ). f.1) same);
  };
}

-- an entry whose body has bytes after its fields
pub body_goes_on : (tag : ℕ) (body left : List ℕ) (entry : Entry) → body ≡ entry_body entry ++ left → BodyFits entry → entry_tag entry ≡ tag → (left ≡ [] → ⊥) → ReadsBody tag body (Err form.Malformed)
body_goes_on tag body left entry body_is fits tag_is more = λ other other_tag other_fits other_body.
    let same : entry_body other ++ [] ≡ entry_body entry ++ left = append-nil (entry_body other) ∙ (other_body ∙ body_is) in
    let is = same_entry other entry [] left other_fits fits (other_tag ∙ sym tag_is) same in
    more (sym (append_cancel_left (entry_body entry) [] left (ap (λ e. entry_body e ++ []) (sym is) ∙ same)))

-- the fields of a fact that fails
abbrev pub fails_bytes : Claim × List Bool → List ℕ
fails_bytes = both_bytes claim_bytes (list_bytes bit_bytes)

abbrev pub FailsFit : Claim × List Bool → Type 0
FailsFit = BothFit ClaimHasPorts (ListFits Always)

fails_never : (text : List ℕ) → BeginsNone fails_bytes FailsFit text → (entry : Entry) (left : List ℕ) → BeginsWith entry_body (OfTag entry_tag BodyFits 1) text entry left → ⊥
fails_never text h (entry_of.Fact (Fails claim bits)) left b = h.none (claim, bits) left (record { fits = b.fits.0; text_is = b.text_is })
fails_never text h (entry_of.Fact (Holds claim)) left b = omega (arith, b.fits.1)
fails_never text h (entry_of.Line line) left b = omega (arith, b.fits.1)
fails_never text h (entry_of.Ban ban) left b = omega (arith, b.fits.1)
fails_never text h (entry_of.Conclusion NonePorts) left b = omega (arith, b.fits.1)
fails_never text h (entry_of.Conclusion (NoneBan ban)) left b = omega (arith, b.fits.1)
fails_never text h (entry_of.Conclusion (Match pairs)) left b = omega (arith, b.fits.1)
fails_never text h entry_of.End left b = omega (arith, b.fits.1)
fails_never text h (entry_of.DropFact fact) left b = omega (arith, b.fits.1)
fails_never text h (entry_of.DropBan ban) left b = omega (arith, b.fits.1)

pub fails_none : (text : List ℕ) → BeginsNone fails_bytes FailsFit text → BeginsNone entry_body (OfTag entry_tag BodyFits 1) text
fails_none text h = record { none = fails_never text h }

-- the body of an entry, read
pub body_read : (tag : ℕ) (body left : List ℕ) (entry : Entry) → BeginsWith entry_body (OfTag entry_tag BodyFits tag) body entry left → left ≡ [] → ReadsBody tag body (Ok entry)
body_read tag body left entry begins done =
    (begins.fits.1, begins.fits.0, sym (begins.text_is ∙ (ap (λ l. entry_body entry ++ l) done ∙ append-nil (entry_body entry))))

pub body_none : (tag : ℕ) (body : List ℕ) → BeginsNone entry_body (OfTag entry_tag BodyFits tag) body → ReadsBody tag body (Err form.Malformed)
body_none tag body h = λ entry tag_is fits body_is. h.none entry [] (record { fits = (fits, tag_is); text_is = sym body_is ∙ sym (append-nil (entry_body entry)) })

body_stop_as : (tag : ℕ) (body after : List ℕ) (why : FormStop) → Reads entry_body (OfTag entry_tag BodyFits tag) body (Err why) after → ReadsBody tag body (Err why)
body_stop_as tag body after form.Malformed is = body_none tag body is
body_stop_as tag body after form.Memory is = tt

pub body_stopped : (tag : ℕ) (body after : List ℕ) (call answer : Result Entry FormStop) (why : FormStop) → call ≡ Err why → IsErrAnd answer (λ e. e ≡ why) → Reads entry_body (OfTag entry_tag BodyFits tag) body call after → ReadsBody tag body answer
body_stopped tag body after call (Ok entry) why was from is = absurd from
body_stopped tag body after call (Err e) why was from is =
    subst (λ why_not. ReadsBody tag body (Err why_not)) (sym from) (body_stop_as tag body after why (subst (λ r. Reads entry_body (OfTag entry_tag BodyFits tag) body r after) was is))

empty_by_length : (left : List ℕ) → length left ≡ 0 → left ≡ []
empty_by_length [] e = refl
empty_by_length (byte ∷ left) e = absurd (omega (arith, e))

pub no_length : (left : List ℕ) → eqb (length left) 0 ≡ true → left ≡ []
no_length left e = empty_by_length left (eqb-true (length left) 0 e)

pub some_length : (left : List ℕ) → eqb (length left) 0 ≡ false → left ≡ [] → ⊥
some_length left e empty = false≢true (sym e ∙ ap (λ l. eqb (length l) 0) empty)

-- what a whole frame gives
pub frame_read : (old left : List ℕ) (tag : ℕ) (body : List ℕ) (answer : Result Entry EntryStop) → BeginsWith frame_bytes FrameFits old (tag, body) left → GivesEntry tag body answer → ReadsEntry old answer left
frame_read old left tag body (Ok entry) frame gives = entry_begins old left tag body entry frame gives
frame_read old left tag body (Err stop.Cut) frame gives = absurd gives
frame_read old left tag body (Err stop.Malformed) frame gives = frame_is_malformed old left tag body frame gives
frame_read old left tag body (Err stop.Memory) frame gives = tt
