-- The words and the files determine what is answered.
use Rattle.std.proofs.Common.{◌≡◌, ◌≢◌, ℕ, ◌≤◌, ◌↔◌, ◌⊎◌, inl, inr, zero, suc, Bool, IsTrue, List, [], length, get_or, Option, None, Some, Result, Ok, Err, refl, sym, ◌∙◌, ap, subst, arith}
use Rattle.shelf_core.specs.Fault.{NoCallFollows, Rose}
use Rattle.circuits.specs.Levels.{IsOrderOf}
use Rattle.circuits.specs.Netlists.{Net}
use Rattle.circuits.proofs.OneOrder.{one_order}
use Rattle.net_core.specs.Sides.{Graphs}
use Rattle.net_core.specs.declared.matching.Matching.{Matching}
use Rattle.net_file.specs.declared.fault.NetKind.{NetKind}
use Rattle.account_check.specs.Verdicts.{IsAccepted as Proves, IsRejected as IsBadAt}
use Rattle.account_check.specs.declared.verdict.Verdict.{Verdict}
use Rattle.account_check.specs.declared.verdict.Verdict.TheVariants as verdict
use Rattle.account_check.specs.declared.verdict.Why.{Why}
use Rattle.account_check.proofs.VerdictLemmas.{one_rejection, one_proved, never_both}
use Rattle.check_steps.specs.Circuits.{IsCircuit, IsCircuitFault}
use Rattle.query_core.specs.Ledgers.{Ledgered}
use Rattle.account_file.specs.declared.fault.RecordFault.{RecordFault}
use Rattle.account_check.specs.declared.verdict.Why.TheVariants.{Form}
use Rattle.account_trim.specs.declared.trimming.Trimmed.{Trimmed as Left}
use Rattle.account_trim.specs.Trims.{IsTrimmed}
use Rattle.account_trim.proofs.OutcomeLemmas.{one_trimmed}
use Rattle.account_convert.specs.declared.conversion.Converted.{Converted as Other}
use Rattle.account_convert.specs.Conversions.{IsConverted, IsFaultAt}
use Rattle.account_convert.proofs.LawLemmas.{converted_or_fault, one_converted, one_fault_at}
use Rattle.net_core.specs.Limits.{most_bytes}
use Rattle.net_file.specs.declared.named.Named.{Named}
use Rattle.blif_reader.specs.Blif.{blif_lines}
use Rattle.hier_blif.specs.declared.fault.HierFault.{HierFault}
use Rattle.hier_blif.specs.Hierarchies.{IsHierFault, ReadAs as ReadFlat}
use Rattle.hier_blif.specs.Models.{models_of, top_of}
use Rattle.hier_blif.proofs.DepthLemmas.{same_instances}
use Rattle.hier_blif.proofs.OneHierLemmas.{lines_or_fault, one_fault_of_lines, one_hierarchy}
use Rattle.check_steps.specs.Words.{AsksCheck, AsksConvert, AsksFlatten, AsksInfo, AsksMatch, AsksRestore, AsksSweep, AsksTrim, AskNothing, NameOne, NameThree, ReadFiles}
use Rattle.check_steps.specs.Words.{ConvertRequest, FlattenRequest, MatchRequest, RestoreRequest, SweepRequest, TrimRequest, check_words}
use Rattle.run_steps.specs.Match.{HasNoMatch, IsAskedToMatch, IsMatchFound, IsSought, IsSpentOnTwo}
use Rattle.circuits.specs.Matches.{AreNpnpEqual}
use Rattle.check_steps.specs.Check.{HasAccount, IsAccepted, IsRejected, LacksAccount}
use Rattle.check_steps.specs.Held.{Netlist, HasNetlist, HasGraph, HasNetFault, HasTooMuch}
use Rattle.check_steps.specs.Ends.{EndsAt, EndsEarly, IsAbsent}
use Rattle.run_steps.specs.Outcomes.{FollowsWords, IsAskedOf, IsSpentOn, IsOfOne, IsOfMatch, IsRight, IsDecided, IsSoundAnswer, IsReported, Leaves}
use Rattle.run_steps.specs.Restore.{AsChecked, IsRestorable}
use Rattle.run_steps.specs.Trim.{AsRead, IsAskedToTrim, IsOfTrim, IsTrimmedTo}
use Rattle.run_steps.specs.Flatten.{HasNoModels, IsAskedToFlatten, IsBadHierarchy, IsFlattenable, IsFlattenedTo, IsOfFlatten, LacksModels}
use Rattle.run_steps.specs.Sweep.{IsAskedToSweep, IsOfSweep, IsSweptTo}
use Rattle.run_steps.specs.Convert.{IsAskedToConvert, IsConvertedTo, IsIllFormed, IsOfConvert, LacksOld}
use Rattle.account_file.specs.Accounts.{HasFormFault}
use Rattle.account_file.proofs.VersionLemmas.{account_or_fault}
use Rattle.shelf_core.specs.State.{ShelfState}
use Rattle.run_steps.specs.Report.{IsReport}
use Rattle.check_steps.specs.Reading.{IsEarly, IsOfReading}
use Rattle.run_steps.specs.Steps.{IsUnwritten, Decides}
use Rattle.check_steps.specs.declared.words.Command.{Command}
use Rattle.check_steps.specs.declared.outcome.Ending.{Ending}
use Rattle.check_steps.proofs.CircuitLemmas.{one_circuit, circuit_or_fault, one_circuit_fault, circuit_acyclic}
use Rattle.check_steps.proofs.EndLemmas.{EndsRun}
use Rattle.run_steps.proofs.OutcomeLemmas.{of_unwritten}
use Rattle.check_steps.specs.declared.outcome.Which.{Which}
use Rattle.check_steps.specs.declared.outcome.Which.TheVariants.{First, Second, Account}
use Rattle.check_steps.specs.declared.outcome.Outcome.{Outcome}
use Rattle.check_steps.specs.declared.outcome.Outcome.TheVariants.{AcceptedMatch, AcceptedRefusal, Rejected, Matched, NoMatching, Spent, Usage, Absent}
use Rattle.check_steps.specs.declared.outcome.Outcome.TheVariants.{TooLarge, Malformed, Informed, Made, Restored, Trimmed, Converted, Flattened, BadHierarchy, Swept, Tried, ReadFault, WriteFault, Memory}
use Rattle.run_steps.proofs.FormLemmas.{convert_or_check, convert_or_info, convert_or_match, convert_or_restore, convert_or_trim}
use Rattle.run_steps.proofs.FormLemmas.{flatten_or_check, flatten_or_convert, flatten_or_info, flatten_or_match, flatten_or_restore, flatten_or_trim}
use Rattle.run_steps.proofs.FormLemmas.{check_of_trim, trim_or_check, trim_or_info, trim_or_match, trim_or_restore}
use Rattle.run_steps.proofs.FormLemmas.{sweep_or_check, sweep_or_convert, sweep_or_flatten, sweep_or_info, sweep_or_match, sweep_or_restore, sweep_or_trim, swept_named}
use Rattle.run_steps.proofs.FormLemmas.{names_one, file_named, sought_one, check_of_restore, check_or_info, match_or_info, check_or_match, read_or_make, read_or_trial, reads_of, restore_or_check, restore_or_info, restore_or_match}
use Rattle.check_steps.specs.Asks.{Ask}
use Rattle.check_steps.specs.Checks.{Checks, IsOfCheck, IsSound}
use Rattle.check_steps.specs.declared.words.Check.{Check as CheckWords}
use Rattle.check_steps.proofs.CheckingLemmas.{at_first, at_second, at_only}
use Rattle.run_steps.specs.Commands.{asked_check, IsReadingCommand}

-- one name holds one netlist, or one thing that ends the check

netlist_one : (content : Option (List ℕ)) (a b : Netlist) → HasNetlist content a → HasNetlist content b → a.circuit ≡ b.circuit
netlist_one content a b one other =
    let same : other.bytes ≡ one.bytes = let e = one.there in let e' = other.there in cc in
    one_circuit one.bytes a.circuit b.circuit a.input_names a.output_names b.input_names b.output_names one.is (subst (λ bytes. IsCircuit bytes b.circuit b.input_names b.output_names) same other.is)

fault_one : (content : Option (List ℕ)) (kind other_kind : NetKind) (at place : ℕ) → HasNetFault content kind at → HasNetFault content other_kind place → (kind ≡ other_kind) × (at ≡ place)
fault_one content kind other_kind at place one other =
    let same : other.bytes ≡ one.bytes = let e = one.there in let e' = other.there in cc in
    one_circuit_fault one.bytes kind other_kind at place one.is (subst (λ bytes. IsCircuitFault bytes other_kind place) same other.is)

-- what ends the check at a file, one of three
abbrev pub IsEnd : Which → Option (List ℕ) → Outcome → Type 0
IsEnd file content o = ((o ≡ Absent file) × (content ≡ None)) ⊎ ((o ≡ TooLarge file) × HasTooMuch content) ⊎ ((kind : NetKind) × (at : ℕ) × (o ≡ Malformed file kind at) × HasNetFault content kind at)

end_of : (file : Which) (content : Option (List ℕ)) (o : Outcome) → IsDecided o → EndsAt file content o → IsEnd file content o
end_of file content (Absent which) decided fact = inl (ap Absent fact.0, fact.1)
end_of file content (TooLarge which) decided fact = inr (inl (ap TooLarge fact.0, fact.1))
end_of file content (Malformed which kind at) decided fact = inr (inr (kind, at, ap (λ w. Malformed w kind at) fact.0, fact.1))
end_of file content ReadFault decided fact = absurd (decided.read refl)
end_of file content Memory decided fact = absurd (decided.reported.room refl)
end_of file content other decided fact = absurd fact

-- no name holds two of them
too_much_or_fault : (content : Option (List ℕ)) (kind : NetKind) (at : ℕ) → HasTooMuch content → HasNetFault content kind at → ⊥
too_much_or_fault content kind at much fault =
    let same : fault.bytes ≡ much.bytes = let e = much.there in let e' = fault.there in cc in
    absurd (omega (arith, much.long, fault.short, ap length same))

end_one : (file : Which) (content : Option (List ℕ)) (a b : Outcome) → IsEnd file content a → IsEnd file content b → a ≡ b
end_one file content a b one other =
    elim one [
      | inl (e, none) ↦ elim other [
        | inl (e', none') ↦ e ∙ sym e'
        | inr (inl (e', much)) ↦ let there = much.there in cc
        | inr (inr (kind, at, e', fault)) ↦ let there = fault.there in cc
      ]
      | inr (inl (e, much)) ↦ elim other [
        | inl (e', none) ↦ let there = much.there in cc
        | inr (inl (e', much')) ↦ e ∙ sym e'
        | inr (inr (kind, at, e', fault)) ↦ absurd (too_much_or_fault content kind at much fault)
      ]
      | inr (inr (kind, at, e, fault)) ↦ elim other [
        | inl (e', none) ↦ let there = fault.there in cc
        | inr (inl (e', much)) ↦ absurd (too_much_or_fault content kind at much fault)
        | inr (inr (kind', at', e', fault')) ↦ let same = fault_one content kind kind' at at' fault fault' in let k = same.0 in let p = same.1 in cc
      ]
    ]

end_or_netlist : (file : Which) (content : Option (List ℕ)) (o : Outcome) (f : Netlist) → IsEnd file content o → HasNetlist content f → ⊥
end_or_netlist file content o f end net =
    let there = net.there in
    elim end [
      | inl (e, none) ↦ cc
      | inr (inl (e, much)) ↦
          let same : net.bytes ≡ much.bytes = let e' = much.there in cc in
          absurd (omega (arith, much.long, net.short, ap length same))
      | inr (inr (kind, at, e, fault)) ↦
          let same : fault.bytes ≡ net.bytes = let e' = fault.there in cc in
          circuit_or_fault net.bytes f.circuit f.input_names f.output_names kind at net.is (subst (λ bytes. IsCircuitFault bytes kind at) same fault.is)
    ]

-- one name holds one graph

graph_one : (content : Option (List ℕ)) (a b : Net) → HasGraph content a → HasGraph content b → a ≡ b
graph_one content a b one other =
    let e = netlist_one content one.netlist other.netlist one.holds other.holds in
    let bytes = one.holds.bytes in
    let acyclic = circuit_acyclic bytes one.netlist.circuit one.netlist.input_names one.netlist.output_names one.holds.is in
    one_order one.netlist.circuit a b acyclic one.numbered (subst (λ circuit. IsOrderOf circuit b) (sym e) other.numbered)

-- How a run ends that judges an account of two graphs which proves this, by its command: 0 is a check, 1 restores a netlist,
-- and any other number trims the account.
abbrev pub Tells : ℕ → Graphs → List ℕ → Verdict → Outcome → Type 0
Tells zero graphs account (verdict.Match matching) o = o ≡ AcceptedMatch matching
Tells zero graphs account verdict.None o = o ≡ AcceptedRefusal
Tells (suc zero) graphs account (verdict.Match matching) o = o ≡ Restored (length graphs.second.gates)
Tells (suc zero) graphs account verdict.None o = o ≡ AcceptedRefusal
Tells (suc (suc k)) graphs account proved o = (left : Left) × IsTrimmed graphs account left × (o ≡ Trimmed left.before left.after)

told_once : (k : ℕ) (graphs : Graphs) (account : List ℕ) (proved : Verdict) (a b : Outcome) → Tells k graphs account proved a → Tells k graphs account proved b → a ≡ b
told_once zero graphs account (verdict.Match matching) a b e e' = e ∙ sym e'
told_once zero graphs account verdict.None a b e e' = e ∙ sym e'
told_once (suc zero) graphs account (verdict.Match matching) a b e e' = e ∙ sym e'
told_once (suc zero) graphs account verdict.None a b e e' = e ∙ sym e'
told_once (suc (suc k)) graphs account proved a b (one, is, e) (other, is', e') =
    let same = one_trimmed graphs account one other is is' in
    e ∙ (ap (λ before. Trimmed before one.after) same.0 ∙ (ap (Trimmed other.before) same.1 ∙ sym e'))

-- what the account's bytes answer
abbrev pub IsAnswer : ℕ → Graphs → List ℕ → Outcome → Type 0
IsAnswer k graphs account o =
    ((proved : Verdict) × Tells k graphs account proved o × Proves graphs account proved)
    ⊎ ((line : ℕ) × (why : Why) × (o ≡ Rejected line why) × IsBadAt graphs account line why)

answer_one : (k : ℕ) (graphs : Graphs) (account : List ℕ) (a b : Outcome) → IsAnswer k graphs account a → IsAnswer k graphs account b → a ≡ b
answer_one k graphs account a b one other =
    elim one [
      | inl (proved, e, proves) ↦ elim other [
        | inl (proved', e', proves') ↦ told_once k graphs account proved a b e (subst (λ p. Tells k graphs account p b) (one_proved graphs account proved' proved proves' proves) e')
        | inr (line, why, e', bad) ↦ absurd (never_both graphs account proved line why proves bad)
      ]
      | inr (line, why, e, bad) ↦ elim other [
        | inl (proved, e', proves) ↦ absurd (never_both graphs account proved line why proves bad)
        | inr (line', why', e', bad') ↦ let same = one_rejection graphs account line line' why why' bad bad' in let l = same.0 in let w = same.1 in cc
      ]
    ]

-- what the bytes of an account answer that is to be converted
abbrev pub IsOtherAnswer : List ℕ → Outcome → Type 0
IsOtherAnswer account o =
    ((new : Other) × IsConverted account new × (o ≡ Converted new.from new.to new.records))
    ⊎ ((line : ℕ) × (fault : RecordFault) × (o ≡ Rejected line (Form fault)) × IsFaultAt account line fault)

other_answer_one : (account : List ℕ) (a b : Outcome) → IsOtherAnswer account a → IsOtherAnswer account b → a ≡ b
other_answer_one account a b one other =
    elim one [
      | inl (new, is, e) ↦ elim other [
        | inl (new', is', e') ↦ let same = one_converted account new new' is is' in let f = same.0 in let t = same.1 in let r = same.2 in cc
        | inr (line, fault, e', wrong) ↦ absurd (converted_or_fault account new line fault is wrong)
      ]
      | inr (line, fault, e, wrong) ↦ elim other [
        | inl (new, is, e') ↦ absurd (converted_or_fault account new line fault is wrong)
        | inr (line', fault', e', wrong') ↦ let same = one_fault_at account line line' fault fault' wrong wrong' in let l = same.0 in let w = same.1 in cc
      ]
    ]

-- what the bytes of a file answer that is to be flattened
abbrev pub IsFlatAnswer : List ℕ → Outcome → Type 0
IsFlatAnswer file o =
    ((flat : Named) × (models : ℕ) × (instances : ℕ) × ReadFlat file flat.graph flat.input_names flat.output_names models instances × (o ≡ Flattened models instances (length flat.graph.gates)))
    ⊎ ((fault : HierFault) × (o ≡ BadHierarchy fault) × IsHierFault file fault)

-- a file is one flat circuit, so its graph is one
flat_one : (file : List ℕ) (a b : Named) (models instances models' instances' : ℕ) → ReadFlat file a.graph a.input_names a.output_names models instances → ReadFlat file b.graph b.input_names b.output_names models' instances' → (a.graph ≡ b.graph) × (models ≡ models') × (instances ≡ instances')
flat_one file a b models instances models' instances' one other =
    let e = one_hierarchy (length file) (blif_lines file) one.depth other.depth one.circuit other.circuit one.is other.is in (
      one_order one.circuit a.graph b.graph one.is.acyclic one.numbered (subst (λ circuit. IsOrderOf circuit b.graph) (sym e) other.numbered),
      one.models_are ∙ sym other.models_are,
      one.instances_are ∙ (same_instances one.depth other.depth (models_of (blif_lines file)) (top_of (models_of (blif_lines file))) one.is.few.small.within other.is.few.small.within ∙ sym other.instances_are),
    )

flat_answer_one : (file : List ℕ) (a b : Outcome) → IsFlatAnswer file a → IsFlatAnswer file b → a ≡ b
flat_answer_one file a b one other =
    elim one [
      | inl (flat, models, instances, is, e) ↦ elim other [
        | inl (flat', models', instances', is', e') ↦
            let same = flat_one file flat flat' models instances models' instances' is is' in
            e ∙ (ap (λ n. Flattened n instances (length flat.graph.gates)) same.1 ∙ (ap (λ n. Flattened models' n (length flat.graph.gates)) same.2 ∙ (ap (λ (net : Net). Flattened models' instances' (length net.gates)) same.0 ∙ sym e')))
        | inr (fault, e', wrong) ↦ absurd (lines_or_fault (length file) (blif_lines file) is.depth is.circuit fault is.is wrong)
      ]
      | inr (fault, e, wrong) ↦ elim other [
        | inl (flat, models, instances, is, e') ↦ absurd (lines_or_fault (length file) (blif_lines file) is.depth is.circuit fault is.is wrong)
        | inr (fault', e', wrong') ↦ e ∙ (ap BadHierarchy (one_fault_of_lines (length file) (blif_lines file) fault fault' wrong wrong') ∙ sym e')
      ]
    ]

-- the outcome is what the words say, or what the files under their names say

abbrev pub SaysAccount : ℕ → (List ℕ → Option (List ℕ)) → List ℕ → List ℕ → List ℕ → Outcome → Type 0
SaysAccount k held first second account o =
    ((o ≡ Absent Account) × (held account ≡ None))
    ⊎ ((graphs : Graphs) × HasGraph (held first) graphs.first × HasGraph (held second) graphs.second × (bytes : List ℕ) × (held account ≡ Some bytes) × IsAnswer k graphs bytes o)

-- a file ends the run, or it is a netlist, and this is said
abbrev pub SaysFile : Which → Option (List ℕ) → (Outcome → Type 0) → Outcome → Type 0
SaysFile file content says o = IsEnd file content o ⊎ ((f : Netlist) × HasNetlist content f × says o)

abbrev pub SaysTwo : (List ℕ → Option (List ℕ)) → List ℕ → List ℕ → (Outcome → Type 0) → Outcome → Type 0
SaysTwo held first second says o = SaysFile First (held first) (SaysFile Second (held second) says) o

abbrev pub SaysThree : ℕ → (List ℕ → Option (List ℕ)) → List ℕ → List ℕ → List ℕ → Outcome → Type 0
SaysThree k held first second account o = SaysTwo held first second (SaysAccount k held first second account) o

abbrev pub request_of : List ℕ → List ℕ → List ℕ → List ℕ → RestoreRequest
request_of first second account restored = record { first = first; second = second; account = account; restored = restored }

named_restore : (words : List (List ℕ)) (request : RestoreRequest) → AsksRestore words request → AsksRestore words (request_of request.first request.second request.account request.restored)
named_restore words request asks = record { form = asks.form; names = asks.names }

abbrev pub trim_of : List ℕ → List ℕ → List ℕ → List ℕ → TrimRequest
trim_of first second account trimmed = record { first = first; second = second; account = account; trimmed = trimmed }

named_trim : (words : List (List ℕ)) (request : TrimRequest) → AsksTrim words request → AsksTrim words (trim_of request.first request.second request.account request.trimmed)
named_trim words request asks = record { form = asks.form; names = asks.names }

-- the words ask for a check by an account, for a netlist to be restored by one, or for one to be trimmed
abbrev pub JudgeBy : List (List ℕ) → ℕ → List ℕ → List ℕ → List ℕ → Type 0
JudgeBy words k first second account =
    (AsksCheck words first second account × (k ≡ 0))
    ⊎ ((restored : List ℕ) × AsksRestore words (request_of first second account restored) × (k ≡ 1))
    ⊎ ((trimmed : List ℕ) × AsksTrim words (trim_of first second account trimmed) × (k ≡ 2))

abbrev pub SaysCheck : (List ℕ → Option (List ℕ)) → List (List ℕ) → Outcome → Type 0
SaysCheck held words o =
    (k : ℕ) × (first : List ℕ) × (second : List ℕ) × (account : List ℕ) × JudgeBy words k first second account × SaysThree k held first second account o

-- what is said of an account that is to be converted
abbrev pub SaysOld : (List ℕ → Option (List ℕ)) → List ℕ → Outcome → Type 0
SaysOld held account o =
    ((o ≡ Absent Account) × (held account ≡ None)) ⊎ ((bytes : List ℕ) × (held account ≡ Some bytes) × IsOtherAnswer bytes o)

abbrev pub SaysConvert : (List ℕ → Option (List ℕ)) → List (List ℕ) → Outcome → Type 0
SaysConvert held words o = (request : ConvertRequest) × AsksConvert words request × SaysOld held request.account o

-- what is said of a file that is to be flattened
abbrev pub SaysModels : Option (List ℕ) → Outcome → Type 0
SaysModels content o =
    ((o ≡ Absent First) × (content ≡ None))
    ⊎ ((o ≡ TooLarge First) × HasTooMuch content)
    ⊎ ((file : List ℕ) × (content ≡ Some file) × (length file ≤ most_bytes) × IsFlatAnswer file o)

abbrev pub SaysFlatten : (List ℕ → Option (List ℕ)) → List (List ℕ) → Outcome → Type 0
SaysFlatten held words o = (request : FlattenRequest) × AsksFlatten words request × SaysModels (held request.file) o

abbrev pub SaysMatch : (List ℕ → Option (List ℕ)) → List (List ℕ) → Outcome → Type 0
SaysMatch held words o = (sought : MatchRequest) × AsksMatch words sought × SaysTwo held sought.first sought.second IsOfMatch o

-- the words name one netlist, by their command: 0 asks what is known of it, and any other number for it to be swept
abbrev pub AskOneBy : List (List ℕ) → ℕ → List ℕ → Type 0
AskOneBy words k file =
    ((budget : ℕ) × AsksInfo words file budget × (k ≡ 0))
    ⊎ ((request : SweepRequest) × AsksSweep words request × (file ≡ request.file) × (k ≡ 1))

abbrev pub IsOf : ℕ → Outcome → Type 0
IsOf zero o = IsOfOne o
IsOf (suc k) o = IsOfSweep o

abbrev pub SaysOne : (List ℕ → Option (List ℕ)) → List (List ℕ) → Outcome → Type 0
SaysOne held words o = (k : ℕ) × (file : List ℕ) × AskOneBy words k file × SaysFile First (held file) (IsOf k) o

abbrev pub Says : (List ℕ → Option (List ℕ)) → List (List ℕ) → Outcome → Type 0
Says held words o =
    ((o ≡ Usage) × AskNothing words) ⊎ SaysCheck held words o ⊎ SaysMatch held words o ⊎ SaysOne held words o ⊎ SaysConvert held words o ⊎ SaysFlatten held words o

-- one outcome, or both are of one netlist and a command that names one, or of two of which a match is sought
abbrev pub AreAlike : Outcome → Outcome → Type 0
AreAlike a b = (a ≡ b) ⊎ ((k : ℕ) × IsOf k a × IsOf k b) ⊎ (IsOfMatch a × IsOfMatch b)

graphs_same : (a b : Graphs) → a.first ≡ b.first → a.second ≡ b.second → a ≡ b
graphs_same a b e f = λ i. record { first = e i; second = f i }

account_one : (k : ℕ) (held : List ℕ → Option (List ℕ)) (first second account : List ℕ) (a b : Outcome) → SaysAccount k held first second account a → SaysAccount k held first second account b → a ≡ b
account_one k held first second account a b one other =
    elim one [
      | inl (e, none) ↦ elim other [
        | inl (e', none') ↦ e ∙ sym e'
        | inr (graphs, f, g, bytes, there, answer) ↦ cc
      ]
      | inr (graphs, f, g, bytes, there, answer) ↦ elim other [
        | inl (e, none) ↦ cc
        | inr (graphs', f', g', bytes', there', answer') ↦
            let same = graphs_same graphs' graphs (graph_one (held first) graphs'.first graphs.first f' f) (graph_one (held second) graphs'.second graphs.second g' g) in
            let text : bytes' ≡ bytes = cc in
            answer_one k graphs bytes a b answer (subst (λ t. IsAnswer k graphs t b) text (subst (λ two. IsAnswer k two bytes' b) same answer'))
      ]
    ]

file_one : (file : Which) (content : Option (List ℕ)) (says : Outcome → Type 0) (a b : Outcome) → SaysFile file content says a → SaysFile file content says b → (a ≡ b) ⊎ (says a × says b)
file_one file content says a b one other =
    elim one [
      | inl end ↦ elim other [
        | inl end' ↦ inl (end_one file content a b end end')
        | inr (f, there, fact) ↦ absurd (end_or_netlist file content a f end there)
      ]
      | inr (f, there, fact) ↦ elim other [
        | inl end' ↦ absurd (end_or_netlist file content b f end' there)
        | inr (f', there', fact') ↦ inr (fact, fact')
      ]
    ]

two_one : (held : List ℕ → Option (List ℕ)) (first second : List ℕ) (says : Outcome → Type 0) (a b : Outcome) → SaysTwo held first second says a → SaysTwo held first second says b → (a ≡ b) ⊎ (says a × says b)
two_one held first second says a b one other =
    elim (file_one First (held first) (SaysFile Second (held second) says) a b one other) [
      | inl same ↦ inl same
      | inr (one', other') ↦ file_one Second (held second) says a b one' other'
    ]

-- what the words alone say of an outcome of files
pub follows_files : (words : List (List ℕ)) (o : Outcome) → ReadFiles words → o ≢ Made → ((number : ℕ) (account : List ℕ) → o ≢ Tried number account) → FollowsWords words o
follows_files words o reads no_pair no_trial = record {
  made = λ e. absurd (no_pair e);
  pair = λ asks reported. absurd (read_or_make words reads asks);
  tried = λ number account e. absurd (no_trial number account e);
  trial = λ number asks reported. absurd (read_or_trial words number reads asks);
  read = λ e. reads;
}

-- and of one that isn't said
follows_unreported : (words : List (List ℕ)) (o : Outcome) → EndsRun o → o ≢ ReadFault → (IsReported o → ⊥) → FollowsWords words o
follows_unreported words o is read unreported = record {
  made = λ e. absurd (subst EndsRun e is);
  pair = λ asks reported. absurd (unreported reported);
  tried = λ number account e. absurd (subst EndsRun e is);
  trial = λ number asks reported. absurd (unreported reported);
  read = λ e. absurd (read e);
}

pub follows_memory : (words : List (List ℕ)) → FollowsWords words Memory
follows_memory words = follows_unreported words Memory tt (λ e. cc) (λ reported. reported.room refl)

pub follows_unwritten : (words : List (List ℕ)) (o : Outcome) → IsUnwritten o → FollowsWords words o
follows_unwritten words o is =
    of_unwritten (FollowsWords words) o is (follows_unreported words WriteFault tt (λ e. cc) (λ reported. reported.written refl)) (follows_memory words)

-- and where the words ask for nothing
pub follows_nothing : (words : List (List ℕ)) → AskNothing words → FollowsWords words Usage
follows_nothing words nothing = record {
  made = λ e. cc;
  pair = λ asks reported. absurd (nothing.no_make asks.0 asks.1);
  tried = λ number account e. cc;
  trial = λ number asks reported. absurd (nothing.no_trial number asks);
  read = λ e. cc;
}

-- the words name three files to be judged in one way
abbrev AreSameJudged : ℕ → List ℕ → List ℕ → List ℕ → ℕ → List ℕ → List ℕ → List ℕ → Type 0
AreSameJudged k f g t k' f' g' t' = (k' ≡ k) × (f' ≡ f) × (g' ≡ g) × (t' ≡ t)

abbrev word_at : ℕ → List (List ℕ) → List ℕ
word_at place words = get_or words place []

judged_one : (words : List (List ℕ)) (k : ℕ) (f g t : List ℕ) (k' : ℕ) (f' g' t' : List ℕ) → JudgeBy words k f g t → JudgeBy words k' f' g' t' → AreSameJudged k f g t k' f' g' t'
judged_one words k f g t k' f' g' t' one other =
    elim one [
      | inl (asks, is) ↦ elim other [
        | inl (asks', is') ↦ let e = names_one words f g t f' g' t' asks asks' in (is' ∙ sym is, e.0, e.1, e.2)
        | inr (inl (r, asks', is')) ↦ absurd (restore_or_check words (request_of f' g' t' r) f g t asks' asks)
        | inr (inr (r, asks', is')) ↦ absurd (trim_or_check words (trim_of f' g' t' r) f g t asks' asks)
      ]
      | inr (inl (r, asks, is)) ↦ elim other [
        | inl (asks', is') ↦ absurd (restore_or_check words (request_of f g t r) f' g' t' asks asks')
        | inr (inl (r', asks', is')) ↦ let same = sym asks'.form ∙ asks.form in (is' ∙ sym is, ap (word_at 1) same, ap (word_at 2) same, ap (word_at 3) same)
        | inr (inr (r', asks', is')) ↦ absurd (trim_or_restore words (trim_of f' g' t' r') (request_of f g t r) asks' asks)
      ]
      | inr (inr (r, asks, is)) ↦ elim other [
        | inl (asks', is') ↦ absurd (trim_or_check words (trim_of f g t r) f' g' t' asks asks')
        | inr (inl (r', asks', is')) ↦ absurd (trim_or_restore words (trim_of f g t r) (request_of f' g' t' r') asks asks')
        | inr (inr (r', asks', is')) ↦ let same = sym asks'.form ∙ asks.form in (is' ∙ sym is, ap (word_at 1) same, ap (word_at 2) same, ap (word_at 3) same)
      ]
    ]

judged_or_nothing : (words : List (List ℕ)) (k : ℕ) (f g t : List ℕ) → JudgeBy words k f g t → AskNothing words → ⊥
judged_or_nothing words k f g t judge nothing =
    elim judge [
      | inl (asks, is) ↦ nothing.no_check f g t asks
      | inr (inl (r, asks, is)) ↦ nothing.no_restore (request_of f g t r) asks
      | inr (inr (r, asks, is)) ↦ nothing.no_trim (trim_of f g t r) asks
    ]

judged_or_match : (words : List (List ℕ)) (k : ℕ) (f g t : List ℕ) (sought : MatchRequest) → JudgeBy words k f g t → AsksMatch words sought → ⊥
judged_or_match words k f g t sought judge asked =
    elim judge [
      | inl (asks, is) ↦ check_or_match words f g t sought asks asked
      | inr (inl (r, asks, is)) ↦ restore_or_match words (request_of f g t r) sought asks asked
      | inr (inr (r, asks, is)) ↦ trim_or_match words (trim_of f g t r) sought asks asked
    ]

judged_or_info : (words : List (List ℕ)) (k : ℕ) (f g t file : List ℕ) (budget : ℕ) → JudgeBy words k f g t → AsksInfo words file budget → ⊥
judged_or_info words k f g t file budget judge asked =
    elim judge [
      | inl (asks, is) ↦ check_or_info words f g t file budget asks asked
      | inr (inl (r, asks, is)) ↦ restore_or_info words (request_of f g t r) file budget asks asked
      | inr (inr (r, asks, is)) ↦ trim_or_info words (trim_of f g t r) file budget asks asked
    ]

judged_or_sweep : (words : List (List ℕ)) (k : ℕ) (f g t : List ℕ) (request : SweepRequest) → JudgeBy words k f g t → AsksSweep words request → ⊥
judged_or_sweep words k f g t request judge asked =
    elim judge [
      | inl (asks, is) ↦ sweep_or_check words request f g t asked asks
      | inr (inl (r, asks, is)) ↦ sweep_or_restore words request (request_of f g t r) asked asks
      | inr (inr (r, asks, is)) ↦ sweep_or_trim words request (trim_of f g t r) asked asks
    ]

-- words that name one netlist are of no other form, and name no other one

one_or_nothing : (words : List (List ℕ)) (k : ℕ) (file : List ℕ) → AskOneBy words k file → AskNothing words → ⊥
one_or_nothing words k file one nothing =
    elim one [
      | inl (budget, asks, is) ↦ nothing.no_info file budget asks
      | inr (request, asks, same, is) ↦ nothing.no_sweep request asks
    ]

judged_or_one : (words : List (List ℕ)) (k : ℕ) (f g t : List ℕ) (j : ℕ) (file : List ℕ) → JudgeBy words k f g t → AskOneBy words j file → ⊥
judged_or_one words k f g t j file judge one =
    elim one [
      | inl (budget, asks, is) ↦ judged_or_info words k f g t file budget judge asks
      | inr (request, asks, same, is) ↦ judged_or_sweep words k f g t request judge asks
    ]

match_or_one : (words : List (List ℕ)) (sought : MatchRequest) (k : ℕ) (file : List ℕ) → AsksMatch words sought → AskOneBy words k file → ⊥
match_or_one words sought k file asked one =
    elim one [
      | inl (budget, asks, is) ↦ match_or_info words sought file budget asked asks
      | inr (request, asks, same, is) ↦ sweep_or_match words request sought asks asked
    ]

convert_or_one : (words : List (List ℕ)) (converted : ConvertRequest) (k : ℕ) (file : List ℕ) → AsksConvert words converted → AskOneBy words k file → ⊥
convert_or_one words converted k file asked one =
    elim one [
      | inl (budget, asks, is) ↦ convert_or_info words converted file budget asked asks
      | inr (request, asks, same, is) ↦ sweep_or_convert words request converted asks asked
    ]

flatten_or_one : (words : List (List ℕ)) (flattened : FlattenRequest) (k : ℕ) (file : List ℕ) → AsksFlatten words flattened → AskOneBy words k file → ⊥
flatten_or_one words flattened k file asked one =
    elim one [
      | inl (budget, asks, is) ↦ flatten_or_info words flattened file budget asked asks
      | inr (request, asks, same, is) ↦ sweep_or_flatten words request flattened asks asked
    ]

named_once : (words : List (List ℕ)) (k : ℕ) (file : List ℕ) (j : ℕ) (other : List ℕ) → AskOneBy words k file → AskOneBy words j other → (j ≡ k) × (other ≡ file)
named_once words k file j other one also =
    elim one [
      | inl (budget, asks, is) ↦ elim also [
        | inl (budget', asks', is') ↦ (is' ∙ sym is, sym (file_named words other budget' asks') ∙ file_named words file budget asks)
        | inr (request', asks', same', is') ↦ absurd (sweep_or_info words request' file budget asks' asks)
      ]
      | inr (request, asks, same, is) ↦ elim also [
        | inl (budget', asks', is') ↦ absurd (sweep_or_info words request other budget' asks asks')
        | inr (request', asks', same', is') ↦ (is' ∙ sym is, same' ∙ (sym (swept_named words request' asks') ∙ (swept_named words request asks ∙ sym same)))
      ]
    ]

judged_or_convert : (words : List (List ℕ)) (k : ℕ) (f g t : List ℕ) (request : ConvertRequest) → JudgeBy words k f g t → AsksConvert words request → ⊥
judged_or_convert words k f g t request judge asked =
    elim judge [
      | inl (asks, is) ↦ convert_or_check words request f g t asked asks
      | inr (inl (r, asks, is)) ↦ convert_or_restore words request (request_of f g t r) asked asks
      | inr (inr (r, asks, is)) ↦ convert_or_trim words request (trim_of f g t r) asked asks
    ]

judged_or_flatten : (words : List (List ℕ)) (k : ℕ) (f g t : List ℕ) (request : FlattenRequest) → JudgeBy words k f g t → AsksFlatten words request → ⊥
judged_or_flatten words k f g t request judge asked =
    elim judge [
      | inl (asks, is) ↦ flatten_or_check words request f g t asked asks
      | inr (inl (r, asks, is)) ↦ flatten_or_restore words request (request_of f g t r) asked asks
      | inr (inr (r, asks, is)) ↦ flatten_or_trim words request (trim_of f g t r) asked asks
    ]

models_one : (content : Option (List ℕ)) (a b : Outcome) → SaysModels content a → SaysModels content b → a ≡ b
models_one content a b one other =
    elim one [
      | inl (e, none) ↦ elim other [
        | inl (e', none') ↦ e ∙ sym e'
        | inr (inl (e', much)) ↦ let there = much.there in cc
        | inr (inr (file, there, short, answer)) ↦ cc
      ]
      | inr (inl (e, much)) ↦ elim other [
        | inl (e', none) ↦ let there = much.there in cc
        | inr (inl (e', much')) ↦ e ∙ sym e'
        | inr (inr (file, there, short, answer)) ↦
            let same : file ≡ much.bytes = let e' = much.there in cc in
            absurd (omega (arith, much.long, short, ap length same))
      ]
      | inr (inr (file, there, short, answer)) ↦ elim other [
        | inl (e, none) ↦ cc
        | inr (inl (e, much)) ↦
            let same : file ≡ much.bytes = let e' = much.there in cc in
            absurd (omega (arith, much.long, short, ap length same))
        | inr (inr (file', there', short', answer')) ↦
            let text : file' ≡ file = cc in
            flat_answer_one file a b answer (subst (λ t. IsFlatAnswer t b) text answer')
      ]
    ]

flatten_one : (held : List ℕ → Option (List ℕ)) (words : List (List ℕ)) (a b : Outcome) → SaysFlatten held words a → SaysFlatten held words b → a ≡ b
flatten_one held words a b (request, asks, says) (other, asks', says') =
    let same : other.file ≡ request.file = ap (word_at 1) (sym asks'.form ∙ asks.form) in
    models_one (held request.file) a b says (subst (λ name. SaysModels (held name) b) same says')

convert_one : (held : List ℕ → Option (List ℕ)) (words : List (List ℕ)) (a b : Outcome) → SaysConvert held words a → SaysConvert held words b → a ≡ b
convert_one held words a b (request, asks, says) (other, asks', says') =
    let same : other.account ≡ request.account = ap (word_at 1) (sym asks'.form ∙ asks.form) in
    let also : SaysOld held request.account b = subst (λ name. SaysOld held name b) same says' in
    elim says [
      | inl (e, none) ↦ elim also [
        | inl (e', none') ↦ e ∙ sym e'
        | inr (bytes, there, answer) ↦ cc
      ]
      | inr (bytes, there, answer) ↦ elim also [
        | inl (e, none) ↦ cc
        | inr (bytes', there', answer') ↦
            let text : bytes' ≡ bytes = cc in
            other_answer_one bytes a b answer (subst (λ t. IsOtherAnswer t b) text answer')
      ]
    ]

check_one : (held : List ℕ → Option (List ℕ)) (words : List (List ℕ)) (a b : Outcome) → SaysCheck held words a → SaysCheck held words b → a ≡ b
check_one held words a b (k, f, g, t, judge, says) (k', f', g', t', judge', says') =
    let e = judged_one words k f g t k' f' g' t' judge judge' in
    let says'' : SaysThree k held f g t b = subst (λ n. SaysThree n held f g t b) e.0 (subst (λ n. SaysThree k' held n g t b) e.1 (subst (λ n. SaysThree k' held f' n t b) e.2 (subst (λ n. SaysThree k' held f' g' n b) e.3 says'))) in
    elim (two_one held f g (SaysAccount k held f g t) a b says says'') [
      | inl same ↦ same
      | inr (one, other) ↦ account_one k held f g t a b one other
    ]

match_one : (held : List ℕ → Option (List ℕ)) (words : List (List ℕ)) (a b : Outcome) → SaysMatch held words a → SaysMatch held words b → (a ≡ b) ⊎ (IsOfMatch a × IsOfMatch b)
match_one held words a b (sought, asks, says) (other, asks', says') =
    let e = sought_one words sought other asks asks' in
    two_one held sought.first sought.second IsOfMatch a b says (subst (λ n. SaysTwo held n sought.second IsOfMatch b) e.0 (subst (λ n. SaysTwo held other.first n IsOfMatch b) e.1 says'))

one_one : (held : List ℕ → Option (List ℕ)) (words : List (List ℕ)) (a b : Outcome) → SaysOne held words a → SaysOne held words b → (a ≡ b) ⊎ ((k : ℕ) × IsOf k a × IsOf k b)
one_one held words a b (k, file, asks, says) (k', file', asks', says') =
    let e = named_once words k file k' file' asks asks' in
    elim (file_one First (held file) (IsOf k) a b says (subst (λ n. SaysFile First (held file) (IsOf n) b) e.0 (subst (λ name. SaysFile First (held name) (IsOf k') b) e.1 says'))) [
      | inl same ↦ inl same
      | inr (of, of') ↦ inr (k, of, of')
    ]

says_one : (held : List ℕ → Option (List ℕ)) (words : List (List ℕ)) (a b : Outcome) → Says held words a → Says held words b → AreAlike a b
says_one held words a b one other =
    elim one [
      | inl (e, nothing) ↦ elim other [
        | inl (e', nothing') ↦ inl (e ∙ sym e')
        | inr (inl (k, f, g, t, judge, says)) ↦ absurd (judged_or_nothing words k f g t judge nothing)
        | inr (inr (inl (sought, asks, says))) ↦ absurd (nothing.no_match sought asks)
        | inr (inr (inr (inl (k, file, asks, says)))) ↦ absurd (one_or_nothing words k file asks nothing)
        | inr (inr (inr (inr (inl (request, asks, says))))) ↦ absurd (nothing.no_convert request asks)
        | inr (inr (inr (inr (inr (request, asks, says))))) ↦ absurd (nothing.no_flatten request asks)
      ]
      | inr (inl (k, f, g, t, judge, says)) ↦ elim other [
        | inl (e', nothing) ↦ absurd (judged_or_nothing words k f g t judge nothing)
        | inr (inl other') ↦ inl (check_one held words a b (k, f, g, t, judge, says) other')
        | inr (inr (inl (sought, asks', says'))) ↦ absurd (judged_or_match words k f g t sought judge asks')
        | inr (inr (inr (inl (j, file, asks', says')))) ↦ absurd (judged_or_one words k f g t j file judge asks')
        | inr (inr (inr (inr (inl (request, asks', says'))))) ↦ absurd (judged_or_convert words k f g t request judge asks')
        | inr (inr (inr (inr (inr (request, asks', says'))))) ↦ absurd (judged_or_flatten words k f g t request judge asks')
      ]
      | inr (inr (inl (sought, asks, says))) ↦ elim other [
        | inl (e', nothing) ↦ absurd (nothing.no_match sought asks)
        | inr (inl (k, f, g, t, judge, says')) ↦ absurd (judged_or_match words k f g t sought judge asks)
        | inr (inr (inl other')) ↦ elim (match_one held words a b (sought, asks, says) other') [ inl same ↦ inl same | inr both ↦ inr (inr both) ]
        | inr (inr (inr (inl (k, file, asks', says')))) ↦ absurd (match_or_one words sought k file asks asks')
        | inr (inr (inr (inr (inl (request, asks', says'))))) ↦ absurd (convert_or_match words request sought asks' asks)
        | inr (inr (inr (inr (inr (request, asks', says'))))) ↦ absurd (flatten_or_match words request sought asks' asks)
      ]
      | inr (inr (inr (inl (j, file, asks, says)))) ↦ elim other [
        | inl (e', nothing) ↦ absurd (one_or_nothing words j file asks nothing)
        | inr (inl (k, f, g, t, judge, says')) ↦ absurd (judged_or_one words k f g t j file judge asks)
        | inr (inr (inl (sought, asks', says'))) ↦ absurd (match_or_one words sought j file asks' asks)
        | inr (inr (inr (inl other'))) ↦ elim (one_one held words a b (j, file, asks, says) other') [ inl same ↦ inl same | inr both ↦ inr (inl both) ]
        | inr (inr (inr (inr (inl (request, asks', says'))))) ↦ absurd (convert_or_one words request j file asks' asks)
        | inr (inr (inr (inr (inr (request, asks', says'))))) ↦ absurd (flatten_or_one words request j file asks' asks)
      ]
      | inr (inr (inr (inr (inl (request, asks, says))))) ↦ elim other [
        | inl (e', nothing) ↦ absurd (nothing.no_convert request asks)
        | inr (inl (k, f, g, t, judge, says')) ↦ absurd (judged_or_convert words k f g t request judge asks)
        | inr (inr (inl (sought, asks', says'))) ↦ absurd (convert_or_match words request sought asks asks')
        | inr (inr (inr (inl (k, file, asks', says')))) ↦ absurd (convert_or_one words request k file asks asks')
        | inr (inr (inr (inr (inl other')))) ↦ inl (convert_one held words a b (request, asks, says) other')
        | inr (inr (inr (inr (inr (flattened, asks', says'))))) ↦ absurd (flatten_or_convert words flattened request asks' asks)
      ]
      | inr (inr (inr (inr (inr (request, asks, says))))) ↦ elim other [
        | inl (e', nothing) ↦ absurd (nothing.no_flatten request asks)
        | inr (inl (k, f, g, t, judge, says')) ↦ absurd (judged_or_flatten words k f g t request judge asks)
        | inr (inr (inl (sought, asks', says'))) ↦ absurd (flatten_or_match words request sought asks asks')
        | inr (inr (inr (inl (k, file, asks', says')))) ↦ absurd (flatten_or_one words request k file asks asks')
        | inr (inr (inr (inr (inl (converted, asks', says'))))) ↦ absurd (flatten_or_convert words request converted asks asks')
        | inr (inr (inr (inr (inr other')))) ↦ inl (flatten_one held words a b (request, asks, says) other')
      ]
    ]

-- what is right is said so

abbrev pub named : List ℕ → List ℕ → List ℕ → ℕ → ℕ → MatchRequest
named first second account budget seed = record { first = first; second = second; account = account; budget = budget; seed = seed }

says_early : (held : List ℕ → Option (List ℕ)) (words : List (List ℕ)) (o : Outcome) → IsDecided o → EndsEarly held words o → Says held words o
says_early held words o decided early =
    elim early [
      | inl at ↦
          let end = end_of First (held at.first_name) o decided at.ends in
          elim at.asks [
            | inl asks ↦ inr (inl (0, at.first_name, at.second_name, at.account_name, inl (asks, refl), inl end))
            | inr (budget, seed, asks) ↦ inr (inr (inl (named at.first_name at.second_name at.account_name budget seed, asks, inl end)))
          ]
      | inr (inl at) ↦
          let end = end_of Second (held at.second_name) o decided at.ends in
          elim at.asks [
            | inl asks ↦ inr (inl (0, at.first_name, at.second_name, at.account_name, inl (asks, refl), inr (at.first, at.first_held, inl end)))
            | inr (budget, seed, asks) ↦ inr (inr (inl (named at.first_name at.second_name at.account_name budget seed, asks, inr (at.first, at.first_held, inl end))))
          ]
      | inr (inr at) ↦
          let end = end_of First (held at.file_name) o decided at.ends in
          elim at.asks [
            | inl (budget, asks) ↦ inr (inr (inr (inl (0, at.file_name, inl (budget, asks, refl), inl end))))
            | inr (request, asks, is) ↦ inr (inr (inr (inl (1, at.file_name, inr (request, asks, is, refl), inl end))))
          ]
    ]

says_answer : (held : List ℕ → Option (List ℕ)) (words : List (List ℕ)) (graphs : Graphs) (bytes : List ℕ) (o : Outcome) → HasAccount held words graphs bytes → IsAnswer 0 graphs bytes o → Says held words o
says_answer held words graphs bytes o has answer =
    inr (inl (0, has.first_name, has.second_name, has.account_name, inl (has.asks, refl), inr (has.first_held.netlist, has.first_held.holds, inr (has.second_held.netlist, has.second_held.holds, inr (graphs, has.first_held, has.second_held, bytes, has.there, answer)))))

says_absent : (held : List ℕ → Option (List ℕ)) (words : List (List ℕ)) (which : Which) → which ≡ Account → LacksAccount held words → Says held words (Absent which)
says_absent held words which e lacks =
    inr (inl (0, lacks.asked.first_name, lacks.asked.second_name, lacks.account_name, inl (lacks.asked.asks, refl), inr (lacks.first, lacks.asked.first_held, inr (lacks.second, lacks.asked.second_held, inl (ap Absent e, lacks.absent)))))

says_of : (held : List ℕ → Option (List ℕ)) (words : List (List ℕ)) (o : Outcome) → IsAskedOf held words → IsOfOne o → Says held words o
says_of held words o asked one = inr (inr (inr (inl (0, asked.file_name, inl (asked.budget, asked.asks, refl), inr (asked.netlist, asked.there, one)))))

says_swept : (held : List ℕ → Option (List ℕ)) (words : List (List ℕ)) (before after : ℕ) (left : Option Ledgered) → IsSweptTo held words before after left → Says held words (Swept before after left)
says_swept held words before after left is =
    inr (inr (inr (inl (1, is.request.file, inr (is.request, is.asks, refl, refl), inr (is.there.netlist, is.there.holds, (before, after, left, refl))))))

says_match : (held : List ℕ → Option (List ℕ)) (words : List (List ℕ)) (first second : Netlist) (o : Outcome) → IsSought held words first second → IsOfMatch o → Says held words o
says_match held words first second o is of_match =
    inr (inr (inl (is.sought, is.asks, inr (first, is.first_held, inr (second, is.second_held, of_match)))))

-- What an account says of a check it says of another command too, where that tells this outcome as the check does: a
-- restore all but a match, and a trim what isn't accepted.

abbrev IsToldToo : ℕ → Outcome → Type 0
IsToldToo k o = (graphs : Graphs) (account : List ℕ) (proved : Verdict) → Tells 0 graphs account proved o → Tells k graphs account proved o

restore_too : (o : Outcome) → ((matching : Matching) → o ≢ AcceptedMatch matching) → IsToldToo 1 o
restore_too o other graphs account (verdict.Match matching) e = absurd (other matching e)
restore_too o other graphs account verdict.None e = e

trim_too : (o : Outcome) → ((matching : Matching) → o ≢ AcceptedMatch matching) → o ≢ AcceptedRefusal → IsToldToo 2 o
trim_too o other no_refusal graphs account (verdict.Match matching) e = absurd (other matching e)
trim_too o other no_refusal graphs account verdict.None e = absurd (no_refusal e)

account_too : (k : ℕ) (held : List ℕ → Option (List ℕ)) (f g t : List ℕ) (o : Outcome) → IsToldToo k o → SaysAccount 0 held f g t o → SaysAccount k held f g t o
account_too k held f g t o too says =
    elim says [
      | inl absent ↦ inl absent
      | inr (graphs, first, second, bytes, there, inl (proved, e, proves)) ↦ inr (graphs, first, second, bytes, there, inl (proved, too graphs bytes proved e, proves))
      | inr (graphs, first, second, bytes, there, inr bad) ↦ inr (graphs, first, second, bytes, there, inr bad)
    ]

three_too : (k : ℕ) (held : List ℕ → Option (List ℕ)) (f g t : List ℕ) (o : Outcome) → IsToldToo k o → SaysThree 0 held f g t o → SaysThree k held f g t o
three_too k held f g t o too says =
    elim says [
      | inl end ↦ inl end
      | inr (first, there, inl end) ↦ inr (first, there, inl end)
      | inr (first, there, inr (second, also, account)) ↦ inr (first, there, inr (second, also, account_too k held f g t o too account))
    ]

-- what the words of a check say, words that ask for another command by the same names say too
says_by : (held : List ℕ → Option (List ℕ)) (words : List (List ℕ)) (k : ℕ) (f g t : List ℕ) (o : Outcome) → JudgeBy words k f g t → AsksCheck (check_words f g t) f g t → IsToldToo k o → Says held (check_words f g t) o → Says held words o
says_by held words k f g t o by check too says =
    let checked = check_words f g t in
    elim says [
      | inl (e, nothing) ↦ absurd (nothing.no_check f g t check)
      | inr (inl (k', f', g', t', judge, fact)) ↦
          let e = judged_one checked 0 f g t k' f' g' t' (inl (check, refl)) judge in
          let same : SaysThree 0 held f g t o = subst (λ n. SaysThree n held f g t o) e.0 (subst (λ n. SaysThree k' held n g t o) e.1 (subst (λ n. SaysThree k' held f' n t o) e.2 (subst (λ n. SaysThree k' held f' g' n o) e.3 fact))) in
          inr (inl (k, f, g, t, by, three_too k held f g t o too same))
      | inr (inr (inl (sought, asks', fact))) ↦ absurd (check_or_match checked f g t sought check asks')
      | inr (inr (inr (inl (j, file, asks', fact)))) ↦ absurd (judged_or_one checked 0 f g t j file (inl (check, refl)) asks')
      | inr (inr (inr (inr (inl (request, asks', fact))))) ↦ absurd (convert_or_check checked request f g t asks' check)
      | inr (inr (inr (inr (inr (request, asks', fact))))) ↦ absurd (flatten_or_check checked request f g t asks' check)
    ]

says_restore : (held : List ℕ → Option (List ℕ)) (words : List (List ℕ)) (request : RestoreRequest) (o : Outcome) → AsksRestore words request → ((matching : Matching) → o ≢ AcceptedMatch matching) → Says held (check_words request.first request.second request.account) o → Says held words o
says_restore held words request o asks other =
    says_by held words 1 request.first request.second request.account o (inr (inl (request.restored, named_restore words request asks, refl))) (check_of_restore words request asks) (restore_too o other)

says_trim : (held : List ℕ → Option (List ℕ)) (words : List (List ℕ)) (request : TrimRequest) (o : Outcome) → AsksTrim words request → ((matching : Matching) → o ≢ AcceptedMatch matching) → o ≢ AcceptedRefusal → Says held (check_words request.first request.second request.account) o → Says held words o
says_trim held words request o asks other no_refusal =
    says_by held words 2 request.first request.second request.account o (inr (inr (request.trimmed, named_trim words request asks, refl))) (check_of_trim words request asks) (trim_too o other no_refusal)

-- so what is right as checked is said
says_checked : (held : List ℕ → Option (List ℕ)) (words : List (List ℕ)) (o : Outcome) (P : List (List ℕ) → Type 0) → ((checked : List (List ℕ)) → P checked → Says held checked o) → ((matching : Matching) → o ≢ AcceptedMatch matching) → AsChecked P words → Says held words o
says_checked held words o P each other right =
    elim right [
      | inl is ↦ each words is
      | inr (request, asks, is) ↦ says_restore held words request o asks other (each (check_words request.first request.second request.account) is)
    ]

says_read : (held : List ℕ → Option (List ℕ)) (words : List (List ℕ)) (o : Outcome) (P : List (List ℕ) → Type 0) → ((checked : List (List ℕ)) → P checked → Says held checked o) → ((matching : Matching) → o ≢ AcceptedMatch matching) → o ≢ AcceptedRefusal → AsRead P words → Says held words o
says_read held words o P each other no_refusal right =
    elim right [
      | inl is ↦ says_checked held words o P each other is
      | inr (request, asks, is) ↦ says_trim held words request o asks other no_refusal (each (check_words request.first request.second request.account) is)
    ]

-- an account of these three names that is accepted is told by the command that names them
says_told : (held : List ℕ → Option (List ℕ)) (words : List (List ℕ)) (k : ℕ) (f g t : List ℕ) (o : Outcome) (proved : Verdict) → JudgeBy words k f g t → AsksCheck (check_words f g t) f g t → (is : IsAccepted held (check_words f g t) proved) → Tells k is.graphs is.account proved o → Says held words o
says_told held words k f g t o proved by check is tells =
    let has = is.has in
    let graphs = is.graphs in
    let e = names_one (check_words f g t) f g t has.first_name has.second_name has.account_name check has.asks in
    let first = subst (λ name. HasGraph (held name) graphs.first) e.0 has.first_held in
    let second = subst (λ name. HasGraph (held name) graphs.second) e.1 has.second_held in
    let there = subst (λ name. held name ≡ Some is.account) e.2 has.there in
    inr (inl (k, f, g, t, by, inr (first.netlist, first.holds, inr (second.netlist, second.holds, inr (graphs, first, second, is.account, there, inl (proved, tells, is.accepted))))))

says_restored : (held : List ℕ → Option (List ℕ)) (words : List (List ℕ)) (gates : ℕ) → IsRestorable held words gates → Says held words (Restored gates)
says_restored held words gates is =
    let request = is.request in
    says_told held words 1 request.first request.second request.account (Restored gates) (verdict.Match is.matching) (inr (inl (request.restored, named_restore words request is.asks, refl))) (check_of_restore words request is.asks) is.accepted (ap Restored is.gates_are)

says_trimmed : (held : List ℕ → Option (List ℕ)) (words : List (List ℕ)) (before after : ℕ) → IsTrimmedTo held words before after → Says held words (Trimmed before after)
says_trimmed held words before after trim =
    let request = trim.is.request in
    says_told held words 2 request.first request.second request.account (Trimmed before after) trim.is.told (inr (inr (request.trimmed, named_trim words request trim.is.asks, refl))) (check_of_trim words request trim.is.asks) trim.is.accepted
    (trim.trimmed, trim.is.is, ap (λ n. Trimmed n after) trim.before_is ∙ ap (Trimmed trim.trimmed.before) trim.after_is)

-- and so are an account that is converted, its first fault of form, and that there is none

says_converted : (held : List ℕ → Option (List ℕ)) (words : List (List ℕ)) (from to records : ℕ) → IsConvertedTo held words from to records → Says held words (Converted from to records)
says_converted held words from to records is =
    let f = is.from_is in
    let t = is.to_is in
    let r = is.records_are in
    let told : Converted from to records ≡ Converted is.converted.from is.converted.to is.converted.records = cc in
    inr (inr (inr (inr (inl (is.is.request, is.is.asks, inr (is.is.account, is.is.there, inl (is.converted, is.is.is, told)))))))

says_ill : (held : List ℕ → Option (List ℕ)) (words : List (List ℕ)) (line : ℕ) (why : Why) → IsIllFormed held words line why → Says held words (Rejected line why)
says_ill held words line why is =
    inr (inr (inr (inr (inl (is.request, is.asks, inr (is.account, is.there, inr (line, is.fault, ap (Rejected line) is.why_is, is.first)))))))

says_no_old : (held : List ℕ → Option (List ℕ)) (words : List (List ℕ)) (which : Which) → which ≡ Account → LacksOld held words → Says held words (Absent which)
says_no_old held words which e lacks = inr (inr (inr (inr (inl (lacks.request, lacks.asks, inl (ap Absent e, lacks.absent))))))

-- and so are a file of models that is flattened, its first fault, and that it isn't read

says_flattened : (held : List ℕ → Option (List ℕ)) (words : List (List ℕ)) (models instances gates : ℕ) → IsFlattenedTo held words models instances gates → Says held words (Flattened models instances gates)
says_flattened held words models instances gates is =
    inr (inr (inr (inr (inr (is.is.request, is.is.asks, inr (inr (is.is.file, is.is.there, is.is.short, inl (is.flat, models, instances, is.is.is, ap (Flattened models instances) is.gates_are))))))))

says_bad_hierarchy : (held : List ℕ → Option (List ℕ)) (words : List (List ℕ)) (fault : HierFault) → IsBadHierarchy held words fault → Says held words (BadHierarchy fault)
says_bad_hierarchy held words fault is =
    inr (inr (inr (inr (inr (is.request, is.asks, inr (inr (is.file, is.there, is.short, inr (fault, refl, is.first))))))))

no_models : (content : Option (List ℕ)) (o : Outcome) → HasNoModels content o → SaysModels content o
no_models content (Absent which) lacks = inl (ap Absent lacks.0, lacks.1)
no_models content (TooLarge which) lacks = inr (inl (ap TooLarge lacks.0, lacks.1))
no_models content other lacks = absurd lacks

says_no_models : (held : List ℕ → Option (List ℕ)) (words : List (List ℕ)) (o : Outcome) → LacksModels held words o → Says held words o
says_no_models held words o lacks = inr (inr (inr (inr (inr (lacks.request, lacks.asks, no_models (held lacks.request.file) o lacks.lacks)))))

-- a budget is spent on a file that is a netlist, or on two
asked_of_spent : (held : List ℕ → Option (List ℕ)) (words : List (List ℕ)) (ledger : Ledgered) → IsSpentOn held words ledger → IsAskedOf held words
asked_of_spent held words ledger spent = record {
  file_name = spent.file_name;
  budget = spent.budget;
  asks = spent.asks;
  netlist = spent.there.netlist;
  there = spent.there.holds;
}

sought_of_spent : (held : List ℕ → Option (List ℕ)) (words : List (List ℕ)) (ledger : Ledgered) → (spent : IsSpentOnTwo held words ledger) → IsSought held words spent.first_held.netlist spent.second_held.netlist
sought_of_spent held words ledger spent = record {
  sought = spent.sought;
  asks = spent.asks;
  first_held = spent.first_held.holds;
  second_held = spent.second_held.holds;
}

says : (held : List ℕ → Option (List ℕ)) (words : List (List ℕ)) (o : Outcome) → ReadFiles words → IsDecided o → IsRight held words o → Says held words o
says held words (AcceptedMatch matching) reads decided right = says_answer held words right.graphs right.account (AcceptedMatch matching) right.has (inl (verdict.Match matching, refl, right.accepted))
says held words AcceptedRefusal reads decided right =
    says_checked held words AcceptedRefusal (λ checked. IsAccepted held checked verdict.None) (λ checked is. says_answer held checked is.graphs is.account AcceptedRefusal is.has (inl (verdict.None, refl, is.accepted))) (λ matching e. cc) right
says held words (Rejected line why) reads decided right =
    elim right [
      | inl read ↦ says_read held words (Rejected line why) (λ checked. IsRejected held checked line why) (λ checked is. says_answer held checked is.graphs is.account (Rejected line why) is.has (inr (line, why, refl, is.rejected))) (λ matching e. cc) (λ e. cc) read
      | inr ill ↦ says_ill held words line why ill
    ]
says held words (Matched matching) reads decided right = says_match held words right.first right.second (Matched matching) right.files (inl (matching, refl))
says held words NoMatching reads decided right = says_match held words right.first right.second NoMatching right.files (inr (inl refl))
says held words (Spent ledger) reads decided right =
    elim right [
      | inl one ↦ says_of held words (Spent ledger) (asked_of_spent held words ledger one) (inr (ledger, refl))
      | inr (inl two) ↦ says_match held words two.first_held.netlist two.second_held.netlist (Spent ledger) (sought_of_spent held words ledger two) (inr (inr (ledger, refl)))
      | inr (inr pair) ↦ absurd (read_or_trial words pair.number reads pair.asks)
    ]
says held words Informed reads decided right = says_of held words Informed right (inl refl)
says held words Made reads decided right = absurd (read_or_make words reads right)
says held words (Restored gates) reads decided right = says_restored held words gates right
says held words (Trimmed before after) reads decided right = says_trimmed held words before after right
says held words (Converted from to records) reads decided right = says_converted held words from to records right
says held words (Flattened models instances gates) reads decided right = says_flattened held words models instances gates right
says held words (Swept before after left) reads decided right = says_swept held words before after left right
says held words (Tried number account) reads decided right = absurd (read_or_trial words number reads right.asks)
says held words Usage reads decided right = inl (refl, right)
says held words (Absent which) reads decided right =
    elim right [
      | inl read ↦ says_read held words (Absent which) (λ checked. IsAbsent held checked which) (λ checked is. elim is [ inl early ↦ says_early held checked (Absent which) decided early | inr (e, lacks) ↦ says_absent held checked which e lacks ]) (λ matching e. cc) (λ e. cc) read
      | inr (inl (e, lacks)) ↦ says_no_old held words which e lacks
      | inr (inr lacks) ↦ says_no_models held words (Absent which) lacks
    ]
says held words (TooLarge which) reads decided right =
    elim right [
      | inl read ↦ says_read held words (TooLarge which) (λ checked. EndsEarly held checked (TooLarge which)) (λ checked is. says_early held checked (TooLarge which) decided is) (λ matching e. cc) (λ e. cc) read
      | inr lacks ↦ says_no_models held words (TooLarge which) lacks
    ]
says held words (Malformed which kind at) reads decided right =
    says_read held words (Malformed which kind at) (λ checked. EndsEarly held checked (Malformed which kind at)) (λ checked is. says_early held checked (Malformed which kind at) decided is) (λ matching e. cc) (λ e. cc) right
says held words (BadHierarchy fault) reads decided right = says_bad_hierarchy held words fault right
says held words ReadFault reads decided right = absurd (decided.read refl)
says held words WriteFault reads decided right = absurd (decided.reported.written refl)
says held words Memory reads decided right = absurd (decided.reported.room refl)

-- what one file, or a check, makes right

-- what a check says is right
right_of_check : (held : List ℕ → Option (List ℕ)) (words : List (List ℕ)) (o : Outcome) → IsOfCheck held words o → IsRight held words o
right_of_check held words (AcceptedMatch matching) is = is
right_of_check held words AcceptedRefusal is = inl is
right_of_check held words (Rejected line why) is = inl (inl (inl is))
right_of_check held words (Absent which) is = inl (inl (inl is))
right_of_check held words (TooLarge which) is = inl (inl (inl is))
right_of_check held words (Malformed which kind at) is = inl (inl is)
right_of_check held words ReadFault is = tt
right_of_check held words Memory is = tt
right_of_check held words other is = absurd is

-- and so is, for words that ask for a netlist to be restored, what a check by the first three names says, but that there is a match
pub right_of_restore : (held : List ℕ → Option (List ℕ)) (words : List (List ℕ)) (request : RestoreRequest) (o : Outcome) → AsksRestore words request → ((matching : Matching) → o ≢ AcceptedMatch matching) → IsOfCheck held (check_words request.first request.second request.account) o → IsRight held words o
right_of_restore held words request (AcceptedMatch matching) asks other is = absurd (other matching refl)
right_of_restore held words request AcceptedRefusal asks other is = inr (request, asks, is)
right_of_restore held words request (Rejected line why) asks other is = inl (inl (inr (request, asks, is)))
right_of_restore held words request (Absent which) asks other is = inl (inl (inr (request, asks, is)))
right_of_restore held words request (TooLarge which) asks other is = inl (inl (inr (request, asks, is)))
right_of_restore held words request (Malformed which kind at) asks other is = inl (inr (request, asks, is))
right_of_restore held words request ReadFault asks other is = tt
right_of_restore held words request Memory asks other is = tt
right_of_restore held words request o asks other is = absurd is

-- and for words that ask for an account to be trimmed, but that it is accepted
pub right_of_trim : (held : List ℕ → Option (List ℕ)) (words : List (List ℕ)) (request : TrimRequest) (o : Outcome) → AsksTrim words request → ((matching : Matching) → o ≢ AcceptedMatch matching) → o ≢ AcceptedRefusal → IsOfCheck held (check_words request.first request.second request.account) o → IsRight held words o
right_of_trim held words request (AcceptedMatch matching) asks other no_refusal is = absurd (other matching refl)
right_of_trim held words request AcceptedRefusal asks other no_refusal is = absurd (no_refusal refl)
right_of_trim held words request (Rejected line why) asks other no_refusal is = inl (inr (request, asks, is))
right_of_trim held words request (Absent which) asks other no_refusal is = inl (inr (request, asks, is))
right_of_trim held words request (TooLarge which) asks other no_refusal is = inl (inr (request, asks, is))
right_of_trim held words request (Malformed which kind at) asks other no_refusal is = inr (request, asks, is)
right_of_trim held words request ReadFault asks other no_refusal is = tt
right_of_trim held words request Memory asks other no_refusal is = tt
right_of_trim held words request o asks other no_refusal is = absurd is

pub right_at_first : (held : List ℕ → Option (List ℕ)) (words : List (List ℕ)) (f g t : List ℕ) → NameThree words f g t → (o : Outcome) → EndsAt First (held f) o → IsRight held words o
right_at_first held words f g t asks o ends = right_of_check held words o (at_first held words f g t asks o ends)

pub right_at_second : (held : List ℕ → Option (List ℕ)) (words : List (List ℕ)) (f g t : List ℕ) (first : Netlist) → NameThree words f g t → HasNetlist (held f) first → (o : Outcome) → EndsAt Second (held g) o → IsRight held words o
right_at_second held words f g t first asks there o ends = right_of_check held words o (at_second held words f g t first asks there o ends)

pub right_at_only : (held : List ℕ → Option (List ℕ)) (words : List (List ℕ)) (file : List ℕ) → NameOne words file → (o : Outcome) → EndsAt First (held file) o → IsRight held words o
right_at_only held words file asks o ends = right_of_check held words o (at_only held words file asks o ends)

informed_of_match : IsOfMatch Informed → ⊥
informed_of_match is = elim is [ inl (matching, e) ↦ cc | inr (inl e) ↦ cc | inr (inr (ledger, e)) ↦ cc ]

none_of_one : (k : ℕ) → IsOf k NoMatching → ⊥
none_of_one zero is = elim is [ inl e ↦ cc | inr (ledger, e) ↦ cc ]
none_of_one (suc k) (before, after, left, e) = cc

informed_of_sweep : IsOfSweep Informed → ⊥
informed_of_sweep (before, after, left, e) = cc

-- where what is known of a netlist is an outcome of a command that names one, all its outcomes are such
informed_alike : (k : ℕ) (o : Outcome) → IsOf k o → IsOf k Informed → IsOfOne o
informed_alike zero o is informed = is
informed_alike (suc k) o is sweep = absurd (informed_of_sweep sweep)

-- a match of two files is one of the circuits of which there is none
found_or_none : (held : List ℕ → Option (List ℕ)) (words : List (List ℕ)) (matching : Matching) → IsMatchFound held words matching → HasNoMatch held words → ⊥
found_or_none held words matching found none =
    let e = sought_one words none.files.sought found.files.sought none.files.asks found.files.asks in
    let f = netlist_one (held none.files.sought.first) found.first none.first (subst (λ n. HasNetlist (held n) found.first) e.0 found.files.first_held) none.files.first_held in
    let g = netlist_one (held none.files.sought.second) found.second none.second (subst (λ n. HasNetlist (held n) found.second) e.1 found.files.second_held) none.files.second_held in
    none.unequal (subst (AreNpnpEqual none.first.circuit) g (subst (λ circuit. AreNpnpEqual circuit found.second.circuit) f (matching.inputs, matching.outputs, found.matches)))

-- an outcome that is determined by files
abbrev pub IsExact : Outcome → Type 0
IsExact (AcceptedMatch matching) = Unit {0}
IsExact AcceptedRefusal = Unit {0}
IsExact (Rejected line why) = Unit {0}
IsExact (Restored gates) = Unit {0}
IsExact (Trimmed before after) = Unit {0}
IsExact (Converted from to records) = Unit {0}
IsExact (Flattened models instances gates) = Unit {0}
IsExact (Absent which) = Unit {0}
IsExact (TooLarge which) = Unit {0}
IsExact (Malformed which kind at) = Unit {0}
IsExact (BadHierarchy fault) = Unit {0}
IsExact other = ⊥

exact_of_one : (k : ℕ) (o : Outcome) → IsExact o → IsOf k o → ⊥
exact_of_one zero o exact one = elim one [ inl e ↦ subst IsExact e exact | inr (ledger, e) ↦ subst IsExact e exact ]
exact_of_one (suc k) o exact (before, after, left, e) = subst IsExact e exact

exact_of_match : (o : Outcome) → IsExact o → IsOfMatch o → ⊥
exact_of_match o exact two = elim two [ inl (matching, e) ↦ subst IsExact e exact | inr (inl e) ↦ subst IsExact e exact | inr (inr (ledger, e)) ↦ subst IsExact e exact ]

early_reads : (held : List ℕ → Option (List ℕ)) (words : List (List ℕ)) (o : Outcome) → EndsEarly held words o → ReadFiles words
early_reads held words o early =
    elim early [
      | inl at ↦ inl (at.first_name, at.second_name, at.account_name, at.asks)
      | inr (inl at) ↦ inl (at.first_name, at.second_name, at.account_name, at.asks)
      | inr (inr at) ↦ inr (inl (at.file_name, at.asks))
    ]

account_reads : (held : List ℕ → Option (List ℕ)) (words : List (List ℕ)) (graphs : Graphs) (account : List ℕ) → HasAccount held words graphs account → ReadFiles words
account_reads held words graphs account has = inl (has.first_name, has.second_name, has.account_name, inl has.asks)

-- words that ask for a netlist to be restored name files too
checked_reads : (P : List (List ℕ) → Type 0) (words : List (List ℕ)) → (P words → ReadFiles words) → AsChecked P words → ReadFiles words
checked_reads P words reads right = elim right [ inl is ↦ reads is | inr (request, asks, is) ↦ inr (inr (inl (request, asks))) ]

read_reads : (P : List (List ℕ) → Type 0) (words : List (List ℕ)) → (P words → ReadFiles words) → AsRead P words → ReadFiles words
read_reads P words reads right = elim right [ inl is ↦ checked_reads P words reads is | inr (request, asks, is) ↦ inr (inr (inr (inl (request, asks)))) ]

convert_reads : (words : List (List ℕ)) (request : ConvertRequest) → AsksConvert words request → ReadFiles words
convert_reads words request asks = inr (inr (inr (inr (inl (request, asks)))))

flatten_reads : (words : List (List ℕ)) (request : FlattenRequest) → AsksFlatten words request → ReadFiles words
flatten_reads words request asks = inr (inr (inr (inr (inr (request, asks)))))

-- where such an outcome is right the words name files
exact_reads : (held : List ℕ → Option (List ℕ)) (words : List (List ℕ)) (o : Outcome) → IsExact o → IsRight held words o → ReadFiles words
exact_reads held words (AcceptedMatch matching) exact right = account_reads held words right.graphs right.account right.has
exact_reads held words AcceptedRefusal exact right = checked_reads (λ checked. IsAccepted held checked verdict.None) words (λ is. account_reads held words is.graphs is.account is.has) right
exact_reads held words (Rejected line why) exact right = elim right [
  | inl read ↦ read_reads (λ checked. IsRejected held checked line why) words (λ is. account_reads held words is.graphs is.account is.has) read
  | inr ill ↦ convert_reads words ill.request ill.asks
]
exact_reads held words (Restored gates) exact right = inr (inr (inl (right.request, right.asks)))
exact_reads held words (Trimmed before after) exact right = inr (inr (inr (inl (right.is.request, right.is.asks))))
exact_reads held words (Converted from to records) exact right = convert_reads words right.is.request right.is.asks
exact_reads held words (Flattened models instances gates) exact right = flatten_reads words right.is.request right.is.asks
exact_reads held words (Absent which) exact right = elim right [
  | inl read ↦ read_reads (λ checked. IsAbsent held checked which) words (λ is. elim is [
    | inl early ↦ early_reads held words (Absent which) early
    | inr (e, lacks) ↦ inl (lacks.asked.first_name, lacks.asked.second_name, lacks.account_name, inl lacks.asked.asks)
  ]) read
  | inr (inl (e, lacks)) ↦ convert_reads words lacks.request lacks.asks
  | inr (inr lacks) ↦ flatten_reads words lacks.request lacks.asks
]
exact_reads held words (TooLarge which) exact right = elim right [
  | inl read ↦ read_reads (λ checked. EndsEarly held checked (TooLarge which)) words (λ is. early_reads held words (TooLarge which) is) read
  | inr lacks ↦ flatten_reads words lacks.request lacks.asks
]
exact_reads held words (Malformed which kind at) exact right = read_reads (λ checked. EndsEarly held checked (Malformed which kind at)) words (λ is. early_reads held words (Malformed which kind at) is) right
exact_reads held words (BadHierarchy fault) exact right = flatten_reads words right.request right.asks
exact_reads held words other exact right = absurd exact

sought_reads : (held : List ℕ → Option (List ℕ)) (words : List (List ℕ)) (first second : Netlist) → IsSought held words first second → ReadFiles words
sought_reads held words first second is = inl (is.sought.first, is.sought.second, is.sought.account, inr (is.sought.budget, is.sought.seed, is.asks))

-- an account that is accepted is trimmed, and one without a fault of form is converted: nothing else is said of it

trimmed_of : (held : List ℕ → Option (List ℕ)) (words : List (List ℕ)) (o : Outcome) (k : ℕ) (f g t : List ℕ) (graphs : Graphs) (account : List ℕ) (told : Verdict)
    → k ≡ 2 → HasGraph (held f) graphs.first → HasGraph (held g) graphs.second → held t ≡ Some account → Proves graphs account told → SaysThree k held f g t o → IsOfTrim o
trimmed_of held words o k f g t graphs account told is first second there proves says =
    elim says [
      | inl end ↦ absurd (end_or_netlist First (held f) o first.netlist end first.holds)
      | inr (one, at, inl end) ↦ absurd (end_or_netlist Second (held g) o second.netlist end second.holds)
      | inr (one, at, inr (two, also, inl (e, none))) ↦ cc
      | inr (one, at, inr (two, also, inr (graphs', first', second', bytes, there', answer))) ↦
          let same = graphs_same graphs' graphs (graph_one (held f) graphs'.first graphs.first first' first) (graph_one (held g) graphs'.second graphs.second second' second) in
          let text : bytes ≡ account = cc in
          elim (subst (λ n. IsAnswer n graphs account o) is (subst (λ b. IsAnswer k graphs b o) text (subst (λ two. IsAnswer k two bytes o) same answer))) [
            | inl (proved, (left, of, e), shown) ↦ (left.before, left.after, e)
            | inr (line, why, e, bad) ↦ absurd (never_both graphs account told line why proves bad)
          ]
    ]

-- The outcome of a run that was asked to say a right one is exactly what the words and the files say.
module _ (held : List ℕ → Option (List ℕ)) (words : List (List ℕ)) (asked answer : Outcome) (right : IsRight held words asked) (same : IsReported answer → answer ≡ asked) (decided : IsDecided answer) where
  stays_right : IsRight held words answer
  stays_right = subst (IsRight held words) (sym (same decided.reported)) right

  stays_said : ReadFiles words → Says held words answer
  stays_said reads = says held words answer reads decided stays_right

  pub exactly : (o : Outcome) → IsDecided o → IsExact o → (answer ≡ o) ↔ IsRight held words o
  exactly o known exact = (
    λ is. subst (IsRight held words) is stays_right,
    λ fact.
        let reads = exact_reads held words o exact fact in
        elim (says_one held words answer o (stays_said reads) (says held words o reads known fact)) [
          | inl same ↦ same
          | inr (inl (k, of, also)) ↦ absurd (exact_of_one k o exact also)
          | inr (inr both) ↦ absurd (exact_of_match o exact both.1)
        ],
  )

  pub exactly_informed : ((ledger : Ledgered) → answer ≢ Spent ledger) → (answer ≡ Informed) ↔ IsAskedOf held words
  exactly_informed unspent = (
    λ is. subst (IsRight held words) is stays_right,
    λ asked. elim (says_one held words answer Informed (stays_said (inr (inl (asked.file_name, inl (asked.budget, asked.asks))))) (says_of held words Informed asked (inl refl))) [
      | inl same ↦ same
      | inr (inl (k, of, also)) ↦ elim (informed_alike k answer of also) [ inl same ↦ same | inr (ledger, same) ↦ absurd (unspent ledger same) ]
      | inr (inr both) ↦ absurd (informed_of_match both.1)
    ],
  )

  pub of_match : IsAskedToMatch held words → IsOfMatch answer
  of_match asked = elim (says_one held words answer NoMatching (stays_said (sought_reads held words asked.first asked.second asked.files)) (says_match held words asked.first asked.second NoMatching asked.files (inr (inl refl)))) [
    | inl same ↦ inr (inl same)
    | inr (inl (k, of, also)) ↦ absurd (none_of_one k also)
    | inr (inr both) ↦ both.0
  ]

  pub of_trim : IsAskedToTrim held words → IsOfTrim answer
  of_trim asked =
      let request = asked.request in
      let check = check_of_trim words request asked.asks in
      let is = asked.accepted in
      let e = names_one (check_words request.first request.second request.account) request.first request.second request.account is.has.first_name is.has.second_name is.has.account_name check is.has.asks in
      let by : JudgeBy words 2 request.first request.second request.account = inr (inr (request.trimmed, named_trim words request asked.asks, refl)) in
      elim (stays_said (inr (inr (inr (inl (request, asked.asks)))))) [
        | inl (same, nothing) ↦ absurd (nothing.no_trim request asked.asks)
        | inr (inl (k, f, g, t, judge, says)) ↦
            let names = judged_one words k f g t 2 request.first request.second request.account judge by in
            trimmed_of held words answer k f g t is.graphs is.account asked.told (sym names.0)
            (subst (λ name. HasGraph (held name) is.graphs.first) (e.0 ∙ names.1) is.has.first_held)
            (subst (λ name. HasGraph (held name) is.graphs.second) (e.1 ∙ names.2) is.has.second_held)
            (subst (λ name. held name ≡ Some is.account) (e.2 ∙ names.3) is.has.there)
            is.accepted says
        | inr (inr (inl (sought, asks, says))) ↦ absurd (trim_or_match words request sought asked.asks asks)
        | inr (inr (inr (inl (j, file, asks, says)))) ↦ absurd (judged_or_one words 2 request.first request.second request.account j file by asks)
        | inr (inr (inr (inr (inl (other, asks, says))))) ↦ absurd (convert_or_trim words other request asks asked.asks)
        | inr (inr (inr (inr (inr (other, asks, says))))) ↦ absurd (flatten_or_trim words other request asks asked.asks)
      ]

  pub of_convert : IsAskedToConvert held words → IsOfConvert answer
  of_convert asked =
      elim (stays_said (convert_reads words asked.request asked.asks)) [
        | inl (same, nothing) ↦ absurd (nothing.no_convert asked.request asked.asks)
        | inr (inl (k, f, g, t, judge, says)) ↦ absurd (judged_or_convert words k f g t asked.request judge asked.asks)
        | inr (inr (inl (sought, asks, says))) ↦ absurd (convert_or_match words asked.request sought asked.asks asks)
        | inr (inr (inr (inl (k, file, asks, says)))) ↦ absurd (convert_or_one words asked.request k file asked.asks asks)
        | inr (inr (inr (inr (inr (other, asks, says))))) ↦ absurd (flatten_or_convert words other asked.request asks asked.asks)
        | inr (inr (inr (inr (inl (other, asks, says))))) ↦
            let same : other.account ≡ asked.request.account = ap (word_at 1) (sym asks.form ∙ asked.asks.form) in
            elim (subst (λ name. SaysOld held name answer) same says) [
              | inl (e, none) ↦ let there = asked.there in cc
              | inr (bytes, there, inl (new, is, e)) ↦ (new.from, new.to, new.records, e)
              | inr (bytes, there, inr (line, fault, e, wrong)) ↦
                  let text : bytes ≡ asked.account = let there' = asked.there in cc in
                  absurd (account_or_fault asked.account asked.records wrong.before fault asked.formed (subst (λ b. HasFormFault b wrong.before fault) text wrong.has))
            ]
      ]

  pub of_flatten : IsAskedToFlatten held words → IsOfFlatten answer
  of_flatten asked =
      let gates = length asked.flat.graph.gates in
      let told = Flattened asked.models asked.instances gates in
      let known : IsDecided told = record { read = λ e. cc; reported = record { written = λ e. cc; room = λ e. cc } } in
      (asked.models, asked.instances, gates, (exactly told known tt).1 (record { flat = asked.flat; is = asked.is; gates_are = refl }))

  pub of_sweep : IsAskedToSweep held words → IsOfSweep answer
  of_sweep asked =
      let request = asked.request in
      let by : AskOneBy words 1 request.file = inr (request, asked.asks, refl, refl) in
      elim (stays_said (inr (inl (request.file, inr (request, asked.asks, refl))))) [
        | inl (same, nothing) ↦ absurd (nothing.no_sweep request asked.asks)
        | inr (inl (k, f, g, t, judge, says)) ↦ absurd (judged_or_sweep words k f g t request judge asked.asks)
        | inr (inr (inl (sought, asks, says))) ↦ absurd (sweep_or_match words request sought asked.asks asks)
        | inr (inr (inr (inl (k, file, asks, says)))) ↦
            let names = named_once words 1 request.file k file by asks in
            elim (subst (λ name. SaysFile First (held name) (IsOf k) answer) names.1 says) [
              | inl end ↦ absurd (end_or_netlist First (held request.file) answer asked.netlist end asked.there)
              | inr (f, there, of) ↦ subst (λ n. IsOf n answer) names.0 of
            ]
        | inr (inr (inr (inr (inl (other, asks, says))))) ↦ absurd (sweep_or_convert words request other asked.asks asks)
        | inr (inr (inr (inr (inr (other, asks, says))))) ↦ absurd (sweep_or_flatten words request other asked.asks asks)
      ]

  pub exactly_none : ((ledger : Ledgered) → answer ≢ Spent ledger) → (answer ≡ NoMatching) ↔ HasNoMatch held words
  exactly_none unspent = (
    λ is. subst (IsRight held words) is stays_right,
    λ none. elim (of_match (record { first = none.first; second = none.second; files = none.files })) [
      | inl (matching, same) ↦ absurd (found_or_none held words matching (subst (IsRight held words) same stays_right) none)
      | inr (inl same) ↦ same
      | inr (inr (ledger, same)) ↦ absurd (unspent ledger same)
    ],
  )

-- outcomes between which and the words no fault came and memory did not run out

abbrev pub IsReached : Outcome → Type 0
IsReached ReadFault = ⊥
IsReached WriteFault = ⊥
IsReached Memory = ⊥
IsReached other = Unit {0}

pub reached : (o : Outcome) → IsReached o → IsDecided o
reached ReadFault is = absurd is
reached WriteFault is = absurd is
reached Memory is = absurd is
reached other is = record { read = λ e. cc; reported = record { written = λ e. cc; room = λ e. cc } }

pub reported_read : IsReported ReadFault
reported_read = record { written = λ e. cc; room = λ e. cc }

-- where no file changes, each outcome that isn't of a file that is written leaves what it says
pub leaves : (before after : List ℕ → Option (List ℕ)) (words : List (List ℕ)) (o : Outcome) → ((matching : Matching) → o ≢ Matched matching) → o ≢ NoMatching → o ≢ Made → ((gates : ℕ) → o ≢ Restored gates) → ((count left : ℕ) → o ≢ Trimmed count left) → ((from to records : ℕ) → o ≢ Converted from to records) → ((models instances gates : ℕ) → o ≢ Flattened models instances gates) → ((count rest : ℕ) (left : Option Ledgered) → o ≢ Swept count rest left) → ((n : List ℕ) → after n ≡ before n) → Leaves before after words o
leaves before after words (Matched matching) unmatched no_match no_pair no_netlist untrimmed unconverted unflattened unswept same = absurd (unmatched matching refl)
leaves before after words NoMatching unmatched no_match no_pair no_netlist untrimmed unconverted unflattened unswept same = absurd (no_match refl)
leaves before after words Made unmatched no_match no_pair no_netlist untrimmed unconverted unflattened unswept same = absurd (no_pair refl)
leaves before after words (Restored gates) unmatched no_match no_pair no_netlist untrimmed unconverted unflattened unswept same = absurd (no_netlist gates refl)
leaves before after words (Trimmed count left) unmatched no_match no_pair no_netlist untrimmed unconverted unflattened unswept same = absurd (untrimmed count left refl)
leaves before after words (Converted from to records) unmatched no_match no_pair no_netlist untrimmed unconverted unflattened unswept same = absurd (unconverted from to records refl)
leaves before after words (Flattened models instances gates) unmatched no_match no_pair no_netlist untrimmed unconverted unflattened unswept same = absurd (unflattened models instances gates refl)
leaves before after words (Swept count rest left) unmatched no_match no_pair no_netlist untrimmed unconverted unflattened unswept same = absurd (unswept count rest left refl)
leaves before after words WriteFault unmatched no_match no_pair no_netlist untrimmed unconverted unflattened unswept same = inl same
leaves before after words Memory unmatched no_match no_pair no_netlist untrimmed unconverted unflattened unswept same = inl same
leaves before after words other unmatched no_match no_pair no_netlist untrimmed unconverted unflattened unswept same = same

pub leaves_early : (before after : List ℕ → Option (List ℕ)) (words : List (List ℕ)) (o : Outcome) → IsEarly o → ((n : List ℕ) → after n ≡ before n) → Leaves before after words o
leaves_early before after words o early same = leaves before after words o (λ matching e. early.line.unmatched matching (inr e)) early.no_match early.no_pair early.no_netlist early.untrimmed early.unconverted early.unflattened early.unswept same

-- the files were read up to an outcome that ends the run
pub stopped : (tells : Bool) (command : Command) (old new : ShelfState) (result : Result Ending Outcome) (o : Outcome) → IsReadingCommand command → result ≡ Err o → ((n : List ℕ) → new.held n ≡ old.held n) → (IsTrue tells → (words : List (List ℕ)) → Ask words command → IsRight old.held words o) → IsOfReading o → NoCallFollows old new → (o ≡ ReadFault → Rose old.faults new.faults) → Decides tells command old new result
stopped tells command old new result o reader same files right reading last failed =
    subst (λ r. Decides tells command old new r) (sym same) (record {
      files = λ t n other. files n;
      left = λ t words asks. leaves_early old.held new.held words o reading.early files;
      right = right;
      by_words = λ words asks. follows_files words o (reads_of words command reader asks) reading.early.no_pair reading.early.no_trial;
      sound = λ t words asks. tt;
      report = λ words asks. tt;
      ending = tt;
      early = reading.early;
      last = last;
      failed = λ e. failed (cc e);
      unwritten = λ e. absurd (reading.unwritten (cc e));
    })

pub report_of_same : (tells : Bool) (held : List ℕ → Option (List ℕ)) (words : List (List ℕ)) (reported asked : Outcome) (text : List ℕ) → reported ≡ asked → IsReport tells held words asked text → IsReport tells held words reported text
report_of_same tells held words reported asked text same report = subst (λ o. IsReport tells held words o text) (sym same) report

-- what is sound of a check is sound
pub sound_answer : (held : List ℕ → Option (List ℕ)) (words : List (List ℕ)) (o : Outcome) → IsSound held words o → IsSoundAnswer held words o
sound_answer held words o sound = record { matches = sound.matches; refuses = λ e. inl (sound.refuses e) }

-- a check decides what its words ask for
pub check_decides : (tells : Bool) (command : Command) (check : CheckWords) (old new : ShelfState) (result : Result Ending Outcome) → command ≡ asked_check check → Checks tells check old new result → Decides tells command old new result
check_decides tells command check old new result is checks =
    subst (λ command. Decides tells command old new result) (sym is) (decides result checks)
  where
    decides : (result : Result Ending Outcome) → Checks tells check old new result → Decides tells (asked_check check) old new result
    decides (Ok ending) checks = record {
      files = λ t n other. checks.files n;
      left = λ t words asks. leaves old.held new.held words ending.outcome checks.judged.unmatched checks.judged.no_match checks.judged.no_pair checks.judged.no_netlist checks.judged.untrimmed checks.judged.unconverted checks.judged.unflattened checks.judged.unswept checks.files;
      right = λ t words asks. right_of_check old.held words ending.outcome (checks.right t words asks);
      by_words = λ words asks. follows_files words ending.outcome (reads_of words (asked_check check) tt asks) checks.judged.no_pair checks.judged.no_trial;
      sound = λ t words asks. sound_answer old.held words ending.outcome (checks.sound t words asks);
      report = λ words asks.
          let report = checks.report words asks in
          inr (inl (record {
            first = report.first;
            second = report.second;
            no_rows = checks.judged.no_rows;
            of_files = λ t. inl (report.of_files t);
            same = report.same;
          }));
      ending = record { asked = checks.judged.asked; read = checks.judged.read; unwritten = checks.judged.unwritten };
      early = tt;
      last = checks.last;
      failed = λ e. cc;
      unwritten = λ e. cc;
    }
    decides (Err o) checks =
        stopped tells (asked_check check) old new (Err o) o tt refl checks.files (λ t words asks. right_of_check old.held words o (checks.right t words asks)) checks.early checks.last (λ e. checks.failed (cc e))
