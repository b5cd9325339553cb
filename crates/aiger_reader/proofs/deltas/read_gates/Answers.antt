-- One more gate, and a pair that is bad.
use Rattle.std.proofs.Common.{◌≡◌, ℕ, ◌+◌, ◌*◌, List, [], ◌∷◌, ◌++◌, length, IfOk, IfErr, refl, subst, sym, arith, rules}
use Rattle.net_file.specs.declared.fault.NetKind.TheVariants as kind
use Rattle.net_file.specs.declared.fault.NetStop.{NetStop}
use Rattle.net_file.specs.declared.fault.NetStop.TheVariants as stop
use Rattle.net_file.proofs.StopLemmas.{stop_passed}
use Rattle.aiger_reader.specs.Deltas.{BeginsFirst, BeginsSecond, BeginsGates, IsBadPair, IsPairStop}
use Rattle.aiger_reader.proofs.PairLemmas.{gates_push, pair_fault}
use Rattle.aiger_reader.proofs.ResultLemmas.{ok_before, err_made}
use Rattle.aiger_reader.proofs.deltas.read_gates.Goals as goal

pub returns-in_err-pair-clause-stop : goal.returns-in_err-pair-clause-stop
returns-in_err-pair-clause-stop c =
    let i = c.loop-t in
    let cursor = c.args.cursor.now in
    let variable = c.args.inputs + 1 in
    let Q : NetStop → Type 0 = IsPairStop variable c.args.count cursor in
    let left = i.cursor.at + length i.cursor.bytes in
    let literal = 2 * (c.args.inputs + 1 + i.t) in
    let count : length i.gates.items ≡ i.t = omega (arith, i.invariant.count, i.gates.ok.0) in
    let told : IfErr c.map_err.result Q = err_made c.next_pair.result c.map_err.result _ (IsBadPair literal i.cursor.bytes left) Q c.map_err.ensures.cases c.next_pair.ensures.bad (λ at s made bad. let e : s ≡ stop.Fault (record { kind = kind.Delta; at = at }) = search rules in subst Q (sym e) (refl, pair_fault variable c.args.count literal (cursor.at + length cursor.bytes) left at cursor.bytes i.cursor.bytes i.gates.items i.invariant.gates (omega arith) (omega arith) i.invariant.end bad)) in
    stop_passed c.map_err.result _ _ _ _ c.in_err-pair.was c.from_residual.ensures.1 told (λ fault at is. is)

pub loop-t-preserved : goal.loop-t-preserved
loop-t-preserved c =
    let i = c.loop-t in
    let variable = c.args.inputs + 1 in
    let count : length i.gates.items ≡ i.t = omega (arith, i.invariant.count, i.gates.ok.0) in
    let longer : c.push.new.self.items ≡ i.gates.items ++ c.in_ok-pair.pair ∷ [] = cc (c.in_ok-push.ensures.items) in
    let literal = 2 * (c.args.inputs + 1 + i.t) in
    let P : List (ℕ × ℕ) → Type 0 = λ gates. BeginsGates variable c.args.cursor.now.bytes gates c.next_pair.new.cursor.bytes in
    let F : ℕ × ℕ → Type 0 = λ pair. (middle : List ℕ) × BeginsFirst literal i.cursor.bytes pair.0 middle × BeginsSecond pair.0 middle pair.1 c.next_pair.new.cursor.bytes in
    let first : F c.in_ok-pair.pair = subst (λ r. IfOk r F) (ok_before c.next_pair.result c.map_err.result _ c.in_ok-pair.pair c.map_err.ensures.cases c.in_ok-pair.was) c.next_pair.ensures.first in
    record {
      count = omega (arith, c.in_ok-push.ensures.len);
      gates = subst P (sym longer) (gates_push variable literal c.args.cursor.now.bytes i.cursor.bytes c.next_pair.new.cursor.bytes i.gates.items c.in_ok-pair.pair i.invariant.gates (omega arith) first);
      end = omega (arith, c.next_pair.ensures.end);
    }
