-- The keyword and the numbers are the line.
use Rattle.std.proofs.Common.{◌≡◌, ◌+◌, [], ◌∷◌, ◌++◌, length, OnOk, subst}
use Rattle.std.specs.Fmt.{decimal}
use Rattle.net_print.specs.Rows.{header_text, counts_text}
use Rattle.net_print.proofs.Parts.{header_parts}
use Rattle.net_print.proofs.Steps.{four_parts}
use Rattle.net_print.proofs.rows.put_header.Goals as goal

pub returns-clause-ok : goal.returns-clause-ok
returns-clause-ok c =
    let net = c.args.graph.now in
    let keyword = c.args.keyword.now in
    let counts = counts_text (net.inputs + length net.gates) net.inputs in
    let outputs = decimal (length net.outputs) ++ 32 ∷ [] in
    let gates = decimal (length net.gates) ++ 10 ∷ [] in
    let put_counts = rw (c.gates.ensures.value, c.inputs.ensures.value, c.inputs-2.ensures.value) at c.in_ok-put_counts.ensures.ok in
    let put_outputs = rw c.outputs.ensures.value at c.in_ok-put_number.ensures.ok in
    subst (λ text. OnOk c.put_last_number.result (c.put_last_number.new.out.items ≡ text))
    (four_parts c.args.out.now.items keyword counts outputs gates c.put_text.new.out.items c.put_counts.new.out.items c.put_number.new.out.items (header_text keyword net) c.in_ok-put_text.ensures.ok put_counts put_outputs (header_parts keyword net))
    (rw c.gates.ensures.value at c.put_last_number.ensures.ok)
