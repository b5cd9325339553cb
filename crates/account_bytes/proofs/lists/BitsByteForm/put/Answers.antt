-- A byte for each bit.
use Rattle.std.proofs.Common.{◌++◌, length, ap, sym, ◌∙◌}
use Rattle.std.proofs.lemmas.List.Concat.{flat_map_single}
use Rattle.byte_form.specs.Codes.{number_bytes}
use Rattle.account_bytes.specs.Bodies.{bit_byte}
use Rattle.account_bytes.proofs.lists.BitsByteForm.put.Goals as goal

pub returns-clause-bytes : goal.returns-clause-bytes
returns-clause-bytes c =
    let bits = c.args.self.now in
    c.in_ok-put_bits.ensures.bytes ∙ ap (λ m. c.args.out.now.items ++ (number_bytes 8 (length bits) ++ m)) (sym (flat_map_single bit_byte bits))
