-- The first of the inputs that are left was printed.
use Rattle.std.proofs.Common.{◌+◌, ◌*◌, [], ◌∷◌, ◌++◌, map, refl}
use Rattle.std.specs.Fmt.{decimal}
use Rattle.net_print.specs.Rows.{rows_text, input_row}
use Rattle.net_print.proofs.Steps.{next_of_range}
use Rattle.net_print.proofs.aag.InputRowsParts.put_next.Goals as goal

pub returns-clause-same : goal.returns-clause-same
returns-clause-same c =
    let rows = c.args.self.now in
    next_of_range (λ inputs. rows_text (map input_row inputs)) c.args.out.now.items c.put_last_number.new.out.items (decimal (2 * (rows.next + 1)) ++ 10 ∷ []) rows.next rows.inputs c.if-self.false (λ rest. refl) c.in_ok-put_last_number.ensures.ok
