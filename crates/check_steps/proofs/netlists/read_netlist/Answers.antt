-- What the bytes of the file are, said of the file under the name.
use Rattle.std.proofs.Common.{rules, subst}
use Rattle.check_steps.specs.Files.{Tells}
use Rattle.check_steps.proofs.ReadLemmas.{reads_bytes}
use Rattle.check_steps.proofs.netlists.read_netlist.Goals as goal

pub returns-in-Bytes : goal.returns-in-Bytes
returns-in-Bytes g c =
    reads_bytes _ _ c.args.name.now _ _ c.in-Bytes.bytes.items c.deref.result.now _ (search rules) c.read_file.ensures.files c.in_ok-read_file.ensures.closed c.in_ok-read_file.ensures.clean (λ tells. subst (λ file. Tells 67108864 ((g.S.Shelf.state c.args.shelf.now).held c.args.name.now) file) c.in-Bytes.is (c.in_ok-read_file.ensures.found tells)) c.parse_netlist.ensures.netlist c.parse_netlist.ensures.stop
