use Rattle.std.proofs.Common.{refl}
use Rattle.std.specs.Prelude.{Contains}
use Rattle.account_core.specs.Ports.{IsKnown}
use Rattle.fact_bans.proofs.WiderLemmas.{all_wider, three_among}
use Rattle.match_search.proofs.AskLemmas.{each_of_three}
use Rattle.match_search.proofs.StepLemmas.{goes_by, goes_ok, gone_none}
use Rattle.match_search.proofs.swap_bans.exclude_three.Goals as goal

pub returns-in_default-clause-goes_on : goal.returns-in_default-clause-goes_on
returns-in_default-clause-goes_on g c = goes_ok (gone_none c.requires.may)

pub swap_mismatch-requires : goal.swap_mismatch-requires
swap_mismatch-requires g c =
    let three = rw c.in-Some.is at c.inputs_and_output.ensures in
    let known = each_of_three (IsKnown c.args.graphs.now) three c.requires.one_known c.requires.other_known c.requires.third_known in
    record {
      may = c.requires.may;
      pairs = record {
        one = record { kind_is = three.one_is; known = known.0 };
        other = record { kind_is = three.other_is; known = known.1 };
        output = record { kind_is = three.output; known = known.2 };
      };
    }

pub returns : goal.returns
returns g c =
    let three = rw c.in-Some.is at c.inputs_and_output.ensures in
    record {
      goes_on = goes_by c.swap_mismatch.ensures.same c.swap_mismatch.ensures.makes refl;
      covers = λ pairs one other third.
          let within = each_of_three (Contains pairs) three one other third in
          all_wider _ _ pairs _ (three_among _ _ _ pairs within.0 within.1 within.2) c.swap_mismatch.ensures.covers;
    }
