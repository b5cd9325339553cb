-- Outcomes that end a run early.
use Rattle.std.proofs.Common.{inl, inr, subst}
use Rattle.check_steps.specs.Reading.{IsEarly, IsOfReading}
use Rattle.check_steps.specs.declared.outcome.Outcome.{Outcome}
use Rattle.check_steps.specs.declared.outcome.Outcome.TheVariants.{Spent, Absent, TooLarge, Malformed, ReadFault, WriteFault, Memory}

abbrev pub EndsReading : Outcome → Type 0
EndsReading (Spent ledger) = Unit {0}
EndsReading (Absent which) = Unit {0}
EndsReading (TooLarge which) = Unit {0}
EndsReading (Malformed which kind at) = Unit {0}
EndsReading ReadFault = Unit {0}
EndsReading Memory = Unit {0}
EndsReading other = ⊥

abbrev pub EndsRun : Outcome → Type 0
EndsRun WriteFault = Unit {0}
EndsRun other = EndsReading other

ends_run : (o : Outcome) → EndsReading o → EndsRun o
ends_run WriteFault is = absurd is
ends_run other is = is

pub early : (o : Outcome) → EndsRun o → IsEarly o
early o is = record {
  line = record {
    unmatched = λ matching has. elim has [ inl e ↦ subst EndsRun e is | inr e ↦ subst EndsRun e is ];
    no_rows = λ e. subst EndsRun e is;
  };
  no_refusal = λ e. subst EndsRun e is;
  no_match = λ e. subst EndsRun e is;
  no_pair = λ e. subst EndsRun e is;
  no_netlist = λ gates e. subst EndsRun e is;
  untrimmed = λ before after e. subst EndsRun e is;
  unconverted = λ from to records e. subst EndsRun e is;
  unflattened = λ models instances gates e. subst EndsRun e is;
  unswept = λ before after left e. subst EndsRun e is;
  no_trial = λ number account e. subst EndsRun e is;
  asked = λ e. subst EndsRun e is;
}

pub of_reading : (o : Outcome) → EndsReading o → IsOfReading o
of_reading o is = record { early = early o (ends_run o is); unwritten = λ e. subst EndsReading e is }
