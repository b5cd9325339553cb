use Rattle.std.proofs.Common.{refl}
use Rattle.account_file.proofs.StepLemmas.{steps_read, steps_say}
use Rattle.account_file.proofs.reader.Reader.next.Goals as goal

pub returns-clause-answer : goal.returns-clause-answer
returns-clause-answer c = λ bytes records has.
    steps_say c.args.self.now c.take_next.new.self bytes records has c.args.self.now.fault c.take_next.result refl c.take_next.ensures.steps

pub returns-clause-reads : goal.returns-clause-reads
returns-clause-reads c = λ bytes records has.
    steps_read c.args.self.now c.take_next.new.self bytes records has c.args.self.now.fault c.take_next.result refl c.take_next.ensures.steps
