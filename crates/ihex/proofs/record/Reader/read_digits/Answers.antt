use Rattle.std.proofs.Common.{◌≡◌, true, rules}
use Rattle.std.specs.List.{list_all}
use Rattle.ihex.specs.Digits.{is_digit}
use Rattle.ihex.proofs.Pairs.{long_fault}
use Rattle.ihex.proofs.record.Reader.read_digits.Goals as goal

pub returns-then-digits-gt520-clause-fault : goal.returns-then-digits-gt520-clause-fault
returns-then-digits-gt520-clause-fault c =
    let all : list_all is_digit c.args.digits.now ≡ true = first_of (cc, search rules) in
    long_fault c.args.self.now.base c.args.digits.now all c.if-digits-ne0.false c.if-digits-gt520.true
