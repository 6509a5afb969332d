use Rattle.std.proofs.Common.{length, ap, arith, length-append}
use Rattle.std.specs.Fmt.{decimal}
use Rattle.avr_enc.proofs.Digits.{length_short}
use Rattle.avr_enc.proofs.line.Line.push_number.Goals as goal

pub push_decimal-requires : goal.push_decimal-requires
push_decimal-requires c = omega (arith, length_short c.args.n (omega arith))

pub returns-clause-short : goal.returns-clause-short
returns-clause-short c =
    omega (arith, length_short c.args.n (omega arith), ap length c.push_decimal.ensures, length-append c.args.self.now (decimal c.args.n))
