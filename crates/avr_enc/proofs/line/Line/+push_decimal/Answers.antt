use Rattle.std.proofs.Common.{◌+◌, [], ◌∷◌, ◌++◌, ◌/◌, ◌%◌, length, ap, sym, ◌∙◌, arith, append_assoc, length-append}
use Rattle.std.specs.Fmt.{decimal}
use Rattle.std.proofs.lemmas.Fmt.{decimal_digit}
use Rattle.avr_enc.proofs.Digits.{last_digit, length_one, length_more}
use Rattle.avr_enc.proofs.line.Line.+push_decimal.Goals as goal

pub push-requires : goal.push-requires
push-requires t c = omega (arith, length_one c.args.n c.if-n-lt10.true)

pub push_decimal-requires : goal.push_decimal-requires
push_decimal-requires t c = (omega arith, omega (arith, length_more c.args.n (omega arith) (omega arith)))

pub push-requires-else-n-lt10 : goal.push-requires-else-n-lt10
push-requires-else-n-lt10 t c =
    omega (
      arith,
      length_more c.args.n (omega arith) (omega arith),
      ap length c.push_decimal.ensures,
      length-append c.args.self.now (decimal (c.args.n / 10)),
    )

pub returns-then-n-lt10 : goal.returns-then-n-lt10
returns-then-n-lt10 t c = c.push.ensures ∙ ap (λ ds. c.args.self.now ++ ds) (sym (decimal_digit c.args.n c.if-n-lt10.true))

pub returns-else-n-lt10 : goal.returns-else-n-lt10
returns-else-n-lt10 t c =
    c.push-else-n-lt10.ensures
    ∙ ap (λ ds. ds ++ (48 + c.args.n % 10) ∷ []) c.push_decimal.ensures
    ∙ append_assoc c.args.self.now (decimal (c.args.n / 10)) ((48 + c.args.n % 10) ∷ [])
    ∙ ap (λ ds. c.args.self.now ++ ds) (sym (last_digit c.args.n (omega arith) (omega arith)))
