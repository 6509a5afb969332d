use Rattle.std.proofs.Common.{arith}
use Rattle.avr_table.proofs.Long.{long_36, long_37, short_37, short_else}
use Rattle.avr_table.proofs.decoder.two_words.Goals as goal

pub returns-in-36 : goal.returns-in-36
returns-in-36 c = long_36 c.args.word (omega arith) c.in-36.is

pub returns-then-word-eq0 : goal.returns-then-word-eq0
returns-then-word-eq0 c = long_37 c.args.word (omega arith) (omega arith) (omega arith)

pub returns-else-word-eq0 : goal.returns-else-word-eq0
returns-else-word-eq0 c = short_37 c.args.word (omega arith) (omega arith) (λ h. omega arith)

pub returns-in_default : goal.returns-in_default
returns-in_default c = short_else c.args.word (omega arith) (λ h. omega arith) (λ h. omega arith)
