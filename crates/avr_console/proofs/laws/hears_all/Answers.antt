use Rattle.avr_console.proofs.Hearing.{hears-all}
use Rattle.avr_console.proofs.laws.hears_all.Goals as goal

pub returns : goal.returns
returns c = λ bytes operations. hears-all bytes operations
