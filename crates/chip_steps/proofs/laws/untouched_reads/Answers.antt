use Rattle.chip_steps.proofs.ReadSteps.{untouched_reads, asks_same, sir_same, common_same, sizes_same}
use Rattle.chip_steps.proofs.laws.untouched_reads.Goals as goal

pub returns : goal.returns
returns c = record { registers = untouched_reads; asks = asks_same; sir = sir_same; common = common_same; sizes = sizes_same }
