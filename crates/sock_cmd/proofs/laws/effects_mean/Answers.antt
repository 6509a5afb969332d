use Rattle.sock_cmd.proofs.laws.effects_mean.Goals as goal
use Rattle.sock_cmd.proofs.EffectCases.{means}

pub returns : goal.returns
returns c = means
