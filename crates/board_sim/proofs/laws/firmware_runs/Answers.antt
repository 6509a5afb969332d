use Rattle.board_sim.proofs.FirmwareRun.{firmware_run}
use Rattle.board_sim.proofs.laws.firmware_runs.Goals as goal

pub returns : goal.returns
returns c = firmware_run
