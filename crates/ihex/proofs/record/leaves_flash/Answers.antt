use Rattle.ihex.proofs.Flash.{not_data}
use Rattle.ihex.proofs.record.leaves_flash.Goals as goal

pub returns-else-bytes-eq0 : goal.returns-else-bytes-eq0
returns-else-bytes-eq0 c = not_data c.args.base c.args.bytes.now c.if-bytes-eq0.false
