use Rattle.ihex.proofs.Flash.{data_fits}
use Rattle.ihex.proofs.record.Reader.apply.Goals as goal

pub write-requires : goal.write-requires
write-requires c =
    data_fits c.args.self.now.base c.args.bytes.now c.place_of.result c.payload.result.now c.requires.inside c.in-0.is c.place_of.ensures.place c.payload.ensures
