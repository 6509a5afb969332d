use Rattle.std.proofs.Common.{◌<◌, subst, sym}
use Rattle.avr_core.specs.Code.{said_at}
use Rattle.avr_core.specs.Ops.{IsOp}
use Rattle.avr_core.proofs.Codes.{got}
use Rattle.avr_core.proofs.code.Code.op.Goals as goal

pub returns : goal.returns
returns c =
    subst (λ f. IsOp c.index.result.now (said_at f c.args.at)) c.self.view_is
    (c.self.invariant.each c.args.at c.index.result.now (got c.self.inside.ops.items c.args.at c.index.result.now (subst (λ n. c.args.at < n) (sym c.self.invariant.count) c.requires) c.index.ensures))
