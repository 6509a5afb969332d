use Rattle.std.proofs.Common.{◌≡◌, length, sym, ap, ◌∙◌, arith}
use Rattle.chip_hist.specs.Log.{Log}
use Rattle.chip_hist.proofs.Places.{length-past_of}
use Rattle.chip_hist.proofs.history.History.len.Goals as goal

pub returns-clause-value : goal.returns-clause-value
returns-clause-value c =
    sym (length-past_of c.self.inside.bytes.items c.self.inside.cells.items c.self.inside.len) ∙ ap (λ (l : Log). length l.past) c.self.view_is

pub returns-clause-below : goal.returns-clause-below
returns-clause-below c =
    let size : c.self.inside.len ≡ length c.args.self.now.past =
    sym (length-past_of c.self.inside.bytes.items c.self.inside.cells.items c.self.inside.len) ∙ ap (λ (l : Log). length l.past) c.self.view_is in
    omega (arith, size, c.self.invariant.short)
