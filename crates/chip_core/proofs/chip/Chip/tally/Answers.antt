use Rattle.std.proofs.Common.{ap, ◌∙◌}
use Rattle.chip_sheet.specs.Life.{Life, status_code}
use Rattle.chip_core.proofs.chip.Chip.tally.Goals as goal

pub returns : goal.returns
returns c = λ starts past stands.
    let sn = c.args.sn in
    let life = (stands.parts.lives sn _ c.requires).life in
    let counted = stands.counts sn _ c.requires in
    let status = c.status.ensures ∙ ap (λ (at : Life). status_code at.status) life in
    let lives = c.lives.ensures ∙ ap (λ (at : Life). at.lives) life in
    λ i. record { status = status i; lives = lives i; sent = counted.sent i; taken = counted.taken i; got = counted.got i }
