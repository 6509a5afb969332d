use Rattle.std.proofs.Common.{◌≡◌, ℕ, List, get_or, ap, ◌∙◌}
use Rattle.flash.specs.Image.{erased}
use Rattle.ihex.specs.Flash.{written}
use Rattle.ihex.specs.Text.{data_in}
use Rattle.ihex.proofs.Flash.{flash_at}
use Rattle.ihex.proofs.text.load.Goals as goal

pub returns-then-ended-clause-bytes : goal.returns-then-ended-clause-bytes
unfolding data_in
returns-then-ended-clause-bytes c =
    let all : c.read_lines.new.reader.image ≡ written erased (data_in c.args.text.now) =
    rw (c.in_ok-reader.ensures.image, c.in_ok-reader.ensures.above) at c.in_ok-number.ensures.image in
    λ at below. ap (λ (image : List ℕ). get_or image at 0) all ∙ flash_at (data_in c.args.text.now) at below
