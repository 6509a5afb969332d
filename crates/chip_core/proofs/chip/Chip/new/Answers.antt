use Rattle.std.proofs.Common.{ℕ, List, [], ◌∷◌, refl, get_or}
use Rattle.chip_sheet.specs.Streams.{Starts}
use Rattle.chip_parts.proofs.Eight.{at_eight}
use Rattle.chip_core.specs.declared.counts.Counts.{Counts}
use Rattle.chip_core.specs.Counting.{IsCounted}
use Rattle.chip_core.proofs.chip.Chip.new.Goals as goal

pub returns-clause-stands : goal.returns-clause-stands
returns-clause-stands c =
    let starts : Starts = record { tx = c.args.tx_start; rx = c.args.rx_start } in
    let z : Counts = record { sent = 0; taken = 0; got = 0 } in
    let all : List Counts = z ∷ z ∷ z ∷ z ∷ z ∷ z ∷ z ∷ z ∷ [] in
    let one : (n : ℕ) → IsCounted starts z [] n = λ n. record { sent = refl; taken = refl; got = refl } in
    record {
      legal = tt;
      framer = c.new-2.ensures;
      parts = c.in_ok-parts.ensures;
      counts = λ n other below. at_eight (λ (k : ℕ). IsCounted starts (get_or all k other) [] k) (one 0) (one 1) (one 2) (one 3) (one 4) (one 5) (one 6) (one 7) n below;
    }
