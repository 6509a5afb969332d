-- The stops of a command: the first of those that need no buffer, then those of SEND and RECV.
use Rattle.std.proofs.Common.{◌≡◌, ℕ, List, [], ◌∷◌, Option, Some, None, refl}
use Rattle.chip_sheet.specs.declared.stop.ChipStop.{ChipStop}
use Rattle.chip_sheet.specs.Stops.{CommandFacts, first, command_stop, send_mac, raw_ethernet, multicast, bad_buffer_size, send_busy, send_too_long, recv_past_end}
use Rattle.sock_cmd.specs.LifeStops.{life_stop}

-- The first of four and more is the first of the first of the four, and the others.
first_of_first : (a b c d : Option ChipStop) (more : List (Option ChipStop)) → first (a ∷ b ∷ c ∷ d ∷ more) ≡ first (first (a ∷ b ∷ c ∷ d ∷ []) ∷ more)
first_of_first (Some stop) b c d more = refl
first_of_first None (Some stop) c d more = refl
first_of_first None None (Some stop) d more = refl
first_of_first None None None (Some stop) more = refl
first_of_first None None None None more = refl

pub in_order : (n : ℕ) (facts : CommandFacts) (c : ℕ) → command_stop n facts c ≡ first (
    life_stop n facts.status facts.mode facts.valid c ∷
    send_busy n facts.status facts.flight c ∷
    send_too_long n facts.status facts.len facts.free c ∷
    recv_past_end n facts.status facts.asked facts.there c ∷
    [])
in_order n facts c = first_of_first
    (send_mac n c) (raw_ethernet n facts.status facts.mode c) (multicast n facts.status facts.mode c)
    (bad_buffer_size n facts.status facts.mode facts.valid c) _
