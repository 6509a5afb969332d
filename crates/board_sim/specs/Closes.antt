-- Closing: once the firmware has ended, what is in flight is offered to the links.
use Rattle.std.specs.Prelude.{ℕ, zero, suc, ◌+◌, ◌-◌, ◌*◌, length, Bool, true, false, not, if◌then◌else◌}
use Rattle.chip_sheet.specs.Life.{lives}
use Rattle.chip_sheet.specs.Streams.{sent, taken}
use Rattle.chip_sheet.specs.LinkCalls.{due_at}
use Rattle.chip_shared.specs.Calling.{is_due}
use Rattle.chip_shared.specs.declared.shared.LinkDid.{LinkDid}
use Rattle.chip_shared.specs.declared.shared.LinkDid.TheVariants.{Did, NotYet, Fault, Idle}
use Rattle.board_sim.specs.Boards.{Board, is_full_at}
use Rattle.board_sim.specs.Sweeps.{Swept, whole, cut_off, did, linked}

-- A call is due at the outgoing place of socket n.
abbrev pub is_out_due_on : Board → ℕ → Bool
is_out_due_on b n = is_due (due_at b.starts b.past (2 * n))

-- The link went on: the next call may be made at once.
abbrev pub went_on : LinkDid → Bool
went_on (Did place) = true
went_on (NotYet place) = false
went_on (Fault place) = false
went_on Idle = false

-- Link steps at the outgoing place of socket n while something is due there, up to a call that was answered NotYet or failed, at most
-- so many.
unfoldable pub drained : ℕ → Board → ℕ → Swept
drained zero b n = whole b
drained (suc most) b n =
    if not (is_out_due_on b n) then whole b else
    if is_full_at b.events b.past then cut_off b else
    if went_on (did b (2 * n)) then drained most (linked b (2 * n)) n else
    whole (linked b (2 * n))

-- The bytes that were sent in the present life of socket n, and that its link has not taken.
abbrev pub untaken : Board → ℕ → ℕ
untaken b n =
    let life = lives b.past n in
    length (sent b.starts b.past n life) - taken b.past n life

-- No more link steps are made for a socket: a step that goes on takes some of those bytes, or it is one of three, which drop a life that
-- closed, make the connection and tell its end; and one step may not go on.
abbrev pub most_steps : Board → ℕ → ℕ
most_steps b n = untaken b n + 4

-- So many sockets from n on, one after another; where the history is full, that ends it.
unfoldable pub closed_from : ℕ → Board → ℕ → Board
closed_from zero b n = b
closed_from (suc more) b n =
    let d = drained (most_steps b n) b n in
    if d.cut then d.board else closed_from more d.board (n + 1)

abbrev pub closed : Board → Board
closed b = closed_from 8 b 0
