-- The board beside the microcontroller, as the schedule of a scripted run sees it: what happened on the chip's bus and its links, the
-- scripted peers, and what it answers to the firmware.
use Rattle.std.specs.Prelude.{ℕ, ◌+◌, Bool, true, false, ◌||◌, nat_le, List, [], ◌∷◌, length, Option, Some, None, if◌then◌else◌}
use Rattle.board_bus.specs.declared.event.BusEvent.{BusEvent}
use Rattle.board_bus.specs.declared.event.BusEvent.TheVariants.{Select, Byte, Look}
use Rattle.chip_sheet.specs.declared.event.Entry.TheVariants.{Bus}
use Rattle.chip_sheet.specs.Past.{Past}
use Rattle.chip_sheet.specs.Streams.{Starts}
use Rattle.chip_sheet.specs.Answers.{answer}
use Rattle.chip_sheet.specs.Stops.{stop}
use Rattle.chip_hist.specs.Log.{weight_of}
use Rattle.chip_hist.specs.declared.limits.TheConstants.{MOST_EVENTS}
use Rattle.link_script.specs.Scripts.{Script}
use Rattle.link_script.specs.Play.{Played}
use Rattle.link_script.specs.Start.{first_state}
use Rattle.avr_space.specs.Peer.{AnswerTo}
use Rattle.avr_mcu.specs.Answers.{reads, over, first_wanted}

pub record Board : Type 0 where
  -- where the positions of connections begin, and the weight that the history may have
  pub starts : Starts
  pub events : ℕ
  -- what happened, the newest first
  pub past : Past
  -- the scripted peers
  pub links : Played
  -- the first event that the firmware asked and that got no answer
  pub wanted : Option BusEvent
  -- since the last sweep: changes of the select line and bytes, and instructions
  pub bytes : ℕ
  pub steps : ℕ

-- Before the first step.
abbrev pub fresh : Starts → ℕ → List Script → Board
fresh starts events scripts = record {
  starts = starts;
  events = events;
  past = [];
  links = first_state scripts;
  wanted = None;
  bytes = 0;
  steps = 0;
}

-- The history has reached its limit.
abbrev pub is_full_at : ℕ → Past → Bool
is_full_at events past = nat_le events (weight_of past) || nat_le MOST_EVENTS (length past)

abbrev pub is_there : {A : Type 0} → Option A → Bool
is_there None = false
is_there (Some a) = true

-- An event of the bus gets no answer where one before it got none, where the history is full, and where the chip stops at it.
abbrev pub is_refused : Board → BusEvent → Bool
is_refused b c = is_there b.wanted || (is_full_at b.events b.past || is_there (stop b.starts b.past c))

-- Else it is answered as the datasheet says after all that happened.
unfoldable pub answers : Board → (c : BusEvent) → AnswerTo c
answers b c = if is_refused b c then over c else reads c (answer b.starts b.past c)

-- Changes of the select line and bytes bring the next sweep nearer.
abbrev pub counted : BusEvent → ℕ
counted (Select low) = 1
counted (Byte mosi) = 1
counted Look = 0

-- What an event makes of the board: where it is answered it stands in the history, and else the first of them is kept.
unfoldable pub next : Board → BusEvent → Board
next b c =
    if is_refused b c then record b { wanted = first_wanted c b.wanted } else
    record b { past = Bus c (answer b.starts b.past c) ∷ b.past; bytes = b.bytes + counted c }
