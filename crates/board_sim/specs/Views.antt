-- The shared state of a scripted run, as the schedule sees it.
use Rattle.std.specs.Prelude.{ℕ, Option}
use Rattle.board_bus.specs.declared.event.BusEvent.{BusEvent}
use Rattle.chip_shared.specs.State.{State}
use Rattle.link_script.specs.Links.{played_of}
use Rattle.link_script.specs.declared.script_links.ScriptLinks.{ScriptLinks}
use Rattle.board_sim.specs.Boards.{Board}

-- The board whose chip, history and links these are, with the first event that got no answer, and the counts since the last sweep.
abbrev pub board_of : State ScriptLinks → Option BusEvent → ℕ → ℕ → Board
board_of now wanted bytes steps = record {
  starts = now.starts;
  events = now.log.limit;
  past = now.log.past;
  links = played_of now.links;
  wanted = wanted;
  bytes = bytes;
  steps = steps;
}
