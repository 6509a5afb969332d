-- What a seat knows.
use Rattle.std.specs.Prelude.{ℕ, ◌+◌, ◌-◌, List, [], ◌∷◌, length, true, false, if◌then◌else◌, nat_lt, Option, Some, None}
use Rattle.board_bus.specs.declared.event.BusEvent.{BusEvent}
use Rattle.chip_sheet.specs.declared.event.Entry.{Entry}
use Rattle.chip_sheet.specs.Past.{Past}
use Rattle.chip_sheet.specs.Streams.{Starts}
use Rattle.chip_shared.specs.State.{State}
use Rattle.chip_lock.specs.declared.over.Found.{Found}
use Rattle.chip_lock.specs.declared.over.Over.{Over}
use Rattle.chip_lock.specs.declared.over.Over.TheVariants.{Stopped, TraceFull, NoMemory, PollFault, Finished}
use Rattle.chip_lock.specs.declared.table.Stage.{Stage}
use Rattle.chip_lock.specs.declared.table.Stage.TheVariants.{Idle, Inside}
use Rattle.chip_lock.specs.declared.table.Terms.{Terms}
use Rattle.chip_lock.specs.declared.table.View.{View}
use Rattle.chip_lock.specs.Standing.{KeptState, past_of}

abbrev pub Placed : Type 0
Placed = ℕ × Entry

-- The terms of a state, and the starts of positions in them.
abbrev pub terms_of : {L : Type 0} → State L → Terms
terms_of s = record { tx_start = s.starts.tx; rx_start = s.starts.rx; limit = s.log.limit }

abbrev pub starts_in : Terms → Starts
starts_in terms = record { tx = terms.tx_start; rx = terms.rx_start }

-- The only seat, which may be split.
abbrev pub newcomer : Terms → View
newcomer terms = record { stage = Idle; terms = terms; seen = []; mine = []; theirs = []; told = []; parts = 2; is_joined = false; runs = 2; asked = 0; ended = None; their_end = None; found = None; gave = None; their_found = None; their_gave = None; live = 0; calls = 0; cause = None }

-- What is left of a seat that was joined.
abbrev pub spent : View
spent = record (newcomer (record { tx_start = 0; rx_start = 0; limit = 0 })) { parts = 0; runs = 0 }

abbrev pub first_half : View → View
first_half v = record (newcomer v.terms) { seen = v.seen; mine = v.mine; parts = 1; runs = 1; asked = v.asked; found = v.found; gave = v.gave }

abbrev pub second_half : View → View
second_half v = record (newcomer v.terms) { seen = v.seen; parts = 1; runs = 1 }

-- Both seats' lists, calls and causes.
abbrev pub joined : View → View → View
joined v w = record (newcomer v.terms) { seen = v.seen; mine = v.mine; theirs = w.mine; told = w.seen; parts = v.parts + w.parts; is_joined = true; runs = v.runs + w.runs; asked = v.asked + w.asked; ended = v.ended; their_end = w.ended; found = v.found; gave = v.gave; their_found = w.found; their_gave = w.gave }

-- The seat at another stage.
abbrev pub at_stage : View → Stage → View
at_stage v stage = record v { stage = stage }

-- The seat in the turn of its ticket, where it finds this state.
abbrev pub inside : {L : Type 0} → View → ℕ → KeptState L → View
inside v t k = record v { stage = Inside t; seen = past_of k; live = k.live; calls = k.state.calls; cause = k.cause }

-- A seat ends where one pass less has not ended.
abbrev pub end_of : {L : Type 0} → View → KeptState L → Option Over
end_of v k = if nat_lt k.live v.live then k.cause else v.ended

-- A turn that sets a stop as the first cause has found it, with this event at this place.
abbrev pub found_after : Option Over → Option Over → ℕ → BusEvent → Option Found → Option Found
found_after (Some c) now place event found = found
found_after None None place event found = found
found_after None (Some (Stopped s)) place event found = Some (record { place = place; event = event; stop = s })
found_after None (Some TraceFull) place event found = found
found_after None (Some NoMemory) place event found = found
found_after None (Some PollFault) place event found = found
found_after None (Some Finished) place event found = found

-- One that sets a cause from outside as the first has given it.
abbrev pub gave_after : Option Over → Option Over → Option Over → Option Over
gave_after (Some c) now gave = gave
gave_after None None gave = gave
gave_after None (Some (Stopped s)) gave = gave
gave_after None (Some TraceFull) gave = gave
gave_after None (Some NoMemory) gave = gave
gave_after None (Some PollFault) gave = Some PollFault
gave_after None (Some Finished) gave = Some Finished

-- The newest entry of a past with its place, before these.
abbrev pub with_newest : Past → List Placed → List Placed
with_newest [] mine = mine
with_newest (e ∷ past) mine = (length past, e) ∷ mine

-- The seat after its turn, which left this state.
abbrev pub left_with : {L : Type 0} → View → KeptState L → View
left_with v k =
    record v {
      stage = Idle;
      seen = past_of k;
      mine = with_newest (past_of k) v.mine;
      runs = v.runs + k.live - v.live;
      asked = v.asked + k.state.calls - v.calls;
      ended = end_of v k;
      found = found_after v.cause k.cause (length v.seen) k.last v.found;
      gave = gave_after v.cause k.cause v.gave;
    }
