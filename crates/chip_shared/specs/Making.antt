-- One call of the links, of whatever kind: what it needs, what it makes of them, and what it is answered.
use Rattle.std.specs.Prelude.{◌≡◌, ◌≤◌, ◌<◌, ℕ, Bool, true, false, List, length, Option}
use Rattle.chip_sheet.specs.declared.event.ConnId.{ConnId}
use Rattle.chip_sheet.specs.declared.event.LinkWhat.{LinkWhat}
use Rattle.chip_sheet.specs.declared.socket.Due.{Due}
use Rattle.chip_sheet.specs.declared.socket.Due.TheVariants as due
use Rattle.chip_sheet.specs.LinkAnswers.{LinkAnswer, entry_by, may_answer}
use Rattle.chip_sheet.specs.LinkCalls.{due_at}
use Rattle.chip_sheet.specs.Windows.{most_read}
use Rattle.link_trait.specs.Calls.{Call}
use Rattle.link_trait.specs.Shown.{Shown, Lists, Makes}
use Rattle.chip_shared.specs.State.{State}
use Rattle.chip_shared.specs.Asking.{IsOpen}
use Rattle.chip_shared.specs.Calling.{call_of, did_at, is_due}
use Rattle.chip_shared.specs.Causes.{Does}
use Rattle.chip_shared.specs.Entries.{entry_for, did_for}

-- A call is due at a place, and what it brings has room.
pub record Begins {L : Type 0} (old : State L) (place : ℕ) (call : Due) : Type 0 where
  pub at : place < 16
  pub due : due_at old.starts old.log.past place ≡ call
  pub some : is_due call ≡ true
  pub open_ : IsOpen old
  pub room : 0 < old.log.spare_events
  pub data_room : most_read ≤ old.log.spare_bytes

-- The call does not read into the buffer of the chip.
abbrev pub is_elsewhere : Due → Bool
is_elsewhere (due.Read c) = false
is_elsewhere call = true

-- What the links need of a call, where these connections are made and so many bytes are offered: its connection is of one of the eight
-- sockets; where it is written to or read it is made; a write has bytes.
abbrev pub Needs : Due → (ConnId → Bool) → ℕ → Type 0
Needs due.Nothing made offered = ⊥
Needs (due.Drop c) made offered = c.sn < 8
Needs (due.Connect c to) made offered = c.sn < 8
Needs (due.Write c) made offered = (c.sn < 8) × ((made c ≡ true) × (0 < offered))
Needs (due.SendTo c port to) made offered = c.sn < 8
Needs (due.Shut c) made offered = c.sn < 8
Needs (due.Accept c port) made offered = c.sn < 8
Needs (due.Read c) made offered = (c.sn < 8) × (made c ≡ true)
Needs (due.ReadAway c) made offered = (c.sn < 8) × (made c ≡ true)
Needs (due.RecvFrom c port) made offered = c.sn < 8

-- The call was made, where this is offered and these bytes are in flight; its answer is one that may come, and what the link did is the
-- entry that the answer brings.
pub record Made {L : Type 0} (effect : L → Call → LinkAnswer → L → Type 0) (shown : L → Shown) (old : L) (call : Due) (offered flight : List ℕ) (what : Option LinkWhat) (new : L) : Type 0 where
  pub answer : LinkAnswer
  pub does : (room : ℕ) → Does effect shown old (call_of call offered flight room) answer new
  pub lists : (room : ℕ) → Lists (shown old) (call_of call offered flight room) answer (shown new)
  pub makes : (room : ℕ) → Makes (shown old) (call_of call offered flight room) answer (shown new)
  pub may : (room : ℕ) → may_answer call (length offered) room answer ≡ true
  pub entry : (n : ℕ) → entry_for n what ≡ entry_by n (length flight) call answer
  pub did : (place : ℕ) → did_for place what ≡ did_at place answer
