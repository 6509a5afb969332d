-- Where bytes or datagrams are to be read the socket is open.
use Rattle.std.proofs.Common.{◌≡◌, ℕ, ◌/◌, Bool, true, false, refl}
use Rattle.chip_sheet.specs.declared.socket.Due.{Due}
use Rattle.chip_sheet.specs.declared.socket.Due.TheVariants as due
use Rattle.chip_sheet.specs.Past.{Past}
use Rattle.chip_sheet.specs.Life.{status}
use Rattle.chip_sheet.specs.Streams.{Starts, is_open}
use Rattle.chip_sheet.specs.LinkCalls.{due_at}
use Rattle.chip_steps.proofs.Moving.{moves, due_open}

-- a call that brings bytes in
abbrev pub brings : Due → Bool
brings (due.Read c) = true
brings (due.ReadAway c) = true
brings (due.RecvFrom c port) = true
brings call = false

moves_in : (call : Due) → brings call ≡ true → moves call ≡ true
moves_in (due.Read c) h = refl
moves_in (due.ReadAway c) h = refl
moves_in (due.RecvFrom c port) h = refl
moves_in call h = cc

pub opens : (starts : Starts) (past : Past) (place : ℕ) → brings (due_at starts past place) ≡ true → is_open (status past (place / 2)) ≡ true
opens starts past place h = due_open starts past place (moves_in (due_at starts past place) h)
