-- What is so of a socket that is closed.
use Rattle.std.proofs.Common.{◌≡◌, true, refl, sym, ap, ◌∙◌}
use Rattle.chip_sheet.specs.declared.socket.Status.{Status}
use Rattle.chip_sheet.specs.declared.socket.Status.TheVariants.{Closed}
use Rattle.chip_sheet.specs.Past.{Past}
use Rattle.chip_sheet.specs.Streams.{Starts}
use Rattle.chip_sheet.specs.Life as sheet
use Rattle.chip_sheet.proofs.ResetLaws.{closed_flight, closed_unread}
use Rattle.chip_parts.specs.declared.parts.Parts.{Parts}
use Rattle.chip_parts.specs.Holding.{Holds, ClosedIsEmpty}

closed_is : (at : Status) → sheet.is_closed at ≡ true → at ≡ Closed
closed_is Closed h = refl
closed_is at h = cc

pub closed_is_empty : (starts : Starts) (past : Past) (parts : Parts) → Holds starts parts past → ClosedIsEmpty parts
closed_is_empty starts past parts held n other below closed =
    let is : sheet.status past n ≡ Closed = closed_is (sheet.status past n) (sym (ap (λ (l : sheet.Life). sheet.is_closed l.status) (held.lives n other below).life) ∙ closed) in
    (sym (held.tx n below).flight ∙ closed_flight starts past n is, sym (held.rx n below).unread ∙ closed_unread starts past n is)
