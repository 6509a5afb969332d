-- What an access is for a socket: a reset, a command or nothing, and no event of the link.
use Rattle.std.proofs.Common.{◌≡◌, ℕ, Bool, true, false, ◌&&◌, cond, eqb, refl}
use Rattle.chip_sheet.specs.declared.phase.Access.{Access}
use Rattle.chip_sheet.specs.declared.phase.Access.TheVariants.{NoAccess, Read, Write}
use Rattle.chip_sheet.specs.declared.socket.Cause.{Cause}
use Rattle.chip_sheet.specs.declared.socket.Cause.TheVariants as because
use Rattle.chip_sheet.specs.Past.{Past}
use Rattle.chip_sheet.specs.Blocks.{registers_of}
use Rattle.chip_sheet.specs.Registers.{is_reset}
use Rattle.chip_sheet.specs.Life.{cause_by, command, opening, protocol}

-- The cause is no event of the link.
abbrev pub of_access : Cause → Bool
of_access because.Linked = false
of_access because.Accepted = false
of_access because.Refused = false
of_access because.TimedOut = false
of_access (because.Took count) = false
of_access because.Got = false
of_access (because.Datagram count) = false
of_access because.Ended = false
of_access because.Shut = false
of_access because.Failed = false
of_access because.Dropped = false
of_access why = true

either : (b : Bool) (x y : Cause) → of_access x ≡ true → of_access y ≡ true → of_access (cond b x y) ≡ true
either true x y h k = h
either false x y h k = k

opening_is : (protocol : ℕ) → of_access (opening protocol) ≡ true
opening_is protocol = either (eqb protocol 1) because.OpenTcp _ refl (either (eqb protocol 2) because.OpenUdp because.Nothing refl refl)

command_is : (protocol v : ℕ) → of_access (command protocol v) ≡ true
command_is protocol v =
    either (eqb v 0x01) (opening protocol) _ (opening_is protocol)
    (either (eqb v 0x02) because.Listen _ refl
    (either (eqb v 0x04) because.Connect _ refl
    (either (eqb v 0x08) because.Disconnect _ refl
    (either (eqb v 0x10) because.Close _ refl
    (either (eqb v 0x20) because.Send _ refl
    (either (eqb v 0x40) because.Receive because.Nothing refl refl))))))

pub access_cause : (past : Past) (n : ℕ) (made : Access) → of_access (cause_by past n made) ≡ true
access_cause past n NoAccess = refl
access_cause past n (Read block addr) = refl
access_cause past n (Write block addr v) =
    either (is_reset (Write block addr v)) because.Reset _ refl
    (either (eqb block (registers_of n) && eqb addr 0x01) (command (protocol past n) v) because.Nothing (command_is (protocol past n) v) refl)
