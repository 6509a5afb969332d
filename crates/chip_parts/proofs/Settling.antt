-- The two directions after a command that is no SEND and no RECV.
use Rattle.std.proofs.Common.{◌≡◌, ℕ, Bool, true, false, ◌∷◌, refl, ap, ◌∙◌}
use Rattle.chip_sheet.specs.declared.event.Entry.{Entry}
use Rattle.chip_sheet.specs.declared.socket.Status.{Status}
use Rattle.chip_sheet.specs.declared.socket.Status.TheVariants as status_is
use Rattle.chip_sheet.specs.declared.socket.Cause.{Cause}
use Rattle.chip_sheet.specs.declared.socket.Cause.TheVariants as because
use Rattle.chip_sheet.specs.Past.{Past}
use Rattle.chip_sheet.specs.Frames.{access_of}
use Rattle.chip_sheet.specs.Life.{Facts, facts_of, life, next, begins, cause, status}
use Rattle.chip_sheet.specs.Streams.{Starts, is_open}
use Rattle.chip_sheet.specs.Buffers.{sending, receiving}
use Rattle.chip_steps.specs.Steps.{writes_command_alone, leaves_sent, leaves_got, is_quiet}
use Rattle.chip_steps.proofs.Going.{status_next}
use Rattle.chip_steps.proofs.SendingSteps as sends
use Rattle.chip_steps.proofs.ReceivingSteps as receives
use Rattle.sock_cmd.specs.declared.command.Effect.{Effect}
use Rattle.sock_cmd.specs.declared.command.Effect.TheVariants as come_to
use Rattle.sock_cmd.specs.Effects.{effect_of}
use Rattle.chip_parts.specs.Settling.{settled, got_settled}

-- It leaves both directions' lists, and the socket is open after it so.
record Leaves (why : Cause) (at : Status) (facts : Facts) (after : Bool) : Type 0 where
  sent : leaves_sent why at ≡ true
  got : leaves_got why at ≡ true
  open_after : is_open (next at why facts) ≡ after

-- What an effect says of the command and the status that it found.
abbrev Suits : Effect → Cause → Status → Facts → Type 0
Suits come_to.Opened why at facts = begins why at ≡ true
Suits come_to.Closed why at facts = Leaves why at facts false
Suits effect why at facts = Leaves why at facts (is_open at)

suits : (why : Cause) (at : Status) (facts : Facts) → is_quiet why ≡ true → Suits (effect_of at why) why at facts
suits because.Nothing status_is.Closed facts h = record { sent = refl; got = refl; open_after = refl }
suits because.Nothing status_is.Init facts h = record { sent = refl; got = refl; open_after = refl }
suits because.Nothing at facts h = record { sent = refl; got = refl; open_after = refl }
suits because.OpenTcp status_is.Closed facts h = refl
suits because.OpenTcp at facts h = record { sent = refl; got = refl; open_after = refl }
suits because.OpenUdp status_is.Closed facts h = refl
suits because.OpenUdp at facts h = record { sent = refl; got = refl; open_after = refl }
suits because.Listen status_is.Closed facts h = record { sent = refl; got = refl; open_after = refl }
suits because.Listen status_is.Init facts h = record { sent = refl; got = refl; open_after = refl }
suits because.Listen at facts h = record { sent = refl; got = refl; open_after = refl }
suits because.Connect status_is.Closed facts h = record { sent = refl; got = refl; open_after = refl }
suits because.Connect status_is.Init facts h = record { sent = refl; got = refl; open_after = refl }
suits because.Connect at facts h = record { sent = refl; got = refl; open_after = refl }
suits because.Disconnect status_is.Closed facts h = record { sent = refl; got = refl; open_after = refl }
suits because.Disconnect status_is.Init facts h = record { sent = refl; got = refl; open_after = refl }
suits because.Disconnect at facts h = record { sent = refl; got = refl; open_after = refl }
suits because.Close status_is.Closed facts h = record { sent = refl; got = refl; open_after = refl }
suits because.Close status_is.Init facts h = record { sent = refl; got = refl; open_after = refl }
suits because.Close at facts h = record { sent = refl; got = refl; open_after = refl }
suits why at facts h = cc

sent_by : (starts : Starts) (past : Past) (entry : Entry) (n : ℕ) (effect : Effect) → writes_command_alone (access_of past entry) n ≡ true
    → Suits effect (cause past n entry) (status past n) (facts_of (cause past n entry) (life past n)) → sending starts (entry ∷ past) n ≡ settled effect (sending starts past n)
sent_by starts past entry n come_to.Opened alone it = sends.opens starts past entry n alone it
sent_by starts past entry n come_to.Closed alone it =
    sends.empties starts past entry n alone it.sent (ap is_open (status_next (life past n) (cause past n entry)) ∙ it.open_after)
sent_by starts past entry n effect alone it =
    sends.stays starts past entry n alone it.sent (ap is_open (status_next (life past n) (cause past n entry)) ∙ it.open_after)

got_by : (starts : Starts) (past : Past) (entry : Entry) (n : ℕ) (effect : Effect) → writes_command_alone (access_of past entry) n ≡ true
    → Suits effect (cause past n entry) (status past n) (facts_of (cause past n entry) (life past n)) → receiving starts (entry ∷ past) n ≡ got_settled effect (receiving starts past n)
got_by starts past entry n come_to.Opened alone it = receives.opens starts past entry n alone it
got_by starts past entry n come_to.Closed alone it =
    receives.empties starts past entry n alone it.got (ap is_open (status_next (life past n) (cause past n entry)) ∙ it.open_after)
got_by starts past entry n effect alone it =
    receives.stays starts past entry n alone it.got (ap is_open (status_next (life past n) (cause past n entry)) ∙ it.open_after)

pub sent_settled : (starts : Starts) (past : Past) (entry : Entry) (n : ℕ) → writes_command_alone (access_of past entry) n ≡ true → is_quiet (cause past n entry) ≡ true
    → sending starts (entry ∷ past) n ≡ settled (effect_of (status past n) (cause past n entry)) (sending starts past n)
sent_settled starts past entry n alone quiet =
    sent_by starts past entry n (effect_of (status past n) (cause past n entry)) alone (suits (cause past n entry) (status past n) (facts_of (cause past n entry) (life past n)) quiet)

pub received_settled : (starts : Starts) (past : Past) (entry : Entry) (n : ℕ) → writes_command_alone (access_of past entry) n ≡ true → is_quiet (cause past n entry) ≡ true
    → receiving starts (entry ∷ past) n ≡ got_settled (effect_of (status past n) (cause past n entry)) (receiving starts past n)
received_settled starts past entry n alone quiet =
    got_by starts past entry n (effect_of (status past n) (cause past n entry)) alone (suits (cause past n entry) (status past n) (facts_of (cause past n entry) (life past n)) quiet)
