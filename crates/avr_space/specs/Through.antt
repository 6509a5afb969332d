-- Trees of calls over other trees.
use Rattle.avr_core.specs.Ask.{Ask, Give, Call}
use Rattle.avr_core.specs.Calls.{DataCall, AnswerTo}
use Rattle.avr_space.specs.Devices.{Handled, handled, device}
use Rattle.avr_space.specs.Peer.{OfBus}
use Rattle.avr_space.specs.declared.devices.Devices.{Devices}

-- A tree, and then another by its result.
abbrev pub followed : {C : Type 0} {A : C → Type 0} {R S : Type 0} → Ask C A R → (R → Ask C A S) → Ask C A S
followed (Give r) next = next r
followed (Call c go) next = Call c (λ a. followed (go a) next)

-- The calls on the data bus, each done by the devices.
abbrev pub through : {R : Type 0} → Ask DataCall AnswerTo R → Devices → OfBus (Handled R)
through (Give r) ds = Give (handled r ds)
through (Call c go) ds = followed (device c ds) (λ h. through (go h.answer) h.devices)
