-- A play over the devices is a play over the peer.
use Rattle.std.proofs.Common.{◌≡◌, ap, subst, ◌∙◌}
use Rattle.avr_core.specs.Ask.{Ask, Give, Call, Plays}
use Rattle.avr_core.specs.Calls.{DataCall, AnswerTo as DataAnswer}
use Rattle.avr_space.specs.Peer.{AnswerTo}
use Rattle.board_bus.specs.declared.event.BusEvent.{BusEvent}
use Rattle.avr_space.specs.declared.devices.Devices.{Devices}
use Rattle.avr_space.specs.Devices.{handled, device}
use Rattle.avr_space.specs.Through.{followed, through}

-- one after the other
pub plays-followed : {C : Type 0} {A : C → Type 0} {R S B : Type 0} (did : B → (c : C) → A c → B → Type 0)
    (tree : Ask C A R) (next : R → Ask C A S) (before mid after : B) (r : R) (s : S)
    → Plays did before tree r mid → Plays did mid (next r) s after → Plays did before (followed tree next) s after
plays-followed did (Give x) next before mid after r s one two =
    subst (λ y. Plays did before (next y) s after) one.0 (subst (λ b. Plays did b (next r) s after) one.1 two)
plays-followed did (Call c go) next before mid after r s one two =
    (one.0, one.1, one.2, plays-followed did (go one.0) next one.1 mid after r s one.3 two)

-- a bus whose calls are handled by the devices over a peer; D is the bus, with the devices and the peer that it holds
pub plays-through : {R B D : Type 0} (did : B → (c : BusEvent) → AnswerTo c → B → Type 0) (devices : D → Devices) (peer : D → B)
    (tree : Ask DataCall DataAnswer R) (before after : D) (r : R)
    → Plays (λ s c a t. Plays did (peer s) (device c (devices s)) (handled a (devices t)) (peer t)) before tree r after
    → Plays did (peer before) (through tree (devices before)) (handled r (devices after)) (peer after)
plays-through did devices peer (Give x) before after r it =
    (ap (λ h. handled h (devices after)) it.0 ∙ ap (λ b. handled x (devices b)) it.1, ap peer it.1)
plays-through did devices peer (Call c go) before after r it =
    plays-followed did (device c (devices before)) (λ h. through (go h.answer) h.devices) (peer before) (peer it.1) (peer after) (handled it.0 (devices it.1)) (handled r (devices after)) it.2
    (plays-through did devices peer (go it.0) it.1 after r it.3)

-- what each call keeps, a play keeps
pub plays-keep : {C : Type 0} {A : C → Type 0} {R B X : Type 0} (f : B → X) (did : B → (c : C) → A c → B → Type 0)
    → ((s : B) (c : C) (a : A c) (t : B) → did s c a t → f t ≡ f s)
    → (tree : Ask C A R) (before after : B) (r : R) → Plays did before tree r after → f after ≡ f before
plays-keep f did keeps (Give x) before after r it = ap f it.1
plays-keep f did keeps (Call c go) before after r it =
    plays-keep f did keeps (go it.0) it.1 after r it.3 ∙ keeps before c it.0 it.1 it.2

-- a play of a stronger relation
pub plays-weaken : {C : Type 0} {A : C → Type 0} {R B : Type 0} (did less : B → (c : C) → A c → B → Type 0)
    → ((s : B) (c : C) (a : A c) (t : B) → did s c a t → less s c a t)
    → (tree : Ask C A R) (before after : B) (r : R) → Plays did before tree r after → Plays less before tree r after
plays-weaken did less weaken (Give x) before after r it = it
plays-weaken did less weaken (Call c go) before after r it =
    (it.0, it.1, weaken before c it.0 it.1 it.2, plays-weaken did less weaken (go it.0) it.1 after r it.3)
