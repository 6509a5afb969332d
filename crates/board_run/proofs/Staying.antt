-- What no event of the bus changes, and serving the links between steps.
use Rattle.std.proofs.Common.{◌≡◌, refl, sym, ◌∙◌, subst}
use Rattle.board_bus.specs.declared.event.BusEvent.{BusEvent}
use Rattle.avr_core.specs.Ask.{Give, Call, Plays}
use Rattle.avr_space.specs.Peer.{AnswerTo, OfBus}
use Rattle.ready_loop.proofs.Quiet.{serves_same, serves_then}
use Rattle.chip_lock.specs.Passes.{PassView, StaysOf}
use Rattle.board_run.specs.Wires.{Keeps, WireView}
use Rattle.board_run.specs.Sides.{Quiet}

pub stays_then : (old mid new : PassView) → StaysOf old mid → StaysOf mid new → StaysOf old new
stays_then old mid new first second = record {
  turn = second.turn ∙ first.turn;
  starts = second.starts ∙ first.starts;
  limit = second.limit ∙ first.limit;
}

pub keeps_same : (w : WireView) → Keeps w w
keeps_same w = record { turn = refl; stays = record { turn = refl; starts = refl; limit = refl } }

pub keeps_then : (old mid new : WireView) → Keeps old mid → Keeps mid new → Keeps old new
keeps_then old mid new first second = record {
  turn = second.turn ∙ first.turn;
  stays = stays_then old.pass mid.pass new.pass first.stays second.stays;
}

pub keeps_is : (old mid new : WireView) → Keeps old mid → new ≡ mid → Keeps old new
keeps_is old mid new keeps is = subst (λ (w : WireView). Keeps old w) (sym is) keeps

-- The events of a step.
pub plays_keep : {R : Type 0} (did : WireView → (c : BusEvent) → AnswerTo c → WireView → Type 0) (law : (p : WireView) (c : BusEvent) (a : AnswerTo c) (q : WireView) → did p c a q → Keeps p q)
    (tree : OfBus R) (before : WireView) (result : R) (after : WireView) → Plays did before tree result after → Keeps before after
plays_keep did law (Give r) before result after it = keeps_is before before after (keeps_same before) it.1
plays_keep did law (Call c next) before result after (answer, between, one, rest) =
    keeps_then before between after (law before c answer between one) (plays_keep did law (next answer) between result after rest)

-- Sweeps between the steps.
pub quiet_same : (p : PassView) → Quiet p p
quiet_same p = record { serves = serves_same p; gave = refl }

pub quiet_then : (old mid new : PassView) → Quiet old mid → Quiet mid new → Quiet old new
quiet_then old mid new first second = record {
  serves = serves_then old mid new first.serves second.serves;
  gave = second.gave ∙ first.gave;
}
