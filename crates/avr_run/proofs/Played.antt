-- A play over a bus that is a function of its state, where the play ends well.
use Rattle.std.proofs.Common.{◌≡◌, ap, subst, ◌∙◌}
use Rattle.avr_core.specs.Ask.{Give, Call, Plays}
use Rattle.avr_space.specs.Peer.{AnswerTo, OfBus}
use Rattle.board_bus.specs.declared.event.BusEvent.{BusEvent}
use Rattle.avr_run.specs.Steps.{Played, played, Functional}

pub record PlayedTo {B V R : Type 0} (view : B → V) (IsWell : B → Type 0) (answers : V → (c : BusEvent) → AnswerTo c) (next : V → BusEvent → V)
    (tree : OfBus R) (before after : B) (r : R) : Type 0 where
  pub well : IsWell before
  pub result : r ≡ (played answers next tree (view before)).result
  pub bus : view after ≡ (played answers next tree (view before)).bus

pub plays-by : {R B V : Type 0} (did : B → (c : BusEvent) → AnswerTo c → B → Type 0) (view : B → V) (IsWell : B → Type 0)
    (answers : V → (c : BusEvent) → AnswerTo c) (next : V → BusEvent → V)
    → ((p : B) (c : BusEvent) (a : AnswerTo c) (q : B) → did p c a q → IsWell q → Functional view IsWell answers next p c a q)
    → (tree : OfBus R) (before after : B) (r : R) → Plays did before tree r after → IsWell after
    → PlayedTo view IsWell answers next tree before after r
plays-by did view IsWell answers next law (Give x) before after r play well =
    record { well = subst IsWell play.1 well; result = play.0; bus = ap view play.1 }
plays-by {R = R} {V = V} did view IsWell answers next law (Call c go) before after r play well =
    let rest = plays-by did view IsWell answers next law (go play.0) play.1 after r play.3 well in
    let one = law before c play.0 play.1 play.2 rest.well in
    let same : played answers next (go play.0) (view play.1) ≡ played answers next (go (answers (view before) c)) (next (view before) c) =
    ap (λ a. played answers next (go a) (view play.1)) one.answers_is
    ∙ ap (λ (v : V). played answers next (go (answers (view before) c)) v) one.next_is in
    record {
      well = one.well;
      result = rest.result ∙ ap (λ (x : Played V R). x.result) same;
      bus = rest.bus ∙ ap (λ (x : Played V R). x.bus) same;
    }
