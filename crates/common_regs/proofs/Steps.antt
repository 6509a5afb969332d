-- The steps of the registers beside the definitions over a history.
use Rattle.std.proofs.Common.{◌≡◌, ℕ, Bool, true, false, eqb, if◌then◌else◌, Option, Some, None, ◌∷◌, refl, sym, ap, ◌∙◌}
use Rattle.std.proofs.lemmas.Bool.{eqb-true}
use Rattle.std.specs.Option.{option_or, is_some}
use Rattle.std.specs.Prelude.{unwrap_or}
use Rattle.board_bus.specs.declared.event.BusAnswer.{BusAnswer}
use Rattle.board_bus.specs.declared.event.BusEvent.{BusEvent}
use Rattle.chip_sheet.specs.declared.event.Entry.TheVariants.{Bus}
use Rattle.chip_sheet.specs.declared.phase.Access.{Access}
use Rattle.chip_sheet.specs.declared.phase.Access.TheVariants.{Write}
use Rattle.chip_sheet.specs.declared.stop.ChipStop.{ChipStop}
use Rattle.chip_sheet.specs.Past.{Past}
use Rattle.chip_sheet.specs.Names.{sir}
use Rattle.chip_sheet.specs.Frames.{access}
use Rattle.chip_sheet.specs.CommonBlock.{Rule, Stored, ReadOnly, LinkUp, Place, common_place}
use Rattle.chip_sheet.specs.Registers.{is_reset, written_after, last_written, shown, shown_by, common_register}
use Rattle.chip_sheet.specs.Answers.{common_byte}
use Rattle.chip_sheet.specs.Interrupts.{sir_register}
use Rattle.chip_sheet.specs.Stops.{where_it}
use Rattle.chip_sheet.specs.Streams.{Starts}
use Rattle.common_regs.specs.Places.{kept_of, after_write, read_at}

-- a stop stands exactly where its test holds
pub stands_where : (b : Bool) (stop : ChipStop) → is_some (where_it b stop) ≡ b
stands_where true stop = refl
stands_where false stop = refl

rule_step : (rule : Rule) (reset v before : ℕ) → unwrap_or (kept_of rule v) (shown_by rule reset before) ≡ shown_by rule reset v
rule_step Stored reset v before = refl
rule_step ReadOnly reset v before = refl
rule_step LinkUp reset v before = refl

-- one place, whether the write resets, and whether it is of this place
place_step : (place : Place) (resets here : Bool) (v : ℕ) (earlier : Option ℕ)
    → (if resets then shown place None else (if here then unwrap_or (kept_of place.rule v) (shown place earlier) else shown place earlier))
    ≡ shown place (if resets then None else option_or (if here then Some v else None) earlier)
place_step place true here v earlier = refl
place_step place false true v earlier = rule_step place.rule place.reset v (unwrap_or earlier place.reset)
place_step place false false v earlier = refl

-- a write of the block, in a history
pub writes : (past : Past) (e : BusEvent) (a : BusAnswer) (addr v at : ℕ) → access past e ≡ Write 0 addr v
    → after_write addr v (common_register past) at ≡ common_register (Bus e a ∷ past) at
writes past e a addr v at made =
    place_step (common_place at) (is_reset (Write 0 addr v)) (eqb addr at) v (last_written past 0 at)
    ∙ sym (ap (λ (m : Access). shown (common_place at) (written_after m (last_written past 0 at) 0 at)) made)

choose : (b : Bool) (x y : ℕ) → (if b then x else y) ≡ (elim b [ true ↦ x | false ↦ y ])
choose true x y = refl
choose false x y = refl

pub reads : (starts : Starts) (past : Past) (addr : ℕ) → read_at (common_register past) (sir_register starts past) addr ≡ common_byte starts past addr
reads starts past addr = choose (eqb addr sir) (sir_register starts past) (common_register past addr)

-- SIR itself keeps nothing
pub nothing_at_sir : (past : Past) → common_register past sir ≡ 0
unfolding common_place
nothing_at_sir past = refl

-- so an address reads what it keeps, where no socket asks for an interrupt
no_interrupt : (b : Bool) (x : ℕ) → (b ≡ true → x ≡ 0) → (if b then 0 else x) ≡ x
no_interrupt true x h = sym (h refl)
no_interrupt false x h = refl

pub reads_without_interrupt : (past : Past) (addr : ℕ) → read_at (common_register past) 0 addr ≡ common_register past addr
reads_without_interrupt past addr = no_interrupt (eqb addr sir) (common_register past addr)
    (λ here. ap (common_register past) (eqb-true addr sir here) ∙ nothing_at_sir past)
