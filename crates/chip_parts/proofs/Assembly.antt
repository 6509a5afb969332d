-- The parts after an entry that touches one socket at most, changes no size and no common register.
use Rattle.std.proofs.Common.{◌≡◌, ◌≢◌, ℕ, false, ◌∷◌, get_or, inl, inr, sym, ◌∙◌, subst}
use Rattle.std.proofs.lemmas.Bool.{cases_eq}
use Rattle.chip_sheet.specs.declared.event.Entry.{Entry}
use Rattle.chip_sheet.specs.Past.{Past}
use Rattle.chip_sheet.specs.Frames.{access_of}
use Rattle.chip_sheet.specs.Registers.{is_reset, common_register}
use Rattle.chip_sheet.specs.Sizes.{tx_sizes, rx_sizes, resizes}
use Rattle.chip_sheet.specs.Streams.{Starts}
use Rattle.chip_sheet.specs.Sending.{Sending}
use Rattle.chip_sheet.specs.Receiving.{Receiving}
use Rattle.chip_sheet.specs.Buffers.{sending, receiving}
use Rattle.chip_sheet.specs.Quiet.{writes_to}
use Rattle.chip_sheet.proofs.Quiet.{leaves_all}
use Rattle.chip_steps.proofs.ReadSteps.{common_same, sizes_same}
use Rattle.common_regs.specs.declared.registers.CommonRegs.{CommonRegs}
use Rattle.common_regs.specs.Holding as common
use Rattle.sock_cmd.specs.declared.life.Life.{Life}
use Rattle.sock_cmd.specs.Lives.{IsAfter}
use Rattle.sock_cmd.proofs.SocketLives.{stays}
use Rattle.ring_mem.specs.Buffers.{TxHolds, RxHolds, OthersSend, OthersReceive, tx_kilobytes, rx_kilobytes}
use Rattle.chip_parts.specs.declared.parts.Parts.{Parts}
use Rattle.chip_parts.specs.Holding.{Holds, Shows, OthersUntouched}

-- What the entry is, and what it makes of the parts of its own socket.
pub record OneSteps (starts : Starts) (past : Past) (entry : Entry) (sn : ℕ) (old new : Parts) : Type 0 where
  pub on : is_reset (access_of past entry) ≡ false
  pub elsewhere : writes_to (access_of past entry) 0 ≡ false
  pub no_tx_size : resizes past tx_sizes (access_of past entry) ≡ false
  pub no_rx_size : resizes past rx_sizes (access_of past entry) ≡ false
  pub others : OthersUntouched past entry sn
  pub tx_start : new.tx_start ≡ old.tx_start
  pub rx_start : new.rx_start ≡ old.rx_start
  pub common : new.common ≡ old.common
  pub shows : Shows starts new (entry ∷ past)
  pub life : (other : Life) → IsAfter (get_or new.lives sn other) (entry ∷ past) sn
  pub other_lives : (m : ℕ) (other : Life) → m ≢ sn → get_or new.lives m other ≡ get_or old.lives m other
  pub tx : TxHolds new.rings sn (sending starts (entry ∷ past) sn)
  pub rx : RxHolds new.rings sn (receiving starts (entry ∷ past) sn)
  pub other_tx : OthersSend old.rings new.rings sn
  pub other_rx : OthersReceive old.rings new.rings sn
  pub tx_sizes : tx_kilobytes new.rings ≡ tx_kilobytes old.rings
  pub rx_sizes : rx_kilobytes new.rings ≡ rx_kilobytes old.rings

pub one_steps : (starts : Starts) (past : Past) (entry : Entry) (sn : ℕ) (old new : Parts) → Holds starts old past → OneSteps starts past entry sn old new → Holds starts new (entry ∷ past)
one_steps starts past entry sn old new held step = record {
  tx_start = step.tx_start ∙ held.tx_start;
  rx_start = step.rx_start ∙ held.rx_start;
  common = subst (λ (r : CommonRegs). common.Reads r (common_register (entry ∷ past))) (sym step.common) (λ at. held.common at ∙ sym (common_same past entry at step.on step.elsewhere));
  shows = step.shows;
  lives = λ n other below. elim (cases_eq n sn) [
    | inl is ↦ subst (λ (k : ℕ). IsAfter (get_or new.lives k other) (entry ∷ past) k) (sym is) (step.life other)
    | inr away ↦
        subst (λ (l : Life). IsAfter l (entry ∷ past) n) (sym (step.other_lives n other away))
        (stays (get_or old.lives n other) past entry n (held.lives n other below) (step.others n away).nothing)
  ];
  tx = λ n below. elim (cases_eq n sn) [
    | inl is ↦ subst (λ (k : ℕ). TxHolds new.rings k (sending starts (entry ∷ past) k)) (sym is) step.tx
    | inr away ↦
        subst (λ (s : Sending). TxHolds new.rings n s) (sym (leaves_all starts past entry n (step.others n away)).sending)
        (step.other_tx n (sending starts past n) below away (held.tx n below))
  ];
  rx = λ n below. elim (cases_eq n sn) [
    | inl is ↦ subst (λ (k : ℕ). RxHolds new.rings k (receiving starts (entry ∷ past) k)) (sym is) step.rx
    | inr away ↦
        subst (λ (g : Receiving). RxHolds new.rings n g) (sym (leaves_all starts past entry n (step.others n away)).receiving)
        (step.other_rx n (receiving starts past n) below away (held.rx n below))
  ];
  tx_sizes = step.tx_sizes ∙ held.tx_sizes ∙ sym (sizes_same past entry tx_sizes step.on step.no_tx_size);
  rx_sizes = step.rx_sizes ∙ held.rx_sizes ∙ sym (sizes_same past entry rx_sizes step.on step.no_rx_size);
}
