use Rattle.std.proofs.Common.{ℕ, ◌∷◌, [], List, refl, get_or, ◌∙◌}
use Rattle.chip_sheet.specs.Streams.{Starts}
use Rattle.chip_sheet.specs.SocketBlock.{socket_register}
use Rattle.sock_regs.specs.declared.registers.SockRegs.{SockRegs}
use Rattle.sock_regs.specs.Holding.{Reads}
use Rattle.sock_regs.proofs.History.{fresh}
use Rattle.sock_cmd.specs.declared.life.Life.{Life}
use Rattle.sock_cmd.specs.Lives.{IsAfter}
use Rattle.chip_parts.proofs.Eight.{at_eight}
use Rattle.chip_parts.proofs.parts.Parts.new.Goals as goal

pub returns : goal.returns
returns c =
    let starts : Starts = record { tx = c.args.tx_start; rx = c.args.rx_start } in
    let r : SockRegs = c.new-3.result in
    let l : Life = c.new-4.result in
    let regs : List SockRegs = r ∷ r ∷ r ∷ r ∷ r ∷ r ∷ r ∷ r ∷ [] in
    let lives : List Life = l ∷ l ∷ l ∷ l ∷ l ∷ l ∷ l ∷ l ∷ [] in
    let one : (n : ℕ) → Reads r (socket_register starts [] n) = λ n at here. c.new-3.ensures at here ∙ fresh starts n at here in
    record {
      tx_start = refl;
      rx_start = refl;
      common = c.new-2.ensures;
      shows = record {
        registers = λ n other below. at_eight (λ (k : ℕ). Reads (get_or regs k other) (socket_register starts [] k)) (one 0) (one 1) (one 2) (one 3) (one 4) (one 5) (one 6) (one 7) n below;
        sir = refl;
      };
      lives = λ n other below. at_eight (λ (k : ℕ). IsAfter (get_or lives k other) [] k) (c.new-4.ensures 0) (c.new-4.ensures 1) (c.new-4.ensures 2) (c.new-4.ensures 3) (c.new-4.ensures 4) (c.new-4.ensures 5) (c.new-4.ensures 6) (c.new-4.ensures 7) n below;
      tx = λ n below. c.in_ok-rings.ensures.tx n below;
      rx = λ n below. c.in_ok-rings.ensures.rx n below;
      tx_sizes = c.in_ok-rings.ensures.sizes.0;
      rx_sizes = c.in_ok-rings.ensures.sizes.1;
    }
