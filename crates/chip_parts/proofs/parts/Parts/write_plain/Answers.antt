use Rattle.std.proofs.Common.{◌≡◌, ◌∷◌, sym, ap, ◌∙◌, subst, get_or, List}
use Rattle.chip_sheet.specs.declared.event.Entry.TheVariants.{Bus}
use Rattle.chip_sheet.specs.Frames.{access}
use Rattle.chip_sheet.specs.Registers.{is_reset}
use Rattle.chip_sheet.specs.Sending.{Sending}
use Rattle.chip_sheet.specs.Receiving.{Receiving}
use Rattle.chip_sheet.specs.Buffers.{sending, receiving}
use Rattle.chip_sheet.proofs.Quiet.{leaves_life}
use Rattle.chip_steps.proofs.Elsewhere.{other_registers}
use Rattle.chip_steps.proofs.SendingSteps as sends
use Rattle.chip_steps.proofs.ReceivingSteps as receives
use Rattle.ring_mem.specs.declared.rings.Rings.{Rings}
use Rattle.ring_mem.specs.Buffers.{TxHolds, RxHolds, OthersSend, OthersReceive, tx_kilobytes, rx_kilobytes}
use Rattle.sock_cmd.specs.declared.life.Life.{Life}
use Rattle.sock_cmd.specs.Lives.{IsAfter}
use Rattle.sock_cmd.proofs.SocketLives.{stays}
use Rattle.chip_parts.specs.declared.parts.Parts.{Parts}
use Rattle.chip_parts.specs.Holding.{OthersUntouched}
use Rattle.chip_parts.proofs.Stepping.{plain_cause, not_common, no_reset_there}
use Rattle.chip_parts.proofs.Assembly.{one_steps}
use Rattle.chip_parts.proofs.parts.Parts.write_plain.Goals as goal

pub returns : goal.returns
returns c = λ starts past e a held is other tx rx.
    let sn = c.args.sn in
    let addr = c.args.addr in
    let v = c.args.v in
    let entry = Bus e a in
    let old = c.args.self.now in
    let new = c.step_registers.new.self in
    let same = c.step_registers.ensures.same in
    let rings : new.rings ≡ c.set_pointer.new.self = ap (λ (p : Parts). p.rings) same in
    let lives : new.lives ≡ old.lives = ap (λ (p : Parts). p.lives) same in
    let nothing = plain_cause past e a sn addr v is other in
    let others : OthersUntouched past entry sn = λ m away. other_registers past e a sn m addr v away is tx rx in
    let calls = c.set_pointer.ensures in
    one_steps starts past entry sn old new held
    (record {
      on = ap is_reset is ∙ no_reset_there sn addr v;
      elsewhere = not_common (access past e) sn addr v is;
      no_tx_size = tx;
      no_rx_size = rx;
      others = others;
      tx_start = ap (λ (p : Parts). p.tx_start) same;
      rx_start = ap (λ (p : Parts). p.rx_start) same;
      common = ap (λ (p : Parts). p.common) same;
      shows = c.step_registers.ensures.shows starts past e a (record { registers = held.shows.registers; sir = held.shows.sir }) is (sym (leaves_life starts past entry sn nothing).bits) others;
      life = λ other_life. subst (λ (l : List Life). IsAfter (get_or l sn other_life) (entry ∷ past) sn) (sym lives) (stays (get_or old.lives sn other_life) past entry sn (held.lives sn other_life c.requires) nothing);
      other_lives = λ m other_life away. ap (λ (l : List Life). get_or l m other_life) lives;
      tx = subst (λ (r : Rings). TxHolds r sn (sending starts (entry ∷ past) sn)) (sym rings)
          (subst (λ (s : Sending). TxHolds c.set_pointer.new.self sn s) (sym (sends.pointer starts past entry sn addr v nothing is tx)) (calls.tx (sending starts past sn) (held.tx sn c.requires)));
      rx = subst (λ (r : Rings). RxHolds r sn (receiving starts (entry ∷ past) sn)) (sym rings)
          (subst (λ (g : Receiving). RxHolds c.set_pointer.new.self sn g) (sym (receives.pointer starts past entry sn addr v nothing is rx)) (calls.rx (receiving starts past sn) (held.rx sn c.requires)));
      other_tx = subst (λ (r : Rings). OthersSend old.rings r sn) (sym rings) calls.others;
      other_rx = subst (λ (r : Rings). OthersReceive old.rings r sn) (sym rings) calls.rx_others;
      tx_sizes = ap tx_kilobytes rings ∙ calls.sizes.0;
      rx_sizes = ap rx_kilobytes rings ∙ calls.sizes.1;
    })
