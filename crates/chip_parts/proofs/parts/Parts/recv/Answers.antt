use Rattle.std.proofs.Common.{◌≡◌, true, false, Some, refl, sym, ap, ◌∙◌, subst}
use Rattle.chip_sheet.specs.declared.event.Entry.TheVariants.{Bus}
use Rattle.chip_sheet.specs.declared.stop.ChipStop.{ChipStop}
use Rattle.chip_sheet.specs.Life as sheet
use Rattle.chip_sheet.specs.Life.{status}
use Rattle.chip_sheet.specs.Streams.{is_open}
use Rattle.chip_sheet.specs.Sending.{Sending}
use Rattle.chip_sheet.specs.Receiving.{Receiving}
use Rattle.chip_sheet.specs.Buffers.{sending, receiving}
use Rattle.chip_steps.proofs.ReceivingSteps as rx_steps
use Rattle.ring_mem.specs.declared.rings.Rings.{Rings}
use Rattle.ring_mem.specs.declared.sends.Sends.{Sends}
use Rattle.ring_mem.specs.Buffers.{TxHolds, RxHolds}
use Rattle.chip_parts.proofs.Taking.{alone_is, other_sockets, taken_steps, same_tx}
use Rattle.chip_parts.proofs.RecvCommands.{is_recv, recv_leaves_sent, ignored_leaves_got, ignored_raises, taken_raises, ignored_goes, past_end_stops, within_goes}
use Rattle.chip_parts.proofs.parts.Parts.recv.Goals as goal

pub returns-then-not-open-clause-ok : goal.returns-then-not-open-clause-ok
returns-then-not-open-clause-ok c = λ starts past e a legal held is.
    let sn = c.args.sn in
    let old = c.args.self.now in
    let entry = Bus e a in
    let why = is_recv past e a sn is in
    let by_itself = alone_is past e sn 0x40 is in
    let off : is_open (status past sn) ≡ false = sym (c.is_open-open.ensures ∙ ap (λ (l : sheet.Life). is_open l.status) (held.lives sn _ c.requires.sn).life) ∙ c.if-not-open.true in (
      ignored_goes starts past e sn is off,
      taken_steps starts past e a sn 0x40 old c.take.new.self old.rings held is
          (record {
            life = c.take.ensures.life past e a (λ other. held.lives sn other c.requires.sn) (c.command_at-at.ensures starts past held) is;
            other_lives = c.take.ensures.others;
            tx = subst (λ (s : Sending). TxHolds old.rings sn s) (sym (recv_leaves_sent starts past entry sn by_itself why)) (held.tx sn c.requires.sn);
            rx = subst (λ (g : Receiving). RxHolds old.rings sn g) (sym (ignored_leaves_got starts past entry sn by_itself why off)) (held.rx sn c.requires.sn);
            other_tx = λ n s within away was. was;
            other_rx = λ n g within away was. was;
            tx_sizes = refl;
            rx_sizes = refl;
            shows = c.take.ensures.shows starts past e a held.shows is (ignored_raises starts past entry sn why off) (other_sockets past e a sn 0x40 is);
            same = c.take.ensures.same;
          }),
    )

pub returns-in-Err-clause-err : goal.returns-in-Err-clause-err
returns-in-Err-clause-err c = (
  ap (λ (r : Rings). record c.args.self.now { rings = r }) c.in-Err.ensures.err.0,
  λ starts past e legal held is.
      let sn = c.args.sn in
      let live : is_open (status past sn) ≡ true = sym (c.is_open-open.ensures ∙ ap (λ (l : sheet.Life). is_open l.status) (held.lives sn _ c.requires.sn).life) ∙ c.if-not-open.false in
      let here = c.in-Err.ensures.err.1 (receiving starts past sn) (held.rx sn c.requires.sn) in
      past_end_stops starts past e sn legal is live here.0 ∙ sym (ap (λ (x : ChipStop). Some x) here.1),
)

pub returns-in-Ok-clause-ok : goal.returns-in-Ok-clause-ok
returns-in-Ok-clause-ok c = λ starts past e a legal held is.
    let sn = c.args.sn in
    let old = c.args.self.now in
    let rings = c.release.new.self in
    let entry = Bus e a in
    let why = is_recv past e a sn is in
    let by_itself = alone_is past e sn 0x40 is in
    let live : is_open (status past sn) ≡ true = sym (c.is_open-open.ensures ∙ ap (λ (l : sheet.Life). is_open l.status) (held.lives sn _ c.requires.sn).life) ∙ c.if-not-open.false in
    let here = c.in-Ok.ensures.ok (receiving starts past sn) (held.rx sn c.requires.sn) in
    let after = rx_steps.releases starts past entry sn legal by_itself why live in
    let tx = c.release.ensures.tx in (
      within_goes starts past e sn legal is live here.0,
      taken_steps starts past e a sn 0x40 old c.take-in-Ok.new.self rings held is
          (record {
            life = c.take-in-Ok.ensures.life past e a (λ other. held.lives sn other c.requires.sn) (c.command_at-at.ensures starts past held) is;
            other_lives = c.take-in-Ok.ensures.others;
            tx = subst (λ (s : Sending). TxHolds rings sn s) (sym (recv_leaves_sent starts past entry sn by_itself why)) (same_tx old.rings rings sn (sending starts past sn) tx (held.tx sn c.requires.sn));
            rx = subst (λ (g : Receiving). RxHolds rings sn g) (sym after) here.2;
            other_tx = λ n s within away was. same_tx old.rings rings n s tx was;
            other_rx = c.release.ensures.others;
            tx_sizes = ap (λ (r : Sends). r.layout.kilobytes) tx;
            rx_sizes = c.release.ensures.sizes;
            shows = c.take-in-Ok.ensures.shows starts past e a (record { registers = held.shows.registers; sir = held.shows.sir }) is
                (taken_raises starts past entry sn c.in-Ok.left c.bit_where-bits.result why live after here.1 c.bit_where-bits.ensures) (other_sockets past e a sn 0x40 is);
            same = c.take-in-Ok.ensures.same;
          }),
    )
