use Rattle.std.proofs.Common.{◌≡◌, true, false, Some, refl, sym, ap, ◌∙◌, subst}
use Rattle.chip_sheet.specs.declared.event.Entry.TheVariants.{Bus}
use Rattle.chip_sheet.specs.declared.stop.ChipStop.{ChipStop}
use Rattle.chip_sheet.specs.Life as sheet
use Rattle.chip_sheet.specs.Life.{status}
use Rattle.chip_sheet.specs.Streams.{sends}
use Rattle.chip_sheet.specs.Sending.{Sending}
use Rattle.chip_sheet.specs.Receiving.{Receiving}
use Rattle.chip_sheet.specs.Buffers.{sending, receiving}
use Rattle.chip_steps.proofs.SendingSteps as tx_steps
use Rattle.ring_mem.specs.declared.rings.Rings.{Rings}
use Rattle.ring_mem.specs.declared.receives.Receives.{Receives}
use Rattle.ring_mem.specs.Buffers.{TxHolds, RxHolds}
use Rattle.chip_parts.proofs.Taking.{alone_is, other_sockets, taken_steps, same_rx}
use Rattle.chip_parts.proofs.SendCommands.{is_send, send_leaves_got, ignored_leaves_sent, ignored_raises, taken_raises, ignored_passes, taken_passes, ignored_goes, busy_stops, long_stops, fits_goes}
use Rattle.chip_parts.proofs.parts.Parts.send.Goals as goal

pub returns-then-not-takes-clause-ok : goal.returns-then-not-takes-clause-ok
returns-then-not-takes-clause-ok c = λ starts past e a legal held is.
    let sn = c.args.sn in
    let old = c.args.self.now in
    let entry = Bus e a in
    let why = is_send past e a sn is in
    let by_itself = alone_is past e sn 0x20 is in
    let off : sends (status past sn) ≡ false = sym (c.sends-takes.ensures ∙ ap (λ (l : sheet.Life). sends l.status) (held.lives sn _ c.requires.sn).life) ∙ c.if-not-takes.true in (
      ignored_goes starts past e sn is off,
      ignored_passes starts past sn off,
      taken_steps starts past e a sn 0x20 old c.take.new.self old.rings held is
          (record {
            life = c.take.ensures.life past e a (λ other. held.lives sn other c.requires.sn) (c.command_at-at.ensures starts past held) is;
            other_lives = c.take.ensures.others;
            tx = subst (λ (s : Sending). TxHolds old.rings sn s) (sym (ignored_leaves_sent starts past entry sn by_itself why off)) (held.tx sn c.requires.sn);
            rx = subst (λ (g : Receiving). RxHolds old.rings sn g) (sym (send_leaves_got starts past entry sn by_itself why)) (held.rx sn c.requires.sn);
            other_tx = λ n s within away was. was;
            other_rx = λ n g within away was. was;
            tx_sizes = refl;
            rx_sizes = refl;
            shows = c.take.ensures.shows starts past e a held.shows is (ignored_raises starts past entry sn why off) (other_sockets past e a sn 0x20 is);
            same = c.take.ensures.same;
          }),
    )

pub returns-then-busy-clause-err : goal.returns-then-busy-clause-err
returns-then-busy-clause-err c = (
  refl,
  λ starts past e legal held is. busy_stops starts past e c.args.sn is (sym (c.is_busy-busy.ensures starts past held) ∙ c.if-busy.true),
)

pub returns-in-Err-clause-err : goal.returns-in-Err-clause-err
returns-in-Err-clause-err c = (
  ap (λ (r : Rings). record c.args.self.now { rings = r }) c.in-Err.ensures.err.0,
  λ starts past e legal held is.
      let sn = c.args.sn in
      let on : sends (status past sn) ≡ true = sym (c.sends-takes.ensures ∙ ap (λ (l : sheet.Life). sends l.status) (held.lives sn _ c.requires.sn).life) ∙ c.if-not-takes.false in
      let free = sym (c.is_busy-busy.ensures starts past held) ∙ c.if-busy.false in
      let here = c.in-Err.ensures.err.1 (sending starts past sn) (held.tx sn c.requires.sn) in
      long_stops starts past e sn is free on here.0 ∙ sym (ap (λ (x : ChipStop). Some x) here.1),
)

pub returns-in-Ok-clause-ok : goal.returns-in-Ok-clause-ok
returns-in-Ok-clause-ok c = λ starts past e a legal held is.
    let sn = c.args.sn in
    let old = c.args.self.now in
    let rings = c.commit.new.self in
    let entry = Bus e a in
    let why = is_send past e a sn is in
    let by_itself = alone_is past e sn 0x20 is in
    let on : sends (status past sn) ≡ true = sym (c.sends-takes.ensures ∙ ap (λ (l : sheet.Life). sends l.status) (held.lives sn _ c.requires.sn).life) ∙ c.if-not-takes.false in
    let free = sym (c.is_busy-busy.ensures starts past held) ∙ c.if-busy.false in
    let here = c.in-Ok.ensures.ok (sending starts past sn) (held.tx sn c.requires.sn) in
    let rx = c.commit.ensures.rx in (
      fits_goes starts past e sn is free on here.1,
      taken_passes starts past sn c.in-Ok.count on here.0,
      taken_steps starts past e a sn 0x20 old c.take-in-Ok.new.self rings held is
          (record {
            life = c.take-in-Ok.ensures.life past e a (λ other. held.lives sn other c.requires.sn) (c.command_at-at.ensures starts past held) is;
            other_lives = c.take-in-Ok.ensures.others;
            tx = subst (λ (s : Sending). TxHolds rings sn s) (sym (tx_steps.commits starts past entry sn legal by_itself why on)) here.2;
            rx = subst (λ (g : Receiving). RxHolds rings sn g) (sym (send_leaves_got starts past entry sn by_itself why)) (same_rx old.rings rings sn (receiving starts past sn) rx (held.rx sn c.requires.sn));
            other_tx = c.commit.ensures.others;
            other_rx = λ n g within away was. same_rx old.rings rings n g rx was;
            tx_sizes = c.commit.ensures.sizes;
            rx_sizes = ap (λ (r : Receives). r.layout.kilobytes) rx;
            shows = c.take-in-Ok.ensures.shows starts past e a (record { registers = held.shows.registers; sir = held.shows.sir }) is
                (taken_raises starts past entry sn c.in-Ok.count c.bit_where-bits.result why on here.0 c.bit_where-bits.ensures) (other_sockets past e a sn 0x20 is);
            same = c.take-in-Ok.ensures.same;
          }),
    )
