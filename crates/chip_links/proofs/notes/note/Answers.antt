use Rattle.std.proofs.Common.{◌<◌, length, refl, arith}
use Rattle.chip_sheet.specs.declared.event.Entry.TheVariants.{Link}
use Rattle.chip_sheet.specs.Past.{link_entry}
use Rattle.chip_links.proofs.Registers.{shown, lived, all_lived, others_lived}
use Rattle.chip_links.proofs.notes.note.Goals as goal

pub returns-clause-notes : goal.returns-clause-notes
returns-clause-notes c = λ starts past what same shows life raised.
    let sn = c.args.sn in
    let old = c.args.parts.now in
    let other = link_entry c.args.e.now in
    let within : sn < length old.registers = omega (arith, c.requires) in
    let alive : sn < length old.lives = omega (arith, c.requires) in
    let now = lived past what other sn _ c.link_event.new.self same.happening (life _) c.link_event.ensures in
    record {
      shows = shown starts past what other sn c.args.bits c.sir_with-parts.result c.interrupts-ir.result c.mask-imr.result old _ _ c.take_peer.new.registers c.raise.new.self
          c.requires within same.peer shows (shows.registers sn _ c.requires) c.take_peer.ensures c.raise.ensures raised c.interrupts-ir.ensures c.mask-imr.ensures
          c.sir_with-parts.type_inv c.sir_with-parts.ensures.own c.sir_with-parts.ensures.others refl refl;
      life = λ d. all_lived past (Link sn what) sn old.lives _ c.link_event.new.self d alive refl now;
      other_lives = λ m d away. others_lived sn m old.lives _ c.link_event.new.self d away refl;
    }
