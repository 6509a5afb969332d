use Rattle.std.proofs.Common.{ap, take}
use Rattle.chip_sheet.specs.declared.event.ConnId.{ConnId}
use Rattle.chip_sheet.specs.declared.event.LinkEntry.TheVariants.{Got, Ended, Failed}
use Rattle.chip_sheet.specs.declared.socket.Due.TheVariants as due
use Rattle.chip_sheet.specs.LinkAnswers.{entry_by}
use Rattle.chip_core.specs.Chip.{room_bytes}
use Rattle.link_trait.specs.declared.links.Reading.{Reading}
use Rattle.link_trait.specs.Calls.{reading}
use Rattle.chip_shared.proofs.reads.keep.Goals as goal

some : ConnId
some = record { sn = 0; life = 0 }

pub filled-requires-clause-fits : goal.filled-requires-clause-fits
filled-requires-clause-fits c =
    let bytes = room_bytes c.args.chip.now c.args.sn in
    c.requires.fits some (Got (take c.in-Done.count bytes)) (ap (λ (a : Reading). entry_by c.args.sn 0 (due.Read some) (reading a bytes)) c.in-Done.is)

pub link-requires-clause-fits : goal.link-requires-clause-fits
link-requires-clause-fits c =
    let bytes = room_bytes c.args.chip.now c.args.sn in
    c.requires.fits some Ended (ap (λ (a : Reading). entry_by c.args.sn 0 (due.Read some) (reading a bytes)) c.in-End.is)

pub link-requires-in-Failed-clause-fits : goal.link-requires-in-Failed-clause-fits
link-requires-in-Failed-clause-fits c =
    let bytes = room_bytes c.args.chip.now c.args.sn in
    c.requires.fits some Failed (ap (λ (a : Reading). entry_by c.args.sn 0 (due.Read some) (reading a bytes)) c.in-Failed.is)

pub returns-in-Done-clause-stands : goal.returns-in-Done-clause-stands
returns-in-Done-clause-stands c = λ starts past flight d stands. rw c.in-Done.is (c.filled.ensures.stands starts past stands)

pub returns-in-NotYet-clause-stands : goal.returns-in-NotYet-clause-stands
returns-in-NotYet-clause-stands c = λ starts past flight d stands. rw c.in-NotYet.is (c.rest_stands.ensures starts c.args.chip.now past stands)

pub returns-in-End-clause-stands : goal.returns-in-End-clause-stands
returns-in-End-clause-stands c = λ starts past flight d stands. rw c.in-End.is (c.link.ensures.stands starts past stands)

pub returns-in-Failed-clause-stands : goal.returns-in-Failed-clause-stands
returns-in-Failed-clause-stands c = λ starts past flight d stands. rw c.in-Failed.is (c.link-in-Failed.ensures.stands starts past stands)
