use Rattle.std.proofs.Common.{◌<◌, ◌/◌, ◌∙◌, ℕ, length, ap, refl, sym, subst, arith}
use Rattle.chip_sheet.specs.declared.socket.Due.TheVariants as due
use Rattle.chip_sheet.specs.Windows.{flight, offered_length, room_length}
use Rattle.chip_core.specs.Chip.{starts_of, with_room, room_bytes}
use Rattle.link_trait.specs.Calls.{ReadFits}
use Rattle.chip_shared.specs.Entries.{entry_for}
use Rattle.chip_shared.proofs.Begun.{begun, few_calls, few_of, half, needs_of, room_of}
use Rattle.chip_shared.proofs.Here.{here_read}
use Rattle.chip_shared.proofs.OneCall.{call_is, call_sound, settled}
use Rattle.chip_shared.proofs.Reading.{read_may, read_open, kept_fits, kept_stands}
use Rattle.chip_shared.proofs.Windows.{some_room}
use Rattle.chip_shared.proofs.shared.Shared.read_step.Goals as goal

pub read-answer-requires-clause-socket : goal.read-answer-requires-clause-socket
read-answer-requires-clause-socket g c =
    let it = c.self.inside in
    let starts = starts_of it.chip in
    let past = it.history.past in
    let n = c.args.place / 2 in
    let begins = begun c.args.self.now it.chip it.history it.links it.calls c.args.place (due.Read c.args.c) c.self.view_is c.requires.begins in
    (needs_of g.L.Links.shown it.chip it.history it.links it.calls c.args.place (due.Read c.args.c) (offered_length starts past n) c.self.invariant begins refl).0

pub read-answer-requires-clause-made : goal.read-answer-requires-clause-made
read-answer-requires-clause-made g c =
    let it = c.self.inside in
    let starts = starts_of it.chip in
    let past = it.history.past in
    let n = c.args.place / 2 in
    let begins = begun c.args.self.now it.chip it.history it.links it.calls c.args.place (due.Read c.args.c) c.self.view_is c.requires.begins in
    (needs_of g.L.Links.shown it.chip it.history it.links it.calls c.args.place (due.Read c.args.c) (offered_length starts past n) c.self.invariant begins refl).1

pub read-answer-requires-clause-some : goal.read-answer-requires-clause-some
read-answer-requires-clause-some g c =
    let it = c.self.inside in
    let starts = starts_of it.chip in
    let past = it.history.past in
    let begins = begun c.args.self.now it.chip it.history it.links it.calls c.args.place (due.Read c.args.c) c.self.view_is c.requires.begins in
    let long = c.room-room.ensures.room starts past c.self.invariant.stands (read_open starts past c.args.place c.args.c begins.due) in
    subst (λ (k : ℕ). 0 < k) (sym long) (some_room starts past c.args.place c.args.c begins.due)

pub note-requires : goal.note-requires
note-requires g c =
    let it = c.self.inside in
    let starts = starts_of it.chip in
    let past = it.history.past in
    let n = c.args.place / 2 in
    let bytes = c.read-answer.new.buf in
    let begins = begun c.args.self.now it.chip it.history it.links it.calls c.args.place (due.Read c.args.c) c.self.view_is c.requires.begins in
    let long = c.room-room.ensures.room starts past c.self.invariant.stands (read_open starts past c.args.place c.args.c begins.due) in
    let made = here_read g.L.Links.effect g.L.Links.shown it.links starts past n c.args.c _ c.read-answer.result bytes c.had_read-what.result c.read-answer.new.self
    (record { so = c.read-answer.ensures.effect; counts = c.read-answer.ensures.counts; lists = c.read-answer.ensures.lists; makes = c.read-answer.ensures.makes })
    c.read-answer.ensures.fits c.read-answer.auto.buf long (c.had_read-what.ensures.entry n (flight starts past n) c.args.c) c.had_read-what.ensures.did in
    room_of g.L.Links.effect g.L.Links.shown it.chip it.history it.links c.read-answer.new.self it.calls c.args.place (due.Read c.args.c) c.had_read-what.result begins made

pub keep-requires-clause-few : goal.keep-requires-clause-few
keep-requires-clause-few g c =
    let it = c.self.inside in
    let n = c.args.place / 2 in
    let bytes = c.read-answer.new.buf in
    let begins = begun c.args.self.now it.chip it.history it.links it.calls c.args.place (due.Read c.args.c) c.self.view_is c.requires.begins in
    c.room_is_lent.ensures.few it.chip n bytes (few_of it.chip it.history it.links it.calls c.args.place (due.Read c.args.c) begins c.self.invariant.stands c.short_is_few.ensures)

pub keep-requires-clause-within : goal.keep-requires-clause-within
keep-requires-clause-within g c =
    let it = c.self.inside in
    let n = c.args.place / 2 in
    let bytes = c.read-answer.new.buf in
    let begins = begun c.args.self.now it.chip it.history it.links it.calls c.args.place (due.Read c.args.c) c.self.view_is c.requires.begins in
    let few = half c.args.place begins.at in
    let same = c.read-answer.auto.buf ∙ c.room-room.ensures.len in
    subst (ReadFits c.read-answer.result) (sym (c.room_is_lent.ensures.bytes it.chip n bytes few same)) c.read-answer.ensures.fits

pub keep-requires-clause-len : goal.keep-requires-clause-len
keep-requires-clause-len g c =
    let it = c.self.inside in
    let n = c.args.place / 2 in
    let bytes = c.read-answer.new.buf in
    let begins = begun c.args.self.now it.chip it.history it.links it.calls c.args.place (due.Read c.args.c) c.self.view_is c.requires.begins in
    let few = half c.args.place begins.at in
    let same = c.read-answer.auto.buf ∙ c.room-room.ensures.len in
    ap length (c.room_is_lent.ensures.bytes it.chip n bytes few same) ∙ same ∙ sym (c.room_is_lent.ensures.len it.chip n n bytes)

pub keep-requires-clause-fits : goal.keep-requires-clause-fits
keep-requires-clause-fits g c =
    let it = c.self.inside in
    let starts = starts_of it.chip in
    let past = it.history.past in
    let n = c.args.place / 2 in
    let bytes = c.read-answer.new.buf in
    let begins = begun c.args.self.now it.chip it.history it.links it.calls c.args.place (due.Read c.args.c) c.self.view_is c.requires.begins in
    let few = half c.args.place begins.at in
    let long = c.room-room.ensures.room starts past c.self.invariant.stands (read_open starts past c.args.place c.args.c begins.due) in
    let same = c.read-answer.auto.buf ∙ c.room-room.ensures.len in
    let lent = with_room it.chip n bytes in
    let lent_stands = c.room_is_lent.ensures.stands starts it.chip past n bytes few same c.self.invariant.stands in
    let kept = c.room_is_lent.ensures.bytes it.chip n bytes few same in
    kept_fits starts past lent c.args.place c.args.c c.read-answer.result (room_bytes lent n) bytes c.fits_agrees.ensures begins.at lent_stands begins.due kept
    (read_may c.args.c (offered_length starts past n) (room_length starts past n) c.read-answer.result bytes c.read-answer.ensures.fits (c.read-answer.auto.buf ∙ long))

pub overflow_add-self : goal.overflow_add-self
overflow_add-self g c =
    let it = c.self.inside in
    let begins = begun c.args.self.now it.chip it.history it.links it.calls c.args.place (due.Read c.args.c) c.self.view_is c.requires.begins in
    let few = few_calls it.chip it.history it.links it.calls c.args.place (due.Read c.args.c) begins in
    let counted = c.self.invariant.counted in
    omega (arith, few, counted)

pub invariant_of-self : goal.invariant_of-self
invariant_of-self g c =
    let it = c.self.inside in
    let starts = starts_of it.chip in
    let past = it.history.past in
    let n = c.args.place / 2 in
    let bytes = c.read-answer.new.buf in
    let begins = begun c.args.self.now it.chip it.history it.links it.calls c.args.place (due.Read c.args.c) c.self.view_is c.requires.begins in
    let few = half c.args.place begins.at in
    let long = c.room-room.ensures.room starts past c.self.invariant.stands (read_open starts past c.args.place c.args.c begins.due) in
    let same = c.read-answer.auto.buf ∙ c.room-room.ensures.len in
    let lent = with_room it.chip n bytes in
    let lent_stands = c.room_is_lent.ensures.stands starts it.chip past n bytes few same c.self.invariant.stands in
    let kept = c.room_is_lent.ensures.bytes it.chip n bytes few same in
    let made = here_read g.L.Links.effect g.L.Links.shown it.links starts past n c.args.c _ c.read-answer.result bytes c.had_read-what.result c.read-answer.new.self
    (record { so = c.read-answer.ensures.effect; counts = c.read-answer.ensures.counts; lists = c.read-answer.ensures.lists; makes = c.read-answer.ensures.makes })
    c.read-answer.ensures.fits c.read-answer.auto.buf long (c.had_read-what.ensures.entry n (flight starts past n) c.args.c) c.had_read-what.ensures.did in
    let entry = entry_for n c.had_read-what.result in
    let stands = kept_stands starts past c.keep.new.chip n (flight starts past n) c.args.c c.read-answer.result (room_bytes lent n) bytes entry kept (c.had_read-what.ensures.entry n (flight starts past n) c.args.c)
    (c.keep.ensures.stands starts past (flight starts past n) c.args.c lent_stands) in
    call_sound g.L.Links.effect g.L.Links.shown it.chip c.keep.new.chip it.history c.note.new.history it.links c.read-answer.new.self it.calls c.args.place (due.Read c.args.c) c.had_read-what.result c.self.invariant begins made
    (settled it.chip c.keep.new.chip it.history c.note.new.history entry c.starts_are.ensures stands c.keep.ensures.unstopped c.note.ensures.past c.note.ensures.limit c.note.ensures.events)

pub returns : goal.returns
returns g c =
    let it = c.self.inside in
    let starts = starts_of it.chip in
    let past = it.history.past in
    let n = c.args.place / 2 in
    let bytes = c.read-answer.new.buf in
    let begins = begun c.args.self.now it.chip it.history it.links it.calls c.args.place (due.Read c.args.c) c.self.view_is c.requires.begins in
    let few = half c.args.place begins.at in
    let long = c.room-room.ensures.room starts past c.self.invariant.stands (read_open starts past c.args.place c.args.c begins.due) in
    let same = c.read-answer.auto.buf ∙ c.room-room.ensures.len in
    let lent = with_room it.chip n bytes in
    let lent_stands = c.room_is_lent.ensures.stands starts it.chip past n bytes few same c.self.invariant.stands in
    let kept = c.room_is_lent.ensures.bytes it.chip n bytes few same in
    let made = here_read g.L.Links.effect g.L.Links.shown it.links starts past n c.args.c _ c.read-answer.result bytes c.had_read-what.result c.read-answer.new.self
    (record { so = c.read-answer.ensures.effect; counts = c.read-answer.ensures.counts; lists = c.read-answer.ensures.lists; makes = c.read-answer.ensures.makes })
    c.read-answer.ensures.fits c.read-answer.auto.buf long (c.had_read-what.ensures.entry n (flight starts past n) c.args.c) c.had_read-what.ensures.did in
    let entry = entry_for n c.had_read-what.result in
    let stands = kept_stands starts past c.keep.new.chip n (flight starts past n) c.args.c c.read-answer.result (room_bytes lent n) bytes entry kept (c.had_read-what.ensures.entry n (flight starts past n) c.args.c)
    (c.keep.ensures.stands starts past (flight starts past n) c.args.c lent_stands) in
    record {
      called = call_is g.L.Links.effect g.L.Links.shown c.args.self.now it.chip c.keep.new.chip it.history c.note.new.history it.links c.read-answer.new.self it.calls c.args.place (due.Read c.args.c) c.had_read-what.result c.did-did.result
          c.self.view_is begins made
          (settled it.chip c.keep.new.chip it.history c.note.new.history entry c.starts_are.ensures stands c.keep.ensures.unstopped c.note.ensures.past c.note.ensures.limit c.note.ensures.events)
          c.did-did.ensures;
    }
