use Rattle.std.proofs.Common.{◌+◌, ◌++◌, ap, ◌∙◌, arith}
use Rattle.std.proofs.lemmas.List.{drop_all}
use Rattle.board_echo.specs.declared.frames.TheConstants.{START, END}
use Rattle.board_echo.proofs.Firmware.{events_left, firmware_is, no_more}
use Rattle.board_echo.proofs.frames.words_of.Goals as goal

pub overflow_add-many : goal.overflow_add-many
overflow_add-many c = omega (arith, c.requires.few)

pub push_event-requires-clause-near : goal.push_event-requires-clause-near
push_event-requires-clause-near c = omega (arith, c.requires.few)

pub returns : goal.returns
returns c =
    let many = c.args.many in
    let events = c.args.events.now in
    c.in_ok-extend_from_slice-2.ensures.items
    ∙ ap (λ l. l ++ END)
    (no_more c.loop-event.words.items (START ++ events_left (many + 8) 7 events) (many + 8) _ _ (drop_all c.loop-event.event-index events (omega (arith, c.loop-event-test.false))) c.loop-event.invariant.so_far)
    ∙ firmware_is events many c.requires.all
