use Rattle.board_gen.proofs.line.take_word.Goals as goal

pub returns-in-Ok-clause-gives : goal.returns-in-Ok-clause-gives
returns-in-Ok-clause-gives c = rw c.in-Ok.ensures c.take_and_print.ensures.gives
