use Rattle.std.proofs.Common.{Ok, Err}
use Rattle.board_quick.proofs.quick.run_text.Goals as goal

pub returns-in-Ok : goal.returns-in-Ok
returns-in-Ok g c = record {
  reading = Ok c.in-Ok.text.items;
  read = c.in-Ok.ensures.read;
  ran = rw c.deref.ensures.value at c.on_text.ensures;
}

pub returns-in-Err : goal.returns-in-Err
returns-in-Err g c = record {
  reading = Err c.in-Err.error;
  read = c.in-Err.ensures.read;
  ran = rw c.unread.ensures at c.not_loaded.ensures;
}
