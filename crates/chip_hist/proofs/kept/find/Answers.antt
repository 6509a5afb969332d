use Rattle.std.proofs.Common.{rules, sym, Ok, Err}
use Rattle.std.proofs.lemmas.List.Sorted.{answers_always}
use Rattle.chip_hist.specs.declared.kept.Cell.{Cell}
use Rattle.chip_hist.proofs.Search.{searched}
use Rattle.chip_hist.proofs.kept.find.Goals as goal

pub returns-in-Ok : goal.returns-in-Ok
returns-in-Ok c =
    let by_place = c.in-Ok.ensures.position (λ (cell : Cell). cell.place) (answers_always _ _ _ (λ f a r g called. search rules)) in
    sym (searched c.args.cells.now c.requires c.args.place (Ok c.in-Ok.at) c.in-Ok.ensures.bound by_place _)

pub returns-in-Err : goal.returns-in-Err
returns-in-Err c =
    let by_place = c.in-Err.ensures.position (λ (cell : Cell). cell.place) (answers_always _ _ _ (λ f a r g called. search rules)) in
    sym (searched c.args.cells.now c.requires c.args.place (Err c.in-Err.field-0) c.in-Err.ensures.bound by_place)
