use Rattle.std.proofs.Common.{◌≡◌, arith, Err, None, length, map, refl, subst, ap, ◌∙◌}
use Rattle.chip_sheet.specs.Past.{Past}
use Rattle.chip_sheet.specs.Streams.{Starts}
use Rattle.chip_core.specs.Chip.{starts_of}
use Rattle.board_judge.specs.Judged.{breach, judged}
use Rattle.board_judge.specs.Run.{GivesEntry, Together, entries_in, entry_of_line}
use Rattle.board_judge.proofs.Verdicts.{judged_halts, judged_on, there_is}
use Rattle.board_judge.proofs.Weights.{room_first, room_here, room_left}
use Rattle.board_judge.proofs.run.judge_lines.Goals as goal

pub loop-line-init : goal.loop-line-init
loop-line-init c = record {
  read = c.requires.read;
  together = c.requires.together;
  starts = refl;
  so_far = ap (λ (p : Past). judged (starts_of c.args.chip.now) p (entries_in c.args.text.now)) c.requires.empty;
  room = λ some. room_first c.args.history.now.past (length c.args.text.now) c.requires.empty c.requires.short;
}

pub judge_line-requires-clause-room : goal.judge_line-requires-clause-room
judge_line-requires-clause-room c =
    let shorter = c.in-Some.ensures.shorter in
    room_here c.loop-line.history.past _ (c.loop-line.invariant.room (omega (arith, shorter)))

pub returns-in-Err-clause-gives : goal.returns-in-Err-clause-gives
returns-in-Err-clause-gives c =
    let past = c.loop-line.history.past in
    let new = c.judge_line.new.history.past in
    let entry = entry_of_line c.in-Some.line.now in
    judged_halts (starts_of c.args.chip.now) _ past new entry (entries_in c.loop-line.rest.now) (entries_in c.in-Some.after.now) c.in-Err.halt (ap (map entry_of_line) c.in-Some.ensures.lines)
    (subst (λ (s : Starts). GivesEntry s past entry (Err c.in-Err.halt) new) c.loop-line.invariant.starts c.in-Err.ensures.gives) c.loop-line.invariant.so_far

pub loop-line-preserved : goal.loop-line-preserved
loop-line-preserved c =
    let past = c.loop-line.history.past in
    let new = c.judge_line.new.history.past in
    let line = c.in-Some.line.now in
    let after = c.in-Some.after.now in
    let entry = entry_of_line line in
    let same = c.loop-line.invariant.starts in
    let read = rw c.in-Some.ensures.lines at c.loop-line.invariant.read in
    let gives = c.in-Ok.ensures.gives in
    let shorter = c.in-Some.ensures.shorter in
    record {
      read = read.1;
      together = subst (λ (s : Starts). Together s c.judge_line.new.chip c.judge_line.new.history) same c.in-Ok.ensures.together;
      starts = c.in-Ok.ensures.starts ∙ same;
      so_far = judged_on (starts_of c.args.chip.now) _ past new entry (entries_in c.loop-line.rest.now) (entries_in after) (ap (map entry_of_line) c.in-Some.ensures.lines)
          (subst (λ (s : Starts). breach s past entry ≡ None) same gives.0) gives.1 c.loop-line.invariant.so_far;
      room = λ more. room_left past new c.loop-line.rest.now after line entry (c.loop-line.invariant.room (omega (arith, shorter))) (there_is line read.0) gives.1 (c.in-Some.ensures.between more);
    }
