use Rattle.std.proofs.Common.{◌≤◌, ℕ, ◌+◌, ◌*◌, length, arith, ◌∙◌}
use Rattle.board_gen.specs.SessionState.{HasTextRoom}
use Rattle.board_gen.specs.Tokens.{tokens}
use Rattle.board_gen.proofs.Each.{steps_rest}
use Rattle.board_gen.proofs.ToldLine.{line_more, line_halts, word_is}
use Rattle.board_gen.proofs.Weights.{step_light, step_weight, text_less, text_taken}
use Rattle.board_gen.proofs.line.run_line.Goals as goal

pub returns-in-Err-clause-gives : goal.returns-in-Err-clause-gives
returns-in-Err-clause-gives c =
    let is = word_is c.loop-word.rest.now c.in-Some.after.now c.in-Some.word.now c.in-Some.ensures.tokens c.loop-word.invariant.read in
    line_halts c.loop-word.session.starts _ c.loop-word.session.past _ c.loop-word.rest.now c.in-Some.after.now c.in-Some.word.now is.0 c.in-Err.halt c.loop-word.text.items _
    (rw is.1 at c.in-Err.ensures.gives) c.in-Some.ensures.tokens is.1 c.loop-word.invariant.read c.loop-word.invariant.so_far

pub loop-word-preserved : goal.loop-word-preserved
loop-word-preserved c =
    let is = word_is c.loop-word.rest.now c.in-Some.after.now c.in-Some.word.now c.in-Some.ensures.tokens c.loop-word.invariant.read in
    let taken = rw is.1 at c.in-Ok.ensures.gives in
    let light = step_light c.in-Some.word.now is.0 is.1 in
    let past = c.loop-word.session.past in
    let rest = length c.loop-word.rest.now in
    let takes = λ (bytes more : ℕ) (room : HasTextRoom past bytes) (few : 2 * step_weight is.0 + more ≤ bytes). text_taken c.loop-word.session.starts past c.take_word.new.session.past is.0 taken.answer bytes more taken.takes room few in
    let some = c.in-Some.ensures.shorter in
    let within = c.in-Some.ensures.within in
    let between = c.in-Some.ensures.between in
    let left = c.loop-word.invariant.left in
    record {
      read = steps_rest (tokens c.loop-word.rest.now) c.in-Some.word.now (tokens c.in-Some.after.now) is.0 c.in-Some.ensures.tokens is.1 c.loop-word.invariant.read;
      running = c.in-Ok.ensures.running;
      starts = c.in-Ok.ensures.starts ∙ c.loop-word.invariant.starts;
      so_far = rw c.in-Ok.ensures.starts (line_more c.loop-word.session.starts _ c.loop-word.session.past _ c.loop-word.rest.now c.in-Some.after.now c.in-Some.word.now is.0 c.loop-word.text.items _
          taken c.in-Some.ensures.tokens is.1 c.loop-word.invariant.read c.loop-word.invariant.so_far);
      spent = λ more room.
          let here = left (omega (arith, some)) (1 + more) (text_less c.args.session.now.past _ (length c.args.line.now + (1 + more)) room (omega arith)) in
          takes (rest + (1 + more)) more here (omega (arith, light, within));
      left = λ further more room. let fits = between further in takes (rest + more) (length c.in-Some.after.now + more) (left (omega (arith, some)) more room) (omega (arith, light, fits));
    }

pub take_word-requires-clause-light : goal.take_word-requires-clause-light
take_word-requires-clause-light c =
    let some = c.in-Some.ensures.shorter in
    let here = c.loop-word.invariant.left (omega (arith, some)) 0 (text_less c.args.session.now.past _ (length c.args.line.now + 0) c.requires.light (omega arith)) in
    text_less c.loop-word.session.past (length c.loop-word.rest.now + 0) 0 here (omega arith)
