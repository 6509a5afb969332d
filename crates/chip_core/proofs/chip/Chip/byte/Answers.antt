use Rattle.std.proofs.Common.{◌≡◌, sym, ap, ◌∙◌, subst, refl, inr}
use Rattle.board_bus.specs.declared.event.BusEvent.TheVariants.{Byte}
use Rattle.board_bus.specs.declared.event.BusAnswer.TheVariants.{Out}
use Rattle.chip_sheet.specs.declared.phase.Phase.{Phase}
use Rattle.chip_sheet.specs.Frames.{access, access_in}
use Rattle.chip_sheet.specs.Answers.{byte_out}
use Rattle.chip_core.specs.declared.chip.Chip.{Chip}
use Rattle.chip_core.specs.Chip.{Inside, Stands, with_stop}
use Rattle.chip_core.proofs.chip.Chip.byte.Goals as goal

pub returns-in-Ok-clause-answered : goal.returns-in-Ok-clause-answered
returns-in-Ok-clause-answered c = λ starts past stands.
    let v = c.args.v in
    let a = Out c.in-Ok.out in
    let is : c.access_in-made.result ≡ access past (Byte v) = c.access_in-made.ensures.access ∙ ap (λ (p : Phase). access_in p v) (c.byte.ensures.phase past stands.framer) in
    let inside : Inside starts c.args.self.now past = record { legal = stands.legal; parts = stands.parts; counts = stands.counts } in
    let went = c.in-Ok.ensures.ok starts past (Byte v) a (sym is) (c.idle_byte-idle.ensures starts past stands) inside in
    let out = went.byte ∙ ap (byte_out starts past) is in
    record {
      unstopped = c.requires.unstopped;
      allowed = went.allowed;
      is = ap Out out;
      stands = record {
        legal = ((went.allowed, ap Out out), stands.legal);
        framer = c.byte.ensures.after past a stands.framer;
        parts = went.parts;
        counts = went.counts;
      };
      goes_on = ap (λ (chip : Chip). chip.stopped) c.exchange.ensures.same ∙ c.requires.unstopped;
    }

pub returns-in-Err-clause-stopped : goal.returns-in-Err-clause-stopped
returns-in-Err-clause-stopped c = λ starts past stands.
    let v = c.args.v in
    let old = c.args.self.now in
    let s = c.in-Err.stop in
    let is : c.access_in-made.result ≡ access past (Byte v) = c.access_in-made.ensures.access ∙ ap (λ (p : Phase). access_in p v) (c.byte.ensures.phase past stands.framer) in
    let inside : Inside starts old past = record { legal = stands.legal; parts = stands.parts; counts = stands.counts } in
    let same = ap (λ (chip : Chip). with_stop chip s) c.in-Err.ensures.err.0 in
    let kept : Stands starts (with_stop old s) past =
    record { legal = stands.legal; framer = stands.framer; parts = stands.parts; counts = stands.counts } in
    record {
      cause = inr (c.requires.unstopped, c.in-Err.ensures.err.1 starts past (Byte v) (sym is) inside);
      same = same;
      kept = refl;
      stands = subst (λ (chip : Chip). Stands starts chip past) (sym same) kept;
    }
