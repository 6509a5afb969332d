use Rattle.std.proofs.Common.{◌≡◌, ◌||◌, ◌<◌, false, length, nat_le, sym, ap, ◌∙◌, arith}
use Rattle.std.proofs.lemmas.Bool.Decides.{nat_tests}
use Rattle.chip_hist.specs.declared.limits.TheConstants.{MOST_EVENTS}
use Rattle.chip_hist.specs.Log.{Log, is_full, weight_of}
use Rattle.chip_hist.specs.Kept.{past_of}
use Rattle.chip_hist.proofs.Places.{length-past_of}
use Rattle.chip_hist.proofs.history.History.is_full.Goals as goal

pub returns-else-self-clause-value : goal.returns-else-self-clause-value
returns-else-self-clause-value c =
    let h = c.self.inside in
    let past = past_of h.bytes.items h.cells.items h.len in
    let light : nat_le h.limit (weight_of past) ≡ false = grind (arith, nat_tests, c.self.invariant.weighed, c.if-self.false) in
    ap (λ n. nat_le MOST_EVENTS n) (sym (length-past_of h.bytes.items h.cells.items h.len))
    ∙ ap (λ b. b || nat_le MOST_EVENTS (length past)) (sym light)
    ∙ ap is_full c.self.view_is

pub returns-else-self-clause-room : goal.returns-else-self-clause-room
returns-else-self-clause-room c = λ free.
    let h = c.self.inside in
    let count : length c.args.self.now.past ≡ h.len = ap (λ (l : Log). length l.past) (sym c.self.view_is) ∙ length-past_of h.bytes.items h.cells.items h.len in
    let weight : weight_of c.args.self.now.past ≡ h.weight = ap (λ (l : Log). weight_of l.past) (sym c.self.view_is) ∙ sym c.self.invariant.weighed in
    let limit : c.args.self.now.limit ≡ h.limit = ap (λ (l : Log). l.limit) (sym c.self.view_is) in
    let short : h.len < MOST_EVENTS = grind (arith, nat_tests, free) in
    (omega (arith, weight, limit, c.if-self.false), omega (arith, count, short))
