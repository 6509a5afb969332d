use Rattle.std.proofs.Common.{ap, ◌∙◌, ◌∷◌, ◌++◌, [], Some, length, arith, rules}
use Rattle.chip_lock.proofs.Splitting.{begins_at, same_terms, splits_as}
use Rattle.chip_lock.proofs.turn.Turn.start.Goals as goal

pub new-requires-2 : goal.new-requires-2
new-requires-2 g c =
    let k = c.in_ok-kept.ensures in
    begins_at c.in_ok-kept.kept _ _ (k.ok.past ∙ c.requires.past) k.live (k.ok.calls ∙ omega (arith, c.calls-calls.ensures.most, ap length c.requires.past)) k.uncaused
    (same_terms _ _ _ k.ok c.of-about.ensures)
    (c.push_reserved.ensures.items ∙ ap (λ l. l ++ Some c.in_ok-kept.kept ∷ []) c.in-Ok.ensures.items)

pub split_seat-other-requires : goal.split_seat-other-requires
split_seat-other-requires g c =
    let t = c.in-Ok-new.ensures.ok in
    (search rules, omega (arith, t.0), splits_as _ _ _ (ap (λ m. m.0) t.4))
