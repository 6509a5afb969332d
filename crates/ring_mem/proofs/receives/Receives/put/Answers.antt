use Rattle.std.proofs.Common.{◌⊎◌, ◌<◌, ◌≤◌, ◌≡◌, ◌<◌, ◌+◌, [], ◌∷◌, ℕ, suc, List, length, take, get_or, sym, ap, ◌∙◌, arith, subst}
use Rattle.chip_sheet.specs.Receiving.{Receiving, after_got}
use Rattle.ring_mem.specs.RxHolds.{RxHolds}
use Rattle.std.proofs.Math.Seq.{take-suc}
use Rattle.std.proofs.lemmas.List.{take_all}
use Rattle.ring_mem.specs.Parts.{SameBytesOutside}
use Rattle.ring_mem.proofs.Keeping.{got_more}
use Rattle.ring_mem.proofs.receives.Receives.put.Goals as goal

one_more : (g : Receiving) (bytes : List ℕ) (i : ℕ) → i < length bytes → after_got (after_got g (take i bytes)) (get_or bytes i 0 ∷ []) ≡ after_got g (take (i + 1) bytes)
one_more g bytes i below = got_more g (take i bytes) (get_or bytes i 0 ∷ []) ∙ ap (after_got g) (let e : i + 1 ≡ suc i = omega arith in sym (ap (λ k. take k bytes) e ∙ take-suc bytes i 0 below))

pub loop-i-preserved : goal.loop-i-preserved
loop-i-preserved c = let held = c.loop-i.invariant in record {
  count = omega (arith, c.loop-i-test.true);
  layout = c.put_byte.ensures.layout ∙ held.layout;
  more = omega (arith, c.put_byte.ensures.more, held.more);
  outside = subst (λ y. SameBytesOutside c.args.self.now.memory.items c.put_byte.new.self.memory.items (get_or y.starts c.args.sn 0) (get_or y.sizes c.args.sn 0)) held.layout
      (λ at out. c.put_byte.ensures.outside at out ∙ held.outside at (subst (λ y. (at < get_or y.starts c.args.sn 0) ⊎ (get_or y.starts c.args.sn 0 + get_or y.sizes c.args.sn 0 ≤ at)) held.layout out));
  stands = λ g h. subst (λ t. RxHolds c.put_byte.new.self c.args.sn t) (one_more g c.args.bytes.now c.loop-i.i c.loop-i-test.true) (c.put_byte.ensures.stands _ (held.stands g h));
  others = λ n g below other h. c.put_byte.ensures.others n g below other (held.others n g below other h);
}

pub returns-clause-stands : goal.returns-clause-stands
returns-clause-stands c = λ g h. subst (λ t. RxHolds c.loop-i.self c.args.sn (after_got g t)) (take_all c.loop-i.i c.args.bytes.now c.loop-i-test.false) (c.loop-i.invariant.stands g h)
