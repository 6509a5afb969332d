use Rattle.std.proofs.Common.{◌≡◌, ℕ, ◌≤◌, List, length, reverse, slice_get, Option, Some, None, IfSome, sym, ap, ◌∙◌, subst, arith}
use Rattle.std.proofs.lemmas.List.{length-reverse}
use Rattle.std.proofs.lemmas.Option.{slice_get_past}
use Rattle.chip_hist.specs.declared.kept.Kept.{Kept}
use Rattle.chip_hist.specs.Log.{Log}
use Rattle.chip_hist.specs.Kept.{entry_kept, entry_found, kept_at, IsWithin}
use Rattle.chip_hist.proofs.Places.{kept_at-within, length-past_of, slice_get-past_of}
use Rattle.chip_hist.proofs.history.History.get.Goals as goal

pub returns-then-self-place : goal.returns-then-self-place
returns-then-self-place c =
    let h = c.self.inside in
    let size : length c.args.self.now.past ≡ h.len = sym (ap (λ (l : Log). length l.past) c.self.view_is) ∙ length-past_of h.bytes.items h.cells.items h.len in
    let past : length (reverse c.args.self.now.past) ≤ c.args.place = omega (arith, length-reverse c.args.self.now.past, size, c.if-self-place.true) in
    sym (slice_get_past (reverse c.args.self.now.past) c.args.place past)

pub event_of-requires : goal.event_of-requires
event_of-requires c =
    let h = c.self.inside in
    let at : kept_at h.cells.items c.args.place ≡ Some c.in-Some.kept = ap (λ l. kept_at l c.args.place) (sym c.deref.ensures.value) ∙ sym c.in-Some.ensures in
    let within = subst (λ (r : Option Kept). IfSome r (IsWithin (length h.bytes.items))) at (kept_at-within (length h.bytes.items) h.cells.items c.args.place c.self.invariant.within) in
    subst (λ (b : List ℕ). IsWithin (length b) c.in-Some.kept) (sym c.deref-in-Some.ensures.value) within

pub returns-in-Some : goal.returns-in-Some
returns-in-Some c =
    let h = c.self.inside in
    let at : kept_at h.cells.items c.args.place ≡ Some c.in-Some.kept = ap (λ l. kept_at l c.args.place) (sym c.deref.ensures.value) ∙ sym c.in-Some.ensures in
    ap Some (c.event_of.ensures ∙ ap (λ (b : List ℕ). entry_kept b c.in-Some.kept) c.deref-in-Some.ensures.value)
    ∙ ap (λ (r : Option Kept). Some (entry_found h.bytes.items r)) (sym at)
    ∙ sym (slice_get-past_of h.bytes.items h.cells.items h.len c.args.place c.if-self-place.false)
    ∙ ap (λ (l : Log). slice_get (reverse l.past) c.args.place) c.self.view_is

pub returns-in-None : goal.returns-in-None
returns-in-None c =
    let h = c.self.inside in
    let at : kept_at h.cells.items c.args.place ≡ None = ap (λ l. kept_at l c.args.place) (sym c.deref.ensures.value) ∙ sym c.in-None.ensures in
    ap (λ (r : Option Kept). Some (entry_found h.bytes.items r)) (sym at)
    ∙ sym (slice_get-past_of h.bytes.items h.cells.items h.len c.args.place c.if-self-place.false)
    ∙ ap (λ (l : Log). slice_get (reverse l.past) c.args.place) c.self.view_is
