use Rattle.std.proofs.Common.{ℕ, List, ◌++◌, take, string_bytes, sym, ap, ◌∙◌, arith, append_assoc}
use Rattle.std.specs.List.{flat_map}
use Rattle.board_sim.specs.Report.{address_text}
use Rattle.board_sim.proofs.Walks.{take_past, flat_got}
use Rattle.board_sim.proofs.report.push_addresses.Goals as goal

pub returns-in_default : goal.returns-in_default
returns-in_default c =
    c.loop-i.invariant
    ∙ ap (λ (kept : List ℕ). string_bytes c.args.text.now ++ flat_map address_text kept) (take_past c.args.mcu.now.trail c.loop-i.i 16 (sym c.in_default.ensures) (omega arith))

pub loop-i-preserved : goal.loop-i-preserved
loop-i-preserved c =
    c.in_ok-push_address.ensures ∙ ap (λ (t : List ℕ). t ++ address_text c.in-Some.at) c.loop-i.invariant ∙ append_assoc (string_bytes c.args.text.now) (flat_map address_text (take c.loop-i.i c.args.mcu.now.trail)) (address_text c.in-Some.at)
    ∙ ap (λ (t : List ℕ). string_bytes c.args.text.now ++ t) (sym (flat_got address_text c.args.mcu.now.trail c.loop-i.i c.in-Some.at (sym c.in-Some.ensures)))
