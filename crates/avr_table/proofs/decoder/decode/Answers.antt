use Rattle.std.proofs.Common.{◌≡◌, ap, ◌∙◌, arith, inl, inr}
use Rattle.std.specs.Prelude.{Ok}
use Rattle.avr_table.specs.Decoded.{decoded}
use Rattle.avr_table.proofs.Lower.{same_lowest, same_comparison, same_logic}
use Rattle.avr_table.proofs.Constants.{same_with_constant}
use Rattle.avr_table.proofs.Middle.{same_displaced, same_special}
use Rattle.avr_table.proofs.Upper.{same_input_or_output, same_relative, same_branch_or_bit}
use Rattle.avr_table.proofs.Long.{words_by}
use Rattle.avr_table.proofs.decoder.decode.Goals as goal

pub returns-in-0 : goal.returns-in-0
returns-in-0 c =
    let is : c.lowest.result ≡ decoded c.args.word c.args.next =
    c.lowest.ensures.is ∙ same_lowest c.args.word c.args.next (omega arith) in
    record { table = is; fits = c.lowest.ensures.fits; words = words_by _ c.args.word c.args.next is }

pub returns-in-1 : goal.returns-in-1
returns-in-1 c =
    let is : Ok c.comparison.result ≡ decoded c.args.word c.args.next =
    ap Ok c.comparison.ensures.is ∙ same_comparison c.args.word c.args.next (omega arith) in
    record { table = is; fits = c.comparison.ensures.fits; words = words_by _ c.args.word c.args.next is }

pub returns-in-2 : goal.returns-in-2
returns-in-2 c =
    let is : Ok c.logic.result ≡ decoded c.args.word c.args.next =
    ap Ok c.logic.ensures.is ∙ same_logic c.args.word c.args.next (omega arith) in
    record { table = is; fits = c.logic.ensures.fits; words = words_by _ c.args.word c.args.next is }

pub returns-in-8 : goal.returns-in-8
returns-in-8 c =
    let is : Ok c.displaced.result ≡ decoded c.args.word c.args.next =
    ap Ok c.displaced.ensures.is ∙ same_displaced c.args.word c.args.next (inl c.in-8.is) in
    record { table = is; fits = c.displaced.ensures.fits; words = words_by _ c.args.word c.args.next is }

pub returns-in-10 : goal.returns-in-10
returns-in-10 c =
    let is : Ok c.displaced-in-10.result ≡ decoded c.args.word c.args.next =
    ap Ok c.displaced-in-10.ensures.is ∙ same_displaced c.args.word c.args.next (inr c.in-10.is) in
    record { table = is; fits = c.displaced-in-10.ensures.fits; words = words_by _ c.args.word c.args.next is }

pub returns-in-9 : goal.returns-in-9
returns-in-9 c =
    let is : c.special.result ≡ decoded c.args.word c.args.next =
    c.special.ensures.is ∙ same_special c.args.word c.args.next (omega arith) in
    record { table = is; fits = c.special.ensures.fits; words = words_by _ c.args.word c.args.next is }

pub returns-in-11 : goal.returns-in-11
returns-in-11 c =
    let is : Ok c.input_or_output.result ≡ decoded c.args.word c.args.next =
    ap Ok c.input_or_output.ensures.is ∙ same_input_or_output c.args.word c.args.next (omega arith) in
    record { table = is; fits = c.input_or_output.ensures.fits; words = words_by _ c.args.word c.args.next is }

pub returns-in-12 : goal.returns-in-12
returns-in-12 c =
    let is : Ok c.relative.result ≡ decoded c.args.word c.args.next =
    ap Ok c.relative.ensures.is ∙ same_relative c.args.word c.args.next (inl c.in-12.is) in
    record { table = is; fits = c.relative.ensures.fits; words = words_by _ c.args.word c.args.next is }

pub returns-in-13 : goal.returns-in-13
returns-in-13 c =
    let is : Ok c.relative-in-13.result ≡ decoded c.args.word c.args.next =
    ap Ok c.relative-in-13.ensures.is ∙ same_relative c.args.word c.args.next (inr c.in-13.is) in
    record { table = is; fits = c.relative-in-13.ensures.fits; words = words_by _ c.args.word c.args.next is }

pub returns-in-15 : goal.returns-in-15
returns-in-15 c =
    let is : c.branch_or_bit.result ≡ decoded c.args.word c.args.next =
    c.branch_or_bit.ensures.is ∙ same_branch_or_bit c.args.word c.args.next (omega arith) in
    record { table = is; fits = c.branch_or_bit.ensures.fits; words = words_by _ c.args.word c.args.next is }

pub returns-in_default : goal.returns-in_default
returns-in_default c =
    let is : Ok c.with_constant.result ≡ decoded c.args.word c.args.next =
    ap Ok c.with_constant.ensures.is ∙ same_with_constant c.args.word c.args.next (λ h. omega arith) (λ h. omega arith) in
    record { table = is; fits = c.with_constant.ensures.fits; words = words_by _ c.args.word c.args.next is }
