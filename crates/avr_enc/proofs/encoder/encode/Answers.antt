use Rattle.std.proofs.Common.{ap, sym, subst, ◌∙◌}
use Rattle.std.specs.Prelude.{Ok, unwrap_or}
use Rattle.avr_table.specs.Decoded.{decoded}
use Rattle.avr_table.specs.WellFormed.{IsWellFormed}
use Rattle.avr_enc.specs.Words.{move_word, jump_word}
use Rattle.avr_enc.proofs.Sums.{sum_decodes}
use Rattle.avr_enc.proofs.Products.{product_decodes}
use Rattle.avr_enc.proofs.Logic.{logic_decodes}
use Rattle.avr_enc.proofs.Moves.{move_decodes}
use Rattle.avr_enc.proofs.Jumps.{jump_decodes}
use Rattle.avr_enc.proofs.Bits.{bits_decodes}
use Rattle.avr_enc.proofs.encoder.encode.Goals as goal

pub returns-in-Sums-clause-decodes : goal.returns-in-Sums-clause-decodes
returns-in-Sums-clause-decodes c = λ next.
    ap (λ w. decoded w next) c.sum_word.ensures
    ∙ sum_decodes next c.in-Sums.sum (subst IsWellFormed c.in-Sums.is c.requires) ∙ ap Ok (sym c.in-Sums.is)

pub returns-in-Products-clause-decodes : goal.returns-in-Products-clause-decodes
returns-in-Products-clause-decodes c = λ next.
    ap (λ w. decoded w next) c.product_word.ensures
    ∙ product_decodes next c.in-Products.product (subst IsWellFormed c.in-Products.is c.requires) ∙ ap Ok (sym c.in-Products.is)

pub returns-in-Logic-clause-decodes : goal.returns-in-Logic-clause-decodes
returns-in-Logic-clause-decodes c = λ next.
    ap (λ w. decoded w next) c.logic_word.ensures
    ∙ logic_decodes next c.in-Logic.logic (subst IsWellFormed c.in-Logic.is c.requires) ∙ ap Ok (sym c.in-Logic.is)

pub returns-in-Bits-clause-decodes : goal.returns-in-Bits-clause-decodes
returns-in-Bits-clause-decodes c = λ next.
    ap (λ w. decoded w next) c.bits_word.ensures
    ∙ bits_decodes next c.in-Bits.bits (subst IsWellFormed c.in-Bits.is c.requires) ∙ ap Ok (sym c.in-Bits.is)

pub returns-in-Moves-clause-decodes : goal.returns-in-Moves-clause-decodes
returns-in-Moves-clause-decodes c = λ next.
    ap (λ w. decoded w (unwrap_or c.move_next.result next)) c.move_word.ensures
    ∙ ap (λ o. decoded (move_word c.in-Moves.moves) (unwrap_or o next)) c.move_next.ensures
    ∙ move_decodes next c.in-Moves.moves (subst IsWellFormed c.in-Moves.is c.requires) ∙ ap Ok (sym c.in-Moves.is)

pub returns-in-Jumps-clause-decodes : goal.returns-in-Jumps-clause-decodes
returns-in-Jumps-clause-decodes c = λ next.
    ap (λ w. decoded w (unwrap_or c.jump_next.result next)) c.jump_word.ensures
    ∙ ap (λ o. decoded (jump_word c.in-Jumps.jump) (unwrap_or o next)) c.jump_next.ensures
    ∙ jump_decodes next c.in-Jumps.jump (subst IsWellFormed c.in-Jumps.is c.requires) ∙ ap Ok (sym c.in-Jumps.is)
