-- The words that begin with 0000, 0001 and 0010.
use Rattle.std.proofs.Common.{◌≡◌, ℕ, ◌/◌, refl}
use Rattle.std.specs.Prelude.{Ok}
use Rattle.avr_table.specs.Decoded.{decoded}
use Rattle.avr_table.proofs.Alike.{Agrees, at_each}
use Rattle.avr_table.specs.Nest.{lowest_of, comparison_of, logic_of}

lowest_agrees : Agrees (λ w next. lowest_of w) 0
lowest_agrees next = refl

pub same_lowest : (w next : ℕ) → w / 4096 ≡ 0 → lowest_of w ≡ decoded w next
same_lowest w next h = at_each (λ w next. lowest_of w) 0 lowest_agrees w next h

comparison_agrees : Agrees (λ w next. Ok (comparison_of w)) 1
comparison_agrees next = refl

pub same_comparison : (w next : ℕ) → w / 4096 ≡ 1 → Ok (comparison_of w) ≡ decoded w next
same_comparison w next h = at_each (λ w next. Ok (comparison_of w)) 1 comparison_agrees w next h

logic_agrees : Agrees (λ w next. Ok (logic_of w)) 2
logic_agrees next = refl

pub same_logic : (w next : ℕ) → w / 4096 ≡ 2 → Ok (logic_of w) ≡ decoded w next
same_logic w next h = at_each (λ w next. Ok (logic_of w)) 2 logic_agrees w next h
