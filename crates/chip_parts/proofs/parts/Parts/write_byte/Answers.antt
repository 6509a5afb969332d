use Rattle.std.proofs.Common.{ℕ, ◌/◌, refl, ap, ◌∙◌, arith}
use Rattle.std.proofs.lemmas.Bool.{ne_eqb}
use Rattle.chip_sheet.specs.declared.event.Entry.TheVariants.{Bus}
use Rattle.chip_sheet.specs.declared.phase.Access.{Access}
use Rattle.chip_sheet.specs.declared.phase.Access.TheVariants.{Write}
use Rattle.chip_sheet.specs.Blocks.{rx_buffer_of}
use Rattle.chip_sheet.specs.Quiet.{writes_to}
use Rattle.chip_steps.proofs.Elsewhere.{any_rx_buffer}
use Rattle.chip_steps.proofs.StopSteps.{writes_rx, writes_reserved}
use Rattle.chip_parts.proofs.Buffers.{none_steps}
use Rattle.chip_parts.proofs.Outcomes.{ok_ok, if_err}
use Rattle.chip_parts.proofs.Passing.{registers_bits, tx_bits, rx_bits}
use Rattle.chip_parts.proofs.Reading.{no_block}
use Rattle.chip_parts.proofs.parts.Parts.write_byte.Goals as goal

pub returns-then-bits-eq0-clause-ok : goal.returns-then-bits-eq0-clause-ok
returns-then-bits-eq0-clause-ok c =
    ok_ok c.write_common.result _ _ c.write_common.ensures.ok (λ went. λ starts past e a legal held is.
    went starts past e a held (is ∙ ap (λ (b : ℕ). Write b c.args.addr c.args.v) c.if-bits-eq0.true))

pub returns-then-bits-eq0-clause-err : goal.returns-then-bits-eq0-clause-err
returns-then-bits-eq0-clause-err c =
    if_err c.write_common.result _ _ c.write_common.ensures.err (λ s went. (
      went.0,
      λ starts past e legal held is. went.1 starts past e held (is ∙ ap (λ (b : ℕ). Write b c.args.addr c.args.v) c.if-bits-eq0.true),
    ))

pub returns-then-kind-eq1-clause-ok : goal.returns-then-kind-eq1-clause-ok
returns-then-kind-eq1-clause-ok c =
    ok_ok c.write_register.result _ _ c.write_register.ensures.ok (λ went. λ starts past e a legal held is.
    went starts past e a held (is ∙ ap (λ (b : ℕ). Write b c.args.addr c.args.v) (registers_bits c.args.bits c.if-kind-eq1.true)))

pub returns-then-kind-eq1-clause-err : goal.returns-then-kind-eq1-clause-err
returns-then-kind-eq1-clause-err c =
    if_err c.write_register.result _ _ c.write_register.ensures.err (λ s went. (
      went.0,
      λ starts past e legal held is. went.1 starts past e held (is ∙ ap (λ (b : ℕ). Write b c.args.addr c.args.v) (registers_bits c.args.bits c.if-kind-eq1.true)),
    ))

pub returns-then-kind-eq2-clause-ok : goal.returns-then-kind-eq2-clause-ok
returns-then-kind-eq2-clause-ok c =
    ok_ok c.write_tx.result _ _ c.write_tx.ensures.ok (λ went. λ starts past e a legal held is.
    went starts past e a legal held (is ∙ ap (λ (b : ℕ). Write b c.args.addr c.args.v) (tx_bits c.args.bits c.if-kind-eq2.true)))

pub returns-then-kind-eq2-clause-err : goal.returns-then-kind-eq2-clause-err
returns-then-kind-eq2-clause-err c =
    if_err c.write_tx.result _ _ c.write_tx.ensures.err (λ s went. (
      went.0,
      λ starts past e legal held is. went.1 starts past e legal held (is ∙ ap (λ (b : ℕ). Write b c.args.addr c.args.v) (tx_bits c.args.bits c.if-kind-eq2.true)),
    ))

pub returns-then-kind-eq3-clause-ok : goal.returns-then-kind-eq3-clause-ok
returns-then-kind-eq3-clause-ok c = λ starts past e a legal held is.
    let sn = c.args.bits / 4 in
    let addr = c.args.addr in
    let v = c.args.v in
    let here = is ∙ ap (λ (b : ℕ). Write b addr v) (rx_bits c.args.bits c.if-kind-eq3.true) in (
      writes_rx starts past e sn addr v here,
      none_steps starts past (Bus e a) c.args.self.now held (ap (λ (made : Access). writes_to made 0) here ∙ ne_eqb (rx_buffer_of sn) 0 (λ z. omega (arith, z)))
          (λ m. any_rx_buffer past e a sn m addr v here),
    )

pub returns-else-kind-eq3-clause-err : goal.returns-else-kind-eq3-clause-err
returns-else-kind-eq3-clause-err c = (
  refl,
  λ starts past e legal held is.
      writes_reserved starts past e c.args.bits c.args.addr c.args.v is
      (no_block c.args.bits c.if-bits-eq0.false c.if-kind-eq1.false c.if-kind-eq2.false c.if-kind-eq3.false),
)
