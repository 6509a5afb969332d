use Rattle.std.proofs.Common.{◌≡◌, ◌&&◌, length, refl, sym, ◌∙◌, arith}
use Rattle.chip_sheet.specs.declared.stop.ChipStop.TheVariants.{SizeWhileOpen}
use Rattle.chip_sheet.specs.Blocks.{sockets}
use Rattle.chip_sheet.specs.Stops.{any_open, where_it}
use Rattle.chip_parts.proofs.Sizing.{any_is, all_empty, both_false, register_stop}
use Rattle.chip_parts.proofs.parts.Parts.write_register.Goals as goal

pub resize-requires-clause-flight : goal.resize-requires-clause-flight
resize-requires-clause-flight c = λ n below.
    let len : length c.args.self.now.lives ≡ 8 = omega arith in
    (all_empty c.args.self.now n len c.requires.windows (sym c.any_open.ensures ∙ c.if-any_open.false) below).0

pub resize-requires-clause-unread : goal.resize-requires-clause-unread
resize-requires-clause-unread c = λ n below.
    let len : length c.args.self.now.lives ≡ 8 = omega arith in
    (all_empty c.args.self.now n len c.requires.windows (sym c.any_open.ensures ∙ c.if-any_open.false) below).1

pub returns-then-any_open-clause-err : goal.returns-then-any_open-clause-err
returns-then-any_open-clause-err c =
    let sn = c.args.sn in (
      refl,
      λ starts past e held is.
          let len : length c.args.self.now.lives ≡ 8 = omega arith in
          register_stop starts past e sn c.args.addr c.args.v c.resizes.result c.any_open.result is c.requires.no_command (c.resizes.ensures starts past e held is)
          (c.any_open.ensures ∙ any_is past c.args.self.now.lives len held.lives)
          ∙ (λ i. where_it (c.if-resizes.true i && c.if-any_open.true i) (SizeWhileOpen sn)),
    )

pub returns-else-any_open-clause-ok : goal.returns-else-any_open-clause-ok
returns-else-any_open-clause-ok c = λ starts past e a held is.
    let sn = c.args.sn in
    let len : length c.args.self.now.lives ≡ 8 = omega arith in
    let sized = c.resizes.ensures starts past e held is in (
      register_stop starts past e sn c.args.addr c.args.v c.resizes.result c.any_open.result is c.requires.no_command sized (c.any_open.ensures ∙ any_is past c.args.self.now.lives len held.lives)
          ∙ (λ i. where_it (c.if-resizes.true i && c.if-any_open.false i) (SizeWhileOpen sn)),
      c.resize.ensures starts past e a held is (sym sized ∙ c.if-resizes.true),
    )

pub returns-else-resizes-clause-ok : goal.returns-else-resizes-clause-ok
returns-else-resizes-clause-ok c = λ starts past e a held is.
    let sn = c.args.sn in
    let sized = c.resizes.ensures starts past e held is in
    let neither = both_false _ _ (sym sized ∙ c.if-resizes.false) in (
      register_stop starts past e sn c.args.addr c.args.v c.resizes.result (any_open past sockets) is c.requires.no_command sized refl
          ∙ (λ i. where_it (c.if-resizes.false i && any_open past sockets) (SizeWhileOpen sn)),
      c.write_plain.ensures starts past e a held is c.requires.no_command neither.1 neither.0,
    )
