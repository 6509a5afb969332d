-- The text of a mnemonic and its operands as the code holds them. The public contract of `text` cites `Text`.
use Rattle.std.specs.Prelude.{ℕ, List, ◌++◌, codes}
use Rattle.std.specs.Fmt.{decimal}
use Rattle.avr_enc.specs.Text.{register, constant, address, target, relative, pointer, with_one, with_two}
use Rattle.avr_enc.specs.declared.operand.Operand.{Operand}
use Rattle.avr_enc.specs.declared.operand.Operand.TheVariants.{Register, Constant, Number, Address, Target, Relative, Pointer, Z, ZDisplaced, YDisplaced}
use Rattle.avr_enc.specs.declared.operand.Operands.{Operands}
use Rattle.avr_enc.specs.declared.operand.Operands.TheVariants.{Bare, One, Two}

-- The text of one operand.
abbrev pub operand_text : Operand → List ℕ
operand_text (Register d) = register d
operand_text (Constant k) = constant k
operand_text (Number n) = decimal n
operand_text (Address k) = address k
operand_text (Target k) = target k
operand_text (Relative k) = relative k
operand_text (Pointer p) = pointer p
operand_text Z = codes "Z"
operand_text (ZDisplaced q) = codes "Z+" ++ decimal q
operand_text (YDisplaced q) = codes "Y+" ++ decimal q

-- The text of a mnemonic with its operands.
abbrev pub syntax_text : List ℕ → Operands → List ℕ
syntax_text name Bare = name
syntax_text name (One first) = with_one name (operand_text first)
syntax_text name (Two first second) = with_two name (operand_text first) (operand_text second)
