-- Statuses and texts of the ends of a command.
use Rattle.std.specs.Prelude.{ℕ, List, [], ◌∷◌, ◌++◌, codes}
use Rattle.std.specs.Fmt.{decimal}
use Rattle.board_file.specs.declared.fault.BoardFault.{BoardFault}
use Rattle.board_file.specs.Keys.{word}
use Rattle.board_file.specs.Kinds.{kind_word}
use Rattle.board_gen.specs.declared.fault.ScriptFault.{ScriptFault}
use Rattle.board_gen.specs.declared.fault.ScriptKind.{ScriptKind}
use Rattle.board_gen.specs.declared.fault.ScriptKind.TheVariants.{BadHead, BadToken, NotDue}
use Rattle.ihex.specs.declared.fault.HexFault.{HexFault}
use Rattle.ihex.specs.declared.fault.HexKind.{HexKind}
use Rattle.ihex.specs.declared.fault.HexKind.TheVariants.{AfterEnd, BadStart, BadDigit, BadLength, BadSum, BadType, OutOfFlash, NoEnd}
use Rattle.board_quick.specs.declared.end.Refusal.{Refusal}
use Rattle.board_quick.specs.declared.end.Refusal.TheVariants.{Usage, NoFile, ReadFault, TooLong, Hex, Board, Script, Judged}
use Rattle.board_quick.specs.declared.end.EndKind.{EndKind}
use Rattle.board_quick.specs.declared.end.EndKind.TheVariants.{Done, Break, Sleep, CycleLimit, Chip, Avr, TraceFull, PollFault, WriteFault, NoMemory, Refused}

-- The exit status of an end.
abbrev pub status_of : EndKind → ℕ
status_of Done = 0
status_of Break = 0
status_of Sleep = 0
status_of (Refused Usage) = 2
status_of (Refused (Hex fault)) = 3
status_of (Refused (Board fault)) = 4
status_of (Refused (NoFile operand)) = 5
status_of (Refused (ReadFault operand)) = 5
status_of WriteFault = 6
status_of NoMemory = 7
status_of TraceFull = 8
status_of PollFault = 9
status_of CycleLimit = 10
status_of (Refused (TooLong operand)) = 11
status_of (Refused (Script fault)) = 14
status_of (Refused (Judged fault)) = 15
status_of (Chip s) = 20
status_of (Avr s) = 20

-- The name of a kind of fault.
abbrev pub kind_text : HexKind → List ℕ
kind_text AfterEnd = codes "AfterEnd"
kind_text BadStart = codes "BadStart"
kind_text BadDigit = codes "BadDigit"
kind_text BadLength = codes "BadLength"
kind_text BadSum = codes "BadSum"
kind_text BadType = codes "BadType"
kind_text OutOfFlash = codes "OutOfFlash"
kind_text NoEnd = codes "NoEnd"

-- The line that the fault of an Intel HEX text prints.
abbrev pub hex_text : HexFault → List ℕ
hex_text fault = codes "fault hex " ++ kind_text fault.kind ++ 32 ∷ (decimal fault.line ++ 10 ∷ [])

-- The name of a kind of fault of a script.
abbrev pub script_kind_text : ScriptKind → List ℕ
script_kind_text BadHead = codes "BadHead"
script_kind_text BadToken = codes "BadToken"
script_kind_text NotDue = codes "NotDue"

-- The line that the fault of a script prints.
abbrev pub script_text : ScriptFault → List ℕ
script_text fault = codes "fault script " ++ script_kind_text fault.kind ++ 32 ∷ (decimal fault.line ++ 10 ∷ [])

-- The line that the fault of a board file prints.
abbrev pub board_text : BoardFault → List ℕ
board_text fault = codes "fault board " ++ word fault.key ++ 32 ∷ (decimal fault.entry ++ 32 ∷ (kind_word fault.kind ++ 10 ∷ []))

-- The line that a refusal prints; operands count from 1. That of a judged trace is printed as its verdict, and no line is behind it.
abbrev pub fault_text : Refusal → List ℕ
fault_text Usage = codes "fault usage\n"
fault_text (NoFile operand) = codes "fault nofile " ++ (decimal operand ++ 10 ∷ [])
fault_text (ReadFault operand) = codes "fault read " ++ (decimal operand ++ 10 ∷ [])
fault_text (TooLong operand) = codes "fault long " ++ (decimal operand ++ 10 ∷ [])
fault_text (Hex fault) = hex_text fault
fault_text (Board fault) = board_text fault
fault_text (Script fault) = script_text fault
fault_text (Judged fault) = []
