-- What is wrong with a key, as it is printed.
use Rattle.std.specs.Prelude.{ℕ, List, codes}
use Rattle.board_file.specs.declared.fault.KeyKind.{KeyKind}
use Rattle.board_file.specs.declared.fault.KeyKind.TheVariants.{Missing, WrongType, OutOfRange, BadText, Unknown, BadToml}

abbrev pub kind_word : KeyKind → List ℕ
kind_word Missing = codes "Missing"
kind_word WrongType = codes "WrongType"
kind_word OutOfRange = codes "OutOfRange"
kind_word BadText = codes "BadText"
kind_word Unknown = codes "Unknown"
kind_word BadToml = codes "BadToml"
