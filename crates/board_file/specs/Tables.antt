-- Arrays of tables.
use Rattle.std.specs.Prelude.{ℕ, List, [], Option, None, Some, ok_or, Result, Ok}
use Rattle.toml.specs.Data.{Data, Members, as_table, get_member}
use Rattle.board_file.specs.declared.fault.Key.{Key}
use Rattle.board_file.specs.declared.fault.KeyKind.TheVariants.{WrongType}
use Rattle.board_file.specs.declared.fault.BoardFault.{BoardFault}
use Rattle.board_file.specs.Keys.{word}
use Rattle.board_file.specs.Judged.{◌>>=◌, faulted, each_from}
use Rattle.board_file.specs.Values.{items, few}

-- The table that an entry of this key is.
abbrev pub table_at : Key → ℕ → Data → Result Members BoardFault
table_at key entry value = faulted key entry (ok_or (as_table value) WrongType)

-- The tables of a key that may be left out. It is judged whole: first that it is an array, then that each entry is a table, then
-- that there are at most 64.
abbrev pub tables_of : Key → Option Data → Result (List Members) BoardFault
tables_of key None = Ok []
tables_of key (Some value) = do
  entries ← faulted key 0 (ok_or (items value) WrongType)
  tables ← each_from (table_at key) 0 entries
  faulted key 0 (few 64 tables)

-- What each table of a key says, once the key was judged whole.
abbrev pub entries : {A : Type 0} → Key → (ℕ → Members → Result A BoardFault) → Members → Result (List A) BoardFault
entries key judge file = do
  tables ← tables_of key (get_member (word key) file)
  each_from judge 0 tables
