-- What the program's values say, as the definitions of board files have them.
use Rattle.std.specs.Prelude.{◌≡◌, ℕ, List, map, Option, Some, IsSome, option_and_then, Result, Ok, Err, Vec, String}
use Rattle.std.specs.BTreeMap.{BTreeMap}
use Rattle.std.specs.Borrow.{Bor}
use Rattle.std.specs.declared.alloc.Global.{Global}
use Rattle.toml.specs.Data.{Data, Members}
use Rattle.toml.specs.View.{table_view}
use Rattle.toml.specs.declared.value.Value.{Value}
use Rattle.board_read.specs.Lists.{each}
use Rattle.board_file.specs.Values.{items}
use Rattle.board_file.specs.declared.fault.BoardFault.{BoardFault}
use Rattle.board_file.specs.declared.fault.BoardError.{BoardError}
use Rattle.board_file.specs.declared.fault.BoardError.TheVariants.{Fault, NoMemory}

-- What a second reading makes of what a first one gives.
abbrev pub both : {A B C : Type 0} → (B → Option C) → (A → Option B) → A → Option C
both second first x = option_and_then second (first x)

-- These are the items of an array, of each of which something is read.
pub record IsArrayOf {A : Type 0} (kind_of : Data → Option A) (xs : List Data) (value : Data) : Type 0 where
  pub is : items value ≡ Some xs
  pub each : IsSome (each kind_of xs)

-- The tables that these references show.
abbrev pub tables : List (Bor (BTreeMap (String Global) Value)) → List Members
tables = map (λ t. table_view t.now)

-- The bytes of each.
abbrev pub bytes_of : List (Vec ℕ Global) → List (List ℕ)
bytes_of = map (λ bytes. bytes.items)

-- An error that judging gives: want of memory, or the fault that is found.
abbrev pub Errs : {Y : Type 0} → BoardError → Result Y BoardFault → Type 0
Errs NoMemory judged = Unit {0}
Errs (Fault fault) judged = judged ≡ Err fault

-- What the code gives, seen by a view, is what judging gives, where memory was there.
abbrev pub Gives : {X Y : Type 0} → (X → Y) → Result X BoardError → Result Y BoardFault → Type 0
Gives view (Ok x) judged = judged ≡ Ok (view x)
Gives view (Err e) judged = Errs e judged
