-- The keys that a table may have.
use Rattle.std.specs.Prelude.{ℕ, Bool, true, ◌&&◌, List, Result, Ok, Err, if◌then◌else◌}
use Rattle.std.specs.List.{list_any}
use Rattle.std.specs.Str.{bytes_eq}
use Rattle.toml.specs.Data.{Members, no_members, member}
use Rattle.board_file.specs.declared.fault.Key.{Key}
use Rattle.board_file.specs.declared.fault.Key.TheVariants as key
use Rattle.board_file.specs.declared.fault.KeyKind.TheVariants as kind
use Rattle.board_file.specs.declared.fault.BoardFault.{BoardFault}
use Rattle.board_file.specs.Keys.{word}

-- One of these keys has this name.
abbrev pub is_of : List Key → List ℕ → Bool
is_of keys name = list_any (λ k. bytes_eq (word k) name) keys

-- Each name in a table is that of one of these keys.
abbrev pub all_known : List Key → Members → Bool
all_known keys no_members = true
all_known keys (member name value others) = is_of keys name && all_known keys others

-- Nothing, where each name in a table is known; else a fault of the entry with this number.
abbrev pub only_known : List Key → ℕ → Members → Result (Unit {0}) BoardFault
only_known keys entry table =
    if all_known keys table then Ok tt else Err (record { key = key.Unknown; entry = entry; kind = kind.Unknown })
