-- Files in memory, each a name with its bytes. Where a name stands twice, the first one counts.
use Rattle.std.specs.Prelude.{◌≡◌, ℕ, Bool, List, [], slice_get, find, Option, None, Some, MatchOption, option_map, unwrap_or, String, Vec, string_bytes}
use Rattle.std.specs.Str.{bytes_eq}
use Rattle.std.specs.declared.alloc.Global.{Global}

-- a name and the bytes of the file
abbrev pub Named : Type 0
Named = String Global × Vec ℕ Global

-- the file has this name
abbrev pub has_name : List ℕ → Named → Bool
has_name name file = bytes_eq (string_bytes file.0) name

-- the bytes of the first file of that name, if there is one
abbrev pub bytes_of_name : List Named → List ℕ → Option (List ℕ)
bytes_of_name files name = option_map (λ file. file.1.items) (find (has_name name) files)

-- the bytes of the file at a place, and none where no file is picked
abbrev pub bytes_at : List Named → Option ℕ → List ℕ
bytes_at files None = []
bytes_at files (Some i) = unwrap_or (option_map (λ file. file.1.items) (slice_get files i)) []

-- this is the place of the first file of that name, if there is one
abbrev pub FindsName : List Named → List ℕ → Option ℕ → Type 0
FindsName files name place =
    MatchOption place (bytes_of_name files name ≡ None) (λ i. bytes_of_name files name ≡ Some (bytes_at files (Some i)))
