-- The items of arrays and the names of tables as lists.
use Rattle.std.proofs.Common.{◌≡◌, ℕ, ◌&&◌, Bool, true, false, List, [], ◌∷◌, map, String, Global, string_bytes, refl, ap}
use Rattle.std.specs.Prelude.{IsUtf8}
use Rattle.std.specs.Str.{is_utf8}
use Rattle.std.proofs.lemmas.Str.{is_utf8-from_IsUtf8, IsUtf8-from_is_utf8}
use Rattle.std.specs.List.{list_all}
use Rattle.std.specs.Map.{keys_of}
use Rattle.toml.specs.Data.{Data}
use Rattle.toml.specs.View.{view, items_view, members_view}
use Rattle.toml.specs.declared.value.Value.{Value}
use Rattle.board_file.specs.declared.fault.Key.{Key}
use Rattle.board_file.specs.Known.{is_of, all_known}
use Rattle.board_file.specs.Values.{list_of}

-- the items of an array are those of its values
pub listed : (values : List Value) → list_of (items_view values) ≡ map view values
listed [] = refl
listed (v ∷ values) = ap (λ (others : List Data). view v ∷ others) (listed values)

-- the names of a table are the keys of its map
pub known_by_name : (keys : List Key) (es : List (String Global × Value)) → all_known keys (members_view es) ≡ list_all (λ name. is_of keys (string_bytes name)) (keys_of es)
known_by_name keys [] = refl
known_by_name keys (e ∷ es) = ap (λ (others : Bool). is_of keys (string_bytes e.0) && others) (known_by_name keys es)

-- text as a test
pub is_text : (bytes : List ℕ) → IsUtf8 bytes → is_utf8 bytes ≡ true
is_text bytes is = is_utf8-from_IsUtf8 bytes is

pub is_no_text : (bytes : List ℕ) → ¬ IsUtf8 bytes → is_utf8 bytes ≡ false
is_no_text bytes none =
    elim (is_utf8 bytes) as (λ b. is_utf8 bytes ≡ b → is_utf8 bytes ≡ false) [
      | true ↦ λ e. absurd (none (IsUtf8-from_is_utf8 bytes e))
      | false ↦ λ e. e
    ] refl
