-- The first file of a name.
use Rattle.std.proofs.Common.{◌≡◌, ℕ, true, ◌<◌, List, [], length, get_or, drop, drop-cons, refl, sym, ap, ◌∙◌, Option, Some, option_map, unwrap_or}
use Rattle.std.proofs.lemmas.Option.{slice_get_read}
use Rattle.wz_base.specs.Named.{Named, has_name, bytes_of_name, bytes_at}

-- where no file before a place has the name, and the one there does, the name has that file's bytes
pub found_here : (name : List ℕ) (files : List Named) (i : ℕ) (file : Named) → i < length files → file ≡ get_or files i file → has_name name file ≡ true → bytes_of_name (drop i files) name ≡ bytes_of_name files name → bytes_of_name files name ≡ Some (bytes_at files (Some i))
found_here name files i file below at is so_far =
    sym so_far ∙ rw (drop-cons files i file below, ← at) (rw is (ap (λ (o : Option Named). Some (unwrap_or (option_map (λ (g : Named). g.1.items) o) [])) (sym (slice_get_read files (length files) i file refl below at))))
