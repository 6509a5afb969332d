-- Lines read one after another.
use Rattle.std.proofs.Common.{◌≡◌, ℕ, ◌+◌, List, ◌∷◌, Option, Some, None, ap}
use Rattle.ihex.specs.declared.fault.HexKind.{HexKind}
use Rattle.ihex.specs.Flash.{written}
use Rattle.ihex.specs.Record.{Above, fault_of, below, line_data}
use Rattle.ihex.specs.Text.{fault_or, fault_behind, data_behind}
use Rattle.ihex.proofs.Flash.{written-append}

-- a line without fault
pub fault_more : (n : ℕ) (above : Above) (line : List ℕ) (more : List (List ℕ)) → fault_of above line ≡ None → fault_behind n above (line ∷ more) ≡ fault_behind (n + 1) (below above line) more
fault_more n above line more e = ap (λ (o : Option HexKind). fault_or (n + 1) o (fault_behind (n + 1) (below above line) more)) e

-- a faulty line
pub fault_here : (n : ℕ) (above : Above) (line : List ℕ) (more : List (List ℕ)) (kind : HexKind) → fault_of above line ≡ Some kind → fault_behind n above (line ∷ more) ≡ Some (record { line = n + 1; kind = kind })
fault_here n above line more kind e = ap (λ (o : Option HexKind). fault_or (n + 1) o (fault_behind (n + 1) (below above line) more)) e

-- the data bytes of one more line are written
pub data_more : (image : List ℕ) (above : Above) (line : List ℕ) (more : List (List ℕ)) → written image (data_behind above (line ∷ more)) ≡ written (written image (line_data above line)) (data_behind (below above line) more)
data_more image above line more = written-append image (line_data above line) (data_behind (below above line) more)
