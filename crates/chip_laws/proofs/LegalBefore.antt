-- A legal history at an earlier moment.
use Rattle.std.proofs.Common.{[], ◌∷◌, ◌++◌}
use Rattle.chip_sheet.specs.Past.{Past, GoesOn}
use Rattle.chip_sheet.specs.Streams.{Starts}
use Rattle.chip_sheet.specs.Legal.{Legal}

legal_behind : (starts : Starts) (older more : Past) → Legal starts (more ++ older) → Legal starts older
legal_behind starts older [] legal = legal
legal_behind starts older (entry ∷ more) legal = legal_behind starts older more legal.1

pub legal_front : (starts : Starts) (older newer : Past) → GoesOn older newer → Legal starts newer → Legal starts older
legal_front starts older newer on legal = legal_behind starts older on.0 (rw on.1 at legal)
