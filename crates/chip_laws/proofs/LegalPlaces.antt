-- A legal history, place by place.
use Rattle.std.proofs.Common.{◌≡◌, ◌↔◌, zero, suc, [], ◌∷◌, refl}
use Rattle.chip_sheet.specs.Past.{Past}
use Rattle.chip_sheet.specs.Streams.{Starts}
use Rattle.chip_sheet.specs.Legal.{Legal, LegalAtEach}

to_each : (starts : Starts) (past : Past) → Legal starts past → LegalAtEach starts past
to_each starts [] legal i entry at = cc
to_each starts (first ∷ past) legal zero entry at = let same : first ≡ entry = cc in rw same at legal.0
to_each starts (first ∷ past) legal (suc i) entry at = to_each starts past legal.1 i entry at

from_each : (starts : Starts) (past : Past) → LegalAtEach starts past → Legal starts past
from_each starts [] each = tt
from_each starts (first ∷ past) each = (each zero first refl, from_each starts past (λ i entry at. each (suc i) entry at))

pub legal_each : (starts : Starts) (past : Past) → Legal starts past ↔ LegalAtEach starts past
legal_each starts past = (to_each starts past, from_each starts past)
