-- Intel HEX both ways.
use Rattle.std.specs.Prelude.{◌≡◌, ◌<◌, ℕ, List, length, All, None}
use Rattle.ihex.specs.Flash.{written}
use Rattle.flash.specs.Image.{erased}
use Rattle.ihex.specs.Store.{hex_text}
use Rattle.ihex.specs.Text.{data_in, fault_in}

-- A text is that of an image: it has no fault, and its data bytes over erased flash make the image.
pub record Gives (text image : List ℕ) : Type 0 where
  pub fault : fault_in text ≡ None
  pub bytes : written erased (data_in text) ≡ image

-- The text that is written of an image, 32,768 bytes, is read as the same image.
abbrev pub TextGivesImage : Type 0
TextGivesImage = (image : List ℕ) → length image ≡ 32768 → All (λ b. b < 256) image → Gives (hex_text image) image
