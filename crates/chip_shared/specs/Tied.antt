-- What ties links to a history: the bytes that each told connection was given and gave, and which connections are made and quiet.
use Rattle.std.specs.Prelude.{◌≡◌, ℕ, ◌+◌, ◌<◌, true, false, List, [], ◌∷◌, ◌++◌, length, take, if◌then◌else◌}
use Rattle.chip_sheet.specs.declared.event.Addr.{Addr}
use Rattle.chip_sheet.specs.declared.event.ConnId.{ConnId}
use Rattle.chip_sheet.specs.declared.event.Entry.TheVariants.{Bus, Link, Rest}
use Rattle.chip_sheet.specs.declared.event.LinkEntry.{LinkEntry}
use Rattle.chip_sheet.specs.declared.event.LinkEntry.TheVariants.{Took}
use Rattle.chip_sheet.specs.Past.{Past}
use Rattle.chip_sheet.specs.Streams.{Starts, is_of, is_made, sent, taken, supplied, destinations}
use Rattle.chip_sheet.specs.Connections.{is_dropped, is_carried}
use Rattle.link_trait.specs.Shown.{Shown}

abbrev pub takes : LinkEntry → ℕ
takes (Took count) = 1
takes what = 0

-- How often the link took bytes, or a datagram, of a life.
abbrev pub times_taken : Past → ℕ → ℕ → ℕ
times_taken [] n life = 0
times_taken (Link m what ∷ past) n life = if is_of past m n life then times_taken past n life + takes what else times_taken past n life
times_taken (Bus e a ∷ past) n life = times_taken past n life
times_taken (Rest ∷ past) n life = times_taken past n life

-- The links agree with a history. Each connection of a socket that they tell was given exactly the bytes passed to SEND up to the
-- taken count, and gave exactly the bytes that the link supplied. Its datagrams went to the first of its destinations; where no
-- connection was made, as in UDP, one address stands for each datagram that the link took.
pub record Tied (starts : Starts) (past : Past) (shown : Shown) : Type 0 where
  pub given : (c : ConnId) → c.sn < 8 → shown.told c ≡ true → shown.given c ≡ take (taken past c.sn c.life) (sent starts past c.sn c.life)
  pub fed : (c : ConnId) → c.sn < 8 → shown.told c ≡ true → shown.fed c ≡ supplied past c.sn c.life
  pub dests : (c : ConnId) → c.sn < 8 → shown.told c ≡ true → (more : List Addr) × (destinations starts past c.sn c.life ≡ shown.dests c ++ more)
  pub one_each : (c : ConnId) → c.sn < 8 → shown.told c ≡ true → is_made past c.sn c.life ≡ false → length (shown.dests c) ≡ times_taken past c.sn c.life

-- What the next calls need: a connection that the history made and did not drop is made for the links, and no connection that is
-- quiet carried anything.
pub record Ready (past : Past) (shown : Shown) : Type 0 where
  pub made : (c : ConnId) → c.sn < 8 → is_made past c.sn c.life ≡ true → is_dropped past c.sn c.life ≡ false → shown.made c ≡ true
  pub quiet : (c : ConnId) → c.sn < 8 → shown.quiet c ≡ true → is_carried past c.sn c.life ≡ false
