-- The text of stops.
use Rattle.std.specs.Prelude.{ℕ, List, [], ◌∷◌, ◌++◌, codes}
use Rattle.std.specs.Fmt.{decimal}
use Rattle.chip_sheet.specs.declared.stop.ChipStop.{ChipStop}
use Rattle.chip_sheet.specs.declared.stop.ChipStop.TheVariants.{ReservedBlock, Pppoe, SizeWhileOpen, OverwriteInFlight, SendMac, RawEthernet, Multicast, BadBufferSize, SendBusy, SendTooLong, RecvPastEnd}

-- The name of a stop.
abbrev pub stop_name : ChipStop → List ℕ
stop_name (ReservedBlock block) = codes "ReservedBlock"
stop_name Pppoe = codes "Pppoe"
stop_name (SizeWhileOpen sn) = codes "SizeWhileOpen"
stop_name (OverwriteInFlight sn at) = codes "OverwriteInFlight"
stop_name (SendMac sn) = codes "SendMac"
stop_name (RawEthernet sn) = codes "RawEthernet"
stop_name (Multicast sn) = codes "Multicast"
stop_name (BadBufferSize sn) = codes "BadBufferSize"
stop_name (SendBusy sn) = codes "SendBusy"
stop_name (SendTooLong sn len free) = codes "SendTooLong"
stop_name (RecvPastEnd sn asked there) = codes "RecvPastEnd"

-- Its values, in the order of its fields.
abbrev pub stop_values : ChipStop → List ℕ
stop_values (ReservedBlock block) = block ∷ []
stop_values Pppoe = []
stop_values (SizeWhileOpen sn) = sn ∷ []
stop_values (OverwriteInFlight sn at) = sn ∷ at ∷ []
stop_values (SendMac sn) = sn ∷ []
stop_values (RawEthernet sn) = sn ∷ []
stop_values (Multicast sn) = sn ∷ []
stop_values (BadBufferSize sn) = sn ∷ []
stop_values (SendBusy sn) = sn ∷ []
stop_values (SendTooLong sn len free) = sn ∷ len ∷ free ∷ []
stop_values (RecvPastEnd sn asked there) = sn ∷ asked ∷ there ∷ []

-- Numbers in decimal, each behind a space.
abbrev pub decimals : List ℕ → List ℕ
decimals [] = []
decimals (n ∷ []) = 32 ∷ decimal n
decimals (n ∷ m ∷ more) = 32 ∷ (decimal n ++ decimals (m ∷ more))

-- The name of a stop and its values.
abbrev pub stop_text : ChipStop → List ℕ
stop_text stop = stop_name stop ++ decimals (stop_values stop)

-- The line of a stop that ends a command.
abbrev pub stop_line : ChipStop → List ℕ
stop_line stop = codes "stop " ++ stop_text stop ++ 10 ∷ []
