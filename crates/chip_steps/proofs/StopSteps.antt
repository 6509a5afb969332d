-- The stop of an access, block by block.
use Rattle.std.proofs.Common.{◌≡◌, ℕ, ◌/◌, ◌%◌, Bool, true, false, ◌&&◌, ◌||◌, eqb, ltb, [], ◌∷◌, Option, None, Some, refl, sym, ap, ◌∙◌}
use Rattle.board_bus.specs.declared.event.BusEvent.{BusEvent}
use Rattle.chip_sheet.specs.declared.stop.ChipStop.{ChipStop}
use Rattle.chip_sheet.specs.declared.stop.ChipStop.TheVariants.{ReservedBlock, Pppoe, SizeWhileOpen}
use Rattle.chip_sheet.specs.declared.phase.Access.{Access}
use Rattle.chip_sheet.specs.declared.phase.Access.TheVariants.{NoAccess, Read, Write}
use Rattle.chip_sheet.specs.declared.block.Block.{Block}
use Rattle.chip_sheet.specs.declared.block.Block.TheVariants.{Common, Registers, TxBuffer, RxBuffer, Reserved}
use Rattle.chip_sheet.specs.Past.{Past}
use Rattle.chip_sheet.specs.Frames.{access}
use Rattle.chip_sheet.specs.Blocks.{sockets, registers_of, tx_buffer_of, rx_buffer_of, block_of}
use Rattle.chip_sheet.specs.Sizes.{tx_sizes, rx_sizes, tx_size, resizes, resizes_block}
use Rattle.chip_sheet.specs.Streams.{Starts}
use Rattle.chip_sheet.specs.Windows.{in_flight_at}
use Rattle.chip_sheet.specs.Stops.{Reads, Writes, block_access, where_it, overwrite, any_open, first, command_stop, command_facts, stop_by, stop}
use Rattle.chip_sheet.proofs.StopRows.{registers_block}
use Rattle.chip_sheet.proofs.ResetRestores.{tx_block, rx_block}

one_row : (o : Option ChipStop) → first (o ∷ []) ≡ o
one_row None = refl
one_row (Some s) = refl

third_row : (o : Option ChipStop) → first (o ∷ None ∷ None ∷ []) ≡ o
third_row None = refl
third_row (Some s) = refl

second_row : (o : Option ChipStop) → first (o ∷ None ∷ None ∷ None ∷ []) ≡ o
second_row None = refl
second_row (Some s) = refl

fourth_row : (o : Option ChipStop) → first (o ∷ None ∷ []) ≡ o
fourth_row None = refl
fourth_row (Some s) = refl

written_block : (starts : Starts) (past : Past) (e : BusEvent) (bits addr v : ℕ) (b : Block) → access past e ≡ Write bits addr v → block_of bits ≡ b → stop starts past e ≡ stop_by starts past (Writes bits b addr v)
written_block starts past e bits addr v b is block =
    ap (λ (made : Access). stop_by starts past (block_access made)) is ∙ ap (λ (x : Block). stop_by starts past (Writes bits x addr v)) block

pub no_access : (starts : Starts) (past : Past) (e : BusEvent) → access past e ≡ NoAccess → stop starts past e ≡ None
no_access starts past e is = ap (λ (made : Access). stop_by starts past (block_access made)) is

read_block : (starts : Starts) (past : Past) (bits addr : ℕ) (b : Block) → (b ≡ Reserved → ⊥) → stop_by starts past (Reads bits b addr) ≡ None
read_block starts past bits addr Common other = refl
read_block starts past bits addr (Registers n) other = refl
read_block starts past bits addr (TxBuffer n) other = refl
read_block starts past bits addr (RxBuffer n) other = refl
read_block starts past bits addr Reserved other = absurd (other refl)

pub reads : (starts : Starts) (past : Past) (e : BusEvent) (bits addr : ℕ) → access past e ≡ Read bits addr → (block_of bits ≡ Reserved → ⊥) → stop starts past e ≡ None
reads starts past e bits addr is other = ap (λ (made : Access). stop_by starts past (block_access made)) is ∙ read_block starts past bits addr (block_of bits) other

pub reads_reserved : (starts : Starts) (past : Past) (e : BusEvent) (bits addr : ℕ) → access past e ≡ Read bits addr → block_of bits ≡ Reserved → stop starts past e ≡ Some (ReservedBlock bits)
reads_reserved starts past e bits addr is block =
    ap (λ (made : Access). stop_by starts past (block_access made)) is ∙ ap (λ (b : Block). stop_by starts past (Reads bits b addr)) block

pub writes_reserved : (starts : Starts) (past : Past) (e : BusEvent) (bits addr v : ℕ) → access past e ≡ Write bits addr v → block_of bits ≡ Reserved → stop starts past e ≡ Some (ReservedBlock bits)
writes_reserved starts past e bits addr v is block = written_block starts past e bits addr v Reserved is block

pub writes_common : (starts : Starts) (past : Past) (e : BusEvent) (addr v : ℕ) → access past e ≡ Write 0 addr v → stop starts past e ≡ where_it (eqb addr 0x00 && ltb v 128 && eqb (v / 8 % 2) 1) Pppoe
writes_common starts past e addr v is = written_block starts past e 0 addr v Common is refl ∙ second_row (where_it (eqb addr 0x00 && ltb v 128 && eqb (v / 8 % 2) 1) Pppoe)

pub writes_rx : (starts : Starts) (past : Past) (e : BusEvent) (n addr v : ℕ) → access past e ≡ Write (rx_buffer_of n) addr v → stop starts past e ≡ None
writes_rx starts past e n addr v is = written_block starts past e (rx_buffer_of n) addr v (RxBuffer n) is (rx_block n)

pub writes_tx : (starts : Starts) (past : Past) (e : BusEvent) (n addr v : ℕ) → access past e ≡ Write (tx_buffer_of n) addr v → stop starts past e ≡ overwrite n (tx_size past n) addr (in_flight_at starts past n addr)
writes_tx starts past e n addr v is =
    written_block starts past e (tx_buffer_of n) addr v (TxBuffer n) is (tx_block n) ∙ fourth_row (overwrite n (tx_size past n) addr (in_flight_at starts past n addr))

pub writes_command : (starts : Starts) (past : Past) (e : BusEvent) (n v : ℕ) → access past e ≡ Write (registers_of n) 0x01 v → stop starts past e ≡ command_stop n (command_facts starts past n) v
writes_command starts past e n v is =
    written_block starts past e (registers_of n) 0x01 v (Registers n) is (registers_block n) ∙ one_row (command_stop n (command_facts starts past n) v)

no_command : (starts : Starts) (past : Past) (n v : ℕ) (here : Bool) (o : Option ChipStop) → here ≡ false
    → first (o ∷ None ∷ elim here as (λ b. Option ChipStop) [ true ↦ command_stop n (command_facts starts past n) v | false ↦ None ] ∷ []) ≡ o
no_command starts past n v here o away =
    ap (λ (b : Bool). first (o ∷ None ∷ elim b as (λ c. Option ChipStop) [ true ↦ command_stop n (command_facts starts past n) v | false ↦ None ] ∷ [])) away ∙ third_row o

pub writes_register : (starts : Starts) (past : Past) (e : BusEvent) (n addr v : ℕ) → access past e ≡ Write (registers_of n) addr v → eqb addr 0x01 ≡ false
    → stop starts past e ≡ where_it ((resizes past rx_sizes (access past e) || resizes past tx_sizes (access past e)) && any_open past sockets) (SizeWhileOpen n)
writes_register starts past e n addr v is other =
    let row : Block → Option ChipStop = λ (b : Block). where_it ((resizes_block past rx_sizes b addr v || resizes_block past tx_sizes b addr v) && any_open past sockets) (SizeWhileOpen n) in
    written_block starts past e (registers_of n) addr v (Registers n) is (registers_block n)
    ∙ no_command starts past n v (eqb addr 0x01) (row (Registers n)) other
    ∙ sym (ap row (registers_block n))
    ∙ sym (ap (λ (made : Access). where_it ((resizes past rx_sizes made || resizes past tx_sizes made) && any_open past sockets) (SizeWhileOpen n)) is)
