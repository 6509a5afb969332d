-- The peer of a generated run: how it is numbered, and what it says.
use Rattle.std.specs.Prelude.{ℕ, zero, suc, ◌+◌, ◌*◌, ◌/◌, ◌%◌, ◌^◌, List, [], ◌∷◌, take, drop, Some}
use Rattle.link_script.specs.declared.peer.PeerKind.TheVariants.{Client}
use Rattle.link_script.specs.declared.peer.Connects.TheVariants.{Fine}
use Rattle.link_script.specs.Scripts.{Said, Script}

-- The state behind a state.
abbrev pub next_state : ℕ → ℕ
next_state x = (x * 6364136223846793005 + 1442695040888963407) % 2 ^ 64

-- The byte of a state: its bits 63 to 56.
abbrev pub byte_of : ℕ → ℕ
byte_of x = x / 2 ^ 56

-- The state behind so many more.
unfoldable pub state_behind : ℕ → ℕ → ℕ
state_behind x zero = x
state_behind x (suc n) = state_behind (next_state x) n

-- So many bytes, those of the states behind x.
unfoldable pub bytes_behind : ℕ → ℕ → List ℕ
bytes_behind x zero = []
bytes_behind x (suc n) = byte_of (next_state x) ∷ bytes_behind (next_state x) n

-- How many bytes the peer says.
unfoldable pub said_length : ℕ → ℕ
said_length n = 1000 + n % 9000

-- Bytes that can be read at once.
abbrev pub at_once : List ℕ → Said
at_once bytes = record { after = 0; bytes = bytes }

-- So many chunks of bytes, each of `size` while there are as many.
abbrev pub in_chunks : ℕ → List ℕ → ℕ → List Said
in_chunks size bytes zero = []
in_chunks size bytes (suc n) = at_once (take size bytes) ∷ in_chunks size (drop size bytes) n

-- What the peer says: its bytes in chunks of 1,000, as many as hold them all.
abbrev pub sayings : ℕ → List Said
sayings n = in_chunks 1000 (bytes_behind n (said_length n)) ((said_length n + 999) / 1000)

-- The peer: a client that connects to port 5000, takes everything, and ends once all was echoed.
unfoldable pub echo_script : ℕ → Script
echo_script n = record {
  kind = Client;
  addr = record { ip = 10 ∷ 0 ∷ 0 ∷ 2 ∷ []; port = 40000 };
  chip = 5000;
  connect = Fine;
  takes = [];
  room = 65536;
  say = sayings n;
  end = Some (said_length n);
  fail = 0;
  lag = 0;
}
