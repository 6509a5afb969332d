-- What a peer says, chunk by chunk.
use Rattle.std.proofs.Common.{◌≡◌, ℕ, List, [], ◌∷◌, map, length, Vec, Global, Result, Ok, refl, sym, ap, ◌∙◌}
use Rattle.std.specs.Prelude.{zip}
use Rattle.std.proofs.lemmas.List.{length-map}
use Rattle.toml.specs.Data.{Members}
use Rattle.link_script.specs.Scripts.{Said}
use Rattle.board_file.specs.declared.fault.BoardFault.{BoardFault}
use Rattle.board_file.specs.Judged.{◌>>=◌}
use Rattle.board_file.specs.Peers.{say_row, after_row, said, sayings}
use Rattle.board_file.specs.Views.{bytes_of}

-- chunks with their numbers
said_of : (afters : List ℕ) (chunks : List (Vec ℕ Global)) → said afters (bytes_of chunks) ≡ map (λ p. record { after = p.0; bytes = p.1.items }) (zip afters chunks)
said_of [] chunks = refl
said_of (after ∷ afters) [] = refl
said_of (after ∷ afters) (bytes ∷ chunks) = ap (λ (others : List Said). record { after = after; bytes = bytes.items } ∷ others) (said_of afters chunks)

-- the chunks, then their numbers, of which there are as many
pub sayings_are : (entry : ℕ) (table : Members) (chunks : List (Vec ℕ Global)) (afters : List ℕ) (r : List Said) → say_row entry table ≡ Ok (bytes_of chunks) → after_row (length chunks) entry table ≡ Ok afters
    → r ≡ map (λ p. record { after = p.0; bytes = p.1.items }) (zip afters chunks) → sayings entry table ≡ Ok r
sayings_are entry table chunks afters r says follows is =
    let many : length (bytes_of chunks) ≡ length chunks = rw length-map in
    ap (λ (s : Result (List (List ℕ)) BoardFault). s >>= (λ cs. after_row (length cs) entry table >>= (λ ns. Ok (said ns cs)))) says
    ∙ ap (λ (n : ℕ). after_row n entry table >>= (λ ns. Ok (said ns (bytes_of chunks)))) many
    ∙ ap (λ (s : Result (List ℕ) BoardFault). s >>= (λ ns. Ok (said ns (bytes_of chunks)))) follows
    ∙ ap (λ (said : List Said). Ok said) (said_of afters chunks ∙ sym is)
