-- The listing, line by line.
use Rattle.std.proofs.Common.{◌≡◌, ◌≤◌, ◌<◌, ◌+◌, ℕ, zero, suc, List, [], ◌++◌, Option, Result, refl, sym, ap, ◌∙◌, arith, append_assoc, append-nil}
use Rattle.std.proofs.lemmas.Bool.{cond-true, cond-false, lt-ltb, le-ltb}
use Rattle.avr_table.specs.declared.instr.Instr.{Instr}
use Rattle.avr_table.specs.declared.fault.DecodeFault.{DecodeFault}
use Rattle.wz_base.specs.Lines.{Gathers}
use Rattle.wz_base.specs.Whole.{Appends, AppendsFront}
use Rattle.wz_base.proofs.Gathered.{front_before, gathers_none, gathers_then, gathers_written, gathers_stopped}
use Rattle.board_list.specs.Listing.{entry_text, listed, listing, said_at, used, words_said}

-- some lines are written or wait, and those from a place on make the whole listing after them
pub record ListedSoFar (image : List ℕ) (at : ℕ) (waiting : List ℕ) (old now : Option (List ℕ)) : Type 0 where
  pub left : ℕ
  pub enough : used image ≤ at + left
  pub done : List ℕ
  pub gathered : Gathers [] done waiting old now
  pub so_far : done ++ listed image left at ≡ listing image

pub listed_none : (image : List ℕ) (old : Option (List ℕ)) → ListedSoFar image 0 [] old old
unfolding listing
listed_none image old = record { left = used image; enough = omega arith; done = []; gathered = gathers_none [] old; so_far = refl }

listed_on : (image : List ℕ) (n at : ℕ) (said : Result Instr DecodeFault) → at < used image → said ≡ said_at image at → listed image (suc n) at ≡ entry_text image at said ++ listed image n (at + words_said said)
unfolding listed
listed_on image n at said below is =
    cond-true _ _ _ (lt-ltb _ _ below) ∙ ap (λ (s : Result Instr DecodeFault). entry_text image at s ++ listed image n (at + words_said s)) (sym is)

listed_end : (image : List ℕ) (n at : ℕ) → used image ≤ at → listed image n at ≡ []
unfolding listed
listed_end image zero at past = refl
listed_end image (suc n) at past = cond-false _ _ _ (le-ltb _ _ past)

more : (image : List ℕ) (at at' left : ℕ) (done waiting waiting' : List ℕ) (old mid new : Option (List ℕ)) (said : Result Instr DecodeFault)
    → used image ≤ at + left → Gathers [] done waiting old mid → done ++ listed image left at ≡ listing image → at < used image → said ≡ said_at image at → at' ≡ at + words_said said → 1 ≤ words_said said
    → Gathers waiting (entry_text image at said) waiting' mid new → ListedSoFar image at' waiting' old new
more image at at' zero done waiting waiting' old mid new said enough gathered so_far below is next some line = absurd (omega (arith, enough, below))
more image at at' (suc n) done waiting waiting' old mid new said enough gathered so_far below is next some line = record {
  left = n;
  enough = omega (arith, enough, next, some);
  done = done ++ entry_text image at said;
  gathered = gathers_then [] done waiting (entry_text image at said) waiting' old mid new gathered line;
  so_far =
      append_assoc done (entry_text image at said) (listed image n at')
      ∙ ap (λ (k : ℕ). done ++ (entry_text image at said ++ listed image n k)) next
      ∙ ap (λ (rest : List ℕ). done ++ rest) (sym (listed_on image n at said below is))
      ∙ so_far;
}

-- one more line is written or waits
pub listed_more : (image : List ℕ) (at at' : ℕ) (waiting waiting' : List ℕ) (old mid new : Option (List ℕ)) (said : Result Instr DecodeFault)
    → ListedSoFar image at waiting old mid → at < used image → said ≡ said_at image at → at' ≡ at + words_said said → 1 ≤ words_said said
    → Gathers waiting (entry_text image at said) waiting' mid new → ListedSoFar image at' waiting' old new
listed_more image at at' waiting waiting' old mid new said far = more image at at' far.left far.done waiting waiting' old mid new said far.enough far.gathered far.so_far

-- what waits is cut short
pub listed_cut : (image : List ℕ) (at : ℕ) (waiting : List ℕ) (old mid new : Option (List ℕ)) → ListedSoFar image at waiting old mid → AppendsFront mid waiting new → AppendsFront old (listing image) new
listed_cut image at waiting old mid new far last =
    rw (← far.so_far) (front_before old new far.done (listed image far.left at) (gathers_stopped [] far.done waiting old mid new far.gathered last))

-- all lines are written
pub listed_all : (image : List ℕ) (at : ℕ) (waiting : List ℕ) (old mid new : Option (List ℕ)) → ListedSoFar image at waiting old mid → used image ≤ at → Appends mid waiting new → Appends old (listing image) new
listed_all image at waiting old mid new far past last =
    let whole : far.done ≡ listing image = sym (append-nil far.done) ∙ ap (λ (lines : List ℕ). far.done ++ lines) (sym (listed_end image far.left at past)) ∙ far.so_far in
    rw (← whole) (gathers_written [] far.done waiting old mid new far.gathered last)
