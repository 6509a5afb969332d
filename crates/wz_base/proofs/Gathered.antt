-- Texts that are written one after another, of which some may wait and one may be cut short.
use Rattle.std.proofs.Common.{◌≡◌, ◌≤◌, ◌+◌, ℕ, length, take, List, [], ◌++◌, Option, None, Some, Result, Ok, Err, OnErr, OnOk, refl, sym, ap, ◌∙◌, arith, append_assoc, append-nil}
use Rattle.std.proofs.lemmas.List.{length-append, take-append-le}
use Rattle.std.proofs.Math.Seq.{take-append-add}
use Rattle.wz_base.specs.Whole.{Appends, AppendsFront}
use Rattle.wz_base.specs.Lines.{Gathers}

-- one text after another
pub appends_then : (old mid new : Option (List ℕ)) (a b : List ℕ) → Appends old a mid → Appends mid b new → Appends old (a ++ b) new
appends_then None mid new a b h e = rw h at e
appends_then (Some w) mid new a b h e = (rw h at e) ∙ ap Some (append_assoc w a b)

-- no text
pub appends_none : (mid : Option (List ℕ)) → Appends mid [] mid
appends_none None = refl
appends_none (Some w) = ap Some (sym (append-nil w))

-- the second text is cut short
pub front_then : (old mid new : Option (List ℕ)) (a b : List ℕ) → Appends old a mid → AppendsFront mid b new → AppendsFront old (a ++ b) new
front_then old mid new a b written front =
    (length a + front.0, rw length-append (omega (arith, front.1)), rw take-append-add (appends_then old mid new a (take front.0 b) written front.2))

-- the first text is cut short
pub front_before : (old new : Option (List ℕ)) (a b : List ℕ) → AppendsFront old a new → AppendsFront old (a ++ b) new
front_before old new a b front =
    (front.0, rw length-append (omega (arith, front.1)), rw (take-append-le front.0 a b front.1) front.2)

-- the first text is written, and the second not at all
pub front_first : (old new : Option (List ℕ)) (a b : List ℕ) → Appends old a new → AppendsFront old (a ++ b) new
front_first old new a b written =
    front_then old new new a b written (0, omega arith, appends_none new)

-- nothing waits and nothing is written yet
pub gathers_none : (waiting : List ℕ) (old : Option (List ℕ)) → Gathers waiting [] waiting old old
gathers_none waiting old = record { sent = []; written = appends_none old; parts = sym (append-nil waiting) }

-- one more text waits
pub gathers_push : (waiting bytes : List ℕ) (old : Option (List ℕ)) → Gathers waiting bytes (waiting ++ bytes) old old
gathers_push waiting bytes old = record { sent = []; written = appends_none old; parts = refl }

-- all is written
pub gathers_all : (waiting bytes : List ℕ) (old new : Option (List ℕ)) → Appends old (waiting ++ bytes) new → Gathers waiting bytes [] old new
gathers_all waiting bytes old new written = record { sent = waiting ++ bytes; written = written; parts = append-nil (waiting ++ bytes) }

-- one text after another
pub gathers_then : (waiting a mid_waiting b rest : List ℕ) (old mid new : Option (List ℕ)) → Gathers waiting a mid_waiting old mid → Gathers mid_waiting b rest mid new → Gathers waiting (a ++ b) rest old new
gathers_then waiting a mid_waiting b rest old mid new first second = record {
  sent = first.sent ++ second.sent;
  written = appends_then old mid new first.sent second.sent first.written second.written;
  parts =
      append_assoc first.sent second.sent rest
      ∙ ap (λ (t : List ℕ). first.sent ++ t) second.parts
      ∙ sym (append_assoc first.sent mid_waiting b)
      ∙ ap (λ (t : List ℕ). t ++ b) first.parts
      ∙ append_assoc waiting a b;
}

-- what waits is written to its end
pub gathers_written : (waiting bytes rest : List ℕ) (old mid new : Option (List ℕ)) → Gathers waiting bytes rest old mid → Appends mid rest new → Appends old (waiting ++ bytes) new
gathers_written waiting bytes rest old mid new first last =
    rw first.parts at (appends_then old mid new first.sent rest first.written last)

-- what waits, with more after it, is cut short
pub gathers_cut : (waiting bytes rest more : List ℕ) (old mid new : Option (List ℕ)) → Gathers waiting bytes rest old mid → AppendsFront mid (rest ++ more) new → AppendsFront old ((waiting ++ bytes) ++ more) new
gathers_cut waiting bytes rest more old mid new first last =
    rw (ap (λ (t : List ℕ). t ++ more) first.parts) at (rw (sym (append_assoc first.sent rest more)) at (front_then old mid new first.sent (rest ++ more) first.written last))

-- what waits is given up
pub gathers_front : (waiting bytes rest : List ℕ) (old new : Option (List ℕ)) → Gathers waiting bytes rest old new → AppendsFront old (waiting ++ bytes) new
gathers_front waiting bytes rest old new first = rw first.parts at (front_first old new first.sent rest first.written)

-- what follows of an error follows of the result
pub on_err : {T E : Type 0} {P Q : Type 0} (r : Result T E) → (P → Q) → OnErr r P → OnErr r Q
on_err (Ok v) follows h = tt
on_err (Err e) follows h = follows h

-- what waits is cut short
pub gathers_stopped : (waiting bytes rest : List ℕ) (old mid new : Option (List ℕ)) → Gathers waiting bytes rest old mid → AppendsFront mid rest new → AppendsFront old (waiting ++ bytes) new
gathers_stopped waiting bytes rest old mid new first last =
    rw first.parts at (front_then old mid new first.sent rest first.written last)

-- what follows of a success follows of the result
pub on_ok : {T E : Type 0} {P Q : Type 0} (r : Result T E) → (P → Q) → OnOk r P → OnOk r Q
on_ok (Ok v) follows h = follows h
on_ok (Err e) follows h = tt
