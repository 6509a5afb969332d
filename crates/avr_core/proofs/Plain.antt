-- A step over the bytes of the data space alone: it comes to what the step's tree comes to over them, or does nothing.
use Rattle.std.proofs.Common.{◌≡◌, ◌≤◌, ℕ, List, Bool, true, false, Some, None, Result, Ok, Err, slice_index, slice_set, refl, sym, ap, subst, ◌∙◌}
use Rattle.std.specs.Prelude.{IfOk}
use Rattle.std.proofs.lemmas.Bool.{cond-true, cond-false, false≢true}
use Rattle.avr_core.proofs.Shaped.{Shaped, IsFree, executed-shaped}
use Rattle.avr_core.proofs.Trees.{plays-all}
use Rattle.avr_core.proofs.Uses.{meaning-is, shaped-settles, shaped-within}
use Rattle.avr_core.specs.Ask.{Give, Call, Plays}
use Rattle.avr_core.specs.Calls.{Read, Write, WriteBit}
use Rattle.avr_core.specs.Code.{said_at}
use Rattle.avr_core.specs.Meaning.{executed, meaning}
use Rattle.avr_core.specs.Memory.{Held, served, over_memory}
use Rattle.avr_core.specs.Ops.{IsOp, instr_of, is_resting, is_owing, owes}
use Rattle.avr_core.specs.Registers.{in_flash}
use Rattle.avr_core.specs.Settled.{Settles, IsSettled}
use Rattle.avr_core.specs.Stack.{is_sram}
use Rattle.avr_core.specs.Steps.{Asked, Stepped, ran}
use Rattle.avr_core.specs.Trees.{All}
use Rattle.avr_core.specs.Within.{AllWithin}
use Rattle.avr_core.specs.declared.bus.DataEnd.{DataEnd}
use Rattle.avr_core.specs.declared.bus.DataEnd.TheVariants as ends
use Rattle.avr_core.specs.declared.cpu.Core.{Core}
use Rattle.avr_core.specs.declared.op.Op.{Op}
use Rattle.avr_core.specs.declared.op.Op.TheVariants as ops
use Rattle.avr_core.specs.declared.went.Went.{Went}
use Rattle.avr_core.specs.declared.went.Went.TheVariants as wents
use Rattle.avr_table.specs.WellFormed.{IsWellFormed}
use Rattle.flash.specs.Image.{word_at}

abbrev IsRan : Went → Type 0
IsRan (wents.Ran cycles) = Unit {0}
IsRan _ = ⊥

-- One fact where an instruction ran, and another where not.
abbrev pub OnRan : Went → Type 0 → Type 0 → Type 0
OnRan (wents.Ran cycles) ran other = ran
OnRan _ ran other = other

on-ran : (went : Went) (ran other : Type 0) → IsRan went → ran → OnRan went ran other
on-ran (wents.Ran cycles) ran other is it = it
on-ran wents.Break ran other is it = absurd is
on-ran wents.Sleep ran other is it = absurd is
on-ran wents.BusOver ran other is it = absurd is
on-ran (wents.Stop stop) ran other is it = absurd is

free-ran : (went : Went) → IsFree false true went → IsRan went
free-ran (wents.Ran cycles) free = tt
free-ran wents.Break free = absurd (false≢true free)
free-ran wents.Sleep free = absurd (false≢true free)
free-ran wents.BusOver free = absurd free
free-ran (wents.Stop stop) free = absurd (false≢true (sym free))

-- An answer and what is held behind it, where the call is one of SRAM and where not.
pub record Goes (tree : Asked) (s : Stepped) (memory left : List ℕ) : Type 0 where
  pub comes : over_memory tree memory ≡ Some (served s left)
  pub ran : IsRan s.went

replay : {T : Type 0} (go : T → Asked) (a b : T) (mid memory left : List ℕ) (s : Stepped) → a ≡ b → mid ≡ memory → Plays Held mid (go a) s left → Plays Held memory (go b) s left
replay go a b mid memory left s is same play =
    subst (λ m. Plays Held m (go b) s left) same (subst (λ x. Plays Held mid (go x) s left) is play)

-- Behind an answered call only SRAM is asked for, and the instruction runs.
later-goes : (formed : Type 0) (core : Core) (tree : Asked) (s : Stepped) (memory left : List ℕ) → Shaped formed false core true tree → Plays Held memory tree s left → Goes tree s memory left
later-goes formed core (Give x) s memory left shaped play = record {
  comes = ap (λ y. Some (served y memory)) (sym play.0) ∙ ap (λ m. Some (served s m)) (sym play.1);
  ran = subst (λ y. IsRan y.went) (sym play.0) (free-ran x.went shaped.1);
}
later-goes formed core (Call (Read at) go) s memory left shaped play =
    let value : Result ℕ DataEnd = Ok (slice_index memory at) in
    let is : play.0 ≡ value = play.2.0 ∙ cond-true (is_sram at) value (Err ends.BusOver) shaped.0 in
    let rest = later-goes formed core (go value) s memory left (shaped.1 value) (replay go play.0 value play.1 memory left s is play.2.1 play.3) in
    record { comes = cond-true (is_sram at) (over_memory (go value) memory) None shaped.0 ∙ rest.comes; ran = rest.ran }
later-goes formed core (Call (Write at v) go) s memory left shaped play =
    let value : Result (Unit {0}) DataEnd = Ok tt in
    let set : List ℕ = slice_set memory at v in
    let is : play.0 ≡ value = play.2.0 ∙ cond-true (is_sram at) value (Err ends.BusOver) shaped.0 in
    let same : play.1 ≡ set = play.2.1 ∙ cond-true (is_sram at) set memory shaped.0 in
    let rest = later-goes formed core (go value) s set left (shaped.1 value) (replay go play.0 value play.1 set left s is same play.3) in
    record { comes = cond-true (is_sram at) (over_memory (go value) set) None shaped.0 ∙ rest.comes; ran = rest.ran }
later-goes formed core (Call (WriteBit io bit set) go) s memory left shaped play = absurd (false≢true (sym shaped.0.0))

-- What a step comes to: an instruction that ran, or nothing.
abbrev pub Comes : Core → Asked → Stepped → List ℕ → List ℕ → Type 0
Comes core tree s memory left = OnRan s.went (over_memory tree memory ≡ Some (served s left)) ((s.core ≡ core) × (left ≡ memory))

given : (went : Went) (core after : Core) (memory : List ℕ) → IsSettled went core after → IsFree false false went
    → Comes core (Give (record { went = went; core = after })) (record { went = went; core = after }) memory memory
given (wents.Ran cycles) core after memory settled free = refl
given wents.Break core after memory settled free = absurd (false≢true free)
given wents.Sleep core after memory settled free = absurd (false≢true free)
given wents.BusOver core after memory settled free = absurd free
given (wents.Stop stop) core after memory settled free = (settled, refl)

came : (core : Core) (tree : Asked) (s : Stepped) (memory left : List ℕ) → Goes tree s memory left → Comes core tree s memory left
came core tree s memory left goes = on-ran s.went (over_memory tree memory ≡ Some (served s left)) ((s.core ≡ core) × (left ≡ memory)) goes.ran goes.comes

-- The bus was over at the first call.
none-came : (core : Core) (tree ends_here : Asked) (s : Stepped) (memory left : List ℕ) → ends_here ≡ Give (record { went = wents.BusOver; core = core })
    → Plays Held memory ends_here s left → Comes core tree s memory left
none-came core tree ends_here s memory left ends play =
    let over : Stepped = record { went = wents.BusOver; core = core } in
    let done = subst (λ t. Plays Held memory t s left) ends play in
    subst (λ x. Comes core tree x memory left) (sym done.0) (refl, done.1)

read-came : (formed : Type 0) (core : Core) (at : ℕ) (go : Result ℕ DataEnd → Asked) (s : Stepped) (memory left : List ℕ) (b : Bool) → is_sram at ≡ b
    → Shaped formed false core false (Call (Read at) go) → Plays Held memory (Call (Read at) go) s left → Comes core (Call (Read at) go) s memory left
read-came formed core at go s memory left true sram shaped play =
    let value : Result ℕ DataEnd = Ok (slice_index memory at) in
    let is : play.0 ≡ value = play.2.0 ∙ cond-true (is_sram at) value (Err ends.BusOver) sram in
    let rest = later-goes formed core (go value) s memory left (shaped.1 value) (replay go play.0 value play.1 memory left s is play.2.1 play.3) in
    came core (Call (Read at) go) s memory left (record { comes = cond-true (is_sram at) (over_memory (go value) memory) None sram ∙ rest.comes; ran = rest.ran })
read-came formed core at go s memory left false sram shaped play =
    let value : Result ℕ DataEnd = Err ends.BusOver in
    let is : play.0 ≡ value = play.2.0 ∙ cond-false (is_sram at) (Ok (slice_index memory at)) value sram in
    none-came core (Call (Read at) go) (go value) s memory left (shaped.1 value) (replay go play.0 value play.1 memory left s is play.2.1 play.3)

write-came : (formed : Type 0) (core : Core) (at v : ℕ) (go : Result (Unit {0}) DataEnd → Asked) (s : Stepped) (memory left : List ℕ) (b : Bool) → is_sram at ≡ b
    → Shaped formed false core false (Call (Write at v) go) → Plays Held memory (Call (Write at v) go) s left → Comes core (Call (Write at v) go) s memory left
write-came formed core at v go s memory left true sram shaped play =
    let value : Result (Unit {0}) DataEnd = Ok tt in
    let set : List ℕ = slice_set memory at v in
    let is : play.0 ≡ value = play.2.0 ∙ cond-true (is_sram at) value (Err ends.BusOver) sram in
    let same : play.1 ≡ set = play.2.1 ∙ cond-true (is_sram at) set memory sram in
    let rest = later-goes formed core (go value) s set left (shaped.1 value) (replay go play.0 value play.1 set left s is same play.3) in
    came core (Call (Write at v) go) s memory left (record { comes = cond-true (is_sram at) (over_memory (go value) set) None sram ∙ rest.comes; ran = rest.ran })
write-came formed core at v go s memory left false sram shaped play =
    let value : Result (Unit {0}) DataEnd = Err ends.BusOver in
    let is : play.0 ≡ value = play.2.0 ∙ cond-false (is_sram at) (Ok tt) value sram in
    let same : play.1 ≡ memory = play.2.1 ∙ cond-false (is_sram at) (slice_set memory at v) memory sram in
    none-came core (Call (Write at v) go) (go value) s memory left (shaped.1 value) (replay go play.0 value play.1 memory left s is same play.3)

plain-came : (formed : Type 0) (core : Core) (tree : Asked) (s : Stepped) (memory left : List ℕ) → Shaped formed false core false tree → Plays Held memory tree s left → Comes core tree s memory left
plain-came formed core (Give x) s memory left shaped play =
    subst (λ m. Comes core (Give x) s memory m) (sym play.1) (subst (λ y. Comes core (Give x) y memory memory) (sym play.0) (given x.went core x.core memory shaped.0 shaped.1))
plain-came formed core (Call (Read at) go) s memory left shaped play = read-came formed core at go s memory left (is_sram at) refl shaped play
plain-came formed core (Call (Write at v) go) s memory left shaped play = write-came formed core at v go s memory left (is_sram at) refl shaped play
plain-came formed core (Call (WriteBit io bit set) go) s memory left shaped play =
    let value : Result (Unit {0}) DataEnd = Err ends.BusOver in
    none-came core (Call (WriteBit io bit set) go) (go value) s memory left (shaped.1 value) (replay go play.0 value play.1 memory left s play.2.0 play.2.1 play.3)

-- The tree of an op is that of the step, wherever its place was computed.
pub op-meaning : (flash : List ℕ) (core : Core) (op : Op) (at : ℕ) → at ≡ in_flash core.pc → IsOp op (said_at flash at)
    → executed flash (word_at flash (in_flash core.pc)) (instr_of op) core ≡ meaning flash core
op-meaning flash core op at ats is =
    is.does flash (word_at flash (in_flash core.pc)) core
    ∙ (ap (λ a. executed flash (word_at flash (in_flash core.pc)) (said_at flash a) core) ats ∙ sym (meaning-is flash core))

pub op-settles : (flash : List ℕ) (core : Core) (op : Op) → All (Settles core) (executed flash (word_at flash (in_flash core.pc)) (instr_of op) core)
op-settles flash core op =
    shaped-settles (IfOk (instr_of op) IsWellFormed) (is_resting (instr_of op)) core false (executed flash (word_at flash (in_flash core.pc)) (instr_of op) core)
    (executed-shaped flash (word_at flash (in_flash core.pc)) (instr_of op) core)

pub op-within : (flash : List ℕ) (core : Core) (op : Op) (at : ℕ) → at ≡ in_flash core.pc → IsOp op (said_at flash at) → AllWithin (meaning flash core)
op-within flash core op at ats is =
    subst AllWithin (op-meaning flash core op at ats is)
    (shaped-within (IfOk (instr_of op) IsWellFormed) (is_resting (instr_of op)) core false (executed flash (word_at flash (in_flash core.pc)) (instr_of op) core) is.fits
    (executed-shaped flash (word_at flash (in_flash core.pc)) (instr_of op) core))

op-came : (flash : List ℕ) (core : Core) (op : Op) (at : ℕ) (s : Stepped) (memory left : List ℕ) → is_resting (instr_of op) ≡ false
    → at ≡ in_flash core.pc → IsOp op (said_at flash at) → Plays Held memory (executed flash (word_at flash (in_flash core.pc)) (instr_of op) core) s left
    → Comes core (meaning flash core) s memory left
op-came flash core op at s memory left awake ats is play =
    let word : ℕ = word_at flash (in_flash core.pc) in
    subst (λ t. Comes core t s memory left) (op-meaning flash core op at ats is)
    (plain-came (IfOk (instr_of op) IsWellFormed) core (executed flash word (instr_of op) core) s memory left
    (subst (λ r. Shaped (IfOk (instr_of op) IsWellFormed) r core false (executed flash word (instr_of op) core)) awake (executed-shaped flash word (instr_of op) core)) play)

-- Of an op that is none of SLEEP, BREAK, SEI and RETI.
awake : (op : Op) → (op ≡ ops.Sleep → ⊥) → (op ≡ ops.Break → ⊥) → is_resting (instr_of op) ≡ false
awake ops.Sleep sleep break = absurd (sleep refl)
awake ops.Break sleep break = absurd (break refl)
awake _ sleep break = refl

none-owed : (op : Op) → (op ≡ ops.Sei → ⊥) → (op ≡ ops.Reti → ⊥) → owes op ≡ false
none-owed ops.Sei sei reti = absurd (sei refl)
none-owed ops.Reti sei reti = absurd (reti refl)
none-owed _ sei reti = refl

pub owes-is : (flash : List ℕ) (core : Core) (op : Op) (at : ℕ) → at ≡ in_flash core.pc → IsOp op (said_at flash at) → (op ≡ ops.Sei → ⊥) → (op ≡ ops.Reti → ⊥)
    → is_owing (said_at flash (in_flash core.pc)) ≡ false
owes-is flash core op at ats is sei reti = ap (λ a. is_owing (said_at flash a)) (sym ats) ∙ (sym is.owing ∙ none-owed op sei reti)

-- What was run of such an op, by the call that performed it with this image.
pub record IsPerformed (flash image : List ℕ) (core : Core) (op : Op) (at : ℕ) (went : Went) (after : Core) (memory left : List ℕ) : Type 0 where
  pub image_is : image ≡ flash
  pub at_is : at ≡ in_flash core.pc
  pub is_op : IsOp op (said_at flash at)
  pub sleep : op ≡ ops.Sleep → ⊥
  pub break : op ≡ ops.Break → ⊥
  pub plays : Plays Held memory (executed image (word_at image (in_flash core.pc)) (instr_of op) core) (record { went = went; core = after }) left

came-of : (flash image : List ℕ) (core : Core) (op : Op) (at : ℕ) (went : Went) (after : Core) (memory left : List ℕ)
    → IsPerformed flash image core op at went after memory left → Comes core (meaning flash core) (record { went = went; core = after }) memory left
came-of flash image core op at went after memory left it =
    op-came flash core op at (record { went = went; core = after }) memory left (awake op it.sleep it.break) it.at_is it.is_op
    (subst (λ f. Plays Held memory (executed f (word_at f (in_flash core.pc)) (instr_of op) core) (record { went = went; core = after }) left) it.image_is it.plays)

pub ran-over : (flash image : List ℕ) (core : Core) (op : Op) (at c : ℕ) (went : Went) (after : Core) (memory left : List ℕ) → went ≡ wents.Ran c
    → IsPerformed flash image core op at went after memory left → over_memory (meaning flash core) memory ≡ Some (served (ran c after) left)
ran-over flash image core op at c went after memory left is it =
    subst (λ w. Comes core (meaning flash core) (record { went = w; core = after }) memory left) is (came-of flash image core op at went after memory left it)

pub ran-cycles : (flash : List ℕ) (core : Core) (op : Op) (c : ℕ) (went : Went) (after : Core) (memory left : List ℕ) → went ≡ wents.Ran c
    → Plays Held memory (executed flash (word_at flash (in_flash core.pc)) (instr_of op) core) (record { went = went; core = after }) left → (1 ≤ c) × (c ≤ 4)
ran-cycles flash core op c went after memory left is play =
    subst (λ w. IsSettled w core after) is
    (plays-all (Settles core) Held (executed flash (word_at flash (in_flash core.pc)) (instr_of op) core) memory left (record { went = went; core = after }) (op-settles flash core op) play)

other-went : (went : Went) (this other : Type 0) → ((c : ℕ) → went ≡ wents.Ran c → ⊥) → OnRan went this other → other
other-went (wents.Ran cycles) this other never it = absurd (never cycles refl)
other-went wents.Break this other never it = it
other-went wents.Sleep this other never it = it
other-went wents.BusOver this other never it = it
other-went (wents.Stop stop) this other never it = it

pub none-over : (flash image : List ℕ) (core : Core) (op : Op) (at : ℕ) (went : Went) (after : Core) (memory left : List ℕ) → ((c : ℕ) → went ≡ wents.Ran c → ⊥)
    → IsPerformed flash image core op at went after memory left → (after ≡ core) × (left ≡ memory)
none-over flash image core op at went after memory left never it =
    other-went went (over_memory (meaning flash core) memory ≡ Some (served (record { went = went; core = after }) left)) ((after ≡ core) × (left ≡ memory)) never
    (came-of flash image core op at went after memory left it)
