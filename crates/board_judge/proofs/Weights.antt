-- An entry adds to the weight at most half of the bytes of its line and of one behind it.
use Rattle.std.proofs.Common.{arith, ◌≡◌, ◌==◌, ℕ, ◌+◌, ◌*◌, ◌≤◌, Bool, true, false, cond, List, [], ◌∷◌, length, Option, None, Some, option_map, refl, sym, ap, subst}
use Rattle.chip_sheet.specs.declared.event.Entry.{Entry}
use Rattle.chip_sheet.specs.declared.event.Entry.TheVariants.{Link}
use Rattle.chip_sheet.specs.Past.{Past}
use Rattle.chip_sheet.specs.Replay.{Step, Asks, Happens}
use Rattle.chip_hist.specs.Log.{most_weight}
use Rattle.board_gen.specs.Links.{link}
use Rattle.board_gen.specs.SessionState.{HasTextRoom}
use Rattle.board_gen.proofs.Weights.{step_light, step_weight, text_begins, text_less, text_after}
use Rattle.board_gen.specs.declared.session.TheConstants.{WEIGHT_LIMIT}
use Rattle.board_judge.specs.Entries.{entry_read, exchange, exchanged, happened, letter, level, longer, look, look_of, two_digits}

-- an entry of a read text adds so much to the weight at most
Weighs : ℕ → Option Entry → Type 0
Weighs most o = (entry : Entry) → o ≡ Some entry → most_weight entry ≤ most

none : (most : ℕ) → Weighs most None
unfolding Weighs
none most entry is = absurd (cc is)

one : (most : ℕ) (e : Entry) → most_weight e ≤ most → Weighs most (Some e)
unfolding Weighs
one most e small entry is =
    let same : e ≡ entry = cc in let weight = ap most_weight same in omega (arith, small, weight)

pick : (most : ℕ) (b : Bool) (x y : Option Entry) → Weighs most x → Weighs most y → Weighs most (cond b x y)
pick most true x y first second = first
pick most false x y first second = second

letter_light : (c : ℕ) → Weighs 1 (letter c)
letter_light c =
    pick 1 (c == 76) _ _ (one 1 _ (omega arith)) (pick 1 (c == 72) _ _ (one 1 _ (omega arith)) (pick 1 (c == 46) _ _ (one 1 _ (omega arith)) (none 1)))

level_light : (o : Option Bool) → Weighs 1 (option_map look_of o)
level_light None = none 1
level_light (Some high) = one 1 (look_of high) (omega arith)

look_light : (mark c : ℕ) → Weighs 1 (look mark c)
look_light mark c = pick 1 (mark == 63) _ _ (level_light (level c)) (none 1)

exchanged_light : (sent answer : Option ℕ) → Weighs 1 (exchanged sent answer)
exchanged_light None answer = none 1
exchanged_light (Some v) None = none 1
exchanged_light (Some v) (Some out) = one 1 _ (omega arith)

exchange_light : (text : List ℕ) → Weighs 1 (exchange text)
exchange_light [] = none 1
exchange_light (a ∷ []) = none 1
exchange_light (a ∷ b ∷ []) = none 1
exchange_light (a ∷ b ∷ mark ∷ []) = none 1
exchange_light (a ∷ b ∷ mark ∷ c ∷ []) = none 1
exchange_light (a ∷ b ∷ mark ∷ c ∷ d ∷ []) = pick 1 (mark == 62) _ _ (exchanged_light (two_digits (a ∷ b ∷ [])) (two_digits (c ∷ d ∷ []))) (none 1)
exchange_light (a ∷ b ∷ mark ∷ c ∷ d ∷ e ∷ more) = none 1

happened_light : (n : ℕ) (o : Option Step) (entry : Entry) → ((step : Step) → o ≡ Some step → 2 * step_weight step ≤ n) → happened o ≡ Some entry → 2 * most_weight entry ≤ n
happened_light n None entry light is = absurd (cc is)
happened_light n (Some (Asks e)) entry light is = absurd (cc is)
happened_light n (Some (Happens sn what)) entry light is =
    let same : Link sn what ≡ entry = cc in
    let weight = ap most_weight same in
    let here = light (Happens sn what) refl in omega (arith, here, weight)

longer_light : (n : ℕ) (o : Option Entry) (step : Option Step) (entry : Entry) → 2 ≤ n → Weighs 1 o → ((s : Step) → step ≡ Some s → 2 * step_weight s ≤ n) → longer o step ≡ Some entry → 2 * most_weight entry ≤ n
unfolding Weighs
longer_light n None step entry some small light is = happened_light n step entry light is
longer_light n (Some e) step entry some small light is = let here = small entry is in omega (arith, here, some)

pub entry_light : (text : List ℕ) (entry : Entry) → entry_read text ≡ Some entry → 2 * most_weight entry ≤ length text + 1
unfolding Weighs
entry_light [] entry is = absurd (cc is)
entry_light (c ∷ []) entry is = let here = letter_light c entry is in omega (arith, here)
entry_light (mark ∷ c ∷ []) entry is = let here = look_light mark c entry is in omega (arith, here)
entry_light (a ∷ b ∷ c ∷ more) entry is =
    let text = a ∷ b ∷ c ∷ more in
    longer_light (length text + 1) (exchange text) (link text) entry (omega arith) (exchange_light text) (λ step h. step_light text step h) is

-- the room behind a line
pub room_left : (past new : Past) (rest after line : List ℕ) (entry : Entry) → HasTextRoom past (length rest) → entry_read line ≡ Some entry → new ≡ entry ∷ past
    → length line + 1 + length after ≤ length rest → HasTextRoom new (length after)
room_left past new rest after line entry room is added between =
    let light = entry_light line entry is in
    text_after past new entry (length rest) (length after) added room (omega (arith, light, between))

pub room_here : (past : Past) (n : ℕ) → HasTextRoom past n → HasTextRoom past 0
room_here past n room = text_less past n 0 room (omega arith)

pub room_first : (past : Past) (n : ℕ) → past ≡ [] → n ≤ 2 * WEIGHT_LIMIT → HasTextRoom past n
room_first past n none short = subst (λ (p : Past). HasTextRoom p n) (sym none) (text_begins n short)
