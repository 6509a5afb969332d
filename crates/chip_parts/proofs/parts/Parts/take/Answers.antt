use Rattle.std.proofs.Common.{◌≡◌, ◌<◌, ◌∷◌, List, get_or, set, length, sym, ap, ◌∙◌, subst, arith}
use Rattle.std.proofs.lemmas.List.{get_or-set_same, get_or-set_other}
use Rattle.chip_sheet.specs.declared.event.Entry.TheVariants.{Bus}
use Rattle.sock_cmd.specs.declared.life.Life.{Life}
use Rattle.sock_cmd.specs.Lives.{IsAfter}
use Rattle.chip_parts.specs.declared.parts.Parts.{Parts}
use Rattle.chip_parts.proofs.Taking.{went, life_goes}
use Rattle.chip_parts.proofs.parts.Parts.take.Goals as goal

pub returns-clause-life : goal.returns-clause-life
returns-clause-life c = λ past e a was found is other.
    let sn = c.args.sn in
    let old = c.args.self.now in
    let after = c.command-came_to.new.self in
    let calls = c.command-came_to.ensures in
    let lives : c.step_registers.new.self.lives ≡ set old.lives sn after = ap (λ (p : Parts). p.lives) c.step_registers.ensures.same in
    let within : sn < length old.lives = omega (arith, c.requires.sn) in
    let happened = went c.command-came_to.result _ _ calls.happened calls.stopped (c.requires.no_stop _ _ _ _) in
    subst (λ (l : Life). IsAfter l (Bus e a ∷ past) sn) (sym (ap (λ (ls : List Life). get_or ls sn other) lives ∙ get_or-set_same old.lives sn after other within))
    (life_goes past e a sn c.args.v c.args.at _ after is found (was _) happened)

pub returns-clause-others : goal.returns-clause-others
returns-clause-others c = λ m other away.
    let sn = c.args.sn in
    let old = c.args.self.now in
    let after = c.command-came_to.new.self in
    let lives : c.step_registers.new.self.lives ≡ set old.lives sn after = ap (λ (p : Parts). p.lives) c.step_registers.ensures.same in
    ap (λ (ls : List Life). get_or ls m other) lives ∙ get_or-set_other old.lives sn m after other away

pub returns-clause-shows : goal.returns-clause-shows
returns-clause-shows c = λ starts past e a shows is raised others. c.step_registers.ensures.shows starts past e a (record { registers = shows.registers; sir = shows.sir }) is raised others

pub returns-clause-same : goal.returns-clause-same
returns-clause-same c =
    let old = c.args.self.now in
    let same = c.step_registers.ensures.same in
    let lives = ap (λ (p : Parts). p.lives) same in
    same ∙ ap (λ (ls : List Life). record old { lives = ls; registers = c.step_registers.new.self.registers; sir = c.step_registers.new.self.sir }) (sym lives)
