-- When two connections are the same.
use Rattle.std.proofs.Common.{◌≡◌, true}
use Rattle.std.proofs.Common.{rules, arith}
use Rattle.chip_sheet.specs.declared.event.ConnId.{ConnId}
use Rattle.link_trait.specs.Calls.{same}

pub same_self : (c : ConnId) → same c c ≡ true
same_self c = grind arith

pub same_sn : (c d : ConnId) → same c d ≡ true → c.sn ≡ d.sn
same_sn c d h = grind (arith, h)

pub same_life : (c d : ConnId) → same c d ≡ true → c.life ≡ d.life
same_life c d h = grind (arith, h)

pub same_is : (c d : ConnId) → same c d ≡ true → c ≡ d
same_is c d h = search (rules, same_sn c d h, same_life c d h)
