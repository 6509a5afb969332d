use Rattle.std.proofs.Common.{sym}
use Rattle.common_regs.proofs.CommonPlaces.{keeps_link, keeps_stored, keeps_none}
use Rattle.common_regs.proofs.registers.kept_of.Goals as goal

pub returns-then-addr-eq-PHYCFGR-clause-kept : goal.returns-then-addr-eq-PHYCFGR-clause-kept
returns-then-addr-eq-PHYCFGR-clause-kept c = keeps_link c.args.addr c.args.v c.if-addr-eq-PHYCFGR.true

pub returns-then-is_stored-clause-kept : goal.returns-then-is_stored-clause-kept
returns-then-is_stored-clause-kept c =
    keeps_stored c.args.addr c.args.v c.if-addr-eq-PHYCFGR.false (sym c.if-is_stored.ensures)

pub returns-else-is_stored-clause-kept : goal.returns-else-is_stored-clause-kept
returns-else-is_stored-clause-kept c =
    keeps_none c.args.addr c.args.v c.if-addr-eq-PHYCFGR.false (sym c.if-is_stored.ensures)
