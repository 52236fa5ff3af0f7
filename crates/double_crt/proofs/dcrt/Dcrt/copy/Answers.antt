use Rattle.double_crt.proofs.Operations.{seen_kept}
use Rattle.double_crt.proofs.dcrt.Dcrt.copy.Goals as goal

pub returns-in_err-extend-clause-kept : goal.returns-in_err-extend-clause-kept
returns-in_err-extend-clause-kept c = seen_kept c.self.inside.tables.value c.self.inside.chain_rows c.self.inside.special c.self.inside.rows.items c.args.self.now c.self.view_is c.self.invariant

pub returns-in_err-clone-clause-kept : goal.returns-in_err-clone-clause-kept
returns-in_err-clone-clause-kept c = seen_kept c.self.inside.tables.value c.self.inside.chain_rows c.self.inside.special c.self.inside.rows.items c.args.self.now c.self.view_is c.self.invariant

pub returns-clause-kept : goal.returns-clause-kept
returns-clause-kept c = seen_kept c.self.inside.tables.value c.self.inside.chain_rows c.self.inside.special c.self.inside.rows.items c.args.self.now c.self.view_is c.self.invariant
