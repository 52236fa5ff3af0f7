use Rattle.ext_field.proofs.Rows.{element_from}
use Rattle.ext_field.proofs.extensions.Ext.element.Goals as goal

pub returns-clause-element : goal.returns-clause-element
returns-clause-element c = element_from c.args.self.now c.args.coeffs.now c.requires.long c.requires.below
