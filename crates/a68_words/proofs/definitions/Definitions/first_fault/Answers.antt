use Rattle.a68_words.proofs.Faults as faults
use Rattle.a68_words.proofs.definitions.Definitions.first_fault.Goals as goal

pub returns : goal.returns
returns c =
    rw (c.earlier-2.ensures, c.earlier.ensures, c.fault_of-differs.ensures, c.fault_of-undefined.ensures, c.fault_of.ensures)
    (faults.first_fault c.args.self.now c.differs.result c.undefined.result c.args.too_deep c.differs.ensures c.undefined.ensures c.requires)
