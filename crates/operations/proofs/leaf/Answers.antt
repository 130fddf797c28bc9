-- `leaf`: each code has its leaf.
use Rattle.operations.proofs.Common.{elements_ready, elements_done, booleans_done}
use Rattle.operations.proofs.leaf.Goals as goal

pub elements-requires : goal.elements-requires
elements-requires c = elements_ready c.requires c.in-21.is

pub returns-in-21 : goal.returns-in-21
returns-in-21 c = elements_done c.requires c.in-21.is c.elements.ensures

pub returns-in_default : goal.returns-in_default
returns-in_default c = booleans_done c.in_default.in_default-own.rest.1 c.booleans.ensures
