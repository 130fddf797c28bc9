-- `one`: each code has its kind.
use Rattle.operations.proofs.Common.{singleton, power, dom, ran, card, ready_value, singleton_done, one_of, one_last}
use Rattle.operations.proofs.one.Goals as goal

pub singleton-requires : goal.singleton-requires
singleton-requires c = ready_value c.requires

pub returns-in-27 : goal.returns-in-27
returns-in-27 c = one_of singleton c.in-27.is (singleton_done c.requires c.singleton.ensures c.built.ensures)

pub returns-in-33 : goal.returns-in-33
returns-in-33 c = one_of power c.in-33.is c.power.ensures

pub returns-in-35 : goal.returns-in-35
returns-in-35 c = one_of dom c.in-35.is c.side.ensures

pub returns-in-36 : goal.returns-in-36
returns-in-36 c = one_of ran c.in-36.is c.side-in-36.ensures

pub returns-in-38 : goal.returns-in-38
returns-in-38 c = one_of card c.in-38.is (c.card.ensures _)

pub returns-in_default : goal.returns-in_default
returns-in_default c =
    let n = c.in_default.in_default-own.rest in
    one_last n.0.0.0.0.1 n.0.0.0.1 n.0.0.1 n.0.1 n.1 (c.choice.ensures _)
