-- Fresh arrays have room for the table; the constraints are built, then solved.
use native.Mathlib.Omega.{arith}
use Rattle.checker.proofs.RoomLaws.{was_read, fielded, ready, sized_nodes, sized_work}
use Rattle.checker.proofs.check_sized.Goals as goal

pub nodes_offset-at-requires : goal.nodes_offset-at-requires
nodes_offset-at-requires g c = (was_read c.requires.checkable).header.long

pub build-requires : goal.build-requires
build-requires g c = (fielded c.requires.checkable c.nodes_offset-at.ensures, sized_nodes c.requires.sizes)

pub solve_types-requires-clause-ready : goal.solve_types-requires-clause-ready
solve_types-requires-clause-ready g c =
    ready c.requires.checkable (sized_nodes c.requires.sizes) c.build.auto.shapes c.build.auto.equations c.build.auto.starts c.build.ensures

pub solve_types-requires-clause-work_room : goal.solve_types-requires-clause-work_room
solve_types-requires-clause-work_room g c = sized_work c.requires.sizes

pub whole_as_slice-build : goal.whole_as_slice-build
whole_as_slice-build g c = omega (arith, c.requires.sizes.few_variables)

pub whole_as_slice-build-2 : goal.whole_as_slice-build-2
whole_as_slice-build-2 g c = omega (arith, c.requires.sizes.few_equations)

pub whole_as_slice-build-3 : goal.whole_as_slice-build-3
whole_as_slice-build-3 g c = omega (arith, c.requires.sizes.few_starts)

pub shared_whole_as_slice-problem : goal.shared_whole_as_slice-problem
shared_whole_as_slice-problem g c = omega (arith, c.requires.sizes.few_variables)

pub shared_whole_as_slice-problem-2 : goal.shared_whole_as_slice-problem-2
shared_whole_as_slice-problem-2 g c = omega (arith, c.requires.sizes.few_equations)

pub shared_whole_as_slice-problem-3 : goal.shared_whole_as_slice-problem-3
shared_whole_as_slice-problem-3 g c = omega (arith, c.requires.sizes.few_starts)

pub whole_as_slice-work : goal.whole_as_slice-work
whole_as_slice-work g c = omega (arith, c.requires.sizes.few_variables)

pub whole_as_slice-work-2 : goal.whole_as_slice-work-2
whole_as_slice-work-2 g c = omega (arith, c.requires.sizes.few_stacked)

pub whole_as_slice-work-3 : goal.whole_as_slice-work-3
whole_as_slice-work-3 g c = omega (arith, c.requires.sizes.few_variables)
