-- The parts of the arrays that the nodes below k take: as many shapes as they have variables, and their equations.
use mathlib.Core.Path.{sym}
use lib.Seq.{length-take-le}
use Rattle.checker.proofs.PosedLaws.{counted, equations_part, terms_part, marks_part, terms_long, marks_long, part_room, typable_is}
use Rattle.checker.proofs.solving.typable.Goals as goal

pub slice_bounds-satisfiable-end : goal.slice_bounds-satisfiable-end
slice_bounds-satisfiable-end c =
    sym (length-take-le _ _ (equations_part c.requires.ready c.requires.k_bound c.equation_count-m.ensures))

pub slice_bounds-satisfiable-end-2 : goal.slice_bounds-satisfiable-end-2
slice_bounds-satisfiable-end-2 c = let p = c.requires in terms_part p.ready p.k_bound p.work_room c.variable-v.ensures

pub slice_bounds-satisfiable-end-3 : goal.slice_bounds-satisfiable-end-3
slice_bounds-satisfiable-end-3 c =
    let p = c.requires in sym (length-take-le _ _ (terms_part p.ready p.k_bound p.work_room c.variable-v.ensures))

pub slice_bounds-satisfiable-end-5 : goal.slice_bounds-satisfiable-end-5
slice_bounds-satisfiable-end-5 c = let p = c.requires in marks_part p.ready p.k_bound p.work_room c.variable-v.ensures

pub slice_bounds-satisfiable-end-6 : goal.slice_bounds-satisfiable-end-6
slice_bounds-satisfiable-end-6 c =
    let p = c.requires in sym (length-take-le _ _ (marks_part p.ready p.k_bound p.work_room c.variable-v.ensures))

pub satisfiable-requires : goal.satisfiable-requires
satisfiable-requires c =
    let p = c.requires in (
      part_room p.ready p.k_bound (counted p.ready p.k_bound c.equation_count-m.ensures)
          (terms_long p.ready p.k_bound p.work_room c.variable-v.ensures) c.args.work.now.stack.now p.work_room.stack_room,
      marks_long p.ready p.k_bound p.work_room c.variable-v.ensures,
    )

pub returns-clause-typable : goal.returns-clause-typable
returns-clause-typable c =
    let p = c.requires in
    typable_is p.ready p.k_bound (counted p.ready p.k_bound c.equation_count-m.ensures)
    (terms_long p.ready p.k_bound p.work_room c.variable-v.ensures) c.satisfiable.result c.satisfiable.ensures
