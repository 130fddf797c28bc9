-- `insert`: a value that is there changes nothing; otherwise the members from its place on are moved up and it is copied into the gap.
use Rattle.products.proofs.Base.{refl, arith}
use mathlib.Core.Logic.{inl}
use Rattle.parts.proofs.InsertLaws.{insert_near, inserts_put}
use Rattle.parts.proofs.insert.Goals as goal

pub move_up-requires : goal.move_up-requires
move_up-requires c = let k = insert_near c.requires (c.in-Err.ensures c.requires) in omega arith

pub copy_forward-requires : goal.copy_forward-requires
copy_forward-requires c =
    let k = insert_near c.requires (c.in-Err.ensures c.requires) in
    (omega (arith, c.move_up.ensures.kept), omega (arith, c.move_up.ensures.kept), inl (omega arith))

pub returns-in-Err : goal.returns-in-Err
returns-in-Err c = λ g. inserts_put g (c.in-Err.ensures g) c.move_up.ensures c.copy_forward.ensures refl _ c.moved_last.ensures
