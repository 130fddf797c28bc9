-- `standing_two`: the operands of kinds that build nothing are nodes of the table.
use Rattle.visits.proofs.Terms.{IsLight, ◌≡◌, List, ℕ, PlacedLeaf, FunctionLeaf}
use Rattle.visits.proofs.NodeLaws.{ready_first}
use Rattle.visits.proofs.DispatchLaws.{place_ready, light_two}
use Rattle.visits.proofs.FormLaws.{two_fields}
use Rattle.visits.proofs.standing_two.Goals as goal

-- The same under equal names.
placed_as : {bs env : List ℕ} {n m at : ℕ} → n ≡ m → PlacedLeaf bs env n at → PlacedLeaf bs env m at
placed_as e p = rw e at p

marked_as : {bs env : List ℕ} {n m : ℕ} → n ≡ m → FunctionLeaf bs env n → FunctionLeaf bs env m
marked_as e p = rw e at p

pub leaf_place-requires : goal.leaf_place-requires
leaf_place-requires c =
    let light : IsLight c.args.kind = c.is_light.ensures c.if-not-is_light.false in
    let fields = two_fields (c.requires.2, light_two light) in
    rw c.node_field-b.ensures (place_ready (ready_first fields.ready fields.right))

pub leaf_place-requires-2 : goal.leaf_place-requires-2
leaf_place-requires-2 c =
    let light : IsLight c.args.kind = c.is_light.ensures c.if-not-is_light.false in
    let fields = two_fields (c.requires.2, light_two light) in
    rw c.node_field-a.ensures (place_ready (ready_first fields.ready fields.left))

pub is_marked-known-requires : goal.is_marked-known-requires
is_marked-known-requires c =
    let light : IsLight c.args.kind = c.is_light.ensures c.if-not-is_light.false in
    let fields = two_fields (c.requires.2, light_two light) in
    rw c.node_field-a.ensures (place_ready (ready_first fields.ready fields.left))
