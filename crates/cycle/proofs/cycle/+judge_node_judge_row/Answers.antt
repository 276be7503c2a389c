-- In an arm h says which node stands at s.at.
use Rattle.std.proofs.Common.{sym, ap, ◌∙◌, arith, length, length-append}
use Rattle.cycle.proofs.Calling.{calls_fit, call_passed, ret_call_none, args_fall, asked_args, args_ready, ret_call, asked_object, object_few, method_passed, ret_method_none, method_fall, asked_method, method_ready, ret_method}
use Rattle.cycle.proofs.Rows.{row_fits, turn_first, turn_asked, turn_falls, turn_next, turn_last}
use Rattle.cycle.proofs.Spaces.{space_still}
use Rattle.cycle.proofs.Steps.{read_as, below, slot_room, slot_still, node_room, few_reported, inside-fits, inside_falls, leaf_asked, asked_left, asked_right, right_falls, binary_ready, ret_binary, asked_unary, unary_ready, ret_unary, asked_named, named_ready, ret_named, asked_member, member_ready, ret_member, ret_unread, ret_leaf}
use Rattle.question.proofs.NodeReading.{room_of}
use Rattle.cycle.proofs.cycle.+judge_node_judge_row.Goals as goal

pub judge_node-judge_leaf-requires : goal.judge_node-judge_leaf-requires
judge_node-judge_leaf-requires t c =
    let h = read_as _ _ c.in-Ok.ensures c.in-Leaf.is in
    (omega arith, leaf_asked c.requires.1 c.requires.0 _ _ h)

pub judge_node-inside-requires : goal.judge_node-inside-requires
judge_node-inside-requires t c =
    let h = read_as _ _ c.in-Ok.ensures c.in-Binary.is in
    inside-fits c.requires.1 2 (room_of _ _ _ h).0

pub judge_node-inside-requires-in-Unary : goal.judge_node-inside-requires-in-Unary
judge_node-inside-requires-in-Unary t c =
    let h = read_as _ _ c.in-Ok.ensures c.in-Unary.is in
    inside-fits c.requires.1 2 (room_of _ _ _ h).0

pub judge_node-inside-requires-in-Named : goal.judge_node-inside-requires-in-Named
judge_node-inside-requires-in-Named t c =
    let h = read_as _ _ c.in-Ok.ensures c.in-Named.is in
    inside-fits c.requires.1 3 (room_of _ _ _ h)

pub judge_node-inside-requires-in-Member : goal.judge_node-inside-requires-in-Member
judge_node-inside-requires-in-Member t c =
    let h = read_as _ _ c.in-Ok.ensures c.in-Member.is in
    inside-fits c.requires.1 3 (room_of _ _ _ h)

pub judge_node-inside-s-requires : goal.judge_node-inside-s-requires
judge_node-inside-s-requires t c =
    let h = read_as _ _ c.in-Ok.ensures c.in-Call.is in
    inside-fits c.requires.1 4 (room_of _ _ _ h).0

pub judge_node-inside-requires-in-Method : goal.judge_node-inside-requires-in-Method
judge_node-inside-requires-in-Method t c =
    let h = read_as _ _ c.in-Ok.ensures c.in-Method.is in
    inside-fits c.requires.1 4 (room_of _ _ _ h).0

pub judge_node-judge_node-l-requires : goal.judge_node-judge_node-l-requires
judge_node-judge_node-l-requires t c =
    let h = read_as _ _ c.in-Ok.ensures c.in-Binary.is in
    let fits = (room_of _ _ _ h).0 in
    (below c.decreases (inside_falls c.requires.1 2 c.inside.ensures (omega arith) fits), (c.requires.0, asked_left (record { clean = c.bytes-bytes.ensures.clean }) c.args.header c.requires.1 _ h c.inside.ensures))

pub judge_node-judge_node-r-requires : goal.judge_node-judge_node-r-requires
judge_node-judge_node-r-requires t c =
    let h = read_as _ _ c.in-Ok.ensures c.in-Binary.is in (
      below c.decreases (right_falls (record { clean = c.bytes-bytes.ensures.clean }) c.args.header c.requires.1 _ h c.inside.ensures c.judge_node-l.ensures),
      (space_still c.judge_node-l.auto.slots c.requires.0, asked_right (record { clean = c.bytes-bytes.ensures.clean }) c.args.header c.requires.1 _ h c.inside.ensures c.judge_node-l.ensures),
    )

pub judge_node-finish_binary-requires : goal.judge_node-finish_binary-requires
judge_node-finish_binary-requires t c =
    let h = read_as _ _ c.in-Ok.ensures c.in-Binary.is in
    (omega arith, binary_ready (record { clean = c.bytes-bytes.ensures.clean }) c.args.header c.requires.1 _ h c.inside.ensures c.judge_node-l.ensures (space_still (c.judge_node-r.auto.slots ∙ c.judge_node-l.auto.slots) c.requires.0) c.judge_node-r.ensures)

pub judge_node-judge_node-x-requires : goal.judge_node-judge_node-x-requires
judge_node-judge_node-x-requires t c =
    let h = read_as _ _ c.in-Ok.ensures c.in-Unary.is in
    let fits = (room_of _ _ _ h).0 in
    (below c.decreases (inside_falls c.requires.1 2 c.inside-in-Unary.ensures (omega arith) fits), (c.requires.0, asked_unary (record { clean = c.bytes-bytes.ensures.clean }) c.args.header c.requires.1 _ h c.inside-in-Unary.ensures))

pub judge_node-finish_unary-requires : goal.judge_node-finish_unary-requires
judge_node-finish_unary-requires t c =
    let h = read_as _ _ c.in-Ok.ensures c.in-Unary.is in
    (omega arith, unary_ready (record { clean = c.bytes-bytes.ensures.clean }) c.args.header c.requires.1 _ h c.inside-in-Unary.ensures (space_still c.judge_node-x.auto.slots c.requires.0) c.judge_node-x.ensures)

pub judge_node-judge_node-x-requires-in-Named : goal.judge_node-judge_node-x-requires-in-Named
judge_node-judge_node-x-requires-in-Named t c =
    let h = read_as _ _ c.in-Ok.ensures c.in-Named.is in
    let fits = (room_of _ _ _ h) in
    (below c.decreases (inside_falls c.requires.1 3 c.inside-in-Named.ensures (omega arith) fits), (c.requires.0, asked_named (record { clean = c.bytes-bytes.ensures.clean }) c.args.header c.requires.1 _ h c.inside-in-Named.ensures))

pub judge_node-finish_named-requires : goal.judge_node-finish_named-requires
judge_node-finish_named-requires t c =
    let h = read_as _ _ c.in-Ok.ensures c.in-Named.is in
    (omega arith, named_ready (record { clean = c.bytes-bytes.ensures.clean }) c.args.header c.requires.1 _ h c.inside-in-Named.ensures (space_still c.judge_node-x-in-Named.auto.slots c.requires.0) c.judge_node-x-in-Named.ensures)

pub judge_node-judge_node-x-requires-in-Member : goal.judge_node-judge_node-x-requires-in-Member
judge_node-judge_node-x-requires-in-Member t c =
    let h = read_as _ _ c.in-Ok.ensures c.in-Member.is in
    let fits = (room_of _ _ _ h) in
    (below c.decreases (inside_falls c.requires.1 3 c.inside-in-Member.ensures (omega arith) fits), (c.requires.0, asked_member (record { clean = c.bytes-bytes.ensures.clean }) c.args.header c.requires.1 _ h c.inside-in-Member.ensures))

pub judge_node-finish_member-requires : goal.judge_node-finish_member-requires
judge_node-finish_member-requires t c =
    let h = read_as _ _ c.in-Ok.ensures c.in-Member.is in
    (omega arith, member_ready (record { clean = c.bytes-bytes.ensures.clean }) c.args.header c.requires.1 _ h c.inside-in-Member.ensures (space_still c.judge_node-x-in-Member.auto.slots c.requires.0) c.judge_node-x-in-Member.ensures)

pub judge_node-begin_call-requires : goal.judge_node-begin_call-requires
judge_node-begin_call-requires t c = few_reported c.requires.1

pub judge_node-unlisted-requires : goal.judge_node-unlisted-requires
judge_node-unlisted-requires t c =
    let h = read_as _ _ c.in-Ok.ensures c.in-Call.is in
    (omega arith, (slot_room c.requires.1 c.requires.0, omega arith, call_passed (record { clean = c.bytes-bytes.ensures.clean }) (calls_fit _ (record { clean = c.bytes-bytes.ensures.clean })) c.args.header c.requires.1 _ _ h c.inside-s.ensures c.begin_call.ensures c.if-not-begin_call.true))

pub judge_node-returns-then-not-begin_call : goal.judge_node-returns-then-not-begin_call
judge_node-returns-then-not-begin_call t c =
    let h = read_as _ _ c.in-Ok.ensures c.in-Call.is in
    λ x. ret_call_none (record { clean = c.bytes-bytes.ensures.clean }) (calls_fit _ (record { clean = c.bytes-bytes.ensures.clean })) c.args.header x _ _ h c.inside-s.ensures c.begin_call.ensures c.if-not-begin_call.true c.unlisted.ensures

pub judge_node-judge_call-requires : goal.judge_node-judge_call-requires
judge_node-judge_call-requires t c =
    let h = read_as _ _ c.in-Ok.ensures c.in-Call.is in (
      below c.decreases (args_fall (record { clean = c.bytes-bytes.ensures.clean }) (calls_fit _ (record { clean = c.bytes-bytes.ensures.clean })) c.args.header c.requires.1 _ _ h c.inside-s.ensures c.begin_call.ensures c.if-not-begin_call.false),
      (
        c.requires.0,
        asked_args (record { clean = c.bytes-bytes.ensures.clean }) (calls_fit _ (record { clean = c.bytes-bytes.ensures.clean })) c.args.header c.requires.1 _ _ h c.inside-s.ensures c.begin_call.ensures c.if-not-begin_call.false,
        λ row ts' b' lent js. args_ready (record { clean = c.bytes-bytes.ensures.clean }) (calls_fit _ (record { clean = c.bytes-bytes.ensures.clean })) c.args.header c.requires.1 _ _ h c.inside-s.ensures c.begin_call.ensures c.if-not-begin_call.false lent js,
      ),
    )

pub judge_node-returns-else-not-begin_call : goal.judge_node-returns-else-not-begin_call
judge_node-returns-else-not-begin_call t c =
    let h = read_as _ _ c.in-Ok.ensures c.in-Call.is in
    let w = c.judge_call.ensures in
    λ x. ret_call (record { clean = c.bytes-bytes.ensures.clean }) (calls_fit _ (record { clean = c.bytes-bytes.ensures.clean })) c.args.header x _ _ h c.inside-s.ensures c.begin_call.ensures c.if-not-begin_call.false w.lent w.judged w.finished

pub judge_node-judge_node-x-requires-in-Method : goal.judge_node-judge_node-x-requires-in-Method
judge_node-judge_node-x-requires-in-Method t c =
    let h = read_as _ _ c.in-Ok.ensures c.in-Method.is in
    let fits = (room_of _ _ _ h).0 in
    (below c.decreases (inside_falls c.requires.1 4 c.inside-in-Method.ensures (omega arith) fits), (c.requires.0, asked_object (record { clean = c.bytes-bytes.ensures.clean }) (calls_fit _ (record { clean = c.bytes-bytes.ensures.clean })) c.args.header c.requires.1 _ _ h c.inside-in-Method.ensures))

pub judge_node-begin_method-requires : goal.judge_node-begin_method-requires
judge_node-begin_method-requires t c =
    let h = read_as _ _ c.in-Ok.ensures c.in-Method.is in
    (omega arith, (node_room c.requires.1, object_few (record { clean = c.bytes-bytes.ensures.clean }) (calls_fit _ (record { clean = c.bytes-bytes.ensures.clean })) c.args.header c.requires.1 _ _ h c.inside-in-Method.ensures c.judge_node-x-in-Method.ensures))

pub judge_node-unlisted-requires-in-None : goal.judge_node-unlisted-requires-in-None
judge_node-unlisted-requires-in-None t c =
    let h = read_as _ _ c.in-Ok.ensures c.in-Method.is in
    (omega arith, (slot_still c.requires.1 c.requires.0 c.judge_node-x-in-Method.auto.slots, omega arith, method_passed (record { clean = c.bytes-bytes.ensures.clean }) (calls_fit _ (record { clean = c.bytes-bytes.ensures.clean })) c.args.header c.requires.1 _ _ h c.inside-in-Method.ensures c.judge_node-x-in-Method.ensures c.requires.0 c.begin_method.ensures c.in-None.is))

pub judge_node-returns-in-None : goal.judge_node-returns-in-None
judge_node-returns-in-None t c =
    let h = read_as _ _ c.in-Ok.ensures c.in-Method.is in
    λ x. ret_method_none (record { clean = c.bytes-bytes.ensures.clean }) (calls_fit _ (record { clean = c.bytes-bytes.ensures.clean })) c.args.header x _ _ h c.inside-in-Method.ensures c.judge_node-x-in-Method.ensures c.requires.0 c.begin_method.ensures c.in-None.is c.unlisted-in-None.ensures

pub judge_node-judge_call-requires-in-Some : goal.judge_node-judge_call-requires-in-Some
judge_node-judge_call-requires-in-Some t c =
    let h = read_as _ _ c.in-Ok.ensures c.in-Method.is in (
      below c.decreases (method_fall (record { clean = c.bytes-bytes.ensures.clean }) (calls_fit _ (record { clean = c.bytes-bytes.ensures.clean })) c.args.header c.requires.1 _ _ h c.inside-in-Method.ensures c.judge_node-x-in-Method.ensures c.requires.0 c.begin_method.ensures c.in-Some.is),
      (
        space_still c.judge_node-x-in-Method.auto.slots c.requires.0,
        asked_method (record { clean = c.bytes-bytes.ensures.clean }) (calls_fit _ (record { clean = c.bytes-bytes.ensures.clean })) c.args.header c.requires.1 _ _ h c.inside-in-Method.ensures c.judge_node-x-in-Method.ensures c.requires.0 c.begin_method.ensures c.in-Some.is,
        λ row ts' b' lent js. method_ready (record { clean = c.bytes-bytes.ensures.clean }) (calls_fit _ (record { clean = c.bytes-bytes.ensures.clean })) c.args.header c.requires.1 _ _ h c.inside-in-Method.ensures c.judge_node-x-in-Method.ensures c.requires.0 c.begin_method.ensures c.in-Some.is lent js,
      ),
    )

pub judge_node-returns-in-Some : goal.judge_node-returns-in-Some
judge_node-returns-in-Some t c =
    let h = read_as _ _ c.in-Ok.ensures c.in-Method.is in
    let w = c.judge_call-in-Some.ensures in
    λ x. ret_method (record { clean = c.bytes-bytes.ensures.clean }) (calls_fit _ (record { clean = c.bytes-bytes.ensures.clean })) c.args.header x _ _ h c.inside-in-Method.ensures c.judge_node-x-in-Method.ensures c.requires.0 c.begin_method.ensures c.in-Some.is w.lent w.judged w.finished

pub judge_node-returns-in_default : goal.judge_node-returns-in_default
judge_node-returns-in_default t c =
    let h = sym c.in_default.ensures in
    λ x. ret_unread (record { clean = c.bytes-bytes.ensures.clean }) c.args.header x _ h

pub judge_node-returns-in-Leaf : goal.judge_node-returns-in-Leaf
judge_node-returns-in-Leaf t c =
    let h = read_as _ _ c.in-Ok.ensures c.in-Leaf.is in
    λ x. ret_leaf (record { clean = c.bytes-bytes.ensures.clean }) c.args.header x _ _ h c.judge_leaf.ensures

pub judge_node-returns-in-Binary : goal.judge_node-returns-in-Binary
judge_node-returns-in-Binary t c =
    let h = read_as _ _ c.in-Ok.ensures c.in-Binary.is in
    λ x. ret_binary (record { clean = c.bytes-bytes.ensures.clean }) c.args.header x _ h c.inside.ensures c.judge_node-l.ensures (space_still (c.judge_node-r.auto.slots ∙ c.judge_node-l.auto.slots) c.requires.0) c.judge_node-r.ensures c.finish_binary.ensures

pub judge_node-returns-in-Unary : goal.judge_node-returns-in-Unary
judge_node-returns-in-Unary t c =
    let h = read_as _ _ c.in-Ok.ensures c.in-Unary.is in
    λ x. ret_unary (record { clean = c.bytes-bytes.ensures.clean }) c.args.header x _ h c.inside-in-Unary.ensures (space_still c.judge_node-x.auto.slots c.requires.0) c.judge_node-x.ensures c.finish_unary.ensures

pub judge_node-returns-in-Named : goal.judge_node-returns-in-Named
judge_node-returns-in-Named t c =
    let h = read_as _ _ c.in-Ok.ensures c.in-Named.is in
    λ x. ret_named (record { clean = c.bytes-bytes.ensures.clean }) c.args.header x _ h c.inside-in-Named.ensures (space_still c.judge_node-x-in-Named.auto.slots c.requires.0) c.judge_node-x-in-Named.ensures c.finish_named.ensures

pub judge_node-returns-in-Member : goal.judge_node-returns-in-Member
judge_node-returns-in-Member t c =
    let h = read_as _ _ c.in-Ok.ensures c.in-Member.is in
    λ x. ret_member (record { clean = c.bytes-bytes.ensures.clean }) c.args.header x _ h c.inside-in-Member.ensures (space_still c.judge_node-x-in-Member.auto.slots c.requires.0) c.judge_node-x-in-Member.ensures c.finish_member.ensures

pub judge_row-loop-k-init : goal.judge_row-loop-k-init
judge_row-loop-k-init t c =
    (row_fits c.requires.1, ap length c.new-args.ensures, λ x. turn_first x)

pub judge_row-judge_node-e-requires : goal.judge_row-judge_node-e-requires
judge_row-judge_node-e-requires t c =
    let turn = c.loop-k.invariant.2 c.requires.1 in
    (below c.decreases (turn_falls turn), (space_still c.loop-k.auto.slots c.requires.0, turn_asked turn c.loop-k-test.true))

pub judge_row-loop-k-preserved : goal.judge_row-loop-k-preserved
judge_row-loop-k-preserved t c = (
  c.loop-k.invariant.0,
  rw c.push.ensures (simp length-append (omega (arith, c.loop-k.invariant.1))),
  λ x. rw c.push.ensures (turn_next (c.loop-k.invariant.2 x) c.loop-k-test.true c.argument_name.ensures c.judge_node-e.ensures),
)

pub judge_row-returns : goal.judge_row-returns
judge_row-returns t c =
    λ x. rw c.new-args.ensures at (turn_last (c.loop-k.invariant.2 x) c.loop-k-test.false)

pub judge_call-finish_call-requires : goal.judge_call-finish_call-requires
judge_call-finish_call-requires t c = (omega arith, c.requires.2 _ _ _ (space_still c.judge_row-row.auto.slots c.requires.0) c.judge_row-row.ensures)
