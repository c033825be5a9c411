use Rattle.dfs_buffer.proofs.Edits.{room_first, room_others, place_first, place_others}
use Rattle.dfs_buffer.proofs.chunks.make_room.Goals as goal

pub returns-then-place-half-clause-place : goal.returns-then-place-half-clause-place
returns-then-place-half-clause-place c key place =
    place_first (λ x. x.items) c.args.chunks.now.items _ c.args.place.chunk c.in_ok-half.half c.in_ok-half.ensures.cut c.requires.within key c.args.place.index place c.if-place-half.true

pub returns-then-place-half-clause-room : goal.returns-then-place-half-clause-room
returns-then-place-half-clause-room c = room_first (λ x. x.items) c.args.chunks.now.items _ c.args.place.chunk c.in_ok-half.half c.in_ok-half.ensures.cut c.requires.within

pub returns-clause-place : goal.returns-clause-place
returns-clause-place c key place =
    place_others (λ x. x.items) c.args.chunks.now.items _ c.args.place.chunk c.in_ok-half.half c.in_ok-half.ensures.cut c.requires.within key c.args.place.index place c.if-place-half.false

pub returns-clause-room : goal.returns-clause-room
returns-clause-room c = room_others (λ x. x.items) c.args.chunks.now.items _ c.args.place.chunk c.in_ok-half.half c.in_ok-half.ensures.cut c.requires.within
