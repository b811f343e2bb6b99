use Rattle.fwd_theorem_limits.proofs.Room.{room_pushes}
use Rattle.fwd_theorem_limits.proofs.link_room.room_pushes_the_rest.Goals as goal

pub returns : goal.returns
returns c s h new r link progress entries writing rest way = room_pushes s h new r link progress writing rest entries way
