use Rattle.std.proofs.Common.{refl}
use Rattle.thread_rounds.proofs.round.fn.all_play.map_vec+FnMut.call_mut.Goals as goal

pub map_vec-requires : goal.map_vec-requires
map_vec-requires g c =
    let given = c.requires.1.1 in
    (record { shared = given.1.1.1.1.0.shared }, (record { shared = given.1.1.1.1.1.shared }, (given.0, (given.1.0, (given.1.1.0, given.1.1.1.0)))))

pub returns : goal.returns
returns g c = (c.map_vec.ensures, refl)
