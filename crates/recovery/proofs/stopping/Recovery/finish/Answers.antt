use Rattle.std.proofs.Common.{sym, ap, ◌∙◌, subst}
use Rattle.index_core.specs.Indexes.{Index, IsIndex}
use Rattle.image_recovery.proofs.RecoveringLemmas.{end_is_recovered}
use Rattle.recovery.specs.Opened.{IsOpenedFrom}
use Rattle.recovery.proofs.Opened.{untold, opens, same_index, with_room}
use Rattle.recovery.proofs.stopping.Recovery.finish.Goals as goal

pub tell_list-requires : goal.tell_list-requires
tell_list-requires c =
    let r = c.args.self in
    let going = c.requires.going in
    record { untold = untold going.image r.memory (end_is_recovered going.image r.moves r.memory going.is.recoverable going.is.recovering c.requires.done) }

pub opened-requires-clause-index : goal.opened-requires-clause-index
opened-requires-clause-index c =
    let r = c.args.self in
    let image = c.requires.going.image in
    let is = c.requires.going.is in
    let recovered = end_is_recovered image r.moves r.memory is.recoverable is.recovering c.requires.done in
    let told = c.tell_list.ensures in
    let opened = opens image r.memory recovered c.tell_list.new.memory.words told.tells told.orders told.beside told.row r.base is.base is.keeps is.sound is.next in
    subst IsIndex (sym (same_index c.tell_list.new.memory image.layout r.base r.history.items (told.layout ∙ is.layout) is.history)) opened.index

pub returns : goal.returns
returns c = λ image is.
    let r = c.args.self in
    let recovered = end_is_recovered image r.moves r.memory is.recoverable is.recovering c.requires.done in
    let told = c.tell_list.ensures in
    let opened = opens image r.memory recovered c.tell_list.new.memory.words told.tells told.orders told.beside told.row r.base is.base is.keeps is.sound is.next in
    let same = same_index c.tell_list.new.memory image.layout r.base r.history.items (told.layout ∙ is.layout) is.history in
    subst (IsOpenedFrom image) (sym (c.opened.ensures.same ∙ ap (λ (s : Index). record s { spare = c.opened.result.spare }) same)) (with_room image _ c.opened.result.spare opened)
