use Rattle.pm_words.specs.Offsets.{slot_offset}
use Rattle.image_rules.specs.Nodes.{image_spot}
use Rattle.image_rules.specs.Rules.{IsRepeated, BreaksApart}
use Rattle.image_rules.proofs.LowestLemmas.{lowest-none, lowest-some}
use Rattle.image_rules.proofs.NodeLemmas.{apart_move}
use Rattle.image_rules.proofs.listed.repeated_offset.Goals as goal

pub returns-in_err-slot-clause-lowest : goal.returns-in_err-slot-clause-lowest
returns-in_err-slot-clause-lowest c =
    let slots = c.args.image.now.layout.slots in
    let s = image_spot c.args.image.now.layout c.args.image.now.words c.args.node in
    lowest-none (IsRepeated slots s) (BreaksApart slots s) (λ slot. slot_offset slot 0) c.from_residual.result (apart_move slots s) c.from_residual.ensures c.in_err-slot.ensures.lowest

pub returns-clause-lowest : goal.returns-clause-lowest
returns-clause-lowest c =
    let slots = c.args.image.now.layout.slots in
    let s = image_spot c.args.image.now.layout c.args.image.now.words c.args.node in
    lowest-some (IsRepeated slots s) (BreaksApart slots s) (λ slot. slot_offset slot 0) c.in_ok-slot.slot c.slot_start.result (apart_move slots s) c.slot_start.ensures
    c.in_ok-slot.ensures.lowest
