use Rattle.pm_words.specs.Offsets.{print_offset}
use Rattle.image_rules.specs.Nodes.{image_spot}
use Rattle.image_rules.specs.Rules.{IsMisprinted, BreaksPrints}
use Rattle.image_rules.proofs.LowestLemmas.{lowest-none, lowest-some}
use Rattle.image_rules.proofs.NodeLemmas.{prints_move}
use Rattle.image_rules.proofs.listed.misprinted_offset.Goals as goal

pub returns-in_err-slot-clause-lowest : goal.returns-in_err-slot-clause-lowest
returns-in_err-slot-clause-lowest c =
    let slots = c.args.image.now.layout.slots in
    let s = image_spot c.args.image.now.layout c.args.image.now.words c.args.node in
    lowest-none (IsMisprinted slots s) (BreaksPrints slots s) print_offset c.from_residual.result (prints_move slots s) c.from_residual.ensures c.in_err-slot.ensures.lowest

pub returns-clause-lowest : goal.returns-clause-lowest
returns-clause-lowest c =
    let slots = c.args.image.now.layout.slots in
    let s = image_spot c.args.image.now.layout c.args.image.now.words c.args.node in
    lowest-some (IsMisprinted slots s) (BreaksPrints slots s) print_offset c.in_ok-slot.slot c.print_start.result (prints_move slots s) c.print_start.ensures c.in_ok-slot.ensures.lowest
