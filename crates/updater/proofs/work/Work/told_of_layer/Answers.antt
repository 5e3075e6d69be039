use Rattle.std.proofs.Common.{ap, ◌∙◌}
use Rattle.pm_words.specs.Turns.{turn_of}
use Rattle.updater.proofs.WorkSound.{floor_ends}
use Rattle.updater.proofs.work.Work.told_of_layer.Goals as goal

pub walks-requires-clause-hint : goal.walks-requires-clause-hint
walks-requires-clause-hint c =
    floor_ends c.args.self.now c.in-Landing.line c.in-Landing.entry c.in-Landing.floor c.args.got c.in-Some.hint c.requires.0 c.in-Landing.is c.requires.1.fits
    (c.advance.ensures ∙ ap (turn_of c.advance.new.self) c.in-Some.is)
