use Rattle.std.proofs.Common.{◌<◌, sym, subst}
use Rattle.pm_words.specs.declared.layout.Layout.{Layout}
use Rattle.pm_words.specs.Locations.{image_words}
use Rattle.image_recovery.specs.Recoveries.{IsRecovering}
use Rattle.image_recovery.proofs.RecoveringLemmas.{recovering_evicts}
use Rattle.recovery.proofs.Breaks.{goes_on}
use Rattle.recovery.proofs.stopping.Recovery.evict.Goals as goal

pub returns-clause-goes : goal.returns-clause-goes
returns-clause-goes c = λ image is.
    let r = c.args.self.now in
    let within = subst (λ (l : Layout). c.args.word < image_words l) is.layout c.requires in
    goes_on image r r.moves c.evict.new.self is
    (subst (IsRecovering image r.moves) (sym c.evict.ensures) (recovering_evicts image r.moves r.memory c.args.word is.recoverable within is.recovering))
