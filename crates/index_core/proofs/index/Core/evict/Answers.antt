use Rattle.std.proofs.Common.{◌<◌, ap, sym, subst}
use Rattle.pm_words.specs.declared.layout.Layout.{Layout}
use Rattle.pm_words.specs.Locations.{image_words}
use Rattle.index_core.specs.Cores.{index_with}
use Rattle.index_core.specs.Indexes.{Index, IsIndex}
use Rattle.index_core.specs.Lone.{HasShortWays}
use Rattle.index_core.proofs.Crashing.{evict_keeps, evict_at}
use Rattle.index_core.proofs.ShortWays.{evict_short}
use Rattle.index_core.proofs.Stepping.{respare}
use Rattle.index_core.proofs.index.Core.evict.Goals as goal

pub invariant_of-self : goal.invariant_of-self
invariant_of-self c =
    let s = index_with c.self.inside 0 in
    let within = subst (λ (l : Layout). c.args.word < image_words l) (ap (λ (v : Index). v.layout) (sym c.self.view_is)) c.requires in
    (subst IsIndex (sym (evict_at s c.args.word c.evict.new.self c.evict.ensures)) (evict_keeps s c.args.word c.self.invariant.0 within), c.self.invariant.1)

pub returns-clause-short : goal.returns-clause-short
returns-clause-short c short =
    let s = index_with c.self.inside 0 in
    subst HasShortWays (sym (evict_at s c.args.word c.evict.new.self c.evict.ensures)) (evict_short s c.args.word (subst HasShortWays (sym c.self.view_is) short))

pub returns-clause-index : goal.returns-clause-index
returns-clause-index c =
    respare _ _ (invariant_of-self c).0
