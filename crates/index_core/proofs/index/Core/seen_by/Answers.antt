use Rattle.std.proofs.Common.{ap, ◌∙◌}
use Rattle.pm_words.specs.declared.layout.Layout.{Layout}
use Rattle.index_core.specs.Cores.{index_of}
use Rattle.index_core.specs.Indexes.{Index, view_of}
use Rattle.index_core.proofs.index.Core.seen_by.Goals as goal

pub returns-clause-sees : goal.returns-clause-sees
returns-clause-sees c =
    ap (λ (l : Layout). view_of (record (index_of c.self.inside) { layout = l }) c.args.caller) c.layout.ensures.layout
    ∙ ap (λ (v : Index). view_of v c.args.caller) c.self.view_is
