use Rattle.std.proofs.Common.{length, ap, ◌∙◌}
use Rattle.core_rounds.proofs.CoreMaps.{opened_map}
use Rattle.core_rounds.proofs.core_map.CoreMap.of_core.Goals as goal

pub invariant_of-result : goal.invariant_of-result
invariant_of-result g c = (opened_map c.requires.opened.0 c.args.core _ c.requires.opened.1 (ap length (c.as_slice.ensures ∙ c.base.ensures)), c.requires.run)
