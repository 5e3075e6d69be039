use Rattle.std.proofs.Common.{subst}
use Rattle.call_stages.specs.Kinds.{Told}
use Rattle.node_ops.specs.declared.part.Part.{Part}
use Rattle.node_ops.specs.PartSteps.{IsPart, part_asks, part_call}
use Rattle.node_ops.proofs.LookupSound.{SoundLooked, lookup_stays}
use Rattle.node_ops.proofs.part.Part.looked.Goals as goal

pub comes-requires : goal.comes-requires
comes-requires c =
    let lookup = c.in-Looking.lookup in
    let sound = subst IsPart c.in-Looking.is c.requires.0 in
    let told = subst (λ (p : Part). Told (part_call p).view.layout (part_call p).view.generation (part_asks p) c.args.got) c.in-Looking.is c.requires.1 in
    (subst (SoundLooked lookup.call) c.in-None.ensures.turned (lookup_stays lookup c.args.got sound.0 told)).0.call
