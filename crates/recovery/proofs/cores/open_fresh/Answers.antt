use Rattle.std.proofs.Common.{◌≡◌, suc, ◌/◌, ◌≤◌, [], ◌∷◌, sym, subst}
use Rattle.std.specs.Prelude.{IfOk}
use Rattle.std.specs.FinMap.{empty}
use Rattle.pm_words.specs.Images.{Row}
use Rattle.version_lock.specs.Versions.{IsGeneration}
use Rattle.image_rules.specs.Rules.{header_generation}
use Rattle.image_layer_rules.specs.Sound.{IsSoundByAll}
use Rattle.image_layer_rules.proofs.FreshLaw.{fresh_is_sound_by_all}
use Rattle.index_law.specs.Anchors.{anchors_in}
use Rattle.index_core.specs.Indexes.{map_of_index, world}
use Rattle.index_core.specs.Weights.{weight_of}
use Rattle.recovery.specs.Opened.{IsOpenedFrom}
use Rattle.recovery.specs.Cores.{fresh_image}
use Rattle.recovery.proofs.OpenedCores.{fresh_anchors, fresh_contents, fresh_is_early, fresh_next, fresh_weighs, if_ok}
use Rattle.recovery.proofs.cores.open_fresh.Goals as goal

pub recover_sound-requires-clause-sound : goal.recover_sound-requires-clause-sound
recover_sound-requires-clause-sound c = subst (λ (i : Row). IsSoundByAll i.layout i.words) (sym c.in_ok-image.ensures) (fresh_is_sound_by_all c.args.layout c.requires)

pub recover_sound-requires-clause-next : goal.recover_sound-requires-clause-next
recover_sound-requires-clause-next c =
    subst (λ (i : Row). IsGeneration (suc (header_generation i.layout i.words))) (sym c.in_ok-image.ensures) (fresh_is_early c.args.layout)

pub returns-clause-opened : goal.returns-clause-opened
returns-clause-opened c = subst (λ (i : Row). IfOk c.recover_sound.result (IsOpenedFrom i)) c.in_ok-image.ensures c.recover_sound.ensures

pub returns-clause-empty : goal.returns-clause-empty
returns-clause-empty c =
    if_ok (IsOpenedFrom (fresh_image c.args.layout)) (λ core. map_of_index core ≡ empty) c.recover_sound.result (λ core opened. fresh_contents c.args.layout core c.requires opened)
    (subst (λ (i : Row). IfOk c.recover_sound.result (IsOpenedFrom i)) c.in_ok-image.ensures c.recover_sound.ensures)

pub returns-clause-anchors : goal.returns-clause-anchors
returns-clause-anchors c =
    if_ok (IsOpenedFrom (fresh_image c.args.layout)) (λ core. anchors_in (world core) ≡ [] ∷ []) c.recover_sound.result (λ core opened. fresh_anchors c.args.layout core c.requires opened)
    (subst (λ (i : Row). IfOk c.recover_sound.result (IsOpenedFrom i)) c.in_ok-image.ensures c.recover_sound.ensures)

pub returns-clause-weighs : goal.returns-clause-weighs
returns-clause-weighs c =
    if_ok (IsOpenedFrom (fresh_image c.args.layout)) (λ core. weight_of core ≤ c.args.layout.slots / 2) c.recover_sound.result (λ core opened. fresh_weighs c.args.layout core c.requires opened)
    (subst (λ (i : Row). IfOk c.recover_sound.result (IsOpenedFrom i)) c.in_ok-image.ensures c.recover_sound.ensures)

pub returns-clause-generation : goal.returns-clause-generation
returns-clause-generation c =
    if_ok (IsOpenedFrom (fresh_image c.args.layout)) (λ core. core.generation ≡ 2) c.recover_sound.result (λ core opened. fresh_next c.args.layout core opened)
    (subst (λ (i : Row). IfOk c.recover_sound.result (IsOpenedFrom i)) c.in_ok-image.ensures c.recover_sound.ensures)
