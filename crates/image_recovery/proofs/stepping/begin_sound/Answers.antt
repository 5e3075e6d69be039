use Rattle.std.proofs.Common.{refl, subst}
use Rattle.pm_words.specs.Images.{Row, IsImage}
use Rattle.image_layer_rules.specs.Sound.{in_image}
use Rattle.image_recovery.proofs.RecoveringLemmas.{is_recoverable, begins_plan}
use Rattle.image_recovery.proofs.stepping.begin_sound.Goals as goal

pub plan-requires : goal.plan-requires
plan-requires c = λ rule position w breaks. c.requires.sound rule position w (in_image breaks)

pub returns : goal.returns
returns c =
    let is : IsImage c.args.image.layout c.args.image.words = subst (λ (r : Row). IsImage r.layout r.words) c.image.view_is c.image.invariant in
    let recoverable = is_recoverable c.args.image is c.requires.sound c.requires.next in
    record {
      recoverable = recoverable;
      recovering = c.new-recovery.ensures.recovering c.args.image c.in_ok-memory.memory
          (begins_plan c.args.image recoverable c.in_ok-memory.memory c.in_ok-moves.moves.items c.in_ok-moves.moves.items (c.in_ok-memory.ensures {u = tt}) (c.in_ok-moves.ensures {u = tt}) refl);
      none = c.new-recovery.ensures.none.0;
      at_none = c.new-recovery.ensures.none.1;
      opened = c.in_ok-memory.ensures {u = tt};
    }
