use Rattle.std.proofs.Common.{◌+◌, ap, ◌∙◌}
use Rattle.pm_words.specs.declared.layout.Layout.{Layout}
use Rattle.image_layer_rules.specs.Sound.{in_image}
use Rattle.index_core.specs.PartyStates.{idle_states}
use Rattle.recovery.proofs.Opened.{keeps_base}
use Rattle.recovery.proofs.stopping.Recovery.of_sound.Goals as goal

pub image_pairs-requires : goal.image_pairs-requires
image_pairs-requires c = λ rule position w breaks. c.requires.sound rule position w (in_image breaks)

pub returns : goal.returns
returns c =
    let begun = c.in_ok-recovery.ensures {u = tt} in
    record {
      is = record {
        sound = c.requires.sound;
        next = c.requires.next;
        recoverable = begun.recoverable;
        recovering = begun.recovering;
        layout = begun.opened.layout;
        base = c.in_ok-base.ensures.pairs;
        keeps = keeps_base c.args.image c.in_ok-base.base c.in_ok-base.ensures.map c.requires.sound;
        states = c.in_ok-states.ensures {u = tt} ∙ ap (λ n. idle_states (n + 1)) (c.callers.ensures ∙ ap (λ (l : Layout). l.callers) c.layout.ensures.layout);
        history = c.new.ensures.items;
      };
      none = begun.none;
      at_none = begun.at_none;
      opened = begun.opened;
    }
