use Rattle.std.proofs.Common.{◌∙◌, sym, ap, ℕ, List, BTreeMap}
use Rattle.std.specs.FinMap.{empty}
use Rattle.cat_history.proofs.ReplayLemmas.{entries-none}
use Rattle.image_rules.specs.Nodes.{image_spot, image_range}
use Rattle.image_pairs.proofs.SlotLemmas.{slot_puts, slot_leaves}
use Rattle.image_pairs.proofs.names.names_of.Goals as goal
use Rattle.image_pairs.proofs.names.names_of.Goals.{in-Some+in_ok-insert, in_default}

pub loop-slot-init : goal.loop-slot-init
loop-slot-init c = c.new-names.ensures.empty ∙ sym entries-none

pub loop-slot-preserved : goal.loop-slot-preserved
loop-slot-preserved c =
    let l = c.args.image.now.layout in
    let range = image_range l c.args.image.now.words c.args.node in
    let s = image_spot l c.args.image.now.words c.args.node in
    elim c.match-name_in.branch [
      | in-Some+in_ok-insert w ↦
          ap (λ (t : BTreeMap (List ℕ) ℕ). t.entries) w.names-is
          ∙ w.in_ok-insert.ensures.entries
          ∙ slot_puts range s empty c.loop-slot.slot w.value_in.result w.in-Some.name c.loop-slot.names.entries (sym w.in-Some.is ∙ c.name_in.ensures) w.value_in.ensures c.loop-slot.invariant
      | in_default w ↦
          ap (λ (t : BTreeMap (List ℕ) ℕ). t.entries) w.names-is
          ∙ slot_leaves range s empty c.loop-slot.slot c.loop-slot.names.entries (sym w.in_default.is ∙ c.name_in.ensures) c.loop-slot.invariant
    ]
