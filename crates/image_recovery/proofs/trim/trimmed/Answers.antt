use Rattle.std.proofs.Common.{pow_pos, ◌+◌, ◌^◌, ◌<◌, ◌≡◌, ◌∙◌, sym, subst, arith}
use Rattle.std.proofs.lemmas.Bool.{false≢true}
use Rattle.data_node.proofs.BitLemmas.{with_live_below}
use Rattle.image_recovery.specs.Plans.{IsKept}
use Rattle.image_recovery.proofs.Trimming.{AreBits, no_bits, one_more, none_more, trims_node}
use Rattle.image_recovery.proofs.trim.trimmed.Goals as goal
use Rattle.image_recovery.proofs.trim.trimmed.Goals.{then-is_kept, else-is_kept}

pub loop-slot-init : goal.loop-slot-init
loop-slot-init c = record { bounded = pow_pos c.args.image.now.layout.slots; are = no_bits (IsKept c.args.image.now c.args.node) }

pub loop-slot-preserved : goal.loop-slot-preserved
loop-slot-preserved c =
    let slots = c.args.image.now.layout.slots in
    let kept = IsKept c.args.image.now c.args.node in
    let count = c.slot_count-slot-end.ensures in
    let before = c.loop-slot.invariant in
    elim c.if-is_kept.branch as (λ _. record { bounded : c.if-is_kept.bits < 2 ^ slots; are : AreBits kept c.if-is_kept.bits (c.loop-slot.slot + 1) }) [
      | then-is_kept w ↦
          let set = w.with_live-bits.ensures in
          record {
            bounded = subst (λ bits. bits < 2 ^ slots) (sym (w.bits-is ∙ set.value)) (with_live_below slots c.loop-slot.bits c.loop-slot.slot (omega arith) (omega arith) before.bounded);
            are = subst (λ bits. AreBits kept bits (c.loop-slot.slot + 1)) (sym w.bits-is) (one_more kept c.loop-slot.bits w.with_live-bits.result c.loop-slot.slot before.are (c.is_kept.ensures.0 w.if-is_kept.true) set.bits);
          }
      | else-is_kept w ↦ record {
        bounded = subst (λ bits. bits < 2 ^ slots) (sym w.bits-is) before.bounded;
        are = subst (λ bits. AreBits kept bits (c.loop-slot.slot + 1)) (sym w.bits-is) (none_more kept c.loop-slot.bits c.loop-slot.slot before.are (λ holds. false≢true (sym w.if-is_kept.false ∙ c.is_kept.ensures.1 holds)));
      }
    ]

pub returns : goal.returns
returns c =
    let kept = IsKept c.args.image.now c.args.node in
    let count = c.slot_count-slot-end.ensures in
    let all : c.loop-slot.slot ≡ c.args.image.now.layout.slots = omega arith in
    trims_node c.args.image.now c.requires.sound c.args.node c.requires.listed c.loop-slot.bits c.loop-slot.invariant.bounded (subst (AreBits kept c.loop-slot.bits) all c.loop-slot.invariant.are)
