use Rattle.std.proofs.Common.{◌≡◌, ◌≤◌, ◌∙◌, ap, subst, sym, refl, arith, ℕ, length, cond, ◌++◌, ◌∷◌, [], length-set, suc, ◌+◌, List}
use Rattle.std.proofs.lemmas.Bool.{eq-eqb, ne_eqb, false≢true}
use Rattle.std.proofs.lemmas.List.{take_more_set, length-replicate}
use Rattle.std.specs.Int.{bit_at}
use Rattle.data_node.specs.declared.order.Order.{Order}
use Rattle.data_node.specs.Orders.{live_slots, listed}
use Rattle.data_node.proofs.order.live_order.Goals as goal
use Rattle.data_node.proofs.order.live_order.Goals.{then-is_live, else-is_live}

pub loop-slot-init : goal.loop-slot-init
loop-slot-init c = record { few = omega arith; room = length-replicate {A = ℕ} 64 0; done = refl }

pub bounds-order-order : goal.bounds-order-order
bounds-order-order c = let few = c.loop-slot.invariant.few in omega arith

pub overflow_add-order : goal.overflow_add-order
overflow_add-order c = let few = c.loop-slot.invariant.few in omega arith

pub loop-slot-preserved : goal.loop-slot-preserved
loop-slot-preserved c =
    let before = c.loop-slot.invariant in
    elim c.if-is_live.branch [
      | then-is_live w ↦
          let order = c.loop-slot.order in
          let few = before.few in
          let room = before.room in
          let live : bit_at c.args.bitmap c.loop-slot.slot ≡ 1 = c.is_live.ensures.0 w.if-is_live.true in
          let more : live_slots c.args.bitmap (suc c.loop-slot.slot) ≡ live_slots c.args.bitmap c.loop-slot.slot ++ (c.loop-slot.slot ∷ []) =
          ap (λ b. cond b (live_slots c.args.bitmap c.loop-slot.slot ++ (c.loop-slot.slot ∷ [])) (live_slots c.args.bitmap c.loop-slot.slot)) (eq-eqb (bit_at c.args.bitmap c.loop-slot.slot) 1 live) in
          let next : suc c.loop-slot.slot ≡ c.loop-slot.slot + 1 = omega arith in
          subst (λ (o : Order). record { few : o.len ≤ c.loop-slot.slot + 1; room : length o.slots ≡ 64; done : listed o ≡ live_slots c.args.bitmap (c.loop-slot.slot + 1) }) (sym w.order-is) (record {
            few = omega arith;
            room = length-set order.slots order.len c.loop-slot.slot ∙ room;
            done = take_more_set order.slots order.len c.loop-slot.slot (omega arith) ∙ ap (λ (l : List ℕ). l ++ (c.loop-slot.slot ∷ [])) before.done ∙ sym more ∙ ap (live_slots c.args.bitmap) next;
          })
      | else-is_live w ↦
          let few = before.few in
          let clear : bit_at c.args.bitmap c.loop-slot.slot ≡ 1 → ⊥ = (λ live. false≢true (sym w.if-is_live.false ∙ c.is_live.ensures.1 live)) in
          let same : live_slots c.args.bitmap (suc c.loop-slot.slot) ≡ live_slots c.args.bitmap c.loop-slot.slot =
          ap (λ b. cond b (live_slots c.args.bitmap c.loop-slot.slot ++ (c.loop-slot.slot ∷ [])) (live_slots c.args.bitmap c.loop-slot.slot)) (ne_eqb (bit_at c.args.bitmap c.loop-slot.slot) 1 clear) in
          let next : suc c.loop-slot.slot ≡ c.loop-slot.slot + 1 = omega arith in
          subst (λ (o : Order). record { few : o.len ≤ c.loop-slot.slot + 1; room : length o.slots ≡ 64; done : listed o ≡ live_slots c.args.bitmap (c.loop-slot.slot + 1) }) (sym w.order-is)
          (record { few = omega arith; room = before.room; done = before.done ∙ sym same ∙ ap (live_slots c.args.bitmap) next })
    ]

pub returns-clause-listed : goal.returns-clause-listed
returns-clause-listed c =
    let end : c.loop-slot.slot ≡ c.args.slots = omega arith in
    c.loop-slot.invariant.done ∙ ap (live_slots c.args.bitmap) end

pub returns-clause-len : goal.returns-clause-len
returns-clause-len c = let few = c.loop-slot.invariant.few in omega arith
