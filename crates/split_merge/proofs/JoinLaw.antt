-- Each turn of a merge is a step.
use Rattle.std.proofs.Common.{◌≡◌, ◌≢◌, ℕ, zero, suc, ◌+◌, ◌-◌, ◌/◌, ◌%◌, ◌^◌, ◌<◌, ◌≤◌, ◌==◌, ◌&&◌, true, false, cond, ltb, slice_index, List, [], ◌∷◌, Bool, Option, Some, None, inl, inr, ◌⊎◌, ⊎_elim, refl, sym, ◌∙◌, subst, ap, arith}
use Rattle.std.specs.Prelude.{IfSome}
use Rattle.std.specs.List.{AllByRecursion}
use Rattle.std.proofs.lemmas.Nat.Bits.{bit_at-zero}
use Rattle.std.proofs.lemmas.Bool.{cases_eq, eqb-true, eqb-false, eq-eqb, ne_eqb, ltb-true, ltb-false}
use Rattle.split_merge.proofs.PlanWords.{anchor_same}
use Rattle.cat_key.specs.Names.{AreNameWords}
use Rattle.pm_words.specs.declared.layout.Layout.{Layout}
use Rattle.pm_words.specs.declared.action.Action.{Action}
use Rattle.pm_words.specs.declared.action.Action.TheVariants.{Load, Drain}
use Rattle.pm_words.specs.declared.machine.Turn.{Turn}
use Rattle.pm_words.specs.declared.machine.Turn.TheVariants.{Done}
use Rattle.pm_words.specs.declared.fence.Fence.{Fence}
use Rattle.pm_words.specs.declared.fence.FenceAt.{FenceAt}
use Rattle.pm_words.specs.declared.fence.FenceAt.TheVariants as fence_at
use Rattle.pm_words.specs.Fences.{IsFence, fence_start, fence_asks, fence_next, hand_of}
use Rattle.pm_words.specs.Offsets.{bitmap_offset, next_offset, anchor_offset, slot_offset}
use Rattle.data_node.specs.Bits.{without_live}
use Rattle.data_node.specs.Slots.{IsClear}
use Rattle.data_node.specs.Spots.{Spot, updated}
use Rattle.data_node.specs.Lists.{three_words, anchor_in}
use Rattle.data_node.proofs.SpotLemmas.{updated-same}
use Rattle.data_node.proofs.StoreLemmas.{means_slot_store}
use Rattle.call_stages.specs.declared.once.Once.{Once}
use Rattle.call_stages.specs.declared.once.Placed.{Placed}
use Rattle.call_stages.specs.Stages.{Tells, AreCopies, IsAmong, Held, Grip, Pace, Gathered, Joined, Gone, Stage, Idle, Holds, Splits, Meets, Joins, Filling, Linked, HoldsNode, left_grip, merged_held}
use Rattle.call_stages.specs.Kinds.{HasWordAt, Soils, Answers, writes, word_address, knows_right, copies, takes_up, puts_down, gathers, joins, glances_joined, drains_joined, retires, yields, Step, merges, unlocks}
use Rattle.call_stages.specs.Prevs.{IsSwitch, IsJoin as IsSwitchOver, IsRetire, Debt, no_debt, Deals, keeps, forgets, ends, joins as deals_join, pays, renews}
use Rattle.call_stages.specs.Lines.{HeldLine}
use Rattle.call_stages.specs.Footings.{Footing, HasLine, IsOfMerge, Minds}
use Rattle.permutation.specs.Sparing.{SparingStep, on_nodes, on_prev}
use Rattle.smo_log.specs.declared.open.Open.{Open}
use Rattle.smo_log.specs.declared.state.Ready.{Ready}
use Rattle.smo_log.specs.declared.state.ReadyAt.TheVariants as ready_at
use Rattle.smo_log.specs.LogLines.{caller_of, fields, open_line, ready_line}
use Rattle.smo_log.specs.Opens.{IsOpen, open_asks, open_turned}
use Rattle.smo_log.specs.States.{IsReady, ready_asks, ready_turned}
use Rattle.split_merge.specs.declared.uniting.Union.{Union}
use Rattle.split_merge.specs.declared.joining.Join.{Join}
use Rattle.split_merge.specs.declared.joining.JoinAt.{JoinAt}
use Rattle.split_merge.specs.declared.joining.JoinAt.TheVariants as at
use Rattle.split_merge.specs.Unions.{head_word, from_in, half_of, own_prints, joined_end, joined_prints, behind_in, entry_in}
use Rattle.split_merge.specs.Joins.{lowest, loads_from, copies_to, IsLeft, IsJoinAt, IsJoin, after_open, after_slot, after_copy, after_print, after_copies, after_bitmap, after_join, after_prev, join_at_asks, joins_on, opened, readied, join_at_turned}
use Rattle.split_merge.specs.MoveStages.{words_onto}
use Rattle.split_merge.specs.JoinStages.{near_seen, knowing, prints_now, own_seen, head_seen, slots_copied, copied_so, all_copied, right_of, slots_dirty, copy_dirty, meeting, stored_in, gathering, joining, past_seen, past_debt, last_debt, join_at_stage, join_at_line, join_at_debt}
use Rattle.split_merge.specs.MergeLaws.{Answered, JoinsSo, JoinsAreSteps}
use Rattle.split_merge.proofs.FenceTurns.{each_turn, each_turn_of, shrinks, vanishes}
use Rattle.split_merge.proofs.LineSteps.{opens_lead, readies_lead}
use Rattle.split_merge.proofs.CutLaw.{told_at, told_past}
use Rattle.split_merge.proofs.PairLemmas.{gets_parts}
use Rattle.split_merge.proofs.LeftLemmas.{IsFirst, first_left}
use Rattle.split_merge.proofs.UnionLaw.{AreGathered, prints_small, gathers_both}
use Rattle.split_merge.proofs.CopyLemmas.{slots_say, got_from, targets_none, targets_small, grown_small, is_target, start_copied, never_copied, print_means, print_before, print_known, now_after, slot_known, copies_stay, word_copied, slot_copied, left_fewer, left_not_all}

pace_of : Stage → Pace
pace_of (Joins h left right pace) = pace
pace_of _ = Gathered

-- the node that a stage holds first, and the right one
left_in : Stage → ℕ
left_in (Joins h left right pace) = left.node
left_in _ = 0

right_in : Stage → ℕ
right_in (Joins h left right pace) = right.node
right_in _ = 0

-- a step of a party that holds both nodes and isn't a switch yet
pub meets_far : (n w : ℕ) (h : Held) (right : Grip) (t : Stage) → Deals (Meets n w h right) t no_debt no_debt
meets_far n w h right t = keeps
    (λ q. let e : Meets n w h right ≡ Splits q.left q.fresh (Filling true) = q.was in cc)
    (λ q. let e : Meets n w h right ≡ Joins q.held q.left q.right Gathered = q.was in cc)
    (λ q. absurd (let e : Meets n w h right ≡ Joins q.held q.left q.right Joined = q.was in cc)) tt tt

no_split : (h : Held) (left right : Grip) (pace : Pace) (t : Stage) → IsSwitch (Joins h left right pace) t → ⊥
no_split h left right pace t q = let e : Joins h left right pace ≡ Splits q.left q.fresh (Filling true) = q.was in cc

no_join : (h h' : Held) (left left' right right' : Grip) (pace pace' : Pace) → (pace ≡ Gathered → pace' ≡ Joined → ⊥) → IsSwitchOver (Joins h left right pace) (Joins h' left' right' pace') → ⊥
unfolding pace_of
no_join h h' left left' right right' pace pace' never q = never (ap pace_of q.was) (ap pace_of q.is)

no_retire : (h h' : Held) (left left' right right' : Grip) (pace pace' : Pace) → (pace ≡ Joined → pace' ≡ Gone → ⊥) → IsRetire (Joins h left right pace) (Joins h' left' right' pace') → ⊥
unfolding pace_of
no_retire h h' left left' right right' pace pace' never q = never (ap pace_of q.was) (ap pace_of q.is)

-- a step that keeps its pace asks nothing of the line
minds_same : (h : Held) (left after right : Grip) (pace : Pace) (line : Option HeldLine) → Minds (Joins h left right pace) (Joins h after right pace) line
minds_same h left after right Gathered line = tt
minds_same h left after right Joined line = tt
minds_same h left after right Gone line = tt

-- words of a row, one by one
all_past : (P : ℕ × ℕ → Type 0) (f : ℕ → ℕ) (first n : ℕ) (others : List (ℕ × ℕ)) → AllByRecursion P (words_onto f first n others) → AllByRecursion P others
all_past P f first zero others all = all
all_past P f first (suc n) others all = all_past P f first n others all.1

all_at : (P : ℕ × ℕ → Type 0) (f : ℕ → ℕ) (first n : ℕ) (others : List (ℕ × ℕ)) → AllByRecursion P (words_onto f first n others) → (k : ℕ) → k < n → P (first + k, f (first + k))
all_at P f first zero others all k within = absurd (omega arith)
all_at P f first (suc n) others all k within = elim (cases_eq k n) [
  | inl last ↦ subst (λ j. P (first + j, f (first + j))) (sym last) all.0
  | inr other ↦ all_at P f first n others all.1 k (omega arith)
]

module _ (join : Join) (sound : IsJoin join) (g : ℕ) (h : Held) (answer : Once Placed) (answered : Answered h answer) where
  abbrev union : Union
  union = join.union

  abbrev l : Layout
  l = union.layout

  abbrev c : ℕ
  c = caller_of union.line

  abbrev half : ℕ
  half = half_of union

  abbrev Leads_to : Footing → Action → ℕ → Turn Join (Unit {0}) → Type 0
  Leads_to = JoinsSo g union h answer

  abbrev footing : JoinAt → Footing
  footing at = record { stage = join_at_stage h union at; line = join_at_line union at; debt = join_at_debt union at }

  slots : (4 ≤ l.slots) × (l.slots ≤ 64) × (l.slots % 2 ≡ 0)
  slots = sound.union.layout.slots

  on : (before : Footing) (action : Action) (x : ℕ) (at : JoinAt) → SparingStep l g c before action x (footing at) None → IsJoinAt union at → Leads_to before action x (joins_on join at)
  on before action x at step here = (step, record { union = sound.union; here = here }, refl)

  -- the line is open, and nothing is copied yet
  abbrev opened_footing : Footing
  opened_footing = record { stage = meeting h union 0 [] None (head_seen union) []; line = Some (open_line union.line (entry_in union)); debt = no_debt }

  none_stored : union.pairs.targets ≡ 0 → opened_footing ≡ footing at.Bitmap
  none_stored none =
      let stored : 0 ≡ stored_in union = ap (λ b. cond b 0 (own_prints union)) (sym (eq-eqb union.pairs.targets 0 none)) in
      let copied : [] ≡ all_copied union = sym (never_copied union sound.union none 0) in
      λ i. record {
        stage = Meets union.node union.locked (knowing (own_seen union (stored i)) [] None h) (right_of union (head_seen union) (copied i));
        line = Some (open_line union.line (entry_in union));
        debt = no_debt;
      }

  some_first : opened_footing ≡ footing (at.Load union.pairs.targets 0)
  some_first =
      let dirty : [] ≡ copy_dirty union union.pairs.targets 0 = ap (λ b. cond b [] (slots_dirty union)) (sym (eq-eqb union.pairs.targets union.pairs.targets refl)) in
      let copied : [] ≡ slots_copied union union.pairs.targets half = sym (start_copied union sound.union) in
      λ i. record {
        stage = meeting h union 0 (dirty i) None (head_seen union) (copied i);
        line = Some (open_line union.line (entry_in union));
        debt = no_debt;
      }

  targets_left : union.pairs.targets ≢ 0 → IsLeft union union.pairs.targets
  targets_left some = record { fits = targets_small union sound.union; some = some; each = λ slot within live. live }

  to_copies : (before : Footing) (action : Action) (x : ℕ) → SparingStep l g c before action x opened_footing None → Leads_to before action x (joins_on join (after_open union))
  to_copies before action x step =
      elim (union.pairs.targets == 0) as (λ b. (union.pairs.targets == 0) ≡ b → Leads_to before action x (joins_on join (cond b at.Bitmap (at.Load union.pairs.targets 0)))) [
        | true ↦ λ none. on before action x at.Bitmap (subst (λ after. SparingStep l g c before action x after None) (none_stored (eqb-true _ _ none)) step) tt
        | false ↦ λ some. on before action x (at.Load union.pairs.targets 0) (subst (λ after. SparingStep l g c before action x after None) some_first step) (targets_left (eqb-false _ _ some), omega arith)
      ] refl

  at_open : (machine : Open) (x : ℕ) → IsOpen machine → machine.layout ≡ l → machine.line ≡ union.line → machine.entry ≡ entry_in union → x < 2 ^ 64
      → Leads_to (footing (at.Open machine)) (open_asks machine) x (opened join (open_turned machine x))
  at_open machine x is layout line entry fits =
      opens_lead l g (meeting h union 0 [] None (head_seen union) []) no_debt union.line (entry_in union) refl (λ turn. Leads_to (footing (at.Open machine)) (open_asks machine) x (opened join turn)) machine x is layout line entry fits
      (λ next step here. on (footing (at.Open machine)) (open_asks machine) x (at.Open next) step here) (λ step nothing. to_copies (footing (at.Open machine)) (open_asks machine) x step)

  at_load : (left word x : ℕ) → IsLeft union left → word < 4 → x < 2 ^ 64 → Leads_to (footing (at.Load left word)) (loads_from union left word) x (joins_on join (at.Copy left word x))
  at_load left word x is small fits =
      let first = first_left union left sound.union is in
      let source = first.target.source in
      on (footing (at.Load left word)) (loads_from union left word) x (at.Copy left word x)
      (on_nodes tt (inl refl) (merges (knows_right (sound.union.right, omega arith) (omega arith) (λ t told e. (e, told))))
      (meets_far union.node union.locked (knowing (own_seen union 0) (copy_dirty union left word) None h) (right_of union (head_seen union) (copied_so union left word)) (join_at_stage h union (at.Copy left word x))))
      (is, small, fits)

  -- no word before the slots is dirty as words are copied
  low_clean : (left word offset : ℕ) → offset < 16 → IsAmong (copy_dirty union left word) offset → ⊥
  low_clean left word offset low = elim (word == 0 && left == union.pairs.targets) as (λ b. IsAmong (cond b [] (slots_dirty union)) offset → ⊥) [
    | true ↦ λ none. none
    | false ↦ λ among. ⊎_elim (λ within. let high : 16 ≤ offset = within.0 in omega arith) (λ none. none) among
  ]

  copy_soils : (left word offset : ℕ) (dirty : List (ℕ × ℕ)) → IsAmong dirty offset → ((other : ℕ) → IsAmong (slots_dirty union) other → IsAmong dirty other) → Soils (copy_dirty union left word) offset dirty
  copy_soils left word offset dirty here wider = elim (word == 0 && left == union.pairs.targets) as (λ b. Soils (cond b [] (slots_dirty union)) offset dirty) [
    | true ↦ record { stored = here; others = λ other none. absurd none }
    | false ↦ record { stored = here; others = wider }
  ]

  -- the store of a word in a slot
  copy_step : (left word value x : ℕ) (dirty : List (ℕ × ℕ)) (copied : List (ℕ × ℕ)) → IsLeft union left → word < 4 → value < 2 ^ 64 → Soils (copy_dirty union left word) (slot_offset (lowest left) word) dirty
      → ((s t : Spot) → t (slot_offset (from_in union (lowest left)) word) ≡ value → AreCopies (copied_so union left word) s t → AreCopies copied (updated s (slot_offset (lowest left) word) value) t)
      → Step l g (join_at_stage h union (at.Copy left word value)) (copies_to union left word value) x (meeting h union 0 dirty None (head_seen union) copied) None
  copy_step left word value x dirty copied is small fits soils same =
      let first = first_left union left sound.union is in
      let within = first.target.within in
      let low = slots in
      merges (copies (sound.union.node, omega arith) (inr (omega arith)) fits soils
      (λ s t tidy knows told are. (record { seen = slot_known union sound.union s 0 (slot_offset (lowest left) word) value (omega arith) (omega arith) knows.seen; left = tt }, told.1, same s t told.0 are))
      (λ range s m durable means.
      let near = all_past (λ (w : ℕ × ℕ). IsAmong (copy_dirty union left word) w.0 ⊎ (s w.0 ≡ w.1)) (prints_now union 0) 8 (own_prints union) (near_seen union.own union.right) durable in
      let own : s bitmap_offset ≡ union.own = ⊎_elim (λ among. absurd (low_clean left word bitmap_offset (omega arith) among)) (λ is. is) near.0 in
      means_slot_store l.slots range s m (lowest left) word value slots.1 small
      (subst (λ b. IsClear b (lowest left)) (sym own) (gets_parts union.own (head_word union bitmap_offset) l.slots (lowest left) first.target.does).0) means))

  within_slots : (left word : ℕ) → IsLeft union left → word < 4 → IsAmong (slots_dirty union) (slot_offset (lowest left) word)
  within_slots left word is small = let within = (first_left union left sound.union is).target.within in inl (omega arith, omega arith)

  at_copy : (left word value x : ℕ) → IsLeft union left → word < 4 → value < 2 ^ 64 → Leads_to (footing (at.Copy left word value)) (copies_to union left word value) x (joins_on join (after_copy left word))
  at_copy left word value x is small fits =
      elim (ltb (word + 1) 4) as (λ b. ltb (word + 1) 4 ≡ b → Leads_to before action x (joins_on join (cond b (at.Load left (word + 1)) (after_slot less)))) [
        | true ↦ λ more. subst (λ k. Leads_to before action x (joins_on join (at.Load left k))) (sym next)
            (on before action x (at.Load left (suc word))
            (on_nodes tt (inl refl) (subst (λ d. Step l g before.stage action x (meeting h union 0 d None (head_seen union) (copied_so union left (suc word))) None)
            (ap (λ b. cond (b && left == union.pairs.targets) [] (slots_dirty union)) (sym (ne_eqb (suc word) 0 (λ e. omega arith))))
            (copy_step left word value x (slots_dirty union) (copied_so union left (suc word)) is small fits (copy_soils left word (slot_offset (lowest left) word) (slots_dirty union) (within_slots left word is small) (λ other among. among))
            (λ s t e are. word_copied union sound.union s t left word value small e are first.live))) (far (join_at_stage h union (at.Load left (suc word)))))
            (is, (let low = ltb-true _ _ more in omega arith)))
        | false ↦ λ last.
            let end : suc word ≡ 4 = (let high = ltb-false _ _ last in omega arith) in
            elim (less == 0) as (λ b. (less == 0) ≡ b → Leads_to before action x (joins_on join (cond b (at.Print 0) (at.Load less 0)))) [
              | true ↦ λ none. on before action x (at.Print 0)
                  (on_nodes tt (inl refl) (copy_step left word value x ((8, 0) ∷ slots_dirty union) (all_copied union) is small fits
                  (copy_soils left word (slot_offset (lowest left) word) ((8, 0) ∷ slots_dirty union) (inr (within_slots left word is small)) (λ other among. inr among))
                  (λ s t e are. subst (λ k. AreCopies (slots_copied union k half) (updated s (slot_offset (lowest left) word) value) t) (eqb-true _ _ none) (done s t end e are))) (far (join_at_stage h union (at.Print 0))))
                  (omega arith, some)
              | false ↦ λ more.
                  let fewer = left_fewer union sound.union left is (eqb-false _ _ more) in
                  let dirty : slots_dirty union ≡ copy_dirty union less 0 = ap (λ b. cond b [] (slots_dirty union)) (sym (ne_eqb less union.pairs.targets (left_not_all union sound.union left is))) in
                  on before action x (at.Load less 0)
                  (on_nodes tt (inl refl) (subst (λ d. Step l g before.stage action x (meeting h union 0 d None (head_seen union) (slots_copied union less half)) None) dirty
                  (copy_step left word value x (slots_dirty union) (slots_copied union less half) is small fits (copy_soils left word (slot_offset (lowest left) word) (slots_dirty union) (within_slots left word is small) (λ other among. among))
                  (λ s t e are. done s t end e are))) (far (join_at_stage h union (at.Load less 0))))
                  (fewer, omega arith)
            ] refl
      ] refl
    where
      before : Footing
      before = footing (at.Copy left word value)

      action : Action
      action = copies_to union left word value

      less : ℕ
      less = without_live left (lowest left)

      next : word + 1 ≡ suc word
      next = omega arith

      first : IsFirst union left
      first = first_left union left sound.union is

      some : union.pairs.targets ≢ 0
      some none = let live = is.each (lowest left) first.within first.live in targets_none union (lowest left) none live

      far : (t : Stage) → Deals (join_at_stage h union (at.Copy left word value)) t no_debt no_debt
      far t = meets_far union.node union.locked (knowing (own_seen union 0) (copy_dirty union left word) None h) (right_of union ((slot_offset (from_in union (lowest left)) word, value) ∷ head_seen union) (copied_so union left word)) t

      done : (s t : Spot) → suc word ≡ 4 → t (slot_offset (from_in union (lowest left)) word) ≡ value → AreCopies (copied_so union left word) s t
          → AreCopies (slots_copied union less half) (updated s (slot_offset (lowest left) word) value) t
      done s t end e are = slot_copied union sound.union (updated s (slot_offset (lowest left) word) value) t left first.within
          (subst (λ k. AreCopies (copied_so union left k) (updated s (slot_offset (lowest left) word) value) t) end (word_copied union sound.union s t left word value small e are first.live))

  few_prints : own_prints union ≤ 4
  few_prints = let most = slots.1 in omega arith

  print_step : (word x : ℕ) (dirty : List (ℕ × ℕ)) → word < own_prints union → Soils ((8, word) ∷ slots_dirty union) (8 + word) dirty
      → Step l g (join_at_stage h union (at.Print word)) (join_at_asks union (at.Print word)) x (meeting h union (suc word) dirty None (head_seen union) (all_copied union)) None
  print_step word x dirty inside soils =
      let most = few_prints in
      let low = slots in
      merges (copies (sound.union.node, omega arith) (inr (omega arith)) (prints_small union sound.union word) soils
      (λ s t tidy knows told are. (
        record { seen = print_known union sound.union s word knows.seen; left = tt },
        told,
        copies_stay union sound.union s t 0 half (8 + word) (joined_prints union word) (omega arith) are,
      ))
      (λ range s m durable means.
      let P : ℕ × ℕ → Type 0 = λ w. IsAmong ((8, word) ∷ slots_dirty union) w.0 ⊎ (s w.0 ≡ w.1) in
      let near = all_past P (prints_now union word) 8 (own_prints union) (near_seen union.own union.right) durable in
      let own : s bitmap_offset ≡ union.own = ⊎_elim (λ among. absurd (clear among bitmap_offset (omega arith) (λ is within. let a = within.0 in omega arith) refl)) (λ is. is) near.0 in
      let print : s (8 + word) ≡ prints_now union word (8 + word) =
      ⊎_elim (λ among. absurd (clear among (8 + word) (omega arith) (λ is within. let b = within.1 in omega arith) refl)) (λ is. is) (all_at P (prints_now union word) 8 (own_prints union) (near_seen union.own union.right) durable word inside) in
      print_means union sound.union range s m word (omega arith) own (print ∙ print_before union sound.union word) means))
    where
      clear : {o : ℕ} → IsAmong ((8, word) ∷ slots_dirty union) o → (offset : ℕ) → offset < 16 → (o ≡ offset → (8 ≤ offset) × (offset < 8 + word) → ⊥) → o ≡ offset → ⊥
      clear (inl within) offset low never is = never is (let a = within.0 in omega arith, let b = within.1 in omega arith)
      clear (inr (inl within)) offset low never is = let a = within.0 in omega arith
      clear (inr (inr none)) offset low never is = none

  prints_far : (word : ℕ) (t : Stage) → Deals (join_at_stage h union (at.Print word)) t no_debt no_debt
  prints_far word t = meets_far union.node union.locked (knowing (own_seen union word) ((8, word) ∷ slots_dirty union) None h) (right_of union (head_seen union) (all_copied union)) t

  at_print : (word x : ℕ) → word < own_prints union → union.pairs.targets ≢ 0 → Leads_to (footing (at.Print word)) (join_at_asks union (at.Print word)) x (joins_on join (after_print union word))
  at_print word x inside some =
      let most = few_prints in
      let low = slots in
      elim (ltb (word + 1) (own_prints union)) as (λ b. ltb (word + 1) (own_prints union) ≡ b → Leads_to (footing (at.Print word)) (join_at_asks union (at.Print word)) x
      (joins_on join (cond b (at.Print (word + 1)) (at.FenceCopies 8 fence_start)))) [
        | true ↦ λ more. let next : word + 1 ≡ suc word = omega arith in
            subst (λ k. Leads_to (footing (at.Print word)) (join_at_asks union (at.Print word)) x (joins_on join (at.Print k))) (sym next)
            (on (footing (at.Print word)) (join_at_asks union (at.Print word)) x (at.Print (suc word))
            (on_nodes tt (inl refl) (print_step word x ((8, suc word) ∷ slots_dirty union) inside
            (record { stored = inl (omega arith, omega arith); others = λ other among. ⊎_elim (λ within. inl (within.0, let b = within.1 in omega arith)) (λ rest. inr rest) among }))
            (prints_far word (join_at_stage h union (at.Print (suc word)))))
            (let bound = ltb-true _ _ more in omega arith, some))
        | false ↦ λ last.
            let end : suc word ≡ own_prints union = (let bound = ltb-false _ _ last in omega arith) in
            on (footing (at.Print word)) (join_at_asks union (at.Print word)) x (at.FenceCopies 8 fence_start)
            (on_nodes tt (inl refl) (subst (λ k. Step l g (join_at_stage h union (at.Print word)) (join_at_asks union (at.Print word)) x
            (meeting h union k ((8, joined_end union - 8) ∷ []) None (head_seen union) (all_copied union)) None) end (print_step word x ((8, joined_end union - 8) ∷ []) inside
            (record {
              stored = inl (omega arith, omega arith);
              others = λ other among. ⊎_elim
                  (λ within. inl (within.0, let b = within.1 in omega arith))
                  (λ rest. ⊎_elim (λ within. inl (let a = within.0 in omega arith, let b = within.1 in omega arith)) (λ none. absurd none) rest)
                  among;
            })))
            (prints_far word (join_at_stage h union (at.FenceCopies 8 fence_start))))
            (omega arith, omega arith, refl, record { word = omega arith; value = tt }, some)
      ] refl

  -- the fences of the copies
  at_fence_copies : (first : ℕ) (fence : Fence) (x : ℕ) → first < joined_end union → 8 ≤ first → first % 8 ≡ 0 → IsFence fence → union.pairs.targets ≢ 0 → x < 2 ^ 64
      → Leads_to (footing (at.FenceCopies first fence)) (fence_asks (word_address l union.node (first + fence.word)) fence) x (joins_on join (after_copies union first (fence_next fence x)))
  at_fence_copies first fence x inside high whole is some fits =
      each_turn_of (joined_end union) first (λ word. word_address l union.node (first + word)) (after_copies union first) (at.FenceCopies (first + 8) fence_start) at.Bitmap
      (λ before action to. Leads_to (footing (at.FenceCopies first before)) action x (joins_on join to)) fence x is fits refl
      (λ word small. on (before word fence_at.Load) (Load (word_address l union.node (first + word))) x (at.FenceCopies first (record { word = word; at = fence_at.Drain x }))
      (on_nodes tt (inl refl) (merges (takes_up (within word small))) (far word None (join_at_stage h union (at.FenceCopies first (record { word = word; at = fence_at.Drain x })))))
      (inside, high, whole, record { word = small; value = fits }, some))
      (λ word y more value cleans. on (before word (fence_at.Drain y)) (Drain (word_address l union.node (first + word)) y) x (at.FenceCopies first (record { word = word + 1; at = fence_at.Load }))
      (on_nodes tt (inl refl) (merges (puts_down (within word (omega arith)) value refl cleans)) (far word (Some (first + word, y)) (join_at_stage h union (at.FenceCopies first (record { word = word + 1; at = fence_at.Load })))))
      (inside, high, whole, record { word = more; value = tt }, some))
      (λ word y small value another cleans. on (before word (fence_at.Drain y)) (Drain (word_address l union.node (first + word)) y) x (at.FenceCopies (first + 8) fence_start)
      (on_nodes tt (inl refl) (merges (puts_down (within word small) value refl cleans)) (far word (Some (first + word, y)) (join_at_stage h union (at.FenceCopies (first + 8) fence_start))))
      (another, omega arith, omega arith, record { word = omega arith; value = tt }, some))
      (λ word y small value cleans. on (before word (fence_at.Drain y)) (Drain (word_address l union.node (first + word)) y) x at.Bitmap
      (on_nodes tt (inl refl) (subst (λ k. Step l g (before word (fence_at.Drain y)).stage (Drain (word_address l union.node (first + word)) y) x (Meets union.node union.locked (knowing (own_seen union k) [] None h) (right_of union (head_seen union) (all_copied union))) None) stored
      (merges (puts_down (within word small) value refl cleans))) (far word (Some (first + word, y)) (join_at_stage h union at.Bitmap))) tt)
    where
      before : ℕ → FenceAt → Footing
      before word k = footing (at.FenceCopies first (record { word = word; at = k }))

      within : (word : ℕ) → word < 8 → HasWordAt l union.node (first + word)
      within word small = let low = slots.0 in let even = slots.2 in (sound.union.node, omega arith)

      far : (word : ℕ) (hand : Option (ℕ × ℕ)) (t : Stage) → Deals (meeting h union (own_prints union) ((first + word, joined_end union - (first + word)) ∷ []) hand (head_seen union) (all_copied union)) t no_debt no_debt
      far word hand t = meets_far union.node union.locked (knowing (own_seen union (own_prints union)) ((first + word, joined_end union - (first + word)) ∷ []) hand h) (right_of union (head_seen union) (all_copied union)) t

      stored : own_prints union ≡ stored_in union
      stored = ap (λ b. cond b 0 (own_prints union)) (sym (ne_eqb union.pairs.targets 0 some))

  -- what is known of both nodes as the bitmap is stored
  are_gathered : (s t : Spot) → Tells (own_seen union (stored_in union)) s → Tells (head_seen union) t → AreCopies (all_copied union) s t → AreGathered union s t
  are_gathered s t own head are =
      let low = slots in
      record {
        own = (told_past (prints_now union (stored_in union)) 8 (own_prints union) (near_seen union.own union.right) s own).0;
        right = told_at (head_word union) bitmap_offset 15 [] t head 0 (omega arith);
        head = λ offset least most. let place : 1 + (offset - 1) ≡ offset = omega arith in
            subst (λ o. t o ≡ head_word union o) place (told_at (head_word union) bitmap_offset 15 [] t head (offset - 1) (omega arith));
        prints = λ slot within from.
            let some : union.pairs.targets ≢ 0 = (λ none. targets_none union slot none (is_target union sound.union slot within from)) in
            let stored : stored_in union ≡ own_prints union = ap (λ b. cond b 0 (own_prints union)) (ne_eqb union.pairs.targets 0 some) in
            let inside : slot / 8 < own_prints union = omega arith in
            told_at (prints_now union (stored_in union)) 8 (own_prints union) (near_seen union.own union.right) s own (slot / 8) inside
            ∙ ap (λ n. prints_now union n (8 + slot / 8)) stored ∙ now_after union sound.union (own_prints union) (slot / 8) inside;
        copied = λ slot k within from small. (slots_say s t union 0 half are slot within (got_from union 0 slot from (bit_at-zero slot))).same k small;
      }

  at_bitmap : (x : ℕ) → Leads_to (footing at.Bitmap) (join_at_asks union at.Bitmap) x (joins_on join (at.FenceBitmap fence_start))
  at_bitmap x = on (footing at.Bitmap) (join_at_asks union at.Bitmap) x (at.FenceBitmap fence_start)
      (on_nodes tt (inl refl) (merges (gathers (grown_small union sound.union) refl (inl (omega arith, omega arith)) (λ s knows. tt)
      (λ range other s t m apart knows told are means stays means_right stays_right.
      gathers_both union sound.union s t (are_gathered s t knows.seen told are) range other m means means_right apart stays stays_right)))
      (meets_far union.node union.locked (gathering h union) (right_of union (head_seen union) (all_copied union)) (join_at_stage h union (at.FenceBitmap fence_start))))
      (record { word = omega arith; value = tt })

  -- the two nodes from the bitmap on
  abbrev grip : List (ℕ × ℕ) → List (ℕ × ℕ) → Option (ℕ × ℕ) → Grip
  grip seen dirty hand = record (left_grip union.node union.locked seen dirty) { hand = hand }

  abbrev beside : Grip
  beside = right_of union (head_seen union) (all_copied union)

  -- a step that keeps what is known and owed of prevs
  deals_on : (seen dirty dirty' : List (ℕ × ℕ)) (hand hand' : Option (ℕ × ℕ)) (pace : Pace) (d : Debt) → IfSome d.known (λ k. HoldsNode (joining h union seen dirty' hand' pace) k.0) → IfSome d.owes (HoldsNode (joining h union seen dirty' hand' pace))
      → Deals (joining h union seen dirty hand pace) (joining h union seen dirty' hand' pace) d d
  deals_on seen dirty dirty' hand hand' pace d known owes =
      keeps (no_split (gathering h union) (grip seen dirty hand) beside pace (joining h union seen dirty' hand' pace))
      (no_join (gathering h union) (gathering h union) (grip seen dirty hand) (grip seen dirty' hand') beside beside pace pace (paces pace))
      (λ q. absurd (no_retire (gathering h union) (gathering h union) (grip seen dirty hand) (grip seen dirty' hand') beside beside pace pace (paces' pace) q)) known owes
    where
      paces : (p : Pace) → p ≡ Gathered → p ≡ Joined → ⊥
      paces p one two = let e : Gathered ≡ Joined = sym one ∙ two in cc

      paces' : (p : Pace) → p ≡ Joined → p ≡ Gone → ⊥
      paces' p one two = let e : Joined ≡ Gone = sym one ∙ two in cc

  has_left : (word : ℕ) → word < 8 → HasWordAt l union.node word
  has_left word small = (sound.union.node, omega arith)

  -- the fences of the left node's first line
  abbrev joined_on : List (ℕ × ℕ) → List (ℕ × ℕ) → Option (ℕ × ℕ) → Pace → Debt → Footing
  joined_on seen dirty hand pace d = record { stage = joining h union seen dirty hand pace; line = Some (open_line union.line (entry_in union)); debt = d }

  at_fence_left : (to : Option Fence → JoinAt) (seen : List (ℕ × ℕ)) (pace : Pace) (d : Debt) (fence : Fence) (x : ℕ) → IsFence fence → x < 2 ^ 64
      → IfSome d.known (λ k. HoldsNode (joining h union seen [] None pace) k.0) → IfSome d.owes (HoldsNode (joining h union seen [] None pace))
      → ((f : Fence) → footing (to (Some f)) ≡ joined_on seen ((f.word, 8 - f.word) ∷ []) (hand_of f.word f.at) pace d) → footing (to None) ≡ joined_on seen [] None pace d
      → ((f : Fence) → IsFence f → IsJoinAt union (to (Some f))) → IsJoinAt union (to None)
      → Leads_to (footing (to (Some fence))) (fence_asks (word_address l union.node fence.word) fence) x (joins_on join (to (fence_next fence x)))
  at_fence_left to seen pace d fence x is fits knows owes same is_end here past =
      each_turn (word_address l union.node) (λ before action next. Leads_to (footing (to (Some before))) action x (joins_on join (to next))) fence x is fits
      (λ word small. goes (record { word = word; at = fence_at.Load }) (Load (word_address l union.node word)) (to (Some (record { word = word; at = fence_at.Drain x }))) ((word, 8 - word) ∷ []) (Some (word, x)) (same (record { word = word; at = fence_at.Drain x }))
      (merges (glances_joined (has_left word small) (λ s told e. told))) (here (record { word = word; at = fence_at.Drain x }) (record { word = small; value = fits })))
      (λ word y more value. goes (record { word = word; at = fence_at.Drain y }) (Drain (word_address l union.node word) y) (to (Some (record { word = word + 1; at = fence_at.Load }))) ((word + 1, 8 - (word + 1)) ∷ []) None (same (record { word = word + 1; at = fence_at.Load }))
      (merges (drains_joined (has_left word (omega arith)) value refl (shrinks 8 word (word + 1) refl))) (here (record { word = word + 1; at = fence_at.Load }) (record { word = more; value = tt })))
      (λ word y end value. goes (record { word = word; at = fence_at.Drain y }) (Drain (word_address l union.node word) y) (to None) [] None is_end (merges (drains_joined (has_left word (omega arith)) value refl (vanishes 8 word (omega arith)))) past)
    where
      goes : (before : Fence) (action : Action) (next : JoinAt) (dirty : List (ℕ × ℕ)) (hand : Option (ℕ × ℕ)) → footing next ≡ joined_on seen dirty hand pace d
          → Step l g (joining h union seen ((before.word, 8 - before.word) ∷ []) (hand_of before.word before.at) pace) action x (joining h union seen dirty hand pace) None → IsJoinAt union next
          → Leads_to (footing (to (Some before))) action x (joins_on join next)
      goes before action next dirty hand is step there = on (footing (to (Some before))) action x next
          (subst (λ (p : Footing × Footing). SparingStep l g c p.0 action x p.1 None) (λ i. (sym (same before) i, sym is i))
          (on_nodes (minds_same (gathering h union) (grip seen ((before.word, 8 - before.word) ∷ []) (hand_of before.word before.at)) (grip seen dirty hand) beside pace (Some (open_line union.line (entry_in union)))) (inl refl) step
          (deals_on seen ((before.word, 8 - before.word) ∷ []) dirty (hand_of before.word before.at) hand pace d knows owes))) there

  at_fence_bitmap : (fence : Fence) (x : ℕ) → IsFence fence → x < 2 ^ 64
      → Leads_to (footing (at.FenceBitmap fence)) (fence_asks (word_address l union.node fence.word) fence) x (joins_on join (after_bitmap (fence_next fence x)))
  at_fence_bitmap fence x is fits = at_fence_left after_bitmap [] Gathered no_debt fence x is fits tt tt (λ f. refl) refl (λ f here. here) tt

  -- the line is of the merge that leaves the right node out, and has its anchor
  line_anchored : (s t : Spot) → Tells (fields (entry_in union) 7) s → Tells (head_seen union) t → AreNameWords (t anchor_offset ∷ t (anchor_offset + 1) ∷ t (anchor_offset + 2) ∷ []) → anchor_in s ≡ anchor_in t
  unfolding anchor_in
  line_anchored s t line head named =
      let word : (k : ℕ) → k < 15 → t (1 + k) ≡ head_word union (1 + k) = told_at (head_word union) bitmap_offset 15 [] t head in
      let first = word 2 (omega arith) in
      let second = word 3 (omega arith) in
      let third = word 4 (omega arith) in
      let same = anchor_same (head_word union anchor_offset) (head_word union (anchor_offset + 1)) (head_word union (anchor_offset + 2)) (subst (λ (words : List ℕ). AreNameWords words) (λ k. first k ∷ second k ∷ third k ∷ []) named) in
      λ k. three_words ((line.1.1.1.1.0 ∙ (λ i. slice_index (same i) 0) ∙ sym first) k) ((line.1.1.1.0 ∙ (λ i. slice_index (same i) 1) ∙ sym second) k)
      ((line.1.1.0 ∙ (λ i. slice_index (same i) 2) ∙ sym third) k)

  of_merge : IsOfMerge (open_line union.line (entry_in union)) (right_of union (head_seen union) (all_copied union))
  of_merge = record { kind = λ s told. told.1.1.1.1.1.1.1.0; node = λ s told. told.1.1.1.1.1.1.0; anchor = λ s t told head. line_anchored s t told.1 head }

  at_switch : (x : ℕ) → Leads_to (footing at.Switch) (join_at_asks union at.Switch) x (joins_on join (at.FenceSwitch fence_start))
  at_switch x = on (footing at.Switch) (join_at_asks union at.Switch) x (at.FenceSwitch fence_start)
      (on_nodes (record { unready = refl; durable = refl; open_state = λ s told. told.0; anchor = of_merge.anchor }, of_merge) (inl refl)
      (merges (joins (sound.union.head next_offset) refl (inl (omega arith, omega arith)) (λ t told. told_at (head_word union) bitmap_offset 15 [] t told 1 (omega arith)) (λ s told. (updated-same s next_offset (behind_in union), tt))))
      (deals_join refl refl)) (record { word = omega arith; value = tt })

  at_fence_switch : (fence : Fence) (x : ℕ) → IsFence fence → x < 2 ^ 64
      → Leads_to (footing (at.FenceSwitch fence)) (fence_asks (word_address l union.node fence.word) fence) x (joins_on join (after_join (fence_next fence x)))
  at_fence_switch fence x is fits = at_fence_left after_join (past_seen union) Joined (past_debt union) fence x is fits (inr refl) (inl refl) (λ f. refl) refl (λ f here. here) tt

  at_retire : (x : ℕ) → Leads_to (footing at.Retire) (join_at_asks union at.Retire) x (joins_on join at.Prev)
  unfolding left_in right_in
  at_retire x = on (footing at.Retire) (join_at_asks union at.Retire) x at.Prev
      (on_nodes refl (inl refl) (merges (retires refl))
      (keeps (no_split (gathering h union) (grip (past_seen union) [] None) beside Joined (join_at_stage h union at.Prev))
      (no_join (gathering h union) (gathering h union) (grip (past_seen union) [] None) (grip (past_seen union) [] None) beside beside Joined Gone (λ e e'. cc))
      (λ q. known q.held q.left q.right q.was) (inr refl) (inl refl))) tt
    where
      known : (held : Held) (left right : Grip) → join_at_stage h union at.Retire ≡ Joins held left right Joined → ◌≡◌ {A = Option (ℕ × ℕ)} (Some (union.right, union.node)) (Some (right.node, left.node))
      known held left right was = ap (λ (s : Stage). let pair : Option (ℕ × ℕ) = Some (right_in s, left_in s) in pair) was

  small_node : union.node < 2 ^ 64
  small_node = let low = sound.union.node in let most : l.nodes ≤ 4096 = sound.union.layout.nodes.1 in omega arith

  at_prev : (x : ℕ) → Leads_to (footing at.Prev) (join_at_asks union at.Prev) x (joins_on join (after_prev union))
  at_prev x =
      elim (behind_in union == 0) as (λ b. (behind_in union == 0) ≡ b → Leads_to (footing at.Prev) (join_at_asks union at.Prev) x
      (joins_on join (cond b (at.Ready (record { layout = l; line = union.line; at = ready_at.State })) at.NextPrev))) [
        | true ↦ λ none. on (footing at.Prev) (join_at_asks union at.Prev) x (at.Ready (record { layout = l; line = union.line; at = ready_at.State }))
            (subst (λ (d : Debt). SparingStep l g c (footing at.Prev) (join_at_asks union at.Prev) x (record { stage = join_at_stage h union at.Prev; line = Some (open_line union.line (entry_in union)); debt = d }) None)
            (λ i. record { known = Some (union.right, union.node); owes = cond (sym none i) (Some union.node) None }) step)
            (record { layout = sound.union.layout; line = sound.union.line; here = tt }, refl, refl)
        | false ↦ λ some. on (footing at.Prev) (join_at_asks union at.Prev) x at.NextPrev step (eqb-false _ _ some)
      ] refl
    where
      step : SparingStep l g c (footing at.Prev) (join_at_asks union at.Prev) x (footing at.NextPrev) None
      step = on_prev refl sound.union.right small_node (renews refl)

  at_next_prev : (x : ℕ) → behind_in union ≢ 0 → Leads_to (footing at.NextPrev) (join_at_asks union at.NextPrev) x (joins_on join (at.Ready (record { layout = l; line = union.line; at = ready_at.State })))
  at_next_prev x some = on (footing at.NextPrev) (join_at_asks union at.NextPrev) x (at.Ready (record { layout = l; line = union.line; at = ready_at.State }))
      (subst (λ (b : Bool). SparingStep l g c (footing at.NextPrev) (join_at_asks union at.NextPrev) x (record {
        stage = join_at_stage h union at.NextPrev;
        line = Some (open_line union.line (entry_in union));
        debt = record { known = Some (union.right, union.node); owes = cond b (Some union.node) None };
      }) None) (sym (ne_eqb (behind_in union) 0 some))
      (on_prev refl sound.union.behind small_node (pays refl (refl, λ s told. told.0) some sound.union.node)))
      (record { layout = sound.union.layout; line = sound.union.line; here = tt }, refl, refl)

  at_ready : (ready : Ready) (x : ℕ) → IsReady ready → ready.layout ≡ l → ready.line ≡ union.line → x < 2 ^ 64
      → Leads_to (footing (at.Ready ready)) (ready_asks ready) x (readied join (ready_turned ready x))
  at_ready ready x is layout line fits =
      readies_lead l g (join_at_stage h union (at.Ready ready)) (last_debt union) union.line (entry_in union) refl (λ n none. none, inr of_merge)
      (λ turn. Leads_to (footing (at.Ready ready)) (ready_asks ready) x (readied join turn)) ready x is layout line fits
      (λ next step here. on (footing (at.Ready ready)) (ready_asks ready) x (at.Ready next) step here) (λ step nothing. on (footing (at.Ready ready)) (ready_asks ready) x at.UnlockRight step tt)

  -- the line is READY and says what is merged
  last_minds : HasLine (Some (ready_line union.line (entry_in union))) (λ e. (e.ready ≡ true) × IsOfMerge e (right_of union (head_seen union) (all_copied union)))
  last_minds = (refl, record { kind = λ s told. told.1.1.1.1.1.1.0; node = λ s told. told.1.1.1.1.1.0; anchor = line_anchored })

  at_unlock_right : (x : ℕ) → Leads_to (footing at.UnlockRight) (join_at_asks union at.UnlockRight) x (joins_on join at.Unlock)
  at_unlock_right x =
      on (footing at.UnlockRight) (join_at_asks union at.UnlockRight) x at.Unlock
      (on_nodes last_minds (inr (refl, inr (record { ready = refl; given_back = λ right merged. let no : Holds union.node union.locked (merged_held (gathering h union)) ≡ Joins merged.0 merged.1 right Gone = merged.2 in cc }))) (merges (yields refl refl))
      (elim (behind_in union == 0) as (λ b. (behind_in union == 0) ≡ b → Deals was is (record { known = Some (union.right, union.node); owes = cond b (Some union.node) None }) no_debt) [
        | true ↦ λ none. ends {n = union.node} switch join' retire refl (refl, λ s told. told.0 ∙ eqb-true _ _ none)
        | false ↦ λ some. forgets switch join' retire tt
      ] refl)) tt
    where
      was : Stage
      was = join_at_stage h union at.UnlockRight

      is : Stage
      is = join_at_stage h union at.Unlock

      switch : IsSwitch was is → ⊥
      switch = no_split (gathering h union) (grip (past_seen union) [] None) beside Gone is

      join' : IsSwitchOver was is → ⊥
      join' q = let e : Holds union.node union.locked (merged_held (gathering h union)) ≡ Joins q.held q.after q.right Joined = q.is in cc

      retire : IsRetire was is → ⊥
      retire q = let e : Holds union.node union.locked (merged_held (gathering h union)) ≡ Joins q.held q.left q.right Gone = q.is in cc

  at_unlock : (x : ℕ) → Leads_to (footing at.Unlock) (join_at_asks union at.Unlock) x (Done tt)
  at_unlock x = on_nodes tt (inl refl) (unlocks refl refl refl refl (subst (Answers l (merged_held (gathering h union))) (sym answered.is) (writes answered.placed answered.had)))
      (keeps (λ q. absurd (let e : Idle ≡ Splits q.after q.fresh Linked = q.is in cc)) (λ q. absurd (let e : Idle ≡ Joins q.held q.after q.right Joined = q.is in cc))
      (λ q. absurd (let e : Idle ≡ Joins q.held q.left q.right Gone = q.is in cc)) tt tt)

  join_leads : (at : JoinAt) (x : ℕ) → IsJoinAt union at → x < 2 ^ 64 → Leads_to (footing at) (join_at_asks union at) x (join_at_turned join at x)
  join_leads (at.Open machine) x here fits = at_open machine x here.0 here.1 here.2 here.3 fits
  join_leads (at.Load left word) x here fits = at_load left word x here.0 here.1 fits
  join_leads (at.Copy left word value) x here fits = at_copy left word value x here.0 here.1 here.2
  join_leads (at.Print word) x here fits = at_print word x here.0 here.1
  join_leads (at.FenceCopies first fence) x here fits = at_fence_copies first fence x here.0 here.1 here.2 here.3 here.4 fits
  join_leads at.Bitmap x here fits = at_bitmap x
  join_leads (at.FenceBitmap fence) x here fits = at_fence_bitmap fence x here fits
  join_leads at.Switch x here fits = at_switch x
  join_leads (at.FenceSwitch fence) x here fits = at_fence_switch fence x here fits
  join_leads at.Retire x here fits = at_retire x
  join_leads at.Prev x here fits = at_prev x
  join_leads at.NextPrev x here fits = at_next_prev x here
  join_leads (at.Ready ready) x here fits = at_ready ready x here.0 here.1 here.2 fits
  join_leads at.UnlockRight x here fits = at_unlock_right x
  join_leads at.Unlock x here fits = at_unlock x

pub joins_are_steps : JoinsAreSteps
joins_are_steps join g h answer x sound answered fits = join_leads join sound g h answer answered join.at x sound.here fits
