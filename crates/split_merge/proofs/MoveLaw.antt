-- Each turn of a move is a step.
use Rattle.std.proofs.Common.{◌≡◌, ◌≢◌, ℕ, zero, suc, ◌+◌, ◌-◌, ◌*◌, ◌%◌, ◌^◌, ◌<◌, ◌≤◌, ◌==◌, true, false, cond, ltb, List, [], ◌∷◌, Option, Some, None, inl, inr, ⊎_elim, refl, sym, ◌∙◌, subst, ap, arith}
use Rattle.std.specs.Prelude.{IfSome}
use Rattle.std.specs.List.{AllByRecursion}
use Rattle.std.proofs.lemmas.Bool.{eqb-true, eqb-false, ltb-true, ltb-false}
use Rattle.cat_key.specs.Names.{AreNameWords}
use Rattle.pm_words.specs.declared.layout.Layout.{Layout}
use Rattle.pm_words.specs.declared.action.Action.{Action}
use Rattle.pm_words.specs.declared.action.Action.TheVariants.{Load, Drain}
use Rattle.pm_words.specs.declared.machine.Turn.{Turn}
use Rattle.pm_words.specs.declared.machine.Turn.TheVariants.{Done}
use Rattle.data_node.specs.Spots.{Spot, updated}
use Rattle.data_node.specs.Lists.{three_words, anchor_in, anchor_words}
use Rattle.data_node.proofs.SpotLemmas.{updated-same, updated-other}
use Rattle.call_stages.specs.Stages.{Tells, Grip, Phase, Filling, Linked, Parted, Stage, Idle, Splits, Leaves, Joins, Gathered, Joined, Gone}
use Rattle.call_stages.specs.Kinds.{HasWordAt, Soils, word_address, Step, splits, publishes, leaves, fills as fills_word, lights, switches, glances_left, glances_fresh, drains_left, drains_fresh, trims}
use Rattle.call_stages.specs.Stages.{HoldsNode}
use Rattle.call_stages.specs.Prevs.{IsSwitch, IsJoin}
use Rattle.call_stages.specs.Prevs.{Debt, no_debt, IsRetire, Deals, keeps, ends, switches as deals_switch, names, pays}
use Rattle.index_law.proofs.Stays.{means_beside}
use Rattle.pm_words.specs.declared.fence.Fence.{Fence}
use Rattle.pm_words.specs.declared.fence.FenceAt.{FenceAt}
use Rattle.pm_words.specs.declared.fence.FenceAt.TheVariants as fence_at
use Rattle.smo_log.specs.declared.open.Open.{Open}
use Rattle.smo_log.specs.declared.open.OpenAt.TheVariants as open_at
use Rattle.smo_log.specs.declared.state.ReadyAt.TheVariants as ready_at
use Rattle.smo_log.specs.declared.state.Ready.{Ready}
use Rattle.pm_words.specs.Fences.{IsFence, fence_start, fence_asks, fence_next, hand_of}
use Rattle.pm_words.specs.Codes.{open_state, split_kind}
use Rattle.pm_words.specs.Offsets.{bitmap_offset, next_offset, anchor_offset, state_offset, kind_offset}
use Rattle.smo_log.specs.LogLines.{caller_of, fields, open_line}
use Rattle.smo_log.specs.Opens.{IsOpen, open_asks, open_turned}
use Rattle.smo_log.specs.States.{IsReady, ready_asks, ready_turned}
use Rattle.split_merge.specs.declared.planning.Plan.{Plan}
use Rattle.split_merge.specs.declared.moving.Move.{Move}
use Rattle.split_merge.specs.declared.moving.MoveAt.{MoveAt}
use Rattle.split_merge.specs.declared.moving.MoveAt.TheVariants as at
use Rattle.split_merge.specs.Plans.{plan_word, next_in, entry_in, moved_in}
use Rattle.split_merge.specs.Moves.{slot_count, print_count, filled_end, fills, after_slot, after_print, after_anchor, after_fence, after_switch, after_trim, move_at_asks, move_at_turned, moves_on, opened, readied, IsMoveAt, IsMove}
use Rattle.call_stages.specs.Lines.{HeldLine}
use Rattle.call_stages.specs.Footings.{Footing, Minds}
use Rattle.permutation.specs.Sparing.{SparingStep, on_nodes, on_prev}
use Rattle.split_merge.specs.MoveStages.{Known, words_onto, slots_seen, prints_seen, anchor_seen, fresh_seen, fresh_of, left_of, full_left, slot_dirty, filling, filled, move_at_stage, move_at_line, move_at_debt, knows_prev, owes_prev, cut_key, linked}
use Rattle.split_merge.specs.Laws.{Cuts, Moves, MovesAreSteps}
use Rattle.split_merge.proofs.FenceTurns.{each_turn, each_turn_of, shrinks, vanishes}
use Rattle.split_merge.proofs.LineSteps.{opens_lead, readies_lead}

-- words at other offsets than this one
abbrev pub Apart : ℕ → List (ℕ × ℕ) → Type 0
Apart offset = AllByRecursion (λ (w : ℕ × ℕ). w.0 ≢ offset)

tells_apart : (offset y : ℕ) (seen : List (ℕ × ℕ)) (t : Spot) → Apart offset seen → Tells seen t → Tells seen (updated t offset y)
tells_apart offset y [] t apart told = tt
tells_apart offset y (w ∷ seen) t apart told = (updated-other t offset y w.0 apart.0 ∙ told.0, tells_apart offset y seen t apart.1 told.1)

apart_onto : (word : ℕ → ℕ) (offset first n : ℕ) (others : List (ℕ × ℕ)) → ((k : ℕ) → k < n → first + k ≢ offset) → Apart offset others → Apart offset (words_onto word first n others)
apart_onto word offset first zero others far apart = apart
apart_onto word offset first (suc n) others far apart = (far n (omega arith), apart_onto word offset first n others (λ k small. far k (omega arith)) apart)

phase_of : Stage → Phase
phase_of (Splits left fresh phase) = phase
phase_of _ = Linked

no_switch : (left fresh left' fresh' : Grip) (phase phase' : Phase) → (phase ≡ Filling true → phase' ≡ Linked → ⊥) → IsSwitch (Splits left fresh phase) (Splits left' fresh' phase') → ⊥
unfolding phase_of
no_switch left fresh left' fresh' phase phase' never q = never (ap phase_of q.was) (ap phase_of q.is)

no_join : (left fresh : Grip) (phase : Phase) (t : Stage) → IsJoin (Splits left fresh phase) t → ⊥
no_join left fresh phase t q = let e : Splits left fresh phase ≡ Joins q.held q.left q.right Gathered = q.was in cc

no_retire : (left fresh : Grip) (phase : Phase) (t : Stage) → IsRetire (Splits left fresh phase) t → ⊥
no_retire left fresh phase t q = let e : Splits left fresh phase ≡ Joins q.held q.left q.right Joined = q.was in cc

-- a step that stays in its phase asks nothing of the line
minds_same : (left after fresh : Grip) (phase : Phase) (line : Option HeldLine) → Minds (Splits left fresh phase) (Splits after fresh phase) line
minds_same left after fresh (Filling true) line = tt
minds_same left after fresh (Filling false) line = tt
minds_same left after fresh Linked line = tt
minds_same left after fresh Parted line = tt

-- a step that keeps what is known and owed of prevs
deals_on : (left fresh left' fresh' : Grip) (phase phase' : Phase) (d : Debt) → (phase ≡ Filling true → phase' ≡ Linked → ⊥)
    → IfSome d.known (λ k. HoldsNode (Splits left' fresh' phase') k.0) → IfSome d.owes (HoldsNode (Splits left' fresh' phase')) → Deals (Splits left fresh phase) (Splits left' fresh' phase') d d
deals_on left fresh left' fresh' phase phase' d never known owes =
    keeps (no_switch left fresh left' fresh' phase phase' never) (no_join left fresh phase (Splits left' fresh' phase')) (λ q. absurd (no_retire left fresh phase (Splits left' fresh' phase') q)) known owes

module _ (move : Move) (sound : IsMove move) (g : ℕ) (known : Known) (cuts : Cuts move.plan known) where
  abbrev plan : Plan
  plan = move.plan

  abbrev l : Layout
  l = plan.layout

  abbrev Leads_to : Footing → Action → ℕ → Turn Move (Unit {0}) → Type 0
  Leads_to = Moves g plan known

  abbrev footing : MoveAt → Footing
  footing at = record { stage = move_at_stage plan known at; line = move_at_line plan at; debt = move_at_debt plan at }

  on : (before : Footing) (action : Action) (x : ℕ) (at : MoveAt) → SparingStep l g (caller_of plan.share.line) before action x (footing at) None → IsMoveAt plan at → Leads_to before action x (moves_on move at)
  on before action x at step here = (step, record { plan = sound.plan; here = here }, refl)

  sizes : (2 ≤ moved_in plan) × (moved_in plan ≤ 32) × (filled_end plan ≤ 16 + 4 * l.slots) × (print_count plan ≤ 8)
  sizes = let low : 4 ≤ l.slots = sound.plan.layout.slots.0 in let high : l.slots ≤ 64 = sound.plan.layout.slots.1 in
      (omega arith, omega arith, omega arith, omega arith)

  -- the store of a word of the fresh node
  fill : (offset : ℕ) (x : ℕ) (seen seen' dirty dirty' : List (ℕ × ℕ)) → offset < 16 + 4 * l.slots → 0 < offset → Soils dirty offset dirty'
      → ((t : Spot) → Tells seen t → Tells seen' (updated t offset (plan_word plan offset)))
      → Step l g (filling plan known seen dirty) (fills plan offset) x (filling plan known seen' dirty') None
  fill offset x seen seen' dirty dirty' within positive soils told =
      splits (fills_word (sound.plan.fresh, within) positive (sound.plan.words offset) (λ is. subst (λ o. plan_word plan o < l.nodes) (sym is) sound.plan.next) soils told)

  deals_filling : (seen seen' dirty dirty' : List (ℕ × ℕ)) → Deals (filling plan known seen dirty) (filling plan known seen' dirty') no_debt no_debt
  deals_filling seen seen' dirty dirty' =
      deals_on (full_left plan known) (fresh_of plan seen dirty None) (full_left plan known) (fresh_of plan seen' dirty' None) (Filling false) (Filling false) no_debt (λ e e'. cc) tt tt

  soils_more : (offset : ℕ) → offset < filled_end plan → Soils ((0, filled_end plan) ∷ []) offset ((0, filled_end plan) ∷ [])
  soils_more offset within = record { stored = inl (omega arith, omega arith); others = λ other among. among }

  slot_soils : (n : ℕ) → 16 + n < filled_end plan → Soils (slot_dirty plan n) (16 + n) ((0, filled_end plan) ∷ [])
  slot_soils zero within = record { stored = inl (omega arith, omega arith); others = λ other among. absurd among }
  slot_soils (suc n) within = soils_more (16 + suc n) within

  slot_told : (n : ℕ) (t : Spot) → Tells (slots_seen plan n) t → Tells (slots_seen plan (suc n)) (updated t (16 + n) (plan_word plan (16 + n)))
  slot_told n t told = (updated-same t (16 + n) (plan_word plan (16 + n)), tells_apart (16 + n) (plan_word plan (16 + n)) (slots_seen plan n) t (apart_onto (plan_word plan) (16 + n) 16 n [] (λ k small. λ z. omega arith) tt) told)

  at_slot : (n x : ℕ) → n < slot_count plan → Leads_to (footing (at.Slot n)) (fills plan (16 + n)) x (moves_on move (after_slot plan n))
  at_slot n x small =
      let s = sizes in
      let within : 16 + n < filled_end plan = omega arith in
      let wide : 16 + n < 16 + 4 * l.slots = (let a : filled_end plan ≤ 16 + 4 * l.slots = s.2 in omega arith) in
      elim (ltb (n + 1) (slot_count plan)) as (λ b. ltb (n + 1) (slot_count plan) ≡ b → Leads_to (footing (at.Slot n)) (fills plan (16 + n)) x
      (moves_on move (cond b (at.Slot (n + 1)) (at.Print 0)))) [
        | true ↦ λ more. let next : n + 1 ≡ suc n = omega arith in
            subst (λ k. Leads_to (footing (at.Slot n)) (fills plan (16 + n)) x (moves_on move (at.Slot k))) (sym next)
            (on (footing (at.Slot n)) (fills plan (16 + n)) x (at.Slot (suc n))
            (on_nodes tt (inl refl) (fill (16 + n) x (slots_seen plan n) (slots_seen plan (suc n)) (slot_dirty plan n) ((0, filled_end plan) ∷ []) wide (omega arith) (slot_soils n within) (slot_told n))
            (deals_filling (slots_seen plan n) (slots_seen plan (suc n)) (slot_dirty plan n) ((0, filled_end plan) ∷ [])))
            (let bound : n + 1 < slot_count plan = ltb-true _ _ more in omega arith))
        | false ↦ λ last. let end : suc n ≡ slot_count plan = (let bound : slot_count plan ≤ n + 1 = ltb-false _ _ last in omega arith) in
            on (footing (at.Slot n)) (fills plan (16 + n)) x (at.Print 0)
            (on_nodes tt (inl refl) (fill (16 + n) x (slots_seen plan n) (slots_seen plan (slot_count plan)) (slot_dirty plan n) ((0, filled_end plan) ∷ []) wide (omega arith) (slot_soils n within)
            (λ t told. subst (λ k. Tells (slots_seen plan k) (updated t (16 + n) (plan_word plan (16 + n)))) end (slot_told n t told)))
            (deals_filling (slots_seen plan n) (slots_seen plan (slot_count plan)) (slot_dirty plan n) ((0, filled_end plan) ∷ []))) (omega arith)
      ] refl

  print_told : (n : ℕ) (t : Spot) → n < 8 → Tells (prints_seen plan n) t → Tells (prints_seen plan (suc n)) (updated t (8 + n) (plan_word plan (8 + n)))
  print_told n t small told = (
    updated-same t (8 + n) (plan_word plan (8 + n)),
    tells_apart (8 + n) (plan_word plan (8 + n)) (prints_seen plan n) t
        (apart_onto (plan_word plan) (8 + n) 8 n (slots_seen plan (slot_count plan)) (λ k low. λ z. omega arith) (apart_onto (plan_word plan) (8 + n) 16 (slot_count plan) [] (λ k low. λ z. omega arith) tt)) told,
  )

  at_print : (n x : ℕ) → n < print_count plan → Leads_to (footing (at.Print n)) (fills plan (8 + n)) x (moves_on move (after_print plan n))
  at_print n x small =
      let s = sizes in
      let low : n < 8 = (let a : print_count plan ≤ 8 = s.3 in omega arith) in
      let wide : 8 + n < 16 + 4 * l.slots = omega arith in
      elim (ltb (n + 1) (print_count plan)) as (λ b. ltb (n + 1) (print_count plan) ≡ b → Leads_to (footing (at.Print n)) (fills plan (8 + n)) x
      (moves_on move (cond b (at.Print (n + 1)) at.Bitmap))) [
        | true ↦ λ more. let next : n + 1 ≡ suc n = omega arith in
            subst (λ k. Leads_to (footing (at.Print n)) (fills plan (8 + n)) x (moves_on move (at.Print k))) (sym next)
            (on (footing (at.Print n)) (fills plan (8 + n)) x (at.Print (suc n))
            (on_nodes tt (inl refl) (fill (8 + n) x (prints_seen plan n) (prints_seen plan (suc n)) ((0, filled_end plan) ∷ []) ((0, filled_end plan) ∷ []) wide (omega arith) (soils_more (8 + n) (omega arith)) (λ t told. print_told n t low told))
            (deals_filling (prints_seen plan n) (prints_seen plan (suc n)) ((0, filled_end plan) ∷ []) ((0, filled_end plan) ∷ [])))
            (let bound : n + 1 < print_count plan = ltb-true _ _ more in omega arith))
        | false ↦ λ last. let end : suc n ≡ print_count plan = (let bound : print_count plan ≤ n + 1 = ltb-false _ _ last in omega arith) in
            on (footing (at.Print n)) (fills plan (8 + n)) x at.Bitmap
            (on_nodes tt (inl refl) (fill (8 + n) x (prints_seen plan n) (prints_seen plan (print_count plan)) ((0, filled_end plan) ∷ []) ((0, filled_end plan) ∷ []) wide (omega arith) (soils_more (8 + n) (omega arith))
            (λ t told. subst (λ k. Tells (prints_seen plan k) (updated t (8 + n) (plan_word plan (8 + n)))) end (print_told n t low told)))
            (deals_filling (prints_seen plan n) (prints_seen plan (print_count plan)) ((0, filled_end plan) ∷ []) ((0, filled_end plan) ∷ []))) tt
      ] refl

  -- none of the slots and of the fingerprints is below 8
  apart_prints : (offset : ℕ) → offset < 8 → Apart offset (prints_seen plan (print_count plan))
  apart_prints offset small = apart_onto (plan_word plan) offset 8 (print_count plan) (slots_seen plan (slot_count plan)) (λ k low. λ z. omega arith) (apart_onto (plan_word plan) offset 16 (slot_count plan) [] (λ k low. λ z. omega arith) tt)

  at_bitmap : (x : ℕ) → Leads_to (footing at.Bitmap) (fills plan bitmap_offset) x (moves_on move (at.Anchor 0))
  at_bitmap x = on (footing at.Bitmap) (fills plan bitmap_offset) x (at.Anchor 0)
      (on_nodes tt (inl refl) (fill bitmap_offset x (prints_seen plan (print_count plan)) (anchor_seen plan 0) ((0, filled_end plan) ∷ []) ((0, filled_end plan) ∷ []) (omega arith) (omega arith) (soils_more bitmap_offset (omega arith))
      (λ t told. (updated-same t bitmap_offset (plan_word plan bitmap_offset), tells_apart bitmap_offset (plan_word plan bitmap_offset) (prints_seen plan (print_count plan)) t (apart_prints bitmap_offset (omega arith)) told)))
      (deals_filling (prints_seen plan (print_count plan)) (anchor_seen plan 0) ((0, filled_end plan) ∷ []) ((0, filled_end plan) ∷ []))) (omega arith)

  anchor_told : (n : ℕ) (t : Spot) → n < 3 → Tells (anchor_seen plan n) t → Tells (anchor_seen plan (suc n)) (updated t (3 + n) (plan_word plan (3 + n)))
  anchor_told n t small told = (
    updated-same t (3 + n) (plan_word plan (3 + n)),
    tells_apart (3 + n) (plan_word plan (3 + n)) (anchor_seen plan n) t
        (apart_onto (plan_word plan) (anchor_offset + n) anchor_offset n ((bitmap_offset, plan_word plan bitmap_offset) ∷ prints_seen plan (print_count plan)) (λ k low. λ z. omega arith) (λ z. omega arith, apart_prints (3 + n) (omega arith))) told,
  )

  at_anchor : (n x : ℕ) → n < 3 → Leads_to (footing (at.Anchor n)) (fills plan (3 + n)) x (moves_on move (after_anchor n))
  at_anchor n x small =
      elim (ltb (n + 1) 3) as (λ b. ltb (n + 1) 3 ≡ b → Leads_to (footing (at.Anchor n)) (fills plan (3 + n)) x (moves_on move (cond b (at.Anchor (n + 1)) at.Next))) [
        | true ↦ λ more. let next : n + 1 ≡ suc n = omega arith in
            subst (λ k. Leads_to (footing (at.Anchor n)) (fills plan (3 + n)) x (moves_on move (at.Anchor k))) (sym next)
            (on (footing (at.Anchor n)) (fills plan (3 + n)) x (at.Anchor (suc n))
            (on_nodes tt (inl refl) (fill (anchor_offset + n) x (anchor_seen plan n) (anchor_seen plan (suc n)) ((0, filled_end plan) ∷ []) ((0, filled_end plan) ∷ []) (omega arith) (omega arith) (soils_more (3 + n) (omega arith)) (λ t told. anchor_told n t small told))
            (deals_filling (anchor_seen plan n) (anchor_seen plan (suc n)) ((0, filled_end plan) ∷ []) ((0, filled_end plan) ∷ [])))
            (let bound : n + 1 < 3 = ltb-true _ _ more in omega arith))
        | false ↦ λ last. let end : suc n ≡ 3 = (let bound : 3 ≤ n + 1 = ltb-false _ _ last in omega arith) in
            on (footing (at.Anchor n)) (fills plan (3 + n)) x at.Next
            (on_nodes tt (inl refl) (fill (anchor_offset + n) x (anchor_seen plan n) (anchor_seen plan 3) ((0, filled_end plan) ∷ []) ((0, filled_end plan) ∷ []) (omega arith) (omega arith) (soils_more (3 + n) (omega arith))
            (λ t told. subst (λ k. Tells (anchor_seen plan k) (updated t (3 + n) (plan_word plan (3 + n)))) end (anchor_told n t small told)))
            (deals_filling (anchor_seen plan n) (anchor_seen plan 3) ((0, filled_end plan) ∷ []) ((0, filled_end plan) ∷ []))) tt
      ] refl

  next_told : (t : Spot) → Tells (anchor_seen plan 3) t → Tells (fresh_seen plan) (updated t next_offset (plan_word plan next_offset))
  next_told t told = (
    updated-same t next_offset (plan_word plan next_offset),
    tells_apart next_offset (plan_word plan next_offset) (anchor_seen plan 3) t
        (apart_onto (plan_word plan) next_offset anchor_offset 3 ((bitmap_offset, plan_word plan bitmap_offset) ∷ prints_seen plan (print_count plan)) (λ k low. λ z. omega arith) (λ z. omega arith, apart_prints next_offset (omega arith))) told,
  )

  at_next : (x : ℕ) → Leads_to (footing at.Next) (fills plan next_offset) x (moves_on move (at.FenceFresh 0 fence_start))
  at_next x = on (footing at.Next) (fills plan next_offset) x (at.FenceFresh 0 fence_start)
      (on_nodes tt (inl refl) (fill next_offset x (anchor_seen plan 3) (fresh_seen plan) ((0, filled_end plan) ∷ []) ((0, filled_end plan - 0) ∷ []) (omega arith) (omega arith)
      (record {
        stored = inl (omega arith, omega arith);
        others = λ other among. ⊎_elim (λ within. inl (omega arith, let high : other < 0 + filled_end plan = within.1 in omega arith)) (λ none. absurd none) among;
      }) next_told)
      (deals_filling (anchor_seen plan 3) (fresh_seen plan) ((0, filled_end plan) ∷ []) ((0, filled_end plan - 0) ∷ [])))
      (omega arith, omega arith, record { word = omega arith; value = tt })

  -- the fences of the fresh node
  deals_fencing : (dirty dirty' : List (ℕ × ℕ)) (hand hand' : Option (ℕ × ℕ))
      → Deals (Splits (full_left plan known) (fresh_of plan (fresh_seen plan) dirty hand) (Filling false)) (Splits (full_left plan known) (fresh_of plan (fresh_seen plan) dirty' hand') (Filling false)) no_debt no_debt
  deals_fencing dirty dirty' hand hand' =
      deals_on (full_left plan known) (fresh_of plan (fresh_seen plan) dirty hand) (full_left plan known) (fresh_of plan (fresh_seen plan) dirty' hand') (Filling false) (Filling false) no_debt (λ e e'. cc) tt tt

  open_is : IsOpen (record { layout = plan.layout; line = plan.share.line; entry = entry_in plan; at = open_at.Field kind_offset })
  open_is = record { layout = sound.plan.layout; line = sound.plan.line; entry = sound.plan.entry; here = (omega arith, omega arith) }

  at_fence_fresh : (first : ℕ) (fence : Fence) (x : ℕ) → first < filled_end plan → first % 8 ≡ 0 → IsFence fence → x < 2 ^ 64
      → Leads_to (footing (at.FenceFresh first fence)) (fence_asks (word_address l plan.share.fresh (first + fence.word)) fence) x (moves_on move (after_fence plan first (fence_next fence x)))
  at_fence_fresh first fence x inside whole is fits =
      each_turn_of (filled_end plan) first (λ word. word_address l plan.share.fresh (first + word)) (after_fence plan first) (at.FenceFresh (first + 8) fence_start) (at.Open (record { layout = plan.layout; line = plan.share.line; entry = entry_in plan; at = open_at.Field kind_offset }))
      (λ before action to. Leads_to (footing (at.FenceFresh first before)) action x (moves_on move to)) fence x is fits refl
      (λ word small. on (before word fence_at.Load) (Load (word_address l plan.share.fresh (first + word))) x (at.FenceFresh first (record { word = word; at = fence_at.Drain x }))
      (on_nodes tt (inl refl) (splits (glances_fresh (within word small))) (deals_fencing (rest word) (rest word) None (Some (first + word, x)))) (inside, whole, record { word = small; value = fits }))
      (λ word y more value cleans. on (before word (fence_at.Drain y)) (Drain (word_address l plan.share.fresh (first + word)) y) x (at.FenceFresh first (record { word = word + 1; at = fence_at.Load }))
      (on_nodes tt (inl refl) (splits (drains_fresh (within word (omega arith)) value refl cleans)) (deals_fencing (rest word) (rest (word + 1)) (Some (first + word, y)) None)) (inside, whole, record { word = more; value = tt }))
      (λ word y small value another cleans. on (before word (fence_at.Drain y)) (Drain (word_address l plan.share.fresh (first + word)) y) x (at.FenceFresh (first + 8) fence_start)
      (on_nodes tt (inl refl) (splits (drains_fresh (within word small) value refl cleans)) (deals_fencing (rest word) ((first + 8 + 0, filled_end plan - (first + 8 + 0)) ∷ []) (Some (first + word, y)) None))
      (another, omega arith, record { word = omega arith; value = tt }))
      (λ word y small value cleans. on (before word (fence_at.Drain y)) (Drain (word_address l plan.share.fresh (first + word)) y) x (at.Open (record { layout = plan.layout; line = plan.share.line; entry = entry_in plan; at = open_at.Field kind_offset }))
      (on_nodes tt (inl refl) (splits (drains_fresh (within word small) value refl cleans)) (deals_fencing (rest word) [] (Some (first + word, y)) None)) (open_is, refl, refl, refl))
    where
      before : ℕ → FenceAt → Footing
      before word k = footing (at.FenceFresh first (record { word = word; at = k }))

      -- the words that may not be durable yet
      rest : ℕ → List (ℕ × ℕ)
      rest word = (first + word, filled_end plan - (first + word)) ∷ []

      within : (word : ℕ) → word < 8 → HasWordAt l plan.share.fresh (first + word)
      within word small =
          let even : l.slots % 2 ≡ 0 = sound.plan.layout.slots.2 in
          let low : 4 ≤ l.slots = sound.plan.layout.slots.0 in
          (sound.plan.fresh, omega arith)

  at_open : (machine : Open) (x : ℕ) → IsOpen machine → machine.layout ≡ l → machine.line ≡ plan.share.line → machine.entry ≡ entry_in plan → x < 2 ^ 64
      → Leads_to (footing (at.Open machine)) (open_asks machine) x (opened move (open_turned machine x))
  at_open machine x is layout line entry fits =
      opens_lead l g (filled plan known false) no_debt plan.share.line (entry_in plan) refl (λ turn. Leads_to (footing (at.Open machine)) (open_asks machine) x (opened move turn)) machine x is layout line entry fits
      (λ next step here. on (footing (at.Open machine)) (open_asks machine) x (at.Open next) step here) (λ step nothing. on (footing (at.Open machine)) (open_asks machine) x at.Prev step tt)

  at_prev : (x : ℕ) → Leads_to (footing at.Prev) (move_at_asks plan at.Prev) x (moves_on move at.Light)
  at_prev x = on (footing at.Prev) (move_at_asks plan at.Prev) x at.Light (on_prev refl sound.plan.fresh (let low = sound.plan.node in let most : l.nodes ≤ 4096 = sound.plan.layout.nodes.1 in omega arith) names) tt

  at_light : (x : ℕ) → Leads_to (footing at.Light) (move_at_asks plan at.Light) x (moves_on move at.Switch)
  at_light x = on (footing at.Light) (move_at_asks plan at.Light) x at.Switch
      (on_nodes tt (inl refl) (splits (lights sound.plan.fresh (λ t told. subst (λ k. k < l.nodes) (sym told.0) sound.plan.next)))
      (deals_on (full_left plan known) (fresh_of plan (fresh_seen plan) [] None) (full_left plan known) (fresh_of plan (fresh_seen plan) [] None) (Filling false) (Filling true) (knows_prev plan) (λ e e'. cc) (inr refl) tt)) tt

  -- the line has the fresh node's anchor
  line_anchored : (s t : Spot) → Tells ((state_offset, open_state) ∷ fields (entry_in plan) 7) s → Tells (fresh_seen plan) t → AreNameWords (anchor_words t) → anchor_in s ≡ anchor_in t
  unfolding anchor_in
  line_anchored s t line fresh named = λ k. three_words ((line.1.1.1.1.1.0 ∙ sym fresh.1.1.1.0) k) ((line.1.1.1.1.0 ∙ sym fresh.1.1.0) k) ((line.1.1.1.0 ∙ sym fresh.1.0) k)

  at_switch : (x : ℕ) → Leads_to (footing at.Switch) (move_at_asks plan at.Switch) x (moves_on move (at.FenceSwitch fence_start))
  at_switch x = on (footing at.Switch) (move_at_asks plan at.Switch) x (at.FenceSwitch fence_start)
      (on_nodes (record { unready = refl; durable = refl; open_state = λ s told. told.0; anchor = line_anchored }) (inl refl)
      (splits (switches sound.plan.node (let small : plan.share.fresh < l.nodes = sound.plan.fresh in let most : l.nodes ≤ 4096 = sound.plan.layout.nodes.1 in omega arith) refl (inl (omega arith, omega arith)) cuts.cut cuts.linked (λ range s m means. means_beside l.slots range s (updated s next_offset plan.share.fresh) m (λ other apart. updated-other s next_offset plan.share.fresh other apart) means)))
      (deals_switch refl refl refl)) (record { word = omega arith; value = tt })

  at_next_prev : (x : ℕ) → next_in plan ≢ 0 → Leads_to (footing at.NextPrev) (move_at_asks plan at.NextPrev) x (moves_on move at.Trim)
  at_next_prev x some = on (footing at.NextPrev) (move_at_asks plan at.NextPrev) x at.Trim
      (on_prev refl sound.plan.next (let low = sound.plan.fresh in let most : l.nodes ≤ 4096 = sound.plan.layout.nodes.1 in omega arith) (pays refl (refl, λ s told. told.0) some sound.plan.fresh)) tt

  anchored : (t : Spot) → Tells (fresh_seen plan) t → anchor_in t ≡ cut_key plan
  unfolding anchor_in
  anchored t told = λ k. three_words (told.1.1.1.0 k) (told.1.1.0 k) (told.1.0 k)

  at_trim : (x : ℕ) → Leads_to (footing at.Trim) (move_at_asks plan at.Trim) x (moves_on move (at.FenceTrim fence_start))
  at_trim x = on (footing at.Trim) (move_at_asks plan at.Trim) x (at.FenceTrim fence_start)
      (on_nodes tt (inl refl)
      (splits (trims {key = cut_key plan} sound.plan.node sound.plan.keep refl (inl (omega arith, omega arith)) anchored (λ s told. tt) cuts.trims))
      (deals_on (left_of plan known known.linked [] None) (fresh_of plan (fresh_seen plan) [] None) (left_of plan known [] ((0, 8) ∷ []) None) (fresh_of plan (fresh_seen plan) [] None) Linked Parted no_debt (λ e e'. cc) tt tt))
      (record { word = omega arith; value = tt })

  at_unlock_fresh : (x : ℕ) → Leads_to (footing at.UnlockFresh) (move_at_asks plan at.UnlockFresh) x (moves_on move at.Unlock)
  at_unlock_fresh x = on (footing at.UnlockFresh) (move_at_asks plan at.UnlockFresh) x at.Unlock
      (on_nodes tt (inr (refl, inr (record { ready = refl; given_back = λ right merged. let no : Leaves (left_of plan known [] [] None) ≡ Joins merged.0 merged.1 right Gone = merged.2 in cc }))) (publishes refl refl refl)
      (keeps (λ q. absurd (let e : Leaves (left_of plan known [] [] None) ≡ Splits q.after q.fresh Linked = q.is in cc))
      (no_join (left_of plan known [] [] None) (fresh_of plan (fresh_seen plan) [] None) Parted (Leaves (left_of plan known [] [] None)))
      (λ q. absurd (no_retire (left_of plan known [] [] None) (fresh_of plan (fresh_seen plan) [] None) Parted (Leaves (left_of plan known [] [] None)) q)) tt tt)) tt

  at_unlock : (x : ℕ) → Leads_to (footing at.Unlock) (move_at_asks plan at.Unlock) x (Done tt)
  at_unlock x = on_nodes tt (inl refl) (leaves refl)
      (keeps (λ q. absurd (let e : Idle ≡ Splits q.after q.fresh Linked = q.is in cc)) (λ q. absurd (let e : Idle ≡ Joins q.held q.after q.right Joined = q.is in cc))
      (λ q. absurd (let e : Idle ≡ Joins q.held q.left q.right Gone = q.is in cc)) tt tt)

  -- the fences of the full node's first line
  abbrev grip : List (ℕ × ℕ) → List (ℕ × ℕ) → Option (ℕ × ℕ) → Grip
  grip = left_of plan known

  abbrev fresh_grip : Grip
  fresh_grip = fresh_of plan (fresh_seen plan) [] None

  deals_left : (seen dirty dirty' : List (ℕ × ℕ)) (hand hand' : Option (ℕ × ℕ)) (phase : Phase) (d : Debt) → (phase ≡ Filling true → phase ≡ Linked → ⊥)
      → IfSome d.known (λ k. HoldsNode (Splits (grip seen dirty' hand') fresh_grip phase) k.0) → IfSome d.owes (HoldsNode (Splits (grip seen dirty' hand') fresh_grip phase))
      → Deals (Splits (grip seen dirty hand) fresh_grip phase) (Splits (grip seen dirty' hand') fresh_grip phase) d d
  deals_left seen dirty dirty' hand hand' phase d never knows owes = deals_on (grip seen dirty hand) fresh_grip (grip seen dirty' hand') fresh_grip phase phase d never knows owes

  has_left : (word : ℕ) → word < 8 → HasWordAt l plan.node word
  has_left word small = (sound.plan.node, omega arith)

  abbrev linked_on : List (ℕ × ℕ) → List (ℕ × ℕ) → Option (ℕ × ℕ) → Phase → Debt → Footing
  linked_on seen dirty hand phase d = record { stage = linked plan known seen dirty hand phase; line = Some (open_line plan.share.line (entry_in plan)); debt = d }

  at_fence_left : (to : Option Fence → MoveAt) (seen : List (ℕ × ℕ)) (phase : Phase) (d : Debt) (fence : Fence) (x : ℕ) → IsFence fence → x < 2 ^ 64 → (phase ≡ Filling true → phase ≡ Linked → ⊥)
      → IfSome d.known (λ k. HoldsNode (Splits (grip seen [] None) fresh_grip phase) k.0) → IfSome d.owes (HoldsNode (Splits (grip seen [] None) fresh_grip phase))
      → ((f : Fence) → footing (to (Some f)) ≡ linked_on seen ((f.word, 8 - f.word) ∷ []) (hand_of f.word f.at) phase d) → ((f : Fence) → IsFence f → IsMoveAt plan (to (Some f)))
      → ((word y : ℕ) → word + 1 ≡ 8 → y < 2 ^ 64 → Leads_to (linked_on seen ((word, 8 - word) ∷ []) (Some (word, y)) phase d) (Drain (word_address l plan.node word) y) x (moves_on move (to None)))
      → Leads_to (footing (to (Some fence))) (fence_asks (word_address l plan.node fence.word) fence) x (moves_on move (to (fence_next fence x)))
  at_fence_left to seen phase d fence x is fits never knows owes same here last =
      each_turn (word_address l plan.node) (λ before action next. Leads_to (footing (to (Some before))) action x (moves_on move (to next))) fence x is fits
      (λ word small. goes (record { word = word; at = fence_at.Load }) (record { word = word; at = fence_at.Drain x }) (Load (word_address l plan.node word))
      (splits (glances_left (has_left word small) (λ s told e. told))) (record { word = small; value = fits }))
      (λ word y more value. goes (record { word = word; at = fence_at.Drain y }) (record { word = word + 1; at = fence_at.Load }) (Drain (word_address l plan.node word) y)
      (splits (drains_left (has_left word (omega arith)) value refl (shrinks 8 word (word + 1) refl))) (record { word = more; value = tt }))
      (λ word y end value. subst (λ before. Leads_to before (Drain (word_address l plan.node word) y) x (moves_on move (to None))) (sym (same (record { word = word; at = fence_at.Drain y }))) (last word y end value))
    where
      goes : (before after : Fence) (action : Action)
          → Step l g (linked plan known seen ((before.word, 8 - before.word) ∷ []) (hand_of before.word before.at) phase) action x (linked plan known seen ((after.word, 8 - after.word) ∷ []) (hand_of after.word after.at) phase) None
          → IsFence after → Leads_to (footing (to (Some before))) action x (moves_on move (to (Some after)))
      goes before after action step there = on (footing (to (Some before))) action x (to (Some after))
          (subst (λ (p : Footing × Footing). SparingStep l g (caller_of plan.share.line) p.0 action x p.1 None) (λ i. (sym (same before) i, sym (same after) i))
          (on_nodes (minds_same (grip seen ((before.word, 8 - before.word) ∷ []) (hand_of before.word before.at)) (grip seen ((after.word, 8 - after.word) ∷ []) (hand_of after.word after.at)) fresh_grip phase (Some (open_line plan.share.line (entry_in plan)))) (inl refl) step
          (deals_left seen ((before.word, 8 - before.word) ∷ []) ((after.word, 8 - after.word) ∷ []) (hand_of before.word before.at) (hand_of after.word after.at) phase d never knows owes))) (here after there)

  at_fence_switch : (fence : Fence) (x : ℕ) → IsFence fence → x < 2 ^ 64
      → Leads_to (footing (at.FenceSwitch fence)) (fence_asks (word_address l plan.node fence.word) fence) x (moves_on move (after_switch plan (fence_next fence x)))
  at_fence_switch fence x is fits =
      at_fence_left (after_switch plan) known.linked Linked (owes_prev plan) fence x is fits (λ e e'. cc) tt (inr refl) (λ f. refl) (λ f here. here)
      (λ word y end value.
      let gone = vanishes 8 word (omega arith) in
      let before = linked_on known.linked ((word, 8 - word) ∷ []) (Some (word, y)) Linked (owes_prev plan) in
      let action = Drain (word_address l plan.node word) y in
      elim (next_in plan == 0) as (λ b. (next_in plan == 0) ≡ b → Leads_to before action x (moves_on move (cond b at.Trim at.NextPrev))) [
        | true ↦ λ none. on before action x at.Trim
            (on_nodes tt (inl refl) (splits (drains_left (has_left word (omega arith)) value refl gone))
            (ends {n = plan.share.fresh}
            (no_switch (grip known.linked ((word, 8 - word) ∷ []) (Some (word, y))) fresh_grip (grip known.linked [] None) fresh_grip Linked Linked (λ e e'. cc))
            (no_join (grip known.linked ((word, 8 - word) ∷ []) (Some (word, y))) fresh_grip Linked (Splits (grip known.linked [] None) fresh_grip Linked))
            (no_retire (grip known.linked ((word, 8 - word) ∷ []) (Some (word, y))) fresh_grip Linked (Splits (grip known.linked [] None) fresh_grip Linked))
            refl (refl, λ s told. told.0 ∙ eqb-true (next_in plan) 0 none))) tt
        | false ↦ λ some. on before action x at.NextPrev
            (on_nodes tt (inl refl) (splits (drains_left (has_left word (omega arith)) value refl gone))
            (deals_left known.linked ((word, 8 - word) ∷ []) [] (Some (word, y)) None Linked (owes_prev plan) (λ e e'. cc) tt (inr refl)))
            (eqb-false (next_in plan) 0 some)
      ] refl)

  at_fence_trim : (fence : Fence) (x : ℕ) → IsFence fence → x < 2 ^ 64
      → Leads_to (footing (at.FenceTrim fence)) (fence_asks (word_address l plan.node fence.word) fence) x (moves_on move (after_trim plan (fence_next fence x)))
  at_fence_trim fence x is fits =
      at_fence_left (after_trim plan) [] Parted no_debt fence x is fits (λ e e'. cc) tt tt (λ f. refl) (λ f here. here)
      (λ word y end value. on (linked_on [] ((word, 8 - word) ∷ []) (Some (word, y)) Parted no_debt) (Drain (word_address l plan.node word) y) x (at.Ready (record { layout = plan.layout; line = plan.share.line; at = ready_at.State }))
      (on_nodes tt (inl refl) (splits (drains_left (has_left word (omega arith)) value refl (vanishes 8 word (omega arith)))) (deals_left [] ((word, 8 - word) ∷ []) [] (Some (word, y)) None Parted no_debt (λ e e'. cc) tt tt))
      (record { layout = sound.plan.layout; line = sound.plan.line; here = tt }, refl, refl))

  -- the switch is durable, and it is the line of a split
  at_ready : (ready : Ready) (x : ℕ) → IsReady ready → ready.layout ≡ l → ready.line ≡ plan.share.line → x < 2 ^ 64
      → Leads_to (footing (at.Ready ready)) (ready_asks ready) x (readied move (ready_turned ready x))
  at_ready ready x is layout line fits =
      readies_lead l g (linked plan known [] [] None Parted) no_debt plan.share.line (entry_in plan) refl
      (λ n none. none, inl (λ s told two. let one : s kind_offset ≡ split_kind = told.1.1.1.1.1.1.1.0 in omega arith))
      (λ turn. Leads_to (footing (at.Ready ready)) (ready_asks ready) x (readied move turn)) ready x is layout line fits
      (λ next step here. on (footing (at.Ready ready)) (ready_asks ready) x (at.Ready next) step here) (λ step nothing. on (footing (at.Ready ready)) (ready_asks ready) x at.UnlockFresh step tt)

  move_leads : (at : MoveAt) (x : ℕ) → IsMoveAt plan at → x < 2 ^ 64 → Leads_to (footing at) (move_at_asks plan at) x (move_at_turned move at x)
  move_leads (at.Slot word) x here fits = at_slot word x here
  move_leads (at.Print word) x here fits = at_print word x here
  move_leads at.Bitmap x here fits = at_bitmap x
  move_leads (at.Anchor word) x here fits = at_anchor word x here
  move_leads at.Next x here fits = at_next x
  move_leads (at.FenceFresh first fence) x here fits = at_fence_fresh first fence x here.0 here.1 here.2 fits
  move_leads (at.Open machine) x here fits = at_open machine x here.0 here.1 here.2 here.3 fits
  move_leads at.Prev x here fits = at_prev x
  move_leads at.Light x here fits = at_light x
  move_leads at.Switch x here fits = at_switch x
  move_leads (at.FenceSwitch fence) x here fits = at_fence_switch fence x here fits
  move_leads at.NextPrev x here fits = at_next_prev x here
  move_leads at.Trim x here fits = at_trim x
  move_leads (at.FenceTrim fence) x here fits = at_fence_trim fence x here fits
  move_leads (at.Ready ready) x here fits = at_ready ready x here.0 here.1 here.2 fits
  move_leads at.UnlockFresh x here fits = at_unlock_fresh x
  move_leads at.Unlock x here fits = at_unlock x

pub moves_are_steps : MovesAreSteps
moves_are_steps move g known x sound cuts fits = move_leads move sound g known cuts move.at x sound.here fits
