-- Each turn of a merge is a step, from the lock of the left node to the end.
use Rattle.std.proofs.Common.{◌≡◌, ◌≢◌, ℕ, ◌+◌, ◌-◌, ◌*◌, ◌/◌, ◌^◌, ◌<◌, ◌≤◌, ◌==◌, ◌&&◌, true, false, cond, ltb, List, [], ◌∷◌, slice_index, slice_set, replicate, Some, None, inl, inr, refl, sym, subst, ap, ◌∙◌, arith}
use Rattle.std.proofs.lemmas.Bool.{cases_eq, eqb-true, eqb-false, le-ltb, ltb-false}
use Rattle.std.proofs.lemmas.List.{get_or-set_same, get_or-set_other}
use Rattle.pm_words.specs.declared.layout.Layout.{Layout}
use Rattle.pm_words.specs.declared.action.Action.{Action}
use Rattle.pm_words.specs.declared.action.Action.TheVariants.{Load}
use Rattle.pm_words.specs.declared.machine.Turn.{Turn}
use Rattle.pm_words.specs.declared.machine.Turn.TheVariants.{Go, Done}
use Rattle.pm_words.specs.Offsets.{bitmap_offset, next_offset}
use Rattle.version_lock.specs.Versions.{generation_of, is_free_word, is_worn_word}
use Rattle.version_lock.proofs.WordTests.{free_word, fresh_word}
use Rattle.data_node.specs.Spots.{Spot}
use Rattle.call_stages.specs.declared.once.Once.{Once}
use Rattle.call_stages.specs.declared.once.Placed.{Placed}
use Rattle.call_stages.specs.Stages.{Tells, Held, Gathered, Joined, Stage, Idle, Holds, Eyes, Splits, Meets, Joins, Filling}
use Rattle.call_stages.specs.Kinds.{HasWordAt, IsStill, Told, LeadsWithin, Answers, writes, learns, peeks, eyes, loses, looks, merges, unlocks, meets, knows_own, knows_right, parts, word_address, version_address}
use Rattle.call_stages.specs.Prevs.{no_debt, Deals, keeps}
use Rattle.call_stages.specs.Footings.{Footing}
use Rattle.permutation.specs.Sparing.{SparingStep, on_nodes}
use Rattle.pm_alloc.specs.Claims.{lock_of}
use Rattle.smo_log.specs.LogLines.{caller_of, empty_line}
use Rattle.split_merge.specs.declared.joining.Join.{Join}
use Rattle.split_merge.specs.declared.merging.Near.{Near}
use Rattle.split_merge.specs.declared.merging.Merge.{Merge}
use Rattle.split_merge.specs.declared.merging.MergeAt.{MergeAt}
use Rattle.split_merge.specs.declared.merging.MergeAt.TheVariants as at
use Rattle.split_merge.specs.declared.merging.Merged.{Merged}
use Rattle.split_merge.specs.Joins.{IsJoin, join_asks, join_turned}
use Rattle.split_merge.specs.JoinStages.{near_seen, knowing, prints_now, own_seen, join_footing}
use Rattle.split_merge.specs.Unions.{joined_prints}
use Rattle.split_merge.specs.Merges.{AreWordsOf, IsUnionOf, IsMergeAt, IsMerge, LeadsNear, after_next, saw_version, no_head, finds, crowded, next_head, has_head, union_of, join_from, has_prints, prints_count, merge_at_asks, merge_asks, merge_at_turned, merge_turned, merges_on, joined}
use Rattle.split_merge.specs.MergeStages.{knows_near, neighbour, head_before, prints_known, merge_at_stage, merge_at_footing, merge_footing}
use Rattle.split_merge.specs.SplitStages.{done_footing}
use Rattle.split_merge.specs.MergeLaws.{Answered, MayJoin, JoinsSo, MergesSo, MergesAreSteps, MergeStays}
use Rattle.split_merge.proofs.CutLaw.{told_at, told_past, tells_row}
use Rattle.split_merge.proofs.JoinLaw.{joins_are_steps, meets_far}
use Rattle.split_merge.proofs.MergeStaying.{merges_stay}

held_far : (n w : ℕ) (h : Held) (t : Stage) → Deals (Holds n w h) t no_debt no_debt
held_far n w h t = keeps
    (λ q. let e : Holds n w h ≡ Splits q.left q.fresh (Filling true) = q.was in cc)
    (λ q. let e : Holds n w h ≡ Joins q.held q.left q.right Gathered = q.was in cc)
    (λ q. absurd (let e : Holds n w h ≡ Joins q.held q.left q.right Joined = q.was in cc)) tt tt

eyed_far : (n w : ℕ) (h : Held) (m v u : ℕ) (t : Stage) → Deals (Eyes n w h m v u false) t no_debt no_debt
eyed_far n w h m v u t = keeps
    (λ q. let e : Eyes n w h m v u false ≡ Splits q.left q.fresh (Filling true) = q.was in cc)
    (λ q. let e : Eyes n w h m v u false ≡ Joins q.held q.left q.right Gathered = q.was in cc)
    (λ q. absurd (let e : Eyes n w h m v u false ≡ Joins q.held q.left q.right Joined = q.was in cc)) tt tt

module _ (merge : Merge) (sound : IsMerge merge) (h : Held) (may : MayJoin h) (answer : Once Placed) (answered : Answered h answer) where
  abbrev l : Layout
  l = merge.view.layout

  abbrev g : ℕ
  g = merge.view.generation

  abbrev n : ℕ
  n = merge.node

  abbrev w : ℕ
  w = merge.word

  abbrev footing : MergeAt → Footing
  footing = merge_at_footing h merge

  abbrev on_line_empty : Stage → Footing
  on_line_empty stage = record { stage = stage; line = Some (empty_line merge.line); debt = no_debt }

  abbrev Leads : Footing → Action → ℕ → Turn Merge Merged → Type 0
  Leads before action x (Go next) = SparingStep l g merge.view.caller before action x (merge_footing h next) None
  Leads before action x (Done merged) = SparingStep l g merge.view.caller before action x done_footing (Some answer)

  abbrev Steps : Stage → Action → ℕ → Stage → Type 0
  Steps s action x t = SparingStep l g merge.view.caller (on_line_empty s) action x (on_line_empty t) None

  has_word : (offset : ℕ) → offset < 16 + 4 * l.slots → HasWordAt l n offset
  has_word offset within = (sound.node, within)

  low : 4 ≤ l.slots
  low = sound.view.layout.slots.0

  at_bitmap : (x : ℕ) → Leads (footing at.Bitmap) (merge_at_asks merge at.Bitmap) x (merges_on merge (at.Next x))
  at_bitmap x =
      subst (λ (k : Held). Steps (Holds n w h) (Load (word_address l n bitmap_offset)) x (Holds n w k)) same
      (on_nodes tt (inl refl) (looks (learns (has_word bitmap_offset (omega arith)) (omega arith) may.still.ready (λ s tidy knows is. record { seen = (is, tt); left = tt })))
      (held_far n w h (Holds n w (record h { known = record { seen = (bitmap_offset, x) ∷ []; left = None } }))))
    where
      same : record h { known = record { seen = (bitmap_offset, x) ∷ []; left = None } } ≡ knowing ((bitmap_offset, x) ∷ []) [] None h
      same = λ i. record h { known = record { seen = (bitmap_offset, x) ∷ []; left = None }; dirty = may.durable i; hand = may.unhanded i }

  at_next : (own x : ℕ) → Leads (footing (at.Next own)) (merge_at_asks merge (at.Next own)) x (merges_on merge (after_next (record { own = own; right = x })))
  at_next own x =
      elim (x == 0) as (λ b. Leads (footing (at.Next own)) (merge_at_asks merge (at.Next own)) x (merges_on merge (cond b (at.Leave near) (at.Version near)))) [
        | true ↦ step
        | false ↦ step
      ]
    where
      near : Near
      near = record { own = own; right = x }

      step : Steps (Holds n w (knowing ((bitmap_offset, own) ∷ []) [] None h)) (Load (word_address l n next_offset)) x (Holds n w (knows_near near h))
      step = on_nodes tt (inl refl) (looks (learns (has_word next_offset (omega arith)) (omega arith) may.still.ready (λ s tidy knows is. record { seen = (knows.seen.0, (is, tt)); left = tt })))
          (held_far n w (knowing ((bitmap_offset, own) ∷ []) [] None h) (Holds n w (knows_near near h)))

  still : (near : Near) → IsStill (knows_near near h)
  still near = record { pending = may.still.pending; ready = may.still.ready }

  at_version : (near : Near) (x : ℕ) → near.right < l.nodes → near.right ≢ 0 → generation_of x ≤ g → Leads (footing (at.Version near)) (merge_at_asks merge (at.Version near)) x (merges_on merge (saw_version merge near x))
  at_version near x here some known =
      elim (is_free_word x g) as (λ b. is_free_word x g ≡ b → Leads (footing (at.Version near)) (merge_at_asks merge (at.Version near)) x
      (merges_on merge (cond b (cond (is_worn_word x g) (at.Leave near) (at.Lock near x (lock_of x g))) (at.Leave near)))) [
        | true ↦ λ free. elim (is_worn_word x g) as (λ b. is_worn_word x g ≡ b → Leads (footing (at.Version near)) (merge_at_asks merge (at.Version near)) x (merges_on merge (cond b (at.Leave near) (at.Lock near x (lock_of x g))))) [
          | true ↦ λ worn. stays
          | false ↦ λ fresh. on_nodes tt (inl refl) (looks (eyes (still near) refl here some (free_word x g free) (fresh_word x g fresh) refl))
              (held_far n w (knows_near near h) (Eyes n w (knows_near near h) near.right x (lock_of x g) false))
        ] refl
        | false ↦ λ taken. stays
      ] refl
    where
      stays : Steps (Holds n w (knows_near near h)) (Load (version_address l near.right)) x (Holds n w (knows_near near h))
      stays = on_nodes tt (inl refl) (looks (peeks here may.still.ready)) (held_far n w (knows_near near h) (Holds n w (knows_near near h)))

  at_lock : (near : Near) (version locked x : ℕ) → near.right < l.nodes → Leads (footing (at.Lock near version locked)) (merge_at_asks merge (at.Lock near version locked)) x (merges_on merge (finds near version locked x))
  at_lock near version locked x here =
      elim (x == version) as (λ b. (x == version) ≡ b → Leads (footing (at.Lock near version locked)) (merge_at_asks merge (at.Lock near version locked)) x
      (merges_on merge (cond b (at.Head near locked no_head bitmap_offset) (at.Leave near)))) [
        | true ↦ λ is. on_nodes tt (inl refl) (merges (meets here (eqb-true _ _ is) (record { untimed = may.may.untimed; unmerged = may.may.unmerged }) (λ s knows. knows.seen.1.0)))
            (eyed_far n w (knows_near near h) near.right version locked (merge_at_stage h merge (at.Head near locked no_head bitmap_offset)))
        | false ↦ λ other. on_nodes tt (inl refl) (looks (loses here (eqb-false _ _ other)))
            (eyed_far n w (knows_near near h) near.right version locked (Holds n w (knows_near near h)))
      ] refl

  -- a word of the neighbour more
  head_step : (near : Near) (locked : ℕ) (head : List ℕ) (count x : ℕ) (seen : List (ℕ × ℕ)) → near.right < l.nodes → 1 ≤ count → count < 16
      → ((t : Spot) → Tells (head_before head count) t → t count ≡ x → Tells seen t)
      → Steps (Meets n w (knows_near near h) (neighbour near locked (head_before head count))) (Load (word_address l near.right count)) x (Meets n w (knows_near near h) (neighbour near locked seen))
  head_step near locked head count x seen here positive within told =
      on_nodes tt (inl refl) (merges (knows_right (here, (let few = low in omega arith)) (omega arith) told))
      (meets_far n w (knows_near near h) (neighbour near locked (head_before head count)) (Meets n w (knows_near near h) (neighbour near locked seen)))

  head_told : (head : List ℕ) (count x : ℕ) → AreWordsOf 16 head → 1 ≤ count → count < 16 → (t : Spot) → Tells (head_before head count) t → t count ≡ x → Tells (head_before (slice_set head count x) (count + 1)) t
  head_told head count x words positive within t told is =
      tells_row (λ offset. slice_index (slice_set head count x) offset) 1 (count + 1 - 1) [] t
      (λ k below. elim (cases_eq (1 + k) count) [
        | inl same ↦ ap t same ∙ is ∙ sym value ∙ ap (λ o. slice_index (slice_set head count x) o) (sym same)
        | inr other ↦ told_at (λ offset. slice_index head offset) 1 (count - 1) [] t told k (omega arith) ∙ sym (get_or-set_other head count (1 + k) x 0 other)
      ]) tt
    where
      value : slice_index (slice_set head count x) count ≡ x
      value = let size = words.size in get_or-set_same head count x 0 (omega arith)

  at_head : (near : Near) (locked : ℕ) (head : List ℕ) (count x : ℕ) → near.right < l.nodes → AreWordsOf 16 head → 1 ≤ count → count < 16
      → Leads (footing (at.Head near locked head count)) (merge_at_asks merge (at.Head near locked head count)) x (merges_on merge (has_head merge near locked head count x))
  at_head near locked head count x here words positive within =
      elim (count == 1) as (λ b. (count == 1) ≡ b → Leads before action x (merges_on merge (cond (b && ltb (l.slots / 2) (crowded merge near x)) (at.Part near locked x) (next_head near locked (slice_set head count x) count)))) [
        | true ↦ λ first. elim (ltb (l.slots / 2) (crowded merge near x)) as (λ b. Leads before action x (merges_on merge (cond b (at.Part near locked x) (next_head near locked (slice_set head count x) count)))) [
          | true ↦ head_step near locked head count x ((bitmap_offset, x) ∷ []) here positive within (λ t told is. (ap t (sym (eqb-true _ _ first)) ∙ is, tt))
          | false ↦ goes
        ]
        | false ↦ λ later. goes
      ] refl
    where
      before : Footing
      before = footing (at.Head near locked head count)

      action : Action
      action = merge_at_asks merge (at.Head near locked head count)

      goes : Leads before action x (merges_on merge (next_head near locked (slice_set head count x) count))
      goes = elim (ltb (count + 1) 16) as (λ b. ltb (count + 1) 16 ≡ b → Leads before action x (merges_on merge (cond b (at.Head near locked (slice_set head count x) (count + 1)) (at.Prints near locked (slice_set head count x) (replicate 4 0) 0)))) [
        | true ↦ λ more. head_step near locked head count x (head_before (slice_set head count x) (count + 1)) here positive within (head_told head count x words positive within)
        | false ↦ λ last.
            let end : count + 1 ≡ 16 = (let le = ltb-false _ _ last in omega arith) in
            head_step near locked head count x (head_before (slice_set head count x) 16) here positive within
            (λ t told is. subst (λ k. Tells (head_before (slice_set head count x) k) t) end (head_told head count x words positive within t told is))
      ] refl

  -- a word of its own fingerprints more
  prints_told : (near : Near) (prints : List ℕ) (count x : ℕ) → AreWordsOf 4 prints → count < 4 → (s : Spot) → Tells (prints_known near prints count) s → s (8 + count) ≡ x → (k : ℕ) → k < count + 1 → s (8 + k) ≡ slice_index (slice_set prints count x) k
  prints_told near prints count x words within s told is k below =
      elim (cases_eq k count) [
        | inl same ↦ ap (λ j. s (8 + j)) same ∙ is ∙ sym (get_or-set_same prints count x 0 (let size = words.size in omega arith)) ∙ ap (λ j. slice_index (slice_set prints count x) j) (sym same)
        | inr other ↦ told_at (λ offset. slice_index prints (offset - 8)) 8 count (near_seen near.own near.right) s told k (omega arith)
            ∙ ap (slice_index prints) (omega arith) ∙ sym (get_or-set_other prints count k x 0 other)
      ]

  at_prints : (near : Near) (locked : ℕ) (head prints : List ℕ) (count x : ℕ) → AreWordsOf 4 prints → count < prints_count merge.view
      → Leads (footing (at.Prints near locked head prints count)) (merge_at_asks merge (at.Prints near locked head prints count)) x (merges_on merge (has_prints merge near locked head prints count x))
  at_prints near locked head prints count x words within =
      elim (ltb (count + 1) (prints_count merge.view)) as (λ b. ltb (count + 1) (prints_count merge.view) ≡ b → Leads (footing (at.Prints near locked head prints count)) (merge_at_asks merge (at.Prints near locked head prints count)) x
      (merges_on merge (cond b (at.Prints near locked head after (count + 1)) (at.Join (join_from (union_of merge near locked head after)))))) [
        | true ↦ λ more. step (prints_known near after (count + 1)) (λ s told is.
            tells_row (λ offset. slice_index after (offset - 8)) 8 (count + 1) (near_seen near.own near.right) s
            (λ k below. prints_told near prints count x words small s told is k below ∙ ap (slice_index after) (omega arith))
            (told_past (λ offset. slice_index prints (offset - 8)) 8 count (near_seen near.own near.right) s told))
        | false ↦ λ last.
            let end : count + 1 ≡ prints_count merge.view = (let le = ltb-false _ _ last in omega arith) in
            subst (λ c. SparingStep l g merge.view.caller (footing (at.Prints near locked head prints count)) (merge_at_asks merge (at.Prints near locked head prints count)) x
            (record { stage = (join_footing h (join_from (union_of merge near locked head after))).stage; line = Some (empty_line merge.line); debt = no_debt }) None) (sym end)
            (step (own_seen (union_of merge near locked head after) 0) (λ s told is.
            tells_row (prints_now (union_of merge near locked head after) 0) 8 (prints_count merge.view) (near_seen near.own near.right) s
            (λ k below. prints_told near prints count x words small s told is k (omega arith) ∙ sym (now k))
            (told_past (λ offset. slice_index prints (offset - 8)) 8 count (near_seen near.own near.right) s told)))
      ] refl
    where
      after : List ℕ
      after = slice_set prints count x

      most : l.slots ≤ 64
      most = sound.view.layout.slots.1

      small : count < 4
      small = let m = most in omega arith

      now : (k : ℕ) → prints_now (union_of merge near locked head after) 0 (8 + k) ≡ slice_index after k
      now k = ap (λ b. cond b (joined_prints (union_of merge near locked head after) (8 + k - 8)) (slice_index after (8 + k - 8))) (le-ltb (8 + k) (8 + 0) (omega arith)) ∙ ap (slice_index after) (omega arith)

      step : (seen : List (ℕ × ℕ)) → ((s : Spot) → Tells (prints_known near prints count) s → s (8 + count) ≡ x → Tells seen s)
          → Steps (Meets n w (knowing (prints_known near prints count) [] None h) (neighbour near locked (head_before head 16))) (Load (word_address l n (8 + count))) x
          (Meets n w (knowing seen [] None h) (neighbour near locked (head_before head 16)))
      step seen told = on_nodes tt (inl refl) (merges (knows_own (has_word (8 + count) (let few = low in omega arith)) (omega arith) (λ s tidy knows is. record { seen = told s knows.seen is; left = tt })))
          (meets_far n w (knowing (prints_known near prints count) [] None h) (neighbour near locked (head_before head 16)) (Meets n w (knowing seen [] None h) (neighbour near locked (head_before head 16))))

  at_join : (join : Join) (x : ℕ) → IsJoin join → IsUnionOf merge.view n w merge.line join.union → x < 2 ^ 64 → Leads (footing (at.Join join)) (join_asks join) x (joined merge (join_turned join x))
  at_join join x is of_it fits = of (join_turned join x) (joins_are_steps join g h answer x is answered fits)
    where
      caller : caller_of join.union.line ≡ merge.view.caller
      caller = ap caller_of of_it.line_is ∙ sound.line.0

      of : (turn : Turn Join (Unit {0})) → JoinsSo g join.union h answer (join_footing h join) (join_asks join) x turn → Leads (footing (at.Join join)) (join_asks join) x (joined merge turn)
      of (Go next) step = subst (λ (p : Layout × ℕ). SparingStep p.0 g p.1 (join_footing h join) (join_asks join) x (join_footing h next) None) (λ i. (of_it.layout i, caller i)) step.0
      of (Done nothing) step = subst (λ (p : Layout × ℕ). SparingStep p.0 g p.1 (join_footing h join) (join_asks join) x done_footing (Some answer)) (λ i. (of_it.layout i, caller i)) step

  at_part : (near : Near) (locked bitmap x : ℕ) → Leads (footing (at.Part near locked bitmap)) (merge_at_asks merge (at.Part near locked bitmap)) x (merges_on merge (at.Leave near))
  at_part near locked bitmap x = on_nodes tt (inl refl) (merges (parts refl)) (meets_far n w (knows_near near h) (neighbour near locked ((bitmap_offset, bitmap) ∷ [])) (Holds n w (knows_near near h)))

  at_leave : (near : Near) (x : ℕ) → Leads (footing (at.Leave near)) (merge_at_asks merge (at.Leave near)) x (Done (record { merged = false }))
  at_leave near x = on_nodes tt (inr (refl, inl (λ s told. told.0)))
      (unlocks refl may.still.pending refl may.still.ready (subst (Answers l (knows_near near h)) (sym answered.is) (writes answered.placed answered.had)))
      (held_far n w (knows_near near h) Idle)

  leads : (k : MergeAt) (x : ℕ) → IsMergeAt merge.view n w merge.line k → Told l g (merge_at_asks merge k) x → Leads (footing k) (merge_at_asks merge k) x (merge_at_turned merge k x)
  leads at.Bitmap x here told = at_bitmap x
  leads (at.Next own) x here told = at_next own x
  leads (at.Version near) x here told = at_version near x here.0.right here.1 (told.known near.right here.0.right refl)
  leads (at.Lock near version locked) x here told = at_lock near version locked x here.0.right
  leads (at.Head near locked head count) x here told = at_head near locked head count x here.0.leads.right here.1.words here.2 here.3
  leads (at.Prints near locked head prints count) x here told = at_prints near locked head prints count x here.2 here.3
  leads (at.Join join) x here told = at_join join x here.0 here.1 told.fits
  leads (at.Part near locked bitmap) x here told = at_part near locked bitmap x
  leads (at.Leave near) x here told = at_leave near x

  leads_near : (k : MergeAt) (x : ℕ) → IsMergeAt merge.view n w merge.line k → LeadsWithin l (footing k).stage (merge_at_asks merge k) x → LeadsNear merge k x
  leads_near at.Bitmap x here within = tt
  leads_near (at.Next own) x here within = within.held n w (knowing ((bitmap_offset, own) ∷ []) [] None h) sound.node refl refl
  leads_near (at.Version near) x here within = tt
  leads_near (at.Lock near version locked) x here within = tt
  leads_near (at.Head near locked head count) x here within = λ second.
      within.met n w (knows_near near h) (neighbour near locked (head_before head count)) here.0.leads.right refl (ap (λ k. Load (word_address l near.right k)) second)
  leads_near (at.Prints near locked head prints count) x here within = tt
  leads_near (at.Join join) x here within = tt
  leads_near (at.Part near locked bitmap) x here within = tt
  leads_near (at.Leave near) x here within = tt

  both : (x : ℕ) (turn : Turn Merge Merged) → Leads (merge_footing h merge) (merge_asks merge) x turn → MergeStays merge turn → MergesSo merge h answer x turn
  both x (Go next) step stays = (step, stays.0, stays.1)
  both x (Done merged) step stays = step

pub merges_are_steps : MergesAreSteps
merges_are_steps merge h answer x sound may answered told within =
    both merge sound h may answer answered x (merge_turned merge x) (leads merge sound h may answer answered merge.at x sound.here told)
    (merges_stay merge x (sound, told, leads_near merge sound h may answer answered merge.at x sound.here within))
