-- The moves of a plan, made one after another, are the steps of a recovery.
use Rattle.std.proofs.Common.{◌≡◌, ◌≢◌, ℕ, suc, ◌+◌, ◌<◌, ◌≤◌, List, [], ◌∷◌, refl, sym, subst, ap, ◌∙◌, arith}
use Rattle.pm_words.specs.declared.layout.Layout.{Layout}
use Rattle.pm_words.specs.Images.{Row}
use Rattle.pm_words.specs.Locations.{Header, Node, Cached, image_words, at, word_number}
use Rattle.pm_words.specs.Rows.{IsRow, CanAct, acted, got, evicted}
use Rattle.pm_words.specs.Offsets.{generation_offset, bitmap_offset, anchor_offset, state_offset}
use Rattle.pm_words.proofs.Kept.{evicted_row}
use Rattle.version_lock.specs.Versions.{IsGeneration}
use Rattle.data_node.specs.Lists.{ListNode}
use Rattle.tree_update.specs.Changes.{change_starts}
use Rattle.tree_update.specs.Stages.{Aim, aim_of}
use Rattle.image_recovery_law.specs.search_layer.specs.Kept.{layer_of}
use Rattle.image_recovery_law.specs.search_layer.specs.ChangeStages.{stage_of, start_stage}
use Rattle.image_recovery_law.specs.updater_row_law.specs.Columns.{line_count, line_word}
use Rattle.image_recovery_law.specs.Columns.{Columns, IsSound, MendsNodes}
use Rattle.image_recovery_law.specs.Stages.{Stage, Begins, Raised, Trims, Trimmed, Unsetting, Setting, Empties}
use Rattle.image_recovery_law.specs.Stages.{Emptied, nodes_of, aim_at}
use Rattle.image_recovery_law.specs.RowMoves.{RowSure, of_generation, of_bits, of_empty}
use Rattle.image_recovery_law.specs.Rows.{columns_in}
use Rattle.image_recovery_law.specs.Moves as law
use Rattle.image_recovery_law.proofs.Mended.{in_image, used_line}
use Rattle.image_recovery_law.proofs.RowPlans.{row_reaches}
use Rattle.image_recovery_law.proofs.RowChanges.{unset_begins, set_begins}
use Rattle.image_recovery_law.proofs.RowColumns.{word_if-here, has_line_word, line_here}
use Rattle.image_recovery_law.proofs.RowMoves.{row_evicts}
use Rattle.image_recovery.specs.declared.making.Making.{Making}
use Rattle.image_recovery.specs.declared.moves.Move.{Move}
use Rattle.image_recovery.specs.declared.moves.Move.TheVariants.{Raise, Trim, Unset, Set, Empty}
use Rattle.image_recovery.specs.declared.storing.Storing.{Storing}
use Rattle.image_recovery.specs.declared.storing.StoringAt.{StoringAt}
use Rattle.image_recovery.specs.declared.storing.StoringAt.TheVariants as at
use Rattle.image_recovery.specs.Plans.{move_of}
use Rattle.image_recovery.specs.Storings.{fenced_word, IsStoring, IsStoringAt, stores, storing_asks, storing_turned}
use Rattle.image_recovery.specs.Makings.{IsMaking, MayMake, making_of, making_asks, making_turned, anchor_at}
use Rattle.image_recovery.specs.Makings.{generation_at, of_storing}
use Rattle.image_recovery.specs.MakingLaw.{IsBetweenMoves, IsClearBeside, SureMaking, sure_stores, sure_unsets}
use Rattle.image_recovery.specs.MakingLaw.{sure_sets, IsStoreOf, SureStoringAt, IsAtMove, IsAfterTurn, MakingsBegin}
use Rattle.image_recovery.specs.MakingLaw.{MakingsGo, MakingsEvict, MakingsAreSure}
use Rattle.image_recovery.proofs.Evens.{even_still, hand_stays, clear_evicts}
use Rattle.image_recovery.proofs.StoringLaw.{storing_goes}
use Rattle.image_recovery.proofs.ChangingLaw.{unset_turn, set_turn}

-- Turns.
storing_turns : (l : Layout) (list : List ListNode) (o : Columns) (rest : List law.Move) (words : List ℕ) (storing : Storing) (before after end : Stage) → storing.layout ≡ l → IsSound l list o → IsRow l words → IsClearBeside l words → IsStoring storing
    → IsStoreOf l list o rest storing before after end → SureStoringAt l list o storing before after words storing.at
    → CanAct l words (storing_asks storing) × IsAfterTurn l list o rest (acted l words (storing_asks storing)) (of_storing (storing_turned storing (got l words (storing_asks storing))))
storing_turns l list o rest words storing before after end layout =
    subst (λ (m : Layout). IsSound m list o → IsRow m words → IsClearBeside m words → IsStoring storing → IsStoreOf m list o rest storing before after end → SureStoringAt m list o storing before after words storing.at
    → CanAct m words (storing_asks storing) × IsAfterTurn m list o rest (acted m words (storing_asks storing)) (of_storing (storing_turned storing (got m words (storing_asks storing))))) layout
    (λ sound row clear fits is sure. storing_goes list o rest words storing before after end sound row clear fits is storing.at fits.here sure)

pub makings_go : MakingsGo
makings_go l list o rest words making sound here = turns making here.fits here.sure
  where
    turns : (m : Making) → IsMaking m → SureMaking l list o rest words m → CanAct l words (making_asks m) × IsAfterTurn l list o rest (acted l words (making_asks m)) (making_turned m (got l words (making_asks m)))
    turns m fine (sure_stores storing before after end layout is known) = storing_turns l list o rest words storing before after end layout sound here.row here.clear fine is known
    turns m fine (sure_unsets change line before layout aim known plan) = unset_turn l list o rest words change sound here.row here.clear fine layout line before aim known plan
    turns m fine (sure_sets change line n before layout aim known plan) = set_turn l list o rest words change sound here.row here.clear fine layout line n before aim known plan

-- How a move begins.
module _ (l : Layout) (list : List ListNode) (o : Columns) (rest : List law.Move) (words : List ℕ) (sound : IsSound l list o) (row : IsRow l words) (clear : IsClearBeside l words) where
  abbrev now : Columns
  now = columns_in l words Cached

  abbrev here : Row
  here = record { layout = l; words = words }

  abbrev Started : Move → Type 0
  Started next = MayMake here next × (IsMaking (making_of here next) → IsAtMove l list o rest words (making_of here next))

  starts_raise : IsGeneration (suc o.generation) → (s : Stage) → law.Takes l list o s law.Raise rest → RowSure l list o s words → Started Raise
  starts_raise generation s (law.raises_now plan) sure =
      let last = generation.fits in
      let same : generation_at here ≡ o.generation = sure.sure.2 in (
        omega arith,
        λ fits.
            let begun = sure_stores (stores l (word_number l (Header generation_offset)) (generation_at here + 1)) Begins Raised (Trims (nodes_of list)) refl
            (record { place = Header generation_offset; value = suc o.generation; move = of_generation; word = refl; stored = omega arith; plan = plan }) sure in
            assumption (row, clear, begun),
      )

  starts_trim : (n bits : ℕ) (s : Stage) → law.Takes l list o s (law.Trim n bits) rest → RowSure l list o s words → Started (Trim n bits)
  starts_trim _ _ s (law.trims_now n bits {left} is trims plan) sure =
      let within = in_image l list o sound n is in (
        within,
        λ fits.
            let begun = sure_stores (stores l (word_number l (Node n bitmap_offset)) bits) (Trims (n ∷ left)) (Trimmed n left) (Trims left) refl
            (record { place = Node n bitmap_offset; value = bits; move = of_bits n bits left within is trims; word = refl; stored = refl; plan = plan }) sure in
            assumption (row, clear, begun),
      )

  starts_empty : (j : ℕ) (s : Stage) → law.Takes l list o s (law.Empty j) rest → RowSure l list o s words → Started (Empty j)
  starts_empty _ s (law.empties_now j busy plan) sure =
      let within = used_line l list o sound j busy in (
        within,
        λ fits.
            let begun = sure_stores (stores l (word_number l (line_word state_offset j)) 0) (Empties j) (Emptied j) (Empties (suc j)) refl
            (record { place = line_word state_offset j; value = 0; move = of_empty j within; word = refl; stored = refl; plan = plan }) sure in
            assumption (row, clear, begun),
      )

  -- the anchor of a line that is read then
  word_is : (j o' : ℕ) → j < line_count l → o' < 8 → o' ≢ 0 → MendsNodes l list o now → at l words (Cached (line_word o' j)) ≡ o.line j o'
  word_is j o' within small other mends =
      sym (word_if-here (has_line_word l j o') (at l words (Cached (line_word o' j))) (line_here l j o' within small)) ∙ mends.fields j o' other

  aims : (j word : ℕ) → j < line_count l → MendsNodes l list o now → aim_of (change_starts l (anchor_at here j) word) ≡ aim_at o j word
  aims j word within mends = λ i. record {
    key = word_is j anchor_offset within (omega arith) (λ e. cc) mends i ∷ word_is j (anchor_offset + 1) within (omega arith) (λ e. cc) mends i ∷ word_is j (anchor_offset + 2) within (omega arith) (λ e. cc) mends i ∷ [];
    word = word;
  }

  starts_unset : (j : ℕ) (s : Stage) → law.Takes l list o s (law.Unset j) rest → RowSure l list o s words → Started (Unset j)
  starts_unset _ s (law.unsets_now j busy lacks plan) known =
      let within = used_line l list o sound j busy in
      let aim = aims j 0 within known.sure.0.cached.nodes in (
        within,
        λ fits.
            let begun = sure_unsets (change_starts l (anchor_at here j) 0) j (layer_of l words) refl aim
            (subst (λ (x : Aim). RowSure l list o (Unsetting j (layer_of l words) (start_stage l x)) words) (sym aim) (unset_begins l list o words j row sound known busy lacks)) plan in
            assumption (row, clear, begun),
      )

  starts_set : (j n : ℕ) (s : Stage) → law.Takes l list o s (law.Set j n) rest → RowSure l list o s words → Started (Set j n)
  starts_set _ _ s (law.sets_now j n busy is anchor plan) known =
      let within = used_line l list o sound j busy in
      let node = in_image l list o sound n is in
      let one : n + 1 ≡ suc n = omega arith in
      let aim = aims j (n + 1) within known.sure.0.cached.nodes ∙ ap (aim_at o j) one in (
        (within, node),
        λ fits.
            let begun = sure_sets (change_starts l (anchor_at here j) (n + 1)) j n (layer_of l words) refl aim
            (subst (λ (x : Aim). RowSure l list o (Setting j n (layer_of l words) (start_stage l x)) words) (sym aim) (set_begins l list o words j n row sound known busy is anchor)) plan in
            assumption (row, clear, begun),
      )

  starts_move : IsGeneration (suc o.generation) → (next : Move) (s : Stage) → law.Takes l list o s (move_of next) rest → RowSure l list o s words → Started next
  starts_move generation Raise s takes sure = starts_raise generation s takes sure
  starts_move generation (Trim n bits) s takes sure = starts_trim n bits s takes sure
  starts_move generation (Unset j) s takes sure = starts_unset j s takes sure
  starts_move generation (Set j n) s takes sure = starts_set j n s takes sure
  starts_move generation (Empty j) s takes sure = starts_empty j s takes sure

pub makings_begin : MakingsBegin
makings_begin l list o next rest words sound generation between =
    let ready = row_reaches l list o words between.stage (move_of next) rest sound between.sure between.plan in
    starts_move l list o rest words sound between.row between.clear generation next ready.stage ready.takes ready.sure

-- Words that become durable.
module _ (l : Layout) (list : List ListNode) (o : Columns) (rest : List law.Move) (words : List ℕ) (word : ℕ) (sound : IsSound l list o) (within : word < image_words l) (row : IsRow l words) where
  storing_evicts : (storing : Storing) (before after end : Stage) → storing.layout ≡ l → IsStoring storing → (now : StoringAt) → IsStoringAt now → SureStoringAt l list o storing before after words now
      → SureStoringAt l list o storing before after (evicted l words word) now
  storing_evicts storing before after end layout fits at.Word fine sure = row_evicts l list o words before word row.whole within sound sure
  storing_evicts storing before after end layout fits (at.Line fence) fine sure =
      let inside : storing.word + 8 ≤ image_words l = subst (λ (m : Layout). storing.word + 8 ≤ image_words m) layout fits.word in
      let small : fence.word < 8 = fine.word in (
        row_evicts l list o words after word row.whole within sound sure.0,
        hand_stays l words word row.whole within (fenced_word storing.word fence) (omega arith) fence.at sure.1,
        λ past. even_still l words word row.whole within storing.word (omega arith) (sure.2 past),
      )

  making_evicts : (m : Making) → IsMaking m → SureMaking l list o rest words m → SureMaking l list o rest (evicted l words word) m
  making_evicts m fine (sure_stores storing before after end layout is here) = sure_stores storing before after end layout is (storing_evicts storing before after end layout fine storing.at fine.here here)
  making_evicts m fine (sure_unsets change line before layout aim here plan) = sure_unsets change line before layout aim (row_evicts l list o words (Unsetting line before (stage_of change)) word row.whole within sound here) plan
  making_evicts m fine (sure_sets change line n before layout aim here plan) = sure_sets change line n before layout aim (row_evicts l list o words (Setting line n before (stage_of change)) word row.whole within sound here) plan

pub makings_evict : MakingsEvict
makings_evict l list o rest words making word sound within here = record {
  row = evicted_row l words word here.row within;
  clear = clear_evicts l words word here.row.whole within here.clear;
  fits = here.fits;
  sure = making_evicts l list o rest words word sound within here.row making here.fits here.sure;
}

pub between_evicts : (l : Layout) (list : List ListNode) (o : Columns) (rest : List law.Move) (words : List ℕ) (word : ℕ) → IsSound l list o → word < image_words l → IsBetweenMoves l list o rest words → IsBetweenMoves l list o rest (evicted l words word)
between_evicts l list o rest words word sound within here = record {
  row = evicted_row l words word here.row within;
  clear = clear_evicts l words word here.row.whole within here.clear;
  stage = here.stage;
  sure = row_evicts l list o words here.stage word here.row.whole within sound here.sure;
  plan = here.plan;
}

pub makings_are_sure : MakingsAreSure
makings_are_sure l list o rest words making here = stage making here.sure
  where
    storing_stage : (storing : Storing) (before after : Stage) (now : StoringAt) → SureStoringAt l list o storing before after words now → (stage : Stage) × RowSure l list o stage words
    storing_stage storing before after at.Word sure = (before, sure)
    storing_stage storing before after (at.Line fence) sure = (after, sure.0)

    stage : (m : Making) → SureMaking l list o rest words m → (stage : Stage) × RowSure l list o stage words
    stage m (sure_stores storing before after end layout is known) = storing_stage storing before after storing.at known
    stage m (sure_unsets change line before layout aim known plan) = (Unsetting line before (stage_of change), known)
    stage m (sure_sets change line n before layout aim known plan) = (Setting line n before (stage_of change), known)
