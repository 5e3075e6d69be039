-- A turn of a take, and of a filling, on a row.
use Rattle.std.proofs.Common.{◌≡◌, ℕ, zero, suc, ◌+◌, ◌==◌, ltb, true, false, cond, List, length, refl, sym, subst}
use Rattle.std.specs.Prelude.{IsSomeAnd}
use Rattle.pm_words.specs.declared.layout.Layout.{Layout}
use Rattle.pm_words.specs.declared.machine.Turn.{Turn}
use Rattle.pm_words.specs.declared.machine.Turn.TheVariants.{Go, Done}
use Rattle.pm_words.specs.Locations.{Cached, Durable, leaf_count, row_words}
use Rattle.pm_words.specs.Rows.{IsRow, acted}
use Rattle.pm_words.specs.Rows as rows
use Rattle.radix_nodes.specs.declared.fill_leaf.FillLeaf.{FillLeaf}
use Rattle.radix_nodes.specs.declared.fill_cell.FillCell.{FillCell}
use Rattle.radix_nodes.specs.Cells.{words_of}
use Rattle.radix_nodes.specs.Fills.{IsFillLeaf, fill_leaf_asks, fill_leaf_turned, IsFillCell, fill_cell_asks, fill_cell_turned, lines_of}
use Rattle.layer_map.specs.Layers.{Layer}
use Rattle.tree_law.specs.Words.{LayerWords, LeafPart, part_reference}
use Rattle.tree_law.specs.Stages.{Marks}
use Rattle.tree_law.specs.Marking.{IsMarkSet}
use Rattle.tree_row.specs.Rows.{layer_words}
use Rattle.tree_row.specs.RowMarks.{row_marks}
use Rattle.tree_change.specs.declared.take.Take.{Take}
use Rattle.tree_change.specs.declared.take.TakeAt.{TakeAt}
use Rattle.tree_change.specs.declared.take.TakeAt.TheVariants as at
use Rattle.tree_change.specs.declared.take.Taken.{Taken}
use Rattle.tree_change.specs.declared.take.Taken.TheVariants.{One, Absent}
use Rattle.tree_floor.specs.Telling.{turn_answer, answer_in}
use Rattle.tree_change.specs.Takes.{take_asks, take_turned, take_at_turned, take_seeks, take_turn, IsTake, IsTaken, part_of}
use Rattle.tree_change.specs.Fillings.{stage_at, leaf_words, leaf_after, cell_part, cell_after}
use Rattle.tree_change.specs.RowSteps.{FillingIn}
use Rattle.tree_change.proofs.ActsLaw.{take_leaves}
use Rattle.tree_change.proofs.MarkSteps.{take_makes_marks, leaf_leaves_marks, cell_leaves_marks}
use Rattle.tree_change.proofs.RowSteps.{leaf_acts, cell_acts}
use Rattle.tree_update.specs.Knowns.{Answers}
use Rattle.tree_update.proofs.Loads.{mark_got}

-- A machine that reads on to a right answer.
abbrev pub AnswersAfter : {M A : Type 0} → (M → Turn M A) → (A → Type 0) → Turn M A → Type 0
AnswersAfter turn IsRight (Go next) = Answers turn IsRight next
AnswersAfter turn IsRight (Done answer) = IsRight answer

pub answers_on : {M A : Type 0} (turn : M → Turn M A) (IsRight : A → Type 0) (machine : M) → Answers turn IsRight machine → AnswersAfter turn IsRight (turn machine)
answers_on {M = M} {A = A} turn IsRight machine answers = in_times answers.0 answers.1
  where
    of : (times : ℕ) (t : Turn M A) → IsSomeAnd (turn_answer t (answer_in times turn)) IsRight → AnswersAfter turn IsRight t
    of times (Go next) right = (times, right)
    of times (Done answer) right = right

    in_times : (times : ℕ) → IsSomeAnd (answer_in times turn machine) IsRight → AnswersAfter turn IsRight (turn machine)
    in_times zero wrong = absurd wrong
    in_times (suc times) right = of times (turn machine) right

-- What a turn of a take leaves: the words, and the marks but for the one that it sets.
abbrev pub TakeOn : ℕ → ℕ → LayerWords → LayerWords → Marks → Turn Take Taken → LayerWords → LayerWords → Marks → Type 0
TakeOn count kind w s m (Go next) w' s' m' = (w' ≡ w) × (s' ≡ s) × (m' ≡ m) × Answers (take_turn m) (IsTaken count m kind) next
TakeOn count kind w s m (Done (One number)) w' s' m' = (w' ≡ w) × (s' ≡ s) × IsMarkSet m m' (part_reference (part_of kind number)) 1 × IsTaken count m kind (One number)
TakeOn count kind w s m (Done Absent) w' s' m' = (w' ≡ w) × (s' ≡ s) × (m' ≡ m) × IsTaken count m kind Absent

seeks_on : (count kind : ℕ) (w s w' s' : LayerWords) (m m' : Marks) (turn : Turn Take Taken) → ((number : ℕ) → turn ≡ Done (One number) → ⊥) → w' ≡ w → s' ≡ s → m' ≡ m → AnswersAfter (take_turn m) (IsTaken count m kind) turn → TakeOn count kind w s m turn w' s' m'
seeks_on count kind w s w' s' m m' (Go next) none a b c after = (a, b, c, after)
seeks_on count kind w s w' s' m m' (Done (One number)) none a b c after = absurd (none number refl)
seeks_on count kind w s w' s' m m' (Done Absent) none a b c after = (a, b, c, after)

not_taken : (take : Take) (n got number : ℕ) → take_at_turned take (at.Seek n) got ≡ Done (One number) → ⊥
not_taken take n got number is = elim (got == 0) as (λ a. cond a (Go (record take { at = at.Mark n })) (take_seeks take n) ≡ Done (One number) → ⊥) [
  | true ↦ λ e. cc
  | false ↦ elim (ltb (n + 1) (leaf_count take.layout)) as (λ a. cond a (Go (record take { at = at.Seek (n + 1) })) (Done Absent) ≡ Done (One number) → ⊥) [ true ↦ λ e. cc | false ↦ λ e. cc ]
] is

own_take : (take : Take) (words : List ℕ) → IsTake take → length words ≡ row_words take.layout → (let m : Marks = row_marks take.layout words in Answers (take_turn m) (IsTaken (leaf_count take.layout) m take.kind) take)
    → TakeOn (leaf_count take.layout) take.kind (layer_words take.layout words Cached) (layer_words take.layout words Durable) (row_marks take.layout words) (take_turned take (rows.got take.layout words (take_asks take)))
    (layer_words take.layout (acted take.layout words (take_asks take)) Cached) (layer_words take.layout (acted take.layout words (take_asks take)) Durable) (row_marks take.layout (acted take.layout words (take_asks take)))
own_take take words is whole answers = by_part take.layout take.kind take.at is whole answers
  where
    by_part : (l : Layout) (kind : ℕ) (part : TakeAt) → (let take' : Take = record { layout = l; kind = kind; at = part } in IsTake take' → length words ≡ row_words l → Answers (take_turn (row_marks l words)) (IsTaken (leaf_count l) (row_marks l words) kind) take'
        → TakeOn (leaf_count l) kind (layer_words l words Cached) (layer_words l words Durable) (row_marks l words) (take_turned take' (rows.got l words (take_asks take')))
        (layer_words l (acted l words (take_asks take')) Cached) (layer_words l (acted l words (take_asks take')) Durable) (row_marks l (acted l words (take_asks take'))))
    by_part l kind (at.Seek number) is' whole' answers' =
        let take' : Take = record { layout = l; kind = kind; at = at.Seek number } in
        let stays = take_leaves take' words is' whole' in
        let m = row_marks l words in
        let after = acted l words (take_asks take') in
        let told = mark_got l words whole' kind number is'.low is'.high is'.here in
        subst (λ x. TakeOn (leaf_count l) kind (layer_words l words Cached) (layer_words l words Durable) m (take_turned take' x) (layer_words l after Cached) (layer_words l after Durable) (row_marks l after)) (sym told)
        (seeks_on (leaf_count l) kind (layer_words l words Cached) (layer_words l words Durable) (layer_words l after Cached) (layer_words l after Durable) m (row_marks l after) (take_turned take' (m kind number)) (not_taken take' number (m kind number)) stays.0 stays.1 (take_makes_marks take' words is' whole') (answers_on (take_turn m) (IsTaken (leaf_count l) m kind) take' answers'))
    by_part l kind (at.Mark number) is' whole' answers' =
        let take' : Take = record { layout = l; kind = kind; at = at.Mark number } in
        let stays = take_leaves take' words is' whole' in
        let m = row_marks l words in
        (stays.0, stays.1, take_makes_marks take' words is' whole', answers_on (take_turn m) (IsTaken (leaf_count l) m kind) take' answers')

pub take_on : (take : Take) (l : Layout) (words : List ℕ) → IsTake take → take.layout ≡ l → length words ≡ row_words l → Answers (take_turn (row_marks l words)) (IsTaken (leaf_count l) (row_marks l words) take.kind) take
    → TakeOn (leaf_count l) take.kind (layer_words l words Cached) (layer_words l words Durable) (row_marks l words) (take_turned take (rows.got l words (take_asks take)))
    (layer_words l (acted l words (take_asks take)) Cached) (layer_words l (acted l words (take_asks take)) Durable) (row_marks l (acted l words (take_asks take)))
take_on take l words is same whole answers = subst St same (own_take take words is) whole answers
  where
    St : Layout → Type 0
    St k = length words ≡ row_words k → Answers (take_turn (row_marks k words)) (IsTaken (leaf_count k) (row_marks k words) take.kind) take
        → TakeOn (leaf_count k) take.kind (layer_words k words Cached) (layer_words k words Durable) (row_marks k words) (take_turned take (rows.got k words (take_asks take)))
        (layer_words k (acted k words (take_asks take)) Cached) (layer_words k (acted k words (take_asks take)) Durable) (row_marks k (acted k words (take_asks take)))

-- A filling leaves the marks.
pub leaf_on : (count nodes : ℕ) (before : Layer) (begun : LayerWords) (fill : FillLeaf) (l : Layout) (words : List ℕ) → IsFillLeaf fill → fill.layout ≡ l → IsRow l words → FillingIn count nodes before begun l (LeafPart fill.number) 1 (leaf_words fill) (stage_at 1 fill.at) words
    → FillingIn count nodes before begun l (LeafPart fill.number) 1 (leaf_words fill) (leaf_after (fill_leaf_turned fill (rows.got l words (fill_leaf_asks fill)))) (acted l words (fill_leaf_asks fill)) × (row_marks l (acted l words (fill_leaf_asks fill)) ≡ row_marks l words)
leaf_on count nodes before begun fill l words is same row sure = subst St same (λ row' sure'. (leaf_acts count nodes before begun fill words is row' sure', leaf_leaves_marks fill words is row'.whole)) row sure
  where
    St : Layout → Type 0
    St k = IsRow k words → FillingIn count nodes before begun k (LeafPart fill.number) 1 (leaf_words fill) (stage_at 1 fill.at) words
        → FillingIn count nodes before begun k (LeafPart fill.number) 1 (leaf_words fill) (leaf_after (fill_leaf_turned fill (rows.got k words (fill_leaf_asks fill)))) (acted k words (fill_leaf_asks fill)) × (row_marks k (acted k words (fill_leaf_asks fill)) ≡ row_marks k words)

pub cell_on : (count nodes : ℕ) (before : Layer) (begun : LayerWords) (fill : FillCell) (l : Layout) (words : List ℕ) → IsFillCell fill → fill.layout ≡ l → IsRow l words → FillingIn count nodes before begun l (cell_part fill) (lines_of fill.cell.kind) (words_of fill.cell) (stage_at (lines_of fill.cell.kind) fill.at) words
    → FillingIn count nodes before begun l (cell_part fill) (lines_of fill.cell.kind) (words_of fill.cell) (cell_after fill (fill_cell_turned fill (rows.got l words (fill_cell_asks fill)))) (acted l words (fill_cell_asks fill)) × (row_marks l (acted l words (fill_cell_asks fill)) ≡ row_marks l words)
cell_on count nodes before begun fill l words is same row sure = subst St same (λ row' sure'. (cell_acts count nodes before begun fill words is row' sure', cell_leaves_marks fill words is row'.whole)) row sure
  where
    St : Layout → Type 0
    St k = IsRow k words → FillingIn count nodes before begun k (cell_part fill) (lines_of fill.cell.kind) (words_of fill.cell) (stage_at (lines_of fill.cell.kind) fill.at) words
        → FillingIn count nodes before begun k (cell_part fill) (lines_of fill.cell.kind) (words_of fill.cell) (cell_after fill (fill_cell_turned fill (rows.got k words (fill_cell_asks fill)))) (acted k words (fill_cell_asks fill)) × (row_marks k (acted k words (fill_cell_asks fill)) ≡ row_marks k words)
