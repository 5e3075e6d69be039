-- A recovery from its beginning to its end: what is known of the rows between its moves, and after the last.
use Rattle.std.proofs.Common.{Option, Some, None, true, false, ◌≡◌, ℕ, suc, ◌+◌, ◌<◌, ◌≤◌, List, [], ◌∷◌, map, drop}
use Rattle.std.proofs.Common.{length, get_or, sym, subst, ap, ◌∙◌}
use Rattle.std.proofs.lemmas.List.{drop_more, drop_all}
use Rattle.pm_words.specs.declared.layout.Layout.{Layout}
use Rattle.pm_words.specs.declared.action.Action.{Action}
use Rattle.pm_words.specs.declared.machine.Turn.{Turn}
use Rattle.pm_words.specs.Images.{Row, IsImage}
use Rattle.pm_words.specs.Locations.{Word, Location, Clock, Updater, Volatile, Mark, Cached, Durable, word_at}
use Rattle.pm_words.specs.Locations.{at as word_in_row}
use Rattle.pm_words.specs.Rows.{IsRow, CanAct, acted, evicted, got, row_of}
use Rattle.pm_words.proofs.Made.{row_of-at, row_of-at_volatile}
use Rattle.version_lock.specs.Versions.{IsGeneration}
use Rattle.image_layer_rules.specs.Sound.{IsSoundByAll}
use Rattle.image_rules.specs.Nodes.{image_list}
use Rattle.layer_map.specs.Places.{is_of_layer}
use Rattle.image_recovery_law.specs.search_layer.specs.Rows.{layer_words, image_layer_words}
use Rattle.tree_row.specs.RowMarks.{IsNoMark}
use Rattle.image_recovery_law.specs.search_layer.specs.Kept.{IsAtRest}
use Rattle.image_layer_rules.proofs.LayerLaws.{sound_keeps_layer}
use Rattle.tree_law.specs.Trees.{IsTree}
use Rattle.tree_marks.specs.Laws.{IsMarked}
use Rattle.tree_marks.specs.Marked.{row_tree, row_room, MarksFrom, AreMarked}
use Rattle.tree_marks.proofs.RestLaw.{marked_by_walk, marked_is_at_rest, marking_keeps_others}
use Rattle.image_recovery_law.specs.search_layer.proofs.RowLemmas.{even_are_same}
use Rattle.image_recovery_law.specs.Columns.{Columns, IsSound}
use Rattle.image_recovery_law.specs.Stages.{Begins, Sure}
use Rattle.image_recovery_law.specs.Rows.{columns_in, image_columns}
use Rattle.image_recovery_law.specs.RowMoves.{RowSure}
use Rattle.image_recovery_law.specs.Moves as law
use Rattle.image_recovery_law.proofs.RowPlans.{row_ends}
use Rattle.image_recovery_law.proofs.Rest.{ends_at_rest}
use Rattle.image_recovery_law.proofs.RowColumns.{IsRest, columns_alike}
use Rattle.image_recovery_law.proofs.Steps.{starts}
use Rattle.image_recovery.specs.declared.making.Making.{Making}
use Rattle.image_recovery.specs.declared.stepping.Recovery.{Recovery}
use Rattle.image_recovery.specs.declared.moves.Move.{Move}
use Rattle.image_recovery.specs.Plans.{columns, list_of, move_of, IsPlanOf}
use Rattle.image_recovery.specs.Makings.{IsMaking, MayMake, making_of, making_asks, making_turned}
use Rattle.image_recovery.specs.MakingLaw.{IsClearBeside, IsAtMove, IsAfterTurn, IsBetweenMoves}
use Rattle.image_recovery.specs.Recovered.{IsRecoverable, IsOpenedOn, IsUnderWay, IsRecoveredTo}
use Rattle.image_recovery.specs.Recoveries.{IsRecoveringAt, IsRecovering, IsMakingOne, moves_left, EndIsRecovered}
use Rattle.image_recovery.specs.Recoveries.{RecoveringEvicts}
use Rattle.image_recovery.proofs.SoundColumns.{all_sound}
use Rattle.image_recovery.proofs.CrashLemmas.{crash_between_leaves_sound}
use Rattle.image_recovery.proofs.MakingLemmas.{between_evicts, makings_begin, makings_evict, makings_go}

-- of one action: the number that it gave, and the words afterwards, where it is told what was asked
pub told_by : (l : Layout) (row : Row) (asked done : Action) (number : ℕ) → row.layout ≡ l → done ≡ asked → number ≡ got row.layout row.words done → number ≡ got l row.words asked
told_by l row asked done number layout same told = told ∙ ap (λ (a : Action). got row.layout row.words a) same ∙ ap (λ (m : Layout). got m row.words asked) layout

pub words_by : (l : Layout) (row after : Row) (asked done : Action) → row.layout ≡ l → done ≡ asked → after ≡ record row { words = acted row.layout row.words done } → after.words ≡ acted l row.words asked
words_by l row after asked done layout same is =
    ap (λ (m : Row). m.words) is ∙ ap (λ (a : Action). acted row.layout row.words a) same ∙ ap (λ (m : Layout). acted m row.words asked) layout

pub none_left : (moves : List Move) (i : ℕ) → length moves ≤ i → map move_of (drop i moves) ≡ []
none_left moves i past = ap (map move_of) (drop_all i moves past)

-- an image that is sound by all rules, of a generation that isn't the last
pub is_recoverable : (image : Row) → IsImage image.layout image.words → IsSoundByAll image.layout image.words → IsGeneration (suc (columns image).generation) → IsRecoverable image
is_recoverable image is sound next = record { sound = all_sound image.layout image.words is sound; next = next }

-- A row that is made of the image, whose marks are set: nothing but the marks is another than in the image.
module _ (l : Layout) (words after : List ℕ) (marked : IsMarked l words after) where
  no_mark : (p : Location) → is_of_layer p ≡ false → IsNoMark p
  no_mark Clock outside = tt
  no_mark Updater outside = tt
  no_mark (Volatile n o) outside = tt
  no_mark (Mark kind k) outside = let clash : true ≡ false = outside in cc
  no_mark (Cached w) outside = tt
  no_mark (Durable w) outside = tt

  pub marked_clear : IsClearBeside l after
  marked_clear p has volatile outside = marking_keeps_others l words after marked p has (no_mark p outside) ∙ row_of-at_volatile l words p has volatile

  at_rest : IsAtRest l after × (layer_words l after Cached ≡ image_layer_words l words)
  at_rest = marked_is_at_rest l words after marked

  twin_columns : (twin : Word → Location) → ((w : Word) → IsRest l w → word_in_row l after (twin w) ≡ word_at l words w) → layer_words l after twin ≡ image_layer_words l words → columns_in l after twin ≡ image_columns l words
  twin_columns twin same layer = columns_alike l (word_at l words) (λ w. word_in_row l after (twin w)) (image_layer_words l words) (layer_words l after twin) same layer

  cached_columns : columns_in l after Cached ≡ image_columns l words
  cached_columns = twin_columns Cached (λ w is. marking_keeps_others l words after marked (Cached w) is.0 tt ∙ (row_of-at l words w marked.is is.0).0) at_rest.1

  durable_columns : columns_in l after Durable ≡ image_columns l words
  durable_columns = twin_columns Durable (λ w is. marking_keeps_others l words after marked (Durable w) is.0 tt ∙ (row_of-at l words w marked.is is.0).1)
      (even_are_same (layer_words l after Cached) (layer_words l after Durable) at_rest.0.even ∙ at_rest.1)

-- So a recovery of a sound image may begin.
marked_begins : (l : Layout) (words after : List ℕ) → IsSound l (image_list l words) (image_columns l words) → IsMarked l words after → RowSure l (image_list l words) (image_columns l words) Begins after
marked_begins l words after sound marked =
    let o = image_columns l words in
    let list = image_list l words in
    record {
      sure = subst (λ (c : Columns). Sure l list o Begins (columns_in l after Cached) c) (sym (durable_columns l words after marked))
          (subst (λ (c : Columns). Sure l list o Begins c o) (sym (cached_columns l words after marked)) (starts l list o sound));
      marks = (at_rest l words after marked).0.tells;
    }

-- The row on which the walk set the marks is such a row.
pub opened_on : (image memory after : Row) → IsImage image.layout image.words → IsSoundByAll image.layout image.words → memory ≡ record { layout = image.layout; words = row_of image.layout image.words } → after.layout ≡ memory.layout
    → MarksFrom memory.layout memory.words (row_tree memory.layout memory.words).root after.words
    → (IsTree (row_room memory.layout) (row_tree memory.layout memory.words) → AreMarked memory.layout memory.words (row_tree memory.layout memory.words).root after.words) → IsRow after.layout after.words → IsOpenedOn image after
opened_on image memory after is sound made =
    subst (λ (m : Row). after.layout ≡ m.layout → MarksFrom m.layout m.words (row_tree m.layout m.words).root after.words
    → (IsTree (row_room m.layout) (row_tree m.layout m.words) → AreMarked m.layout m.words (row_tree m.layout m.words).root after.words) → IsRow after.layout after.words → IsOpenedOn image after) (sym made)
    (λ layout marks all row. record {
      layout = layout;
      is_row = subst (λ (l : Layout). IsRow l after.words) layout row;
      marked = marked_by_walk image.layout image.words after.words is (sound_keeps_layer image.layout image.words is sound).1.row marks all;
    })

module _ (image : Row) (recoverable : IsRecoverable image) where
  abbrev At : List law.Move → List ℕ → Making → Type 0
  At rest words making = IsAtMove image.layout (list_of image) (columns image) rest words making

  -- The next move begins.
  pub begins_move : (row : Row) (next : Move) (rest : List law.Move) → IsUnderWay image row (move_of next ∷ rest) → MayMake row next × (IsMaking (making_of row next) → At rest row.words (making_of row next))
  begins_move row next rest under =
      let same : record { layout = image.layout; words = row.words } ≡ row = λ i. record { layout = sym under.layout i; words = row.words } in
      subst (λ (r : Row). MayMake r next × (IsMaking (making_of r next) → At rest row.words (making_of r next))) same
      (makings_begin image.layout (list_of image) (columns image) next rest row.words recoverable.sound recoverable.next under.between)

  -- Its action may be done, and leads on.
  pub move_acts : (row : Row) (making : Making) (rest : List law.Move) (action : Action) → row.layout ≡ image.layout → action ≡ making_asks making → At rest row.words making → CanAct row.layout row.words action
  move_acts row making rest action layout same at =
      subst (λ (m : Layout). CanAct m row.words action) (sym layout)
      (subst (λ (a : Action). CanAct image.layout row.words a) (sym same) (makings_go image.layout (list_of image) (columns image) rest row.words making recoverable.sound at).0)

  pub move_goes : (row after : Row) (making : Making) (rest : List law.Move) (action : Action) (number : ℕ) (turn : Turn Making (Unit {0})) → row.layout ≡ image.layout → action ≡ making_asks making → At rest row.words making
      → after ≡ record row { words = acted row.layout row.words action } → number ≡ got row.layout row.words action → making_turned making number ≡ turn
      → IsAfterTurn image.layout (list_of image) (columns image) rest after.words turn
  move_goes row after making rest action number turn layout same at is told leads =
      let goes = (makings_go image.layout (list_of image) (columns image) rest row.words making recoverable.sound at).1 in
      let number_is = told_by image.layout row (making_asks making) action number layout same told in
      let turn_is : making_turned making (got image.layout row.words (making_asks making)) ≡ turn = ap (making_turned making) (sym number_is) ∙ leads in
      subst (λ (words : List ℕ). IsAfterTurn image.layout (list_of image) (columns image) rest words turn) (sym (words_by image.layout row after (making_asks making) action layout same is))
      (subst (λ (t : Turn Making (Unit {0})). IsAfterTurn image.layout (list_of image) (columns image) rest (acted image.layout row.words (making_asks making)) t) turn_is goes)

  -- A row of the image, with a plan.
  pub begins_plan : (row : Row) (moves listed : List Move) → IsOpenedOn image row → IsPlanOf image moves → listed ≡ moves → IsUnderWay image row (map move_of listed)
  begins_plan row moves listed opened plan same = record {
    layout = opened.layout;
    between = record {
      row = opened.is_row;
      clear = marked_clear image.layout image.words row.words opened.marked;
      stage = Begins;
      sure = marked_begins image.layout image.words row.words recoverable.sound opened.marked;
      plan = subst (λ (ms : List Move). IsPlanOf image ms) (sym same) plan;
    };
  }

  -- After the last move.
  pub ends_plan : (row : Row) → IsUnderWay image row [] → IsRecoveredTo image row
  ends_plan row under =
      let o = columns image in
      let now : Columns = columns_in image.layout row.words Cached in
      let safe : Columns = columns_in image.layout row.words Durable in
      let known = row_ends image.layout (list_of image) o row.words under.between.stage recoverable.sound under.between.sure under.between.plan in
      record {
        layout = under.layout;
        is_row = under.between.row;
        rests = ends_at_rest image.layout (list_of image) o now safe recoverable.sound recoverable.next known.sure;
        clear = under.between.clear;
        marks = known.marks;
        left = crash_between_leaves_sound image [] row.words recoverable under.between;
      }

-- Recoveries that may be stopped. Between two moves the next one is under way,
pub next_is : (image row : Row) (recovery : Recovery) (next : Move) → recovery.making ≡ None → recovery.begun < length recovery.moves.items → next ≡ get_or recovery.moves.items recovery.begun next → IsRecovering image recovery row
    → IsUnderWay image row (move_of next ∷ map move_of (drop (recovery.begun + 1) recovery.moves.items))
next_is image row recovery next is within told here =
    let items = recovery.moves.items in
    let behind = map move_of (drop (recovery.begun + 1) items) in
    let left : moves_left recovery ≡ move_of next ∷ behind = ap (map move_of) (drop_more items recovery.begun next within) ∙ ap (λ (m : Move). move_of m ∷ behind) (sym told) in
    subst (IsUnderWay image row) left (subst (λ (x : Option Making). IsRecoveringAt image row (moves_left recovery) x) is here)

-- and so begins.
pub next_begins : (image row : Row) (next : Move) (rest : List law.Move) (making : Making) → IsRecoverable image → IsUnderWay image row (move_of next ∷ rest) → making ≡ making_of row next → IsMaking making → IsMakingOne image row rest making
next_begins image row next rest making recoverable under new fits = record {
  layout = under.layout;
  here = subst (λ (m : Making). IsAtMove image.layout (list_of image) (columns image) rest row.words m) (sym new) ((begins_move image recoverable row next rest under).1 (subst IsMaking new fits));
}

-- A word may become durable between any two actions.
pub recovering_evicts : RecoveringEvicts
recovering_evicts image recovery row word recoverable within here = at recovery.making here
  where
    words_are : row.layout ≡ image.layout → evicted row.layout row.words word ≡ evicted image.layout row.words word
    words_are layout = ap (λ (l : Layout). evicted l row.words word) layout

    at : (making : Option Making) → IsRecoveringAt image row (moves_left recovery) making → IsRecoveringAt image (record row { words = evicted row.layout row.words word }) (moves_left recovery) making
    at None under = record {
      layout = under.layout;
      between = subst (λ (words : List ℕ). IsBetweenMoves image.layout (list_of image) (columns image) (moves_left recovery) words) (sym (words_are under.layout))
          (between_evicts image.layout (list_of image) (columns image) (moves_left recovery) row.words word recoverable.sound within under.between);
    }
    at (Some making) one = record {
      layout = one.layout;
      here = subst (λ (words : List ℕ). IsAtMove image.layout (list_of image) (columns image) (moves_left recovery) words making) (sym (words_are one.layout))
          (makings_evict image.layout (list_of image) (columns image) (moves_left recovery) row.words making word recoverable.sound within one.here);
    }

-- Once all moves are made, the image is recovered.
pub end_is_recovered : EndIsRecovered
end_is_recovered image recovery row recoverable here ended =
    ends_plan image recoverable row (subst (IsUnderWay image row) (none_left recovery.moves.items recovery.begun ended.1)
    (subst (λ (x : Option Making). IsRecoveringAt image row (moves_left recovery) x) ended.0 here))
