-- What a crash leaves of a recovery, at any time.
use Rattle.std.proofs.Common.{Option, Some, None, ◌≡◌, ◌↔◌, ℕ, suc, ◌+◌, ◌⊎◌, List, [], ◌∷◌, inl, inr, refl, sym, subst, ap, ap₂, ◌∙◌}
use Rattle.pm_words.specs.declared.layout.Layout.{Layout}
use Rattle.pm_words.specs.Images.{Row, IsImage}
use Rattle.pm_words.specs.Locations.{Cached, Durable}
use Rattle.pm_words.specs.Rows.{IsRow, durable_row}
use Rattle.pm_words.proofs.Made.{durable_row-image}
use Rattle.cat_history.specs.Maps.{Map}
use Rattle.data_node.specs.Lists.{ListNode, IsMember, IsIn, range_in}
use Rattle.data_node.specs.Spots.{Spot}
use Rattle.data_node.specs.Weights.{total, node_weight, list_weight}
use Rattle.image_rules.specs.Nodes.{image_list, image_spot}
use Rattle.image_rules.specs.Weights.{image_weight}
use Rattle.image_recovery_law.specs.Columns.{Columns, IsSound, IsMapOf, Mends}
use Rattle.image_recovery_law.specs.Stages.{Stage}
use Rattle.image_recovery_law.specs.RowMoves.{RowSure}
use Rattle.image_recovery_law.specs.Rows.{columns_in, image_columns}
use Rattle.image_recovery_law.proofs.Mended.{mended_is_sound}
use Rattle.image_recovery_law.proofs.Mixes.{crash_mends}
use Rattle.image_recovery_law.proofs.RowColumns.{crash_has_columns}
use Rattle.image_recovery_law.proofs.SoundColumns.{columns_keep_maps, spots_are}
use Rattle.image_recovery_law.proofs.Weighs.{mended_weighs}
use Rattle.image_recovery.specs.Plans.{columns, list_of}
use Rattle.image_recovery.specs.Recovered.{IsRecoverable, IsLeftOf, CrashLeavesSound, CrashBetweenLeavesSound}
use Rattle.image_recovery.specs.declared.making.Making.{Making}
use Rattle.image_recovery.specs.Recoveries.{IsRecoveringAt, StopLeavesSound, moves_left}
use Rattle.image_recovery.proofs.MakingLemmas.{makings_are_sure}
use Rattle.image_recovery.proofs.SoundColumns.{sound_all, list_is}

-- the sum over a list where each part is the same
total_same : (v w : ℕ → ℕ) (here : ℕ) (list : List ListNode) → ((n : ℕ) → (n ≡ here) ⊎ IsMember list n → w n ≡ v n) → total w here list ≡ total v here list
total_same v w here [] same = same here (inl refl)
total_same v w here (m ∷ behind) same = ap₂ (λ a b. a + b) (same here (inl refl)) (total_same v w m.node behind (λ n is. same n (inr is)))

module _ (image : Row) (recoverable : IsRecoverable image) (words : List ℕ) (row : IsRow image.layout words) (stage : Stage) (sure : RowSure image.layout (list_of image) (columns image) stage words) where
  abbrev l : Layout
  l = image.layout

  abbrev safe : Columns
  safe = columns_in l words Durable

  abbrev left : List ℕ
  left = durable_row l words

  -- what is durable is a mix of the two rows
  mends : Mends l (list_of image) (columns image) safe
  mends = crash_mends l (list_of image) (columns image) (columns_in l words Cached) safe safe stage recoverable.sound sure.sure (record {
    generation = inr refl;
    spare = λ k. inr refl;
    version = λ n. inr refl;
    spot = λ n offset. inr refl;
    line = λ n offset. inr refl;
    layer = λ p. inr refl;
  })

  same : image_columns l left ≡ safe
  same = crash_has_columns l words

  both : IsSound l (list_of image) (image_columns l left) × ((m : Map) → IsMapOf l (list_of image) (columns image) m ↔ IsMapOf l (list_of image) (image_columns l left) m)
  both = subst (λ (c : Columns). IsSound l (list_of image) c × ((m : Map) → IsMapOf l (list_of image) (columns image) m ↔ IsMapOf l (list_of image) c m)) (sym same)
      (mended_is_sound l (list_of image) (columns image) safe recoverable.sound recoverable.next mends)

  is_image : IsImage l left
  is_image = durable_row-image l words row

  list_same : image_list l left ≡ list_of image
  list_same = list_is l left (list_of image) both.0

  -- each node weighs what it weighed
  abbrev weigh : (ℕ → Spot) → ℕ → ℕ
  weigh now n = node_weight l.slots (range_in (list_of image) n) (now n)

  node_same : (n : ℕ) → IsIn (list_of image) n → weigh (image_spot l left) n ≡ weigh (image_spot l image.words) n
  node_same n is =
      ap (λ (now : ℕ → Spot). weigh now n) (sym (spots_are l left))
      ∙ ap (λ (c : Columns). weigh c.spot n) same
      ∙ mended_weighs l (list_of image) (columns image) safe n recoverable.sound mends is
      ∙ ap (λ (now : ℕ → Spot). weigh now n) (spots_are l image.words)

  weight_same : image_weight l left ≡ image_weight l image.words
  weight_same =
      ap (list_weight l.slots (image_spot l left)) list_same
      ∙ total_same (weigh (image_spot l image.words)) (weigh (image_spot l left)) 0 (list_of image) node_same

  pub leaves : IsLeftOf image left
  leaves = record {
    is_image = is_image;
    sound = sound_all l left is_image (subst (λ (list : List ListNode). IsSound l list (image_columns l left)) (sym list_same) both.0);
    same_list = list_same;
    same_map = λ m.
        let there = (columns_keep_maps l image.words m) in
        let here = (columns_keep_maps l left m) in
        let listed = subst (λ (list : List ListNode). IsMapOf l (list_of image) (columns image) m ↔ IsMapOf l list (image_columns l left) m) (sym list_same) (both.1 m) in
        (λ is. here.0 (listed.0 (there.1 is)), λ is. there.0 (listed.1 (here.1 is)));
    same_weight = weight_same;
    generation = subst (λ (c : Columns). (c.generation ≡ (columns image).generation) ⊎ (c.generation ≡ suc (columns image).generation)) (sym same) mends.nodes.generation;
  }

pub crash_leaves_sound : CrashLeavesSound
crash_leaves_sound image rest words making recoverable here =
    let known = makings_are_sure image.layout (list_of image) (columns image) rest words making here in
    leaves image recoverable words here.row known.0 known.1

pub crash_between_leaves_sound : CrashBetweenLeavesSound
crash_between_leaves_sound image rest words recoverable between = leaves image recoverable words between.row between.stage between.sure

pub stop_leaves_sound : StopLeavesSound
stop_leaves_sound image recovery row recoverable here = at recovery.making here
  where
    at : (making : Option Making) → IsRecoveringAt image row (moves_left recovery) making → IsLeftOf image (durable_row image.layout row.words)
    at None under = crash_between_leaves_sound image (moves_left recovery) row.words recoverable under.between
    at (Some making) one = crash_leaves_sound image (moves_left recovery) row.words making recoverable one.here
