-- A recovery goes on between its actions, and what is left where it is broken off.
use Rattle.std.proofs.Common.{◌≡◌, ℕ, suc, ◌+◌, ◌≤◌, ◌⊎◌, inl, inr, Option, Some, None, List, refl, sym, ◌∙◌, subst, arith}
use Rattle.pm_words.specs.declared.layout.Layout.{Layout}
use Rattle.pm_words.specs.Images.{Row}
use Rattle.pm_words.specs.Rows.{durable_row}
use Rattle.image_recovery.specs.declared.making.Making.{Making}
use Rattle.image_recovery.specs.declared.stepping.Recovery.{Recovery as Moves}
use Rattle.image_recovery.specs.Recovered.{IsLeftOf}
use Rattle.image_recovery.specs.Recoveries.{IsRecovering, IsRecoveringAt, moves_left}
use Rattle.image_recovery.proofs.CrashLemmas.{stop_leaves_sound}
use Rattle.recovery.specs.declared.stopping.Recovery.{Recovery}
use Rattle.recovery.specs.Stops.{IsRecoveryOf, IsLeftBy, whole, again, IsAsGood, BrokenAreAsGood, crash_of}

-- the rows are of the image's layout
pub recovering_layout : (image : Row) (moves : Moves) (row : Row) → IsRecovering image moves row → row.layout ≡ image.layout
recovering_layout image moves row here = at moves.making here
  where
    at : (making : Option Making) → IsRecoveringAt image row (moves_left moves) making → row.layout ≡ image.layout
    at None under = under.layout
    at (Some making) one = one.layout

-- further on, it is a recovery of the same image
pub goes_on : (image : Row) (r : Recovery) (moves : Moves) (row : Row) → IsRecoveryOf image r → IsRecovering image moves row → IsRecoveryOf image (record r { moves = moves; memory = row })
goes_on image r moves row is here = record {
  sound = is.sound;
  next = is.next;
  recoverable = is.recoverable;
  recovering = here;
  layout = recovering_layout image moves row here;
  base = is.base;
  keeps = is.keeps;
  states = is.states;
  history = is.history;
}

-- a crash leaves an image as good
pub crash_leaves : (image : Row) (r : Recovery) → IsRecoveryOf image r → IsLeftBy image (crash_of r)
crash_leaves image r is = record {
  layout = is.layout;
  is = subst (λ (l : Layout). IsLeftOf image (durable_row l r.memory.words)) (sym is.layout) (stop_leaves_sound image r.moves r.memory is.recoverable is.recovering);
}

-- generations rise by one at most
numbers : (first before now count : ℕ) → first ≤ before → before ≤ first + count → (now ≡ before) ⊎ (now ≡ suc before) → (first ≤ now) × (now ≤ first + suc count)
numbers first before now count low high (inl same) = (omega arith, omega arith)
numbers first before now count low high (inr next) = (omega arith, omega arith)

-- one recovery more
once_more : (image between : Row) (count : ℕ) (words : List ℕ) → IsAsGood image count between → IsLeftOf between words → IsAsGood image (suc count) (record { layout = between.layout; words = words })
once_more image between count words good left = record {
  layout = good.layout;
  is_image = left.is_image;
  sound = left.sound;
  same_list = left.same_list ∙ good.same_list;
  same_map = λ m. (λ is. (left.same_map m).0 ((good.same_map m).0 is), λ is. (good.same_map m).1 ((left.same_map m).1 is));
  same_weight = left.same_weight ∙ good.same_weight;
  never_falls = (numbers _ _ _ count good.never_falls good.rises left.generation).0;
  rises = (numbers _ _ _ count good.never_falls good.rises left.generation).1;
}

pub broken_are_as_good : BrokenAreAsGood
broken_are_as_good image _ _ is_image sound whole = record {
  layout = refl;
  is_image = is_image;
  sound = sound;
  same_list = refl;
  same_map = λ m. (λ is. is, λ is. is);
  same_weight = refl;
  never_falls = omega arith;
  rises = omega arith;
}
broken_are_as_good image _ _ is_image sound (again count between r before is) =
    let left = crash_leaves between r is in
    subst (λ (l : Layout). IsAsGood image (suc count) (record { layout = l; words = (crash_of r).words })) (sym left.layout)
    (once_more image between count (crash_of r).words (broken_are_as_good image between count is_image sound before) left.is)
