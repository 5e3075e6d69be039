-- A recovery between any two of its actions, and what is left where it is broken off.
use Rattle.std.specs.Prelude.{◌≡◌, ℕ, suc, ◌+◌, ◌≤◌, ◌↔◌, [], None}
use Rattle.pm_words.specs.Images.{Row, IsImage}
use Rattle.pm_words.specs.Rows.{durable_row, evicted}
use Rattle.cat_history.specs.Maps.{Map, map_of}
use Rattle.cat_history.specs.Replays.{pairs_of}
use Rattle.version_lock.specs.Versions.{IsGeneration}
use Rattle.image_rules.specs.Nodes.{image_list}
use Rattle.image_rules.specs.Rules.{header_generation}
use Rattle.image_rules.specs.Sound.{IsMapOf, image_map}
use Rattle.image_rules.specs.Weights.{image_weight}
use Rattle.image_layer_rules.specs.Sound.{IsSoundByAll}
use Rattle.index_core.specs.Indexes.{parties_of}
use Rattle.index_core.specs.PartyStates.{idle_states}
use Rattle.image_recovery.specs.Recovered.{IsLeftOf, IsOpenedOn, IsRecoverable}
use Rattle.image_recovery.specs.Recoveries.{HasEnded, IsRecovering, MakesOne}
use Rattle.recovery.specs.declared.stopping.Recovery.{Recovery}

-- It is a recovery of this image, which is sound by all rules and has a next generation, at some moment of it. It has
-- in hand what the index needs: the image's map as pairs, and parties that have made no call.
pub record IsRecoveryOf (image : Row) (r : Recovery) : Type 0 where
  pub sound : IsSoundByAll image.layout image.words
  pub next : IsGeneration (suc (header_generation image.layout image.words))
  pub recoverable : IsRecoverable image
  pub recovering : IsRecovering image r.moves r.memory
  pub layout : r.memory.layout ≡ image.layout
  pub base : r.base ≡ pairs_of (image_map image.layout image.words)
  pub keeps : IsMapOf image.layout image.words (map_of r.base)
  pub states : r.states.items ≡ idle_states (parties_of image.layout)
  pub history : r.history.items ≡ []

-- It is one of some image.
pub record MayGoOn (r : Recovery) : Type 0 where
  pub image : Row
  pub is : IsRecoveryOf image r

-- It has begun, and made no action: the words are those of the image, all of them durable, but for the marks of what
-- its layer reaches.
pub record IsStarted (image : Row) (r : Recovery) : Type 0 where
  pub is : IsRecoveryOf image r
  pub none : r.moves.begun ≡ 0
  pub at_none : r.moves.making ≡ None
  pub opened : IsOpenedOn image r.memory

-- All its actions are made.
abbrev pub IsDone : Recovery → Type 0
IsDone r = HasEnded r.moves

-- Where it isn't done it makes its next action, which is counted; where it is, it makes none.
pub record StepsOne (old : Recovery) (before : ℕ) (new : Recovery) (after : ℕ) : Type 0 where
  pub one : (IsDone old → ⊥) → MakesOne old.moves old.memory new.moves new.memory × (after ≡ before + 1)
  pub none : IsDone old → (new.moves ≡ old.moves) × (new.memory ≡ old.memory) × (after ≡ before)

-- with one word durable
abbrev pub evicted_in : Recovery → ℕ → Recovery
evicted_in r word = record r { memory = record r.memory { words = evicted r.memory.layout r.memory.words word } }

-- the image that a crash leaves
abbrev pub crash_of : Recovery → Row
crash_of r = record { layout = r.memory.layout; words = durable_row r.memory.layout r.memory.words }

-- What is left of an image where its recovery is broken off: an image that is sound by all rules, with the same list,
-- map and weight, in its generation or the next one.
pub record IsLeftBy (image left : Row) : Type 0 where
  pub layout : left.layout ≡ image.layout
  pub is : IsLeftOf image left.words

-- The last image is what is left of the first one after so many recoveries, of which each began with what was left of
-- the one before and was broken off at some moment.
pub data IsBroken (image : Row) : ℕ → Row → Type 0 where
  whole : IsBroken image 0 image
  again : (count : ℕ) (between : Row) (r : Recovery) → IsBroken image count between → IsRecoveryOf between r →
      IsBroken image (suc count) (crash_of r)

-- What is left is as good as the first image was: sound by all rules, with the same list, map and weight. Its
-- generation has risen by as many at most as there were recoveries.
pub record IsAsGood (image : Row) (count : ℕ) (left : Row) : Type 0 where
  pub layout : left.layout ≡ image.layout
  pub is_image : IsImage left.layout left.words
  pub sound : IsSoundByAll left.layout left.words
  pub same_list : image_list left.layout left.words ≡ image_list image.layout image.words
  pub same_map : (m : Map) → IsMapOf image.layout image.words m ↔ IsMapOf left.layout left.words m
  pub same_weight : image_weight left.layout left.words ≡ image_weight image.layout image.words
  pub never_falls : header_generation image.layout image.words ≤ header_generation left.layout left.words
  pub rises : header_generation left.layout left.words ≤ header_generation image.layout image.words + count

abbrev pub BrokenAreAsGood : Type 0
BrokenAreAsGood = (image left : Row) (count : ℕ) → IsImage image.layout image.words →
    IsSoundByAll image.layout image.words → IsBroken image count left → IsAsGood image count left
