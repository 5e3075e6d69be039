-- What a machine of a call has of the index.
use Rattle.std.specs.Prelude.{◌<◌}
use Rattle.pm_words.specs.Layouts.{IsLayout}
use Rattle.version_lock.specs.declared.TheConstants.{GENERATION_LIMIT}
use Rattle.call_stages.specs.declared.view.View.{View}

-- the layout, the generation and the caller are in range
pub record IsView (v : View) : Type 0 where
  pub layout : IsLayout v.layout
  pub generation : v.generation < GENERATION_LIMIT
  pub caller : v.caller < v.layout.callers
