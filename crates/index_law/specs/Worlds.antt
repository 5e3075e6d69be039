-- An index with the calls in flight, as plain data, and what a step and a start make of it.
use Rattle.std.specs.Prelude.{ℕ, List, [], ◌∷◌, ◌++◌, length, slice_set, Option, Some, None}
use Rattle.pm_words.specs.declared.layout.Layout.{Layout}
use Rattle.pm_words.specs.declared.action.Action.{Action}
use Rattle.pm_words.specs.Rows.{acted}
use Rattle.pm_words.specs.Rows as rows
use Rattle.cat_history.specs.Maps.{Map}
use Rattle.cat_history.specs.declared.op.Change.{Change}
use Rattle.cat_history.specs.declared.op.Write.{Write}
use Rattle.call_stages.specs.Stages.{Stage, Idle, counted}
use Rattle.index_law.specs.Facts.{Facts, facts_of}

-- One that makes calls, one after another.
pub record Party : Type 0 where
  pub caller : ℕ  -- its number
  pub index : ℕ  -- the index of this call among its calls
  pub since : ℕ  -- how long the history was as this call began
  pub stage : Stage  -- what this call relies on

pub record World : Type 0 where
  pub layout : Layout
  pub generation : ℕ  -- the number of this run of the index
  pub words : List ℕ  -- the row
  pub parties : List Party
  pub base : Map  -- the map as the run or the round began
  pub history : List Write  -- the writes since, in the order in which they were counted

abbrev pub facts : World → Facts
facts w = facts_of w.layout w.words w.base w.history

-- The write that a change of the party's call is, if there is one.
abbrev pub written : ℕ → ℕ → Option Change → List Write
written caller index None = []
written caller index (Some change) = (record { caller = caller; index = index; change = change }) ∷ []

-- The write that the party's next step counts.
abbrev pub counted_write : Party → List Write
counted_write p = written p.caller p.index (counted p.stage)

-- The party goes on to this stage.
abbrev pub moved_on : Party → Stage → Party
moved_on p stage = record p { stage = stage }

-- The party, which stands at i, did the action and goes on to this stage.
abbrev pub stepped : World → ℕ → Party → Action → Stage → World
stepped w i p action stage =
    record w {
      words = acted w.layout w.words action;
      parties = slice_set w.parties i (moved_on p stage);
      history = w.history ++ counted_write p;
    }

-- The party, which stands at i, begins its call of this index.
abbrev pub started : World → ℕ → Party → ℕ → World
started w i p index =
    record w {
      parties = slice_set w.parties i (record {
        caller = p.caller;
        index = index;
        since = length w.history;
        stage = Idle;
      });
    }

-- The party comes to those that are there.
abbrev pub joined : World → Party → World
joined w p = record w { parties = w.parties ++ p ∷ [] }

-- A word of the image became durable.
abbrev pub evicted_world : World → ℕ → World
evicted_world w word = record w { words = rows.evicted w.layout w.words word }
